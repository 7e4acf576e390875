-- Lemmas of the crate; those for other crates are `pub mod`.
mod Codes
mod Widths
mod Parts
mod Scans
mod Begins

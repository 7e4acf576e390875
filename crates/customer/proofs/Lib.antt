-- Lemmas of the crate; those for other crates are `pub mod`.
mod Writes
mod Shapes

-- Lemmas of the crate; those for other crates are `pub mod`.
pub mod Primes
pub mod Ranges
pub mod RowLaws
pub mod Rings
pub mod Elements
mod Lookups

-- Lemmas of the crate; those for other crates are `pub mod`.
pub mod Matrices
pub mod Counts
pub mod Nonzeros
pub mod Puts
pub mod Multiples
pub mod Layouts

-- What the contracts of the crate cite.
pub mod Matrix
pub mod Nonzero
pub mod Terms
pub mod Multiples
pub mod Layout
pub mod Theorems

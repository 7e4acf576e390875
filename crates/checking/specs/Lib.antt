-- What the contracts of the crate cite.
pub mod Equations
pub mod Claims
pub mod Theorems
pub mod Examples

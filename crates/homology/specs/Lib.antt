-- What the contracts of the crate cite.
pub mod Kinds
pub mod Linear
pub mod Reduction
pub mod Certificate
pub mod Sets
pub mod Theorems
pub mod Examples

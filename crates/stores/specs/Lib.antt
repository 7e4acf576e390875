-- What the contracts of the crate cite.
pub mod Packed
pub mod Widths
pub mod Dense

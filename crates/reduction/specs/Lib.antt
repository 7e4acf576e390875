-- What the contracts of the crate cite.
pub mod Grids
pub mod Rows
pub mod Readings
pub mod Pivots
pub mod Stores
pub mod Progress
pub mod Verdicts

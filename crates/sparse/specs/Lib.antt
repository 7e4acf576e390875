-- What the contracts of the crate cite.
pub mod Cells
pub mod Chains
pub mod Sound
pub mod Puts
pub mod States

-- What the contracts of the crate cite.
pub mod Refusals
pub mod Thinning
pub mod Calls
pub mod Runs
pub mod Promises
pub mod Theorems

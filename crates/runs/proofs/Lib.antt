-- The theory, lowest first; all of it is for other crates.
pub mod Refusals
pub mod Counts
pub mod Trials
pub mod Loops
pub mod Steps
pub mod Drops
pub mod Fences
pub mod Minimal
pub mod Every
pub mod Keeping

-- Lemmas of the crate, lowest first.
pub mod Stores
pub mod Walks
pub mod Steps
pub mod Tables
pub mod Targets
pub mod Shapes
pub mod Settling
pub mod Turns
pub mod Listing
pub mod Values
pub mod Likeness
pub mod Whole
pub mod Solving

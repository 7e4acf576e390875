-- Lemmas of the crate.
pub mod Columns
pub mod Pieces
pub mod Rising
pub mod Accepting
pub mod Back
pub mod Lengths
pub mod Tokens
pub mod Lists
pub mod Counting
pub mod Naming
pub mod SensorLines
pub mod Whole
pub mod Writing

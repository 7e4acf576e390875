-- What the contracts of the crate cite.
pub mod Columns
pub mod Symbols
pub mod Text
pub mod Reading
pub mod Tokens
pub mod Lines
pub mod Theorems
pub mod Writing

-- Lemmas of the crate; those for other crates are `pub mod`.
pub mod Listed
pub mod Orders
pub mod Ascents
pub mod Sublists
pub mod Columns
pub mod Usable

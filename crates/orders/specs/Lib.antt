-- What the contracts of the crate cite.
pub mod Orders
pub mod Least
pub mod Keyed

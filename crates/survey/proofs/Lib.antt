-- Lemmas of the crate.
pub mod Tables
pub mod Lists
pub mod Walks
pub mod Fences
pub mod Edges
pub mod Everyone
pub mod Judging
pub mod Numbers
pub mod Ranges

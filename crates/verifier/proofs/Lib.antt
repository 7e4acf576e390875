-- Lemmas of the crate.
pub mod Tables
pub mod Sets

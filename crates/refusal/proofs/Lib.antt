-- Lemmas of the crate.
pub mod Outcomes

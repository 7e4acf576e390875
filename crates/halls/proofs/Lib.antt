-- Lemmas of the crate.
pub mod Worked

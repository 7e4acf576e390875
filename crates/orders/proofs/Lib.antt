-- Lemmas of the crate.
mod Picks
mod Chains

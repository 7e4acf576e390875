-- Lemmas of the crate.
mod Terms
mod Ranges
mod Agreeing
mod Starting
mod Verdicts
mod Tables
mod Fences
mod Deciding

-- Lemmas of the crate.
mod Rows
mod Walks
mod Found
mod Readings
mod Locating
mod Starts
mod Relinks
mod Inserts
mod Removes
mod Changes
mod Spares
mod Takes
mod Puts
mod Steps
mod Merges

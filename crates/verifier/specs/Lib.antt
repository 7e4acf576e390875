-- What the contracts of the crate cite.
pub mod Sensors
pub mod Rosters

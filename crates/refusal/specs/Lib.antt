-- What the contracts of the crate cite.
pub mod Numbers
pub mod Outcomes
pub mod Printed

-- What the contracts of the crate cite.
pub mod Lists
pub mod Tables
pub mod Surveys
pub mod Rules
pub mod Sets
pub mod Views
pub mod Plans

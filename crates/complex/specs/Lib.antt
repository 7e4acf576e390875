-- What the contracts of the crate cite.
pub mod Systems
pub mod Boundaries
pub mod Listings
pub mod Orders
pub mod OrderLaws
pub mod Theorems
pub mod Hub
pub mod Grids

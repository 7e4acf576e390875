-- What the contracts of the crate cite.
pub mod Polynomials
pub mod Filling
pub mod Shapes
pub mod Highest
pub mod FourLaws
pub mod NineLaws

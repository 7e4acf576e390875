-- What the contracts of the crate cite.
pub mod Arithmetic
pub mod Guarded
pub mod Bits
pub mod Counting
pub mod Primes
pub mod Residues
pub mod Divisors
pub mod Rows
pub mod Algebra
pub mod Tables
pub mod BinaryLaws
pub mod Guarding
pub mod Tested
pub mod ResidueLaws
pub mod Euclid
pub mod Modulo

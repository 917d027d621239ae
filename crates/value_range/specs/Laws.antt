-- The proofs of the rows' laws. Nothing here is a definition that a contract cites.
pub mod Tests
pub mod Shown
pub mod Products
pub mod Magnitudes
pub mod Powers
pub mod Monadic
pub mod Dyadic
pub mod Whole
pub mod Functions

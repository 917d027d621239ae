pub mod Joins
pub mod Selections
pub mod Subscripts
pub mod Extensions

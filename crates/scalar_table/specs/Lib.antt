pub mod LawfulElements
pub mod LawfulNumbers
pub mod Row
pub mod Columns

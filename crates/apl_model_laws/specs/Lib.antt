pub mod Lawful
pub mod Longer
pub mod Printing
pub mod Turns

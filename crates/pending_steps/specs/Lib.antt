pub mod Fits
pub mod Faults
pub mod Shapes
pub mod Steps
pub mod Leaves
pub mod Literals

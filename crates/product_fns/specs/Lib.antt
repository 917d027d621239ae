pub mod Outer
pub mod Folding
pub mod Reduction
pub mod Inner

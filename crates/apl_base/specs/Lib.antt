pub mod Array
pub mod Elements
pub mod Examples
pub mod Interval
pub mod Number
pub mod Scalar
pub mod Selection

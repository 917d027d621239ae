pub mod Factorials
pub mod Powers
mod Filling
mod Products

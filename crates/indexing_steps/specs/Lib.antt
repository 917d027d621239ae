pub mod Operands
pub mod Choices
pub mod Falls

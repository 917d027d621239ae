pub mod Choices
pub mod Left

pub mod Equal
pub mod Nested

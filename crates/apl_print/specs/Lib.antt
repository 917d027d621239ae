pub mod Bytes
pub mod Layout
pub mod Lines
pub mod Worked

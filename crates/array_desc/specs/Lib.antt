pub mod Desc
pub mod Rows
pub mod Steps

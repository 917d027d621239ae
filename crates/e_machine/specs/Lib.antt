pub mod Forced
pub mod Refusals
pub mod Kinds
pub mod Columns
pub mod Runs
pub mod Rows

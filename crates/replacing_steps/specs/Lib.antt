pub mod Checks
pub mod Writes
pub mod Replaces

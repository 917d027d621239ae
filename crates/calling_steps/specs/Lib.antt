pub mod Outputs
pub mod Traces
pub mod Branches
pub mod Calls
pub mod Ready

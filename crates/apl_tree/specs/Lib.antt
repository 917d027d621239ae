pub mod Condition
pub mod Mirror
pub mod Outcome
pub mod Prepared

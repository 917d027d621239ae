pub mod Selecting
pub mod Runs
pub mod Positions
pub mod Folds
pub mod Passes

pub mod Answers
pub mod Statuses
pub mod Traces
pub mod Endings
pub mod Workspaces
pub mod Worked

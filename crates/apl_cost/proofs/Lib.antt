pub mod Counting
pub mod Forgetting
pub mod Growing
pub mod Measuring
pub mod Safe
pub mod Selecting

pub mod Stores
pub mod Follows
pub mod Laws
pub mod Counting
pub mod Places
pub mod Came
pub mod Examples

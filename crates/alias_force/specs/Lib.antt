pub mod Desk
pub mod Moving
pub mod Steps
pub mod Writing
pub mod Laws

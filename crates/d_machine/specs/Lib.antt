pub mod Answers
pub mod Calling
pub mod Laws
pub mod Running

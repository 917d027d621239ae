pub mod Inside
pub mod PlainValues
pub mod Room
pub mod Turns

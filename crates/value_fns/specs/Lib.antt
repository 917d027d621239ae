pub mod Placed
pub mod Searches
pub mod Decoded
pub mod Digits

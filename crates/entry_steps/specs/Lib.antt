pub mod Sound
pub mod Changing

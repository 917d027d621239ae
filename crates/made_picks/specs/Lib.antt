pub mod Picks
pub mod Tracks
pub mod Taken

pub mod NoNumbers
pub mod Pieces
pub mod Refusals

pub mod Nodes
pub mod Segments
pub mod Meaning
pub mod Lawful
pub mod Laws
pub mod Examples
pub mod Views
pub mod Holding

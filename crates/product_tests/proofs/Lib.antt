pub mod LineLemmas
pub mod ProductLemmas

pub mod BlockLemmas
pub mod MadeLemmas

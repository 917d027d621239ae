pub mod SceneLemmas
pub mod RunLemmas
pub mod ItemLemmas
pub mod OutlineLemmas
pub mod LoopLemmas

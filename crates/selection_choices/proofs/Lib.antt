pub mod ReverseLemmas
pub mod LeftLemmas
pub mod CountLemmas
pub mod AxisLemmas
pub mod MakeLemmas

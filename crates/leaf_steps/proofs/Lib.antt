pub mod GivesLemmas
pub mod TakingLemmas
pub mod MakingLemmas
pub mod StepLemmas
pub mod AxisLemmas
pub mod ProductLemmas
pub mod OuterLemmas

pub mod GivenLemmas
pub mod NewestLemmas
pub mod ArrayLemmas
pub mod StepLemmas

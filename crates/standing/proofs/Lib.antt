pub mod StandLemmas
pub mod GrowingLemmas
pub mod StatementLemmas
pub mod BehindLemmas

pub mod JoinedLists
pub mod TakenLemmas
pub mod NamedLemmas
pub mod TrackLemmas
pub mod WalkLemmas
pub mod PositionLemmas
pub mod GatherLemmas
pub mod TakeLemmas

pub mod ReadyLemmas
pub mod OutputLemmas
pub mod BranchLemmas
pub mod PassLemmas
pub mod EnterLemmas
pub mod LeaveLemmas
pub mod ProgramLemmas

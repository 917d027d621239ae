pub mod ComputedLemmas
pub mod EntryLemmas
pub mod PassLemmas
pub mod SafeLemmas
pub mod ReaderLemmas
pub mod NameLemmas
pub mod WriteLemmas
pub mod DeskLemmas

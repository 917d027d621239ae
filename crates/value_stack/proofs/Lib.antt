pub mod StackLemmas
pub mod EntriesLemmas
pub mod NewestLemmas

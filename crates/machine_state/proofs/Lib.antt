pub mod KeepsLemmas
pub mod NameLemmas
pub mod GivesLemmas

pub mod CodeLemmas
pub mod CodedLemmas
pub mod Emitting
pub mod LawfulLemmas
pub mod ProgramLemmas
pub mod Tabled

pub mod CallLemmas

pub mod AnswerLemmas
pub mod EndLemmas
pub mod ScriptLemmas
pub mod WordLemmas
pub mod EndingLemmas
pub mod ValueLemmas
pub mod WorkedLemmas

mod AnswerLemmas
mod Digits
pub mod FirstRefusal
mod QuoteLemmas
pub mod LineLemmas
mod StepLemmas
mod WordLemmas

pub mod MaskLemmas
pub mod FallLemmas
pub mod OperandLemmas
pub mod AnswerLemmas
pub mod ItemLemmas
pub mod ChoiceLemmas
pub mod ChosenLemmas
pub mod GatherLemmas

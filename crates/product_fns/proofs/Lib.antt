pub mod OuterLemmas
pub mod PlaceLemmas
pub mod FoldLemmas
pub mod ReducedLemmas
pub mod CountLemmas
pub mod RowLemmas
pub mod GroupLemmas
pub mod AnswerLemmas
mod LineLemmas
mod PairLemmas
mod InnerLemmas
mod InnerAnswers

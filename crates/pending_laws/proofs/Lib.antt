pub mod JoinLemmas
pub mod AnswerLemmas
pub mod AxisLemmas
pub mod CountLemmas
pub mod SubscriptLemmas
pub mod ExtensionLemmas

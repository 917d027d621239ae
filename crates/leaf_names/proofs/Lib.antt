pub mod CountLemmas
pub mod EachLemmas
pub mod KeptLemmas
pub mod StandsLemmas

pub mod PlacedLemmas

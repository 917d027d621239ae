-- Sources and sinks in memory, as contracts see them.
use Rattle.std.specs.Prelude.{ℕ, List}

-- a source: the bytes still to come, the most bytes that a call gives, the numbers of the calls that fail (the first is 1),
-- how many calls were made, and how many of them failed
pub record SourceState : Type 0 where
  pub left : List ℕ
  pub most : ℕ
  pub failing : List ℕ
  pub calls : ℕ
  pub faults : ℕ

-- a sink: the bytes that it was given, how many fit, the most bytes that a call takes, the numbers of the calls that fail
-- (the first is 1), how many calls were made, and how many of them failed
pub record SinkState : Type 0 where
  pub written : List ℕ
  pub room : ℕ
  pub most : ℕ
  pub failing : List ℕ
  pub calls : ℕ
  pub faults : ℕ

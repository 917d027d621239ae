-- What a sink that was lent to a call has gained at its end, beside all of a text.
use Rattle.std.specs.Prelude.{◌≡◌, ℕ, List, ◌++◌, Option}
use Rattle.apl_outside.specs.Bytes.{Gains}

-- a sink gains some of these bytes, from their front; maybe none of them, maybe all
pub record GainsPrefix (old new : Option (List ℕ)) (bytes : List ℕ) : Type 0 where
  pub front : List ℕ
  pub rest : List ℕ
  pub whole : front ++ rest ≡ bytes
  pub gained : Gains old new front

-- a sink gains the front of these bytes that the kept ones leave
pub record Passes (old new : Option (List ℕ)) (bytes kept : List ℕ) : Type 0 where
  pub front : List ℕ
  pub whole : front ++ kept ≡ bytes
  pub gained : Gains old new front

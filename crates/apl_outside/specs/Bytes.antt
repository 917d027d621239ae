-- What calls do to the bytes that a source still has, and to those that a sink was given. Either may not tell.
use Rattle.std.specs.Prelude.{◌≡◌, ℕ, ◌<◌, ◌≤◌, List, ◌++◌, length, take, Option, Some, None}

-- what a source told before these bytes were taken, by what it tells afterwards
abbrev pub before_taking : List ℕ → Option (List ℕ) → Option (List ℕ)
before_taking bytes None = None
before_taking bytes (Some rest) = Some (bytes ++ rest)

-- what a sink tells after these bytes were added, by what it told before
abbrev pub after_adding : Option (List ℕ) → List ℕ → Option (List ℕ)
after_adding None bytes = None
after_adding (Some held) bytes = Some (held ++ bytes)

-- a source loses these bytes from its front, and nothing else; one that doesn't tell goes on so
abbrev pub Loses : Option (List ℕ) → Option (List ℕ) → List ℕ → Type 0
Loses old new bytes = old ≡ before_taking bytes new

-- a sink gains these bytes at its end, and nothing else; one that doesn't tell goes on so
abbrev pub Gains : Option (List ℕ) → Option (List ℕ) → List ℕ → Type 0
Gains old new bytes = new ≡ after_adding old bytes

-- a source loses this many bytes from its front
pub record LosesCount (old new : Option (List ℕ)) (count : ℕ) : Type 0 where
  pub bytes : List ℕ
  pub number : length bytes ≡ count
  pub lost : Loses old new bytes

-- a source loses at most this many bytes from its front
pub record LosesUpTo (old new : Option (List ℕ)) (most : ℕ) : Type 0 where
  pub bytes : List ℕ
  pub number : length bytes ≤ most
  pub lost : Loses old new bytes

-- a sink gains the first of these bytes, and not all of them
pub record GainsPart (old new : Option (List ℕ)) (bytes : List ℕ) : Type 0 where
  pub count : ℕ
  pub part : count < length bytes
  pub gained : Gains old new (take count bytes)

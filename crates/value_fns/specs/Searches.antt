-- Where the elements of one array stand in another.
use Rattle.std.specs.Prelude.{ℕ, List, map}
use Rattle.std.specs.List.{position_or_len}
use Rattle.apl_base.specs.Array.{Array}
use Rattle.apl_base.specs.Elements.{elements}
use Rattle.apl_base.specs.Scalar.{is_same}

-- for each element of B its first place among those of A, or how many these are where it is not among them
abbrev pub first_places : Array → Array → List ℕ
first_places a b = map (λ e. position_or_len (is_same e) (elements a)) (elements b)

-- Selections of the language are selections of an array: where a function only rearranges elements, its answer is
-- what the selection with the same numbers keeps.
use Rattle.std.specs.Prelude.{◌≡◌, ◌⊎◌, ℕ, suc, ◌<◌, ◌≤◌, min, ℤ, pos, negsuc, neg_ℤ, ◌+ℤ◌, ◌≤ℤ◌, unsigned_abs, false, List, [], ◌∷◌, length, map, reverse, Ok}
use Rattle.std.specs.List.{AllByRecursion}
use Rattle.apl_base.specs.Array.{Array, IsShape}
use Rattle.apl_base.specs.Selection.{upward, AreAxes, axes_rank}
use Rattle.beating.specs.declared.selections.Selection.{Selection}
use Rattle.beating.specs.declared.selections.Selection.TheVariants as select
use Rattle.beating.specs.Selecting.{Fits, selected}
use Rattle.apl_model.specs.declared.functions.Axis.{Axis}
use Rattle.apl_model.specs.declared.functions.Axis.TheVariants.{Last, First, Numbered}
use Rattle.apl_model.specs.Whole.{rank, is_text}
use Rattle.apl_model.specs.Made.{reversed, flipped, less_origin, transposed, taken_shape, with_shape, take_or_pad, drop_from}
use Rattle.pending_laws.specs.Joins.{IsComplete}

-- ---- which selection it is

-- one that takes these counts
abbrev pub TakesCounts : List ℤ → Selection → Type 0
TakesCounts counts (select.Take given) = given.items ≡ counts
TakesCounts counts other = ⊥

-- one that drops these counts
abbrev pub DropsCounts : List ℤ → Selection → Type 0
DropsCounts counts (select.Skip given) = given.items ≡ counts
DropsCounts counts other = ⊥

-- one that sends the axes to these
abbrev pub SendsAxes : List ℕ → Selection → Type 0
SendsAxes axes (select.Transpose given) = given.items ≡ axes
SendsAxes axes other = ⊥

-- an argument that is a list of numbers: of at most one axis, and no characters
pub record IsNumberList (a : Array) : Type 0 where
  pub axes : rank a ≤ 1
  pub complete : IsComplete a
  pub numbers : is_text a ≡ false

-- ---- ⌽ and ⊖ of one argument

-- an axis of the language is axis k of r, counted from 0
abbrev pub NamesAxis : ℤ → Axis → ℕ → ℕ → Type 0
NamesAxis o Last r k = suc k ≡ r
NamesAxis o First r k = k ≡ 0
NamesAxis o (Numbered z) r k = z ≡ o +ℤ pos k

-- that axis is reversed
abbrev pub ReversedIsSelected : Type 0
ReversedIsSelected =
    (o : ℤ) (axis : Axis) (b : Array) (k : ℕ) → NamesAxis o axis (rank b) k
    → Fits (select.Reverse k) b.shape
    → reversed o axis b ≡ Ok (selected (select.Reverse k) b)

-- where there is an answer, the array is a scalar or there is such an axis
abbrev pub ReversedHasAxis : Type 0
ReversedHasAxis =
    (o : ℤ) (axis : Axis) (b c : Array) → reversed o axis b ≡ Ok c
    → (rank b ≡ 0) ⊎ ((k : ℕ) × NamesAxis o axis (rank b) k × Fits (select.Reverse k) b.shape)

-- a scalar stays as it is
abbrev pub ReversedScalarStays : Type 0
ReversedScalarStays =
    (o : ℤ) (b : Array) → IsComplete b → rank b ≡ 0
    → (reversed o Last b ≡ Ok b) × (reversed o First b ≡ Ok b)

-- ---- ⍉

-- of one argument: the axes go to those in reverse order
abbrev pub FlippedIsSelected : Type 0
FlippedIsSelected =
    (b : Array) (by : Selection) → SendsAxes (reverse (upward 0 (rank b))) by
    → Fits by b.shape × (flipped b ≡ Ok (selected by b))

-- the axes that the numbers of the left argument name
abbrev pub axes_named : ℤ → Array → List ℕ
axes_named o a = map unsigned_abs (less_origin o a)

-- they are 0 to k - 1 for some k, each of them at least once, and one for each axis of b
pub record ListsAxes (o : ℤ) (a b : Array) : Type 0 where
  pub list : IsNumberList a
  pub count : length a.cells ≡ rank b
  pub least : AllByRecursion (λ z. pos 0 ≤ℤ z) (less_origin o a)
  pub axes : AreAxes (axes_rank (axes_named o a)) (axes_named o a)

-- of two arguments: the axes go to these
abbrev pub TransposedIsSelected : Type 0
TransposedIsSelected =
    (o : ℤ) (a b : Array) (by : Selection) → ListsAxes o a b → SendsAxes (axes_named o a) by
    → Fits by b.shape × (transposed o a b ≡ Ok (selected by b))

-- where there is an answer, there are such axes
abbrev pub TransposedHasAxes : Type 0
TransposedHasAxes = (o : ℤ) (a b c : Array) → IsComplete a → transposed o a b ≡ Ok c → ListsAxes o a b

-- ---- ↑ and ↓

-- what is taken from: a scalar has as many axes of length 1 as there are counts
abbrev pub taken_from : Array → Array → Array
taken_from a b = with_shape b (taken_shape a b)

-- so a scalar extends to them
abbrev pub TakenScalarExtends : Type 0
TakenScalarExtends =
    (a b : Array) → IsComplete b → rank b ≡ 0
    → taken_from a b ≡ selected (select.Extend (taken_shape a b)) b

-- and any other array is what it is taken from
abbrev pub TakenFromItself : Type 0
TakenFromItself = (a b : Array) → 0 < rank b → taken_from a b ≡ b

-- a list of counts, one for each axis of what is taken from
pub record ListsCounts (a b : Array) : Type 0 where
  pub list : IsNumberList a
  pub count : length a.cells ≡ length (taken_shape a b)

-- `↑`: counts that fit are taken
abbrev pub TakenIsSelected : Type 0
TakenIsSelected =
    (a b : Array) (by : Selection) → ListsCounts a b → IsShape (taken_shape a b)
    → TakesCounts a.cells by → Fits by (taken_shape a b)
    → take_or_pad a b ≡ Ok (selected by (taken_from a b))

-- a count whose magnitude is at most the length of its axis: its own, or with its sign the length
abbrev pub capped : ℕ → ℤ → ℤ
capped n (pos a) = pos (min a n)
capped n (negsuc a) = neg_ℤ (pos (min (suc a) n))

-- and so for each axis
abbrev pub capped_counts : List ℕ → List ℤ → List ℤ
capped_counts (n ∷ ns) (a ∷ counts) = capped n a ∷ capped_counts ns counts
capped_counts ns counts = []

-- `↓`: counts, fitting or not, are dropped
abbrev pub DroppedIsSelected : Type 0
DroppedIsSelected =
    (a b : Array) (by : Selection) → ListsCounts a b → IsShape (taken_shape a b)
    → DropsCounts (capped_counts (taken_shape a b) a.cells) by
    → Fits by (taken_shape a b) × (drop_from a b ≡ Ok (selected by (taken_from a b)))

-- where `↑` has an answer, there are such counts
abbrev pub TakenHasCounts : Type 0
TakenHasCounts = (a b c : Array) → IsComplete a → take_or_pad a b ≡ Ok c → ListsCounts a b

-- and where `↓` has one
abbrev pub DroppedHasCounts : Type 0
DroppedHasCounts = (a b c : Array) → IsComplete a → drop_from a b ≡ Ok c → ListsCounts a b

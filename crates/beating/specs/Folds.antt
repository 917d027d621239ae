-- When a function of progressions is a progression again.
use Rattle.std.specs.Prelude.{◌≡◌, ◌⊎◌, ℕ, true, ℤ, pos, ◌+ℤ◌, ◌-ℤ◌, ◌*ℤ◌, List, IsTrue, is_some}
use Rattle.std.specs.List.{AllByRecursion}
use Rattle.std.specs.Option.{ForSome}
use Rattle.apl_base.specs.declared.cells.Kind.TheVariants.{Num}
use Rattle.apl_base.specs.declared.rows.Dya.{Dya}
use Rattle.apl_base.specs.declared.rows.Dya.TheVariants.{Add, Sub, Mul}
use Rattle.apl_base.specs.declared.rows.Mon.{Mon}
use Rattle.apl_base.specs.declared.rows.Mon.TheVariants.{Minus}
use Rattle.apl_base.specs.Array.{IsIndex}
use Rattle.apl_base.specs.Interval.{InInterval}
use Rattle.apl_base.specs.Number.{IsNumber}
use Rattle.array_desc.specs.Desc.{DescView, IsDesc, number}
use Rattle.array_store.specs.Stores.{StoreView}
use Rattle.value_range.specs.Interval.{ranged2}
use Rattle.drag_along.specs.declared.leaves.Leaf.{Leaf}
use Rattle.drag_along.specs.declared.leaves.Leaf.TheVariants.{Gen}
use Rattle.drag_along.specs.Segments.{SegmentView, IsSegment, HasShape, side_of}
use Rattle.drag_along.specs.Meaning.{Meaning, Means, leaf_array}
use Rattle.drag_along.specs.Lawful.{IsLawful}
use Rattle.drag_along.specs.Views.{only_numbers}

-- a segment that is one leaf of numbers, not stored
abbrev pub IsNumbers : SegmentView → Type 0
IsNumbers s = IsTrue (is_some (only_numbers s.nodes))

-- all strides are 0: the same number everywhere
abbrev pub AllRest : List ℤ → Type 0
AllRest strides = AllByRecursion (λ stride. stride ≡ pos 0) strides

-- where a segment is one leaf of numbers, they are the same number
abbrev pub IsConstant : SegmentView → Type 0
IsConstant s = ForSome (only_numbers s.nodes) (λ desc. AllRest desc.strides)

-- where a segment is one leaf of numbers, these lie in its range
abbrev pub NumbersInRange : SegmentView → Type 0
NumbersInRange s = ForSome (only_numbers s.nodes) (λ desc. (i : List ℕ) → IsIndex desc.shape i → InInterval s.range (number desc i))

-- they do wherever the segment is lawful over a store
abbrev pub LawfulNumbersInRange : Type 0
LawfulNumbersInRange =
    (store : StoreView) (s : SegmentView) → IsSegment s → IsLawful store s → NumbersInRange s

-- the functions of two arguments that keep progressions
abbrev pub Keeps : Dya → Type 0
Keeps f = (f ≡ Add) ⊎ ((f ≡ Sub) ⊎ (f ≡ Mul))

-- what such a function gives, where that is a number
abbrev pub exact_value : Dya → ℤ → ℤ → ℤ
exact_value Add a b = a +ℤ b
exact_value Sub a b = a -ℤ b
exact_value Mul a b = a *ℤ b
exact_value f a b = pos 0

-- two descriptors of one shape, one of them the same number everywhere, at whose numbers an operation gives numbers
pub record CanCombine (op : ℤ → ℤ → ℤ) (left right : DescView) : Type 0 where
  pub left_lawful : IsDesc left
  pub right_lawful : IsDesc right
  pub shape : left.shape ≡ right.shape
  pub constant : AllRest left.strides ⊎ AllRest right.strides
  pub numbers : (i : List ℕ) → IsIndex right.shape i → IsNumber (op (number left i) (number right i))

-- the descriptor that has at each index what the operation gives at theirs
pub record Combines (op : ℤ → ℤ → ℤ) (left right new : DescView) : Type 0 where
  pub lawful : IsDesc new
  pub shape : new.shape ≡ right.shape
  pub numbers : (i : List ℕ) → IsIndex right.shape i → number new i ≡ op (number left i) (number right i)

-- `f B` is folded
pub record Folds1 (f : Mon) (s : SegmentView) : Type 0 where
  pub minus : f ≡ Minus
  pub numbers : IsNumbers s

-- `A f B` is folded
pub record Folds2 (f : Dya) (left right : SegmentView) : Type 0 where
  pub keeps : Keeps f
  pub left_numbers : IsNumbers left
  pub right_numbers : IsNumbers right
  pub constant : IsConstant left ⊎ IsConstant right
  pub safe : (ranged2 f (side_of left) (side_of right)).safe ≡ true

-- the leaf is one of numbers, not stored, and over every store it means this
pub record FoldsTo (lengths : List ℕ) (leaf : Leaf) (meaning : StoreView → Meaning) : Type 0 where
  pub desc : DescView
  pub is : leaf ≡ Gen desc Num
  pub shape : HasShape lengths leaf
  pub means : (store : StoreView) → Means (leaf_array store lengths leaf) ≡ meaning store

-- The first nodes of a segment, and what is left after all.
use Rattle.std.proofs.Common.{◌≡◌, ℕ, zero, suc, ◌+◌, ◌<◌, ◌≤◌, ℤ, List, [], ◌∷◌, length, take, Option, Some, None, refl, sym, ap, ◌∙◌, subst, arith}
use Rattle.std.specs.Prelude.{IsSome}
use Rattle.std.specs.Option.{option_map, option_and_then}
use Rattle.apl_base.specs.declared.cells.Kind.TheVariants.{Num}
use Rattle.apl_base.specs.declared.cells.Elem.{Elem}
use Rattle.apl_base.specs.declared.rows.Mon.{Mon}
use Rattle.apl_base.specs.declared.rows.Dya.{Dya}
use Rattle.apl_base.specs.declared.rows.Dya.TheVariants as dya
use Rattle.apl_base.specs.Array.{size_of, index_at}
use Rattle.apl_base.specs.Scalar.{number, on_number, of_number, of_numbers, scalar1, scalar2}
use Rattle.array_store.specs.Stores.{StoreView}
use Rattle.array_store.specs.Counting.{OnlyCounted}
use Rattle.drag_along.specs.declared.leaves.Leaf.{Leaf}
use Rattle.drag_along.specs.declared.nodes.Node.{Node}
use Rattle.drag_along.specs.declared.nodes.Node.TheVariants.{Operand, One, Two}
use Rattle.drag_along.specs.Nodes.{AllLeaves, functions_in, stored_in, pending_after}
use Rattle.drag_along.specs.Segments.{HasShape}
use Rattle.drag_along.specs.Meaning.{leaf_element, value_at, values_at, fails_at}
use Rattle.drag_along.specs.Lawful.{IsLawfulLeaf}
use Rattle.drag_along.specs.Views.{only_leaf}
use Rattle.e_machine.specs.Runs.{IsReadable, HaveIndex}
use Rattle.e_machine.proofs.StackRuns.{value_counted}
use Rattle.e_machine.proofs.CountedLemmas.{lawful_leaf-counted}

-- ---- the first nodes alone

pub take_operands : (m : ℕ) (xs : List Node) (n : ℕ) → IsSome (pending_after xs n) → IsSome (pending_after (take m xs) n)
take_operands zero xs n h = refl
take_operands (suc m) [] n h = h
take_operands (suc m) (Operand leaf ∷ xs) n h = take_operands m xs (suc n) h
take_operands (suc m) (One f p ∷ xs) zero h = h
take_operands (suc m) (One f p ∷ xs) (suc n) h = take_operands m xs (suc n) h
take_operands (suc m) (Two f p ∷ xs) zero h = h
take_operands (suc m) (Two f p ∷ xs) (suc zero) h = h
take_operands (suc m) (Two f p ∷ xs) (suc (suc n)) h = take_operands m xs (suc n) h

pub take_readable : (P : Leaf → Type 0) (m : ℕ) (xs : List Node) → AllLeaves P xs → AllLeaves P (take m xs)
take_readable P zero xs h = tt
take_readable P (suc m) [] h = tt
take_readable P (suc m) (Operand leaf ∷ xs) h = (h.0, take_readable P m xs h.1)
take_readable P (suc m) (One f p ∷ xs) h = take_readable P m xs h
take_readable P (suc m) (Two f p ∷ xs) h = take_readable P m xs h

-- they fail where they fail among all nodes
pub take_fails : (s : StoreView) (i : List ℕ) (m : ℕ) (xs : List Node) (j : ℕ) (st : List (Option Elem)) → j < m → fails_at s i (take m xs) j st ≡ fails_at s i xs j st
take_fails s i zero xs j st h = absurd (omega (arith, h))
take_fails s i (suc m) [] j st h = refl
take_fails s i (suc m) (x ∷ xs) zero st h = refl
take_fails s i (suc m) (x ∷ xs) (suc j) st h = take_fails s i m xs j (value_at s i x st) (omega (arith, h))

pub functions_in-take : (m : ℕ) (xs : List Node) → functions_in (take m xs) ≤ functions_in xs
functions_in-take zero xs = omega arith
functions_in-take (suc m) [] = omega arith
functions_in-take (suc m) (Operand leaf ∷ xs) = functions_in-take m xs
functions_in-take (suc m) (One f p ∷ xs) = omega (arith, functions_in-take m xs)
functions_in-take (suc m) (Two f p ∷ xs) = omega (arith, functions_in-take m xs)

pub stored_in-take : (m : ℕ) (xs : List Node) → stored_in (take m xs) ≤ stored_in xs
stored_in-take zero xs = omega arith
stored_in-take (suc m) [] = omega arith
stored_in-take (suc m) (Operand leaf ∷ xs) = omega (arith, stored_in-take m xs)
stored_in-take (suc m) (One f p ∷ xs) = stored_in-take m xs
stored_in-take (suc m) (Two f p ∷ xs) = stored_in-take m xs

-- ---- what a store means stays while it counts

pub values_counted : (s t : StoreView) (i : List ℕ) (xs : List Node) (st : List (Option Elem)) → OnlyCounted s t → values_at t i xs st ≡ values_at s i xs st
values_counted s t i [] st only = refl
values_counted s t i (x ∷ xs) st only =
    ap (values_at t i xs) (value_counted s t i x st only) ∙ values_counted s t i xs (value_at s i x st) only

pub fails_counted : (s t : StoreView) (i : List ℕ) (xs : List Node) (k : ℕ) (st : List (Option Elem)) → OnlyCounted s t → fails_at t i xs k st ≡ fails_at s i xs k st
fails_counted s t i [] k st only = refl
fails_counted s t i (x ∷ xs) zero st only = refl
fails_counted s t i (x ∷ xs) (suc k) st only =
    ap (fails_at t i xs k) (value_counted s t i x st only) ∙ fails_counted s t i xs k (value_at s i x st) only

-- the leaves of a lawful segment can be read at places of its shape
pub all_readable : (s t : StoreView) (sh : List ℕ) (first n : ℕ) (xs : List Node) → OnlyCounted s t → first + n ≤ size_of sh → AllLeaves (HasShape sh) xs → AllLeaves (IsLawfulLeaf s) xs → AllLeaves (IsReadable t first n) xs
all_readable s t sh first n [] only within shapes lawful = tt
all_readable s t sh first n (Operand leaf ∷ xs) only within shapes lawful = (
  record {
    lawful = lawful_leaf-counted s t leaf only lawful.0;
    places = subst (λ (ns : List ℕ). first + n ≤ size_of ns) (sym shapes.0.same) within;
  },
  all_readable s t sh first n xs only within shapes.1 lawful.1,
)
all_readable s t sh first n (One f p ∷ xs) only within shapes lawful = all_readable s t sh first n xs only within shapes lawful
all_readable s t sh first n (Two f p ∷ xs) only within shapes lawful = all_readable s t sh first n xs only within shapes lawful

-- and have the shape's index at a place
pub all_index : (sh : List ℕ) (p : ℕ) (xs : List Node) → AllLeaves (HasShape sh) xs → HaveIndex p (index_at sh p) xs
all_index sh p [] shapes = tt
all_index sh p (Operand leaf ∷ xs) shapes = (ap (λ (ns : List ℕ). index_at ns p) (sym shapes.0.same), all_index sh p xs shapes.1)
all_index sh p (One f q ∷ xs) shapes = all_index sh p xs shapes
all_index sh p (Two f q ∷ xs) shapes = all_index sh p xs shapes

-- ---- how many values are left, and that the last is a number where it is a function's

pub values_count : (s : StoreView) (i : List ℕ) (xs : List Node) (st : List (Option Elem)) (m : ℕ) → pending_after xs (length st) ≡ Some m → length (values_at s i xs st) ≡ m
values_count s i [] st m h = let e : length st ≡ m = cc in e
values_count s i (Operand leaf ∷ xs) st m h = let e : Elem = leaf_element s leaf i in values_count s i xs (Some e ∷ st) m h
values_count s i (One f p ∷ xs) [] m h = absurd (cc)
values_count s i (One f p ∷ xs) (b ∷ st) m h = values_count s i xs (option_and_then (scalar1 f) b ∷ st) m h
values_count s i (Two f p ∷ xs) [] m h = absurd (cc)
values_count s i (Two f p ∷ xs) (a ∷ []) m h = absurd (cc)
values_count s i (Two f p ∷ xs) (a ∷ b ∷ st) m h = values_count s i xs (option_and_then (λ x. option_and_then (scalar2 f x) b) a ∷ st) m h

-- the newest value, if it is defined, is a number
abbrev pub IsNumberOrNone : Option Elem → Type 0
IsNumberOrNone None = Unit {0}
IsNumberOrNone (Some e) = e.kind ≡ Num

abbrev pub EndsInNumber : List (Option Elem) → Type 0
EndsInNumber [] = Unit {0}
EndsInNumber (o ∷ st) = IsNumberOrNone o

of_number-kind : (o : Option ℤ) → IsNumberOrNone (option_map number o)
of_number-kind None = tt
of_number-kind (Some z) = refl

scalar1-kind : (f : Mon) (o : Option Elem) → IsNumberOrNone (option_and_then (scalar1 f) o)
scalar1-kind f None = tt
scalar1-kind f (Some b) = of_number-kind (on_number b.kind (of_number f b.cell))

applied-kind : (f : Dya) (a b : Elem) → IsNumberOrNone (scalar2 f a b)
applied-kind dya.Eq a b = refl
applied-kind dya.Ne a b = refl
applied-kind f a b = of_number-kind (on_number a.kind (on_number b.kind (of_numbers f a.cell b.cell)))

scalar2-kind : (f : Dya) (o r : Option Elem) → IsNumberOrNone (option_and_then (λ x. option_and_then (scalar2 f x) r) o)
scalar2-kind f None r = tt
scalar2-kind f (Some a) None = tt
scalar2-kind f (Some a) (Some b) = applied-kind f a b

ends_in_number : (s : StoreView) (i : List ℕ) (x : Node) (xs : List Node) (st : List (Option Elem)) → 1 ≤ length st → pending_after (x ∷ xs) (length st) ≡ Some 1 → EndsInNumber (values_at s i (x ∷ xs) st)
ends_in_number s i (Operand leaf) [] st many h = let e : suc (length st) ≡ 1 = cc in absurd (omega (arith, e, many))
ends_in_number s i (One f p) [] [] many h = tt
ends_in_number s i (One f p) [] (b ∷ st) many h = scalar1-kind f b
ends_in_number s i (Two f p) [] [] many h = tt
ends_in_number s i (Two f p) [] (a ∷ []) many h = absurd (cc)
ends_in_number s i (Two f p) [] (a ∷ b ∷ st) many h = scalar2-kind f a b
ends_in_number s i (Operand leaf) (y ∷ ys) st many h = let e : Elem = leaf_element s leaf i in ends_in_number s i y ys (Some e ∷ st) (omega arith) h
ends_in_number s i (One f p) (y ∷ ys) [] many h = absurd (cc)
ends_in_number s i (One f p) (y ∷ ys) (b ∷ st) many h = ends_in_number s i y ys (option_and_then (scalar1 f) b ∷ st) (omega arith) h
ends_in_number s i (Two f p) (y ∷ ys) [] many h = absurd (cc)
ends_in_number s i (Two f p) (y ∷ ys) (a ∷ []) many h = absurd (cc)
ends_in_number s i (Two f p) (y ∷ ys) (a ∷ b ∷ st) many h = ends_in_number s i y ys (option_and_then (λ x. option_and_then (scalar2 f x) b) a ∷ st) (omega arith) h

some_one : (n : ℕ) → Some 0 ≡ Some (suc n) → ⊥
some_one n e = absurd (cc)

pub nodes_end_in_number : (s : StoreView) (i : List ℕ) (xs : List Node) → only_leaf xs ≡ None → pending_after xs 0 ≡ Some 1 → EndsInNumber (values_at s i xs [])
nodes_end_in_number s i [] many h = tt
nodes_end_in_number s i (Operand leaf ∷ []) many h = absurd (cc)
nodes_end_in_number s i (Operand leaf ∷ x ∷ xs) many h = let e : Elem = leaf_element s leaf i in ends_in_number s i x xs (Some e ∷ []) (omega arith) h
nodes_end_in_number s i (One f p ∷ xs) many h = absurd (cc)
nodes_end_in_number s i (Two f p ∷ xs) many h = absurd (cc)

-- and leaves stay lawful
pub leaves_counted : (s t : StoreView) (xs : List Node) → OnlyCounted s t → AllLeaves (IsLawfulLeaf s) xs → AllLeaves (IsLawfulLeaf t) xs
leaves_counted s t [] only h = tt
leaves_counted s t (Operand leaf ∷ xs) only h = (lawful_leaf-counted s t leaf only h.0, leaves_counted s t xs only h.1)
leaves_counted s t (One f p ∷ xs) only h = leaves_counted s t xs only h
leaves_counted s t (Two f p ∷ xs) only h = leaves_counted s t xs only h

-- The newest entries of a stack.
use Rattle.std.proofs.Common.{◌≡◌, ℕ, zero, suc, ◌≤◌, ◌+◌, ◌-◌, List, [], ◌∷◌, ◌++◌, map, length, Some, Err, refl, sym, ap, subst, ◌∙◌, arith}
use Rattle.std.specs.Prelude.{slice_get, slice_index_or}
use Rattle.std.proofs.lemmas.List.{append_assoc, map-append, length-append}
use Rattle.apl_base.specs.declared.faults.ErrorKind.{ErrorKind}
use Rattle.apl_base.specs.declared.faults.Place.{Place}
use Rattle.apl_base.specs.declared.rows.Dya.{Dya}
use Rattle.apl_base.specs.Array.{Array}
use Rattle.array_store.specs.Stores.{StoreView}
use Rattle.drag_along.specs.Segments.{SegmentView}
use Rattle.drag_along.specs.Meaning.{Meaning, Means, entry}
use Rattle.value_stack.specs.Stacks.{entries}
use Rattle.apl_model.specs.declared.functions.DyaFn.TheVariants as dyadic_fn
use Rattle.apl_model.specs.Lift.{fitting_shape}
use Rattle.apl_compile.specs.declared.codes.Op.TheVariants as op
use Rattle.standing.proofs.StandLemmas.{unfit_ends}
use Rattle.pending_steps.specs.Shapes.{shapes_of, newest_shape, second_shape, IsArrayEntry, AreArrays}
use Rattle.pending_steps.specs.Steps.{Refuses}
use Rattle.value_stack.proofs.NewestLemmas.{get-behind}

-- the shape at a place is that of the entry there
pub end_shape : (stack : List SegmentView) (k : ℕ) (s : SegmentView) → slice_get stack k ≡ Some s → slice_index_or (shapes_of stack) k [] ≡ s.shape
end_shape [] k s g = absurd cc
end_shape (x ∷ stack) zero s g =
    let same : x ≡ s = cc in
    ap (λ (y : SegmentView). y.shape) same
end_shape (x ∷ stack) (suc k) s g = end_shape stack k s g

-- the two newest entries, above older ones
pub record AreNewest (stack older : List SegmentView) (left right : SegmentView) : Type 0 where
  pub whole : stack ≡ older ++ right ∷ left ∷ []
  pub newest : slice_get stack (length stack - 1) ≡ Some left
  pub second : slice_get stack (length stack - 2) ≡ Some right

two-long : (older : List SegmentView) (left right : SegmentView) → length (older ++ right ∷ left ∷ []) ≡ length older + 2
two-long older left right = length-append older (right ∷ left ∷ [])

pub above : (stack older : List SegmentView) (left right : SegmentView) → stack ≡ older ++ right ∷ left ∷ [] → AreNewest stack older left right
above stack older left right is =
    let long : length stack ≡ length older + 2 = ap (λ (xs : List SegmentView). length xs) is ∙ two-long older left right in
    let one : length stack - 1 ≡ length (older ++ right ∷ []) = omega (arith, long, length-append older (right ∷ [])) in
    let two : length stack - 2 ≡ length older = omega (arith, long) in
    record {
      whole = is;
      newest =
          ap (λ (k : ℕ). slice_get stack k) one
          ∙ ap (λ (xs : List SegmentView). slice_get xs (length (older ++ right ∷ []))) (is ∙ sym (append_assoc older (right ∷ []) (left ∷ [])))
          ∙ get-behind (older ++ right ∷ []) left [];
      second =
          ap (λ (k : ℕ). slice_get stack k) two
          ∙ ap (λ (xs : List SegmentView). slice_get xs (length older)) is
          ∙ get-behind older right (left ∷ []);
    }

pub popped_two : (stack mid older : List SegmentView) (left right : SegmentView) → stack ≡ mid ++ left ∷ [] → mid ≡ older ++ right ∷ [] → AreNewest stack older left right
popped_two stack mid older left right e f =
    above stack older left right (e ∙ ap (λ (xs : List SegmentView). xs ++ left ∷ []) f ∙ append_assoc older (right ∷ []) (left ∷ []))

pub newest_is : (stack older : List SegmentView) (left right : SegmentView) → AreNewest stack older left right → newest_shape stack ≡ left.shape
newest_is stack older left right n = end_shape stack (length stack - 1) left n.newest

pub second_is : (stack older : List SegmentView) (left right : SegmentView) → AreNewest stack older left right → second_shape stack ≡ right.shape
second_is stack older left right n = end_shape stack (length stack - 2) right n.second

-- what they mean, above what the older ones mean
pub entries_above : (store : StoreView) (stack older : List SegmentView) (left right : SegmentView) → AreNewest stack older left right → entries store stack ≡ entries store older ++ entry store right ∷ entry store left ∷ []
entries_above store stack older left right n = ap (entries store) n.whole ∙ map-append (entry store) older (right ∷ left ∷ [])

-- a stack of two entries at least
pub record HasTwo (stack : List SegmentView) : Type 0 where
  pub older : List SegmentView
  pub left : SegmentView
  pub right : SegmentView
  pub are : AreNewest stack older left right

pub has_two : (stack : List SegmentView) → 2 ≤ length stack → HasTwo stack
has_two [] h = absurd (omega (arith, h))
has_two (x ∷ []) h = absurd (omega (arith, h))
has_two (x ∷ y ∷ []) h = record { older = []; left = y; right = x; are = above (x ∷ y ∷ []) [] y x refl }
has_two (x ∷ y ∷ z ∷ stack) h =
    let rest : HasTwo (y ∷ z ∷ stack) = has_two (y ∷ z ∷ stack) (omega arith) in
    record {
      older = x ∷ rest.older;
      left = rest.left;
      right = rest.right;
      are = above (x ∷ y ∷ z ∷ stack) (x ∷ rest.older) rest.left rest.right (ap (λ (xs : List SegmentView). x ∷ xs) rest.are.whole);
    }

-- ---- arrays

record Listed (store : StoreView) (stack : List SegmentView) : Type 0 where
  arrays : List Array
  are : entries store stack ≡ map (λ a. Means a) arrays

listed : (store : StoreView) (stack : List SegmentView) → AreArrays store stack → Listed store stack
listed store [] h = record { arrays = []; are = refl }
listed store (s ∷ stack) h =
    let rest : Listed store stack = listed store stack h.1 in
    record {
      arrays = h.0.array ∷ rest.arrays;
      are = ap (λ (m : Meaning). m ∷ entries store stack) h.0.means ∙ ap (λ (ms : List Meaning). Means h.0.array ∷ ms) rest.are;
    }

parts : (store : StoreView) (older younger : List SegmentView) → AreArrays store (older ++ younger) → AreArrays store older × AreArrays store younger
parts store [] younger h = (tt, h)
parts store (s ∷ older) younger h = ((h.0, (parts store older younger h.1).0), (parts store older younger h.1).1)

-- operands that don't fit are the error of the function
pub unfit_refuses : (f : Dya) (place : Place) (kind : ErrorKind) (store : StoreView) (stack : List SegmentView) → AreArrays store stack → 2 ≤ length stack → fitting_shape (newest_shape stack) (second_shape stack) ≡ Err kind → Refuses (record { place = place; op = op.Dya (dyadic_fn.Scalar f) }) 2 (entries store stack) kind place
unfit_refuses f place kind store stack arrays long unfit =
    let two : HasTwo stack = has_two stack long in
    let both = parts store two.older (two.right ∷ two.left ∷ []) (subst (AreArrays store) two.are.whole arrays) in
    let under : Listed store two.older = listed store two.older both.0 in
    let right : IsArrayEntry store two.right = both.1.0 in
    let left : IsArrayEntry store two.left = both.1.1.0 in
    let shapes : fitting_shape left.array.shape right.array.shape ≡ Err kind =
    ap (λ (ns : List ℕ). fitting_shape ns right.array.shape) (left.shape ∙ sym (newest_is stack two.older two.left two.right two.are))
    ∙ ap (λ (ns : List ℕ). fitting_shape (newest_shape stack) ns) (right.shape ∙ sym (second_is stack two.older two.left two.right two.are))
    ∙ unfit in
    record {
      older = under.arrays;
      operands = right.array ∷ left.array ∷ [];
      are =
          entries_above store stack two.older two.left two.right two.are
          ∙ ap (λ (ms : List Meaning). ms ++ entry store two.right ∷ entry store two.left ∷ []) under.are
          ∙ ap (λ (m : Meaning). map (λ a. Means a) under.arrays ++ m ∷ entry store two.left ∷ []) right.means
          ∙ ap (λ (m : Meaning). map (λ a. Means a) under.arrays ++ Means right.array ∷ m ∷ []) left.means;
      number = refl;
      ends = λ calls vs to s. unfit_ends calls f place vs to s left.array right.array kind shapes;
    }

-- Entries that all mean arrays.
use Rattle.std.proofs.Common.{◌≡◌, ℕ, suc, ◌-◌, ◌≤◌, List, [], ◌∷◌, ◌++◌, length, map, sym, ap, ◌∙◌, arith}
use Rattle.std.specs.Prelude.{slice_index_or}
use Rattle.apl_base.specs.Array.{Array}
use Rattle.array_store.specs.Stores.{StoreView}
use Rattle.drag_along.specs.Segments.{SegmentView}
use Rattle.drag_along.specs.Meaning.{Meaning, Means, entry}
use Rattle.value_stack.specs.Stacks.{entries}
use Rattle.pending_steps.specs.Shapes.{shapes_of, newest_shape, second_shape, AreArrays}
use Rattle.selection_choices.specs.Choices.{IsOfShape}

-- one more below
cons_means : (m n : Meaning) (ms ns : List Meaning) → m ≡ n → ms ≡ ns → m ∷ ms ≡ n ∷ ns
cons_means m n ms ns e f = ap (λ (x : Meaning). x ∷ ms) e ∙ ap (λ (xs : List Meaning). n ∷ xs) f

-- the newest one
pub record EndsWith (store : StoreView) (stack : List SegmentView) : Type 0 where
  pub older : List Array
  pub array : Array
  pub are : entries store stack ≡ map (λ a. Means a) older ++ Means array ∷ []
  pub of_shape : IsOfShape (newest_shape stack) array

newest-cons : (x y : SegmentView) (stack : List SegmentView) → newest_shape (x ∷ y ∷ stack) ≡ newest_shape (y ∷ stack)
newest-cons x y stack =
    let next : length (x ∷ y ∷ stack) - 1 ≡ suc (length (y ∷ stack) - 1) = omega arith in
    ap (λ (k : ℕ). slice_index_or (shapes_of (x ∷ y ∷ stack)) k []) next

pub ends_with : (store : StoreView) (stack : List SegmentView) → AreArrays store stack → 1 ≤ length stack → EndsWith store stack
ends_with store [] arrays h = absurd (omega (arith, h))
ends_with store (x ∷ []) arrays h = record {
  older = [];
  array = arrays.0.array;
  are = ap (λ (m : Meaning). m ∷ []) arrays.0.means;
  of_shape = record { shape = arrays.0.shape; complete = arrays.0.complete };
}
ends_with store (x ∷ y ∷ stack) arrays h =
    let rest : EndsWith store (y ∷ stack) = ends_with store (y ∷ stack) arrays.1 (omega arith) in
    record {
      older = arrays.0.array ∷ rest.older;
      array = rest.array;
      are = cons_means (entry store x) (Means arrays.0.array) (entries store (y ∷ stack)) _ arrays.0.means rest.are;
      of_shape = record { shape = rest.of_shape.shape ∙ sym (newest-cons x y stack); complete = rest.of_shape.complete };
    }

-- the newest two
pub record EndsWithTwo (store : StoreView) (stack : List SegmentView) : Type 0 where
  pub older : List Array
  pub right : Array
  pub left : Array
  pub are : entries store stack ≡ map (λ a. Means a) older ++ Means right ∷ Means left ∷ []
  pub of_shape : IsOfShape (second_shape stack) right

second-cons : (x y z : SegmentView) (stack : List SegmentView) → second_shape (x ∷ y ∷ z ∷ stack) ≡ second_shape (y ∷ z ∷ stack)
second-cons x y z stack =
    let next : length (x ∷ y ∷ z ∷ stack) - 2 ≡ suc (length (y ∷ z ∷ stack) - 2) = omega arith in
    ap (λ (k : ℕ). slice_index_or (shapes_of (x ∷ y ∷ z ∷ stack)) k []) next

pub ends_with_two : (store : StoreView) (stack : List SegmentView) → AreArrays store stack → 2 ≤ length stack → EndsWithTwo store stack
ends_with_two store [] arrays h = absurd (omega (arith, h))
ends_with_two store (x ∷ []) arrays h = absurd (omega (arith, h))
ends_with_two store (x ∷ y ∷ []) arrays h = record {
  older = [];
  right = arrays.0.array;
  left = arrays.1.0.array;
  are = cons_means (entry store x) (Means arrays.0.array) (entry store y ∷ []) _ arrays.0.means (ap (λ (m : Meaning). m ∷ []) arrays.1.0.means);
  of_shape = record { shape = arrays.0.shape; complete = arrays.0.complete };
}
ends_with_two store (x ∷ y ∷ z ∷ stack) arrays h =
    let rest : EndsWithTwo store (y ∷ z ∷ stack) = ends_with_two store (y ∷ z ∷ stack) arrays.1 (omega arith) in
    record {
      older = arrays.0.array ∷ rest.older;
      right = rest.right;
      left = rest.left;
      are = cons_means (entry store x) (Means arrays.0.array) (entries store (y ∷ z ∷ stack)) _ arrays.0.means rest.are;
      of_shape = record { shape = rest.of_shape.shape ∙ sym (second-cons x y z stack); complete = rest.of_shape.complete };
    }

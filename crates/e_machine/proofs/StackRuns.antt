-- A run over the nodes at an index, node by node.
use Rattle.std.proofs.Common.{◌≡◌, ℕ, suc, ◌+◌, ◌-◌, ◌<◌, ◌≤◌, ℤ, false, IsTrue, List, [], ◌∷◌, length, drop, Option, Some, refl, sym, ap, ◌∙◌, arith, inl, inr}
use Rattle.std.proofs.Math.ListN.{drop_of_length-le}
use Rattle.std.proofs.lemmas.Bool.{cases_lt}
use Rattle.apl_base.specs.declared.cells.Elem.{Elem}
use Rattle.array_store.specs.Stores.{StoreView}
use Rattle.array_store.specs.Counting.{OnlyCounted}
use Rattle.drag_along.specs.declared.nodes.Node.{Node}
use Rattle.drag_along.specs.declared.nodes.Node.TheVariants.{Operand, One, Two}
use Rattle.drag_along.specs.Nodes.{leaf_kind}
use Rattle.drag_along.specs.Meaning.{value_at, values_at, fails_on, fails_at}
use Rattle.e_machine.proofs.CountedLemmas.{leaf_cell-counted}
use Rattle.e_machine.specs.Runs.{defined, Goes}

-- ---- what a store means stays while it counts

pub value_counted : (s t : StoreView) (i : List ℕ) (x : Node) (st : List (Option Elem)) → OnlyCounted s t → value_at t i x st ≡ value_at s i x st
value_counted s t i (Operand leaf) st only = ap (λ (c : ℤ). let e : Elem = record { kind = leaf_kind leaf; cell = c } in Some e ∷ st) (leaf_cell-counted s t leaf i only)
value_counted s t i (One f p) [] only = refl
value_counted s t i (One f p) (b ∷ st) only = refl
value_counted s t i (Two f p) [] only = refl
value_counted s t i (Two f p) (a ∷ []) only = refl
value_counted s t i (Two f p) (a ∷ b ∷ st) only = refl

-- ---- the run

-- after k nodes none of them has failed, these values are pending, and the nodes that are left go on with them
pub record RunTo (s : StoreView) (i : List ℕ) (xs : List Node) (k : ℕ) (es : List Elem) : Type 0 where
  pub leaves : values_at s i xs [] ≡ values_at s i (drop k xs) (defined es)
  pub later : (j : ℕ) → fails_at s i xs (k + j) [] ≡ fails_at s i (drop k xs) j (defined es)
  pub before : (j : ℕ) → j < k → fails_at s i xs j [] ≡ false

pub run_starts : (s : StoreView) (i : List ℕ) (xs : List Node) → RunTo s i xs 0 []
run_starts s i xs = record {
  leaves = refl;
  later = λ j. ap (λ (n : ℕ). fails_at s i xs n []) (let e : 0 + j ≡ j = omega arith in e);
  before = λ j h. absurd (omega (arith, h));
}

-- a node that passes over a store that only counted leads from one record to the next
pub run_goes : (s now : StoreView) (i : List ℕ) (xs : List Node) (k : ℕ) (es fs : List Elem) (x : Node) → OnlyCounted s now → RunTo s i xs k es → drop k xs ≡ x ∷ drop (suc k) xs → Goes now i x es fs → RunTo s i xs (suc k) fs
run_goes s now i xs k es fs x only r here goes =
    let more : List Node = drop (suc k) xs in
    let step : value_at s i x (defined es) ≡ defined fs = sym (value_counted s now i x (defined es) only) ∙ goes.leaves in
    let first : (j : ℕ) → fails_at s i xs (k + j) [] ≡ fails_at s i (x ∷ more) j (defined es) =
    λ j. r.later j ∙ ap (λ (ys : List Node). fails_at s i ys j (defined es)) here in
    let now_fails : fails_at s i xs k [] ≡ false = ap (λ (n : ℕ). fails_at s i xs n []) (let e : k ≡ k + 0 = omega arith in e) ∙ first 0 ∙ goes.passes in
    record {
      leaves = r.leaves ∙ ap (λ (ys : List Node). values_at s i ys (defined es)) here ∙ ap (values_at s i more) step;
      later = λ j. ap (λ (n : ℕ). fails_at s i xs n []) (let e : suc k + j ≡ k + suc j = omega arith in e) ∙ first (suc j) ∙ ap (fails_at s i more j) step;
      before = λ j below. elim (cases_lt j k) [
        | inl less ↦ r.before j less
        | inr most ↦ ap (λ (n : ℕ). fails_at s i xs n []) (let e : j ≡ k = omega (arith, below, most) in e) ∙ now_fails
      ];
    }

-- the node that comes next fails there where it fails on the values pending
pub run_fails : (s : StoreView) (i : List ℕ) (xs : List Node) (k : ℕ) (es : List Elem) (x : Node) → RunTo s i xs k es → drop k xs ≡ x ∷ drop (suc k) xs → IsTrue (fails_on x (defined es)) → IsTrue (fails_at s i xs k [])
run_fails s i xs k es x r here fails =
    ap (λ (n : ℕ). fails_at s i xs n []) (let e : k ≡ k + 0 = omega arith in e) ∙ r.later 0 ∙ ap (λ (ys : List Node). fails_at s i ys 0 (defined es)) here ∙ fails

-- after all nodes none fails
pub run_ends : (s : StoreView) (i : List ℕ) (xs : List Node) (k : ℕ) (es : List Elem) → RunTo s i xs k es → length xs ≤ k → (j : ℕ) → fails_at s i xs j [] ≡ false
run_ends s i xs k es r past j =
    let none : drop k xs ≡ [] = drop_of_length-le xs past in
    elim (cases_lt j k) [
      | inl less ↦ r.before j less
      | inr most ↦ ap (λ (n : ℕ). fails_at s i xs n []) (let e : j ≡ k + (j - k) = omega (arith, most) in e) ∙ r.later (j - k) ∙ ap (λ (ys : List Node). fails_at s i ys (j - k) (defined es)) none
    ]

-- and they leave the values pending
pub run_leaves : (s : StoreView) (i : List ℕ) (xs : List Node) (k : ℕ) (es : List Elem) → RunTo s i xs k es → length xs ≤ k → values_at s i xs [] ≡ defined es
run_leaves s i xs k es r past = r.leaves ∙ ap (λ (ys : List Node). values_at s i ys (defined es)) (drop_of_length-le xs past)

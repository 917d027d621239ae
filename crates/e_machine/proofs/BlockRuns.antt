-- A run over the nodes at all places of a block, node by node.
use Rattle.std.proofs.Common.{◌≡◌, ℕ, zero, suc, ◌+◌, ◌*◌, ◌<◌, ◌≤◌, List, [], ◌∷◌, length, drop, Some, None, refl, sym, ap, ◌∙◌, subst, arith}
use Rattle.std.specs.Prelude.{IsSome}
use Rattle.std.specs.List.{AllByRecursion}
use Rattle.std.proofs.Math.ListN.{drop_of_length-le}
use Rattle.std.proofs.Math.Nat.{mul-le-mul_left}
use Rattle.apl_base.specs.declared.cells.Kind.{Kind}
use Rattle.apl_base.specs.Array.{index_at}
use Rattle.array_store.specs.Stores.{StoreView, AreCounts}
use Rattle.array_store.specs.Counting.{OnlyCounted, OnlyComputed, ComputedJust}
use Rattle.array_store.proofs.CountingLemmas.{ComputedJust-none, ComputedJust-then, OnlyComputed-just, OnlyComputed-then, OnlyComputed-more}
use Rattle.drag_along.specs.declared.leaves.Leaf.{Leaf}
use Rattle.drag_along.specs.declared.nodes.Node.{Node}
use Rattle.drag_along.specs.declared.nodes.Node.TheVariants.{Operand, One, Two}
use Rattle.drag_along.specs.Nodes.{leaf_shape, AllLeaves, functions_in, stored_in, pending_after}
use Rattle.e_machine.specs.declared.columns.Columns.{Columns}
use Rattle.scalar_table.specs.Row.{IsElement}
use Rattle.e_machine.specs.Columns.{pending_at, pending_in, AreColumns}
use Rattle.e_machine.specs.Runs.{IsReadable, HaveIndex, Passes, FailsAt, FailsFirst, IsRun}
use Rattle.e_machine.proofs.CountedLemmas.{lawful_leaf-counted}
use Rattle.e_machine.proofs.StackRuns.{RunTo, run_starts, run_goes, run_fails, run_ends, run_leaves}
use Rattle.drag_along.proofs.FirstLemmas.{first_leaves, rest_leaves}

-- ---- parts of a list of nodes

drop_leaves : (P : Leaf → Type 0) (k : ℕ) (xs : List Node) → AllLeaves P xs → AllLeaves P (drop k xs)
drop_leaves P zero xs h = h
drop_leaves P (suc k) [] h = h
drop_leaves P (suc k) (x ∷ xs) h = drop_leaves P k xs (rest_leaves P x xs h)

-- what is so of all leaves is so of the next node's
leaves_next : (P : Leaf → Type 0) (k : ℕ) (xs : List Node) (x : Node) → drop k xs ≡ x ∷ drop (suc k) xs → AllLeaves P xs → AllLeaves P (x ∷ [])
leaves_next P k xs x here h = first_leaves P x (drop (suc k) xs) (subst (AllLeaves P) here (drop_leaves P k xs h))

functions_in-cons : (x : Node) (xs : List Node) → functions_in (x ∷ xs) ≡ functions_in (x ∷ []) + functions_in xs
functions_in-cons (Operand leaf) xs = omega arith
functions_in-cons (One f p) xs = omega arith
functions_in-cons (Two f p) xs = omega arith

stored_in-cons : (x : Node) (xs : List Node) → stored_in (x ∷ xs) ≡ stored_in (x ∷ []) + stored_in xs
stored_in-cons (Operand leaf) xs = omega arith
stored_in-cons (One f p) xs = omega arith
stored_in-cons (Two f p) xs = omega arith

-- what the next node asks for
next_operands : (x : Node) (xs : List Node) (n : ℕ) → IsSome (pending_after (x ∷ xs) n) → IsSome (pending_after (x ∷ []) n)
next_operands (Operand leaf) xs n h = refl
next_operands (One f p) xs zero h = h
next_operands (One f p) xs (suc n) h = refl
next_operands (Two f p) xs zero h = h
next_operands (Two f p) xs (suc zero) h = h
next_operands (Two f p) xs (suc (suc n)) h = refl

-- and what it leaves to the others
rest_operands : (x : Node) (xs : List Node) (n m : ℕ) → pending_after (x ∷ []) n ≡ Some m → pending_after (x ∷ xs) n ≡ pending_after xs m
rest_operands (Operand leaf) xs n m h = let e : suc n ≡ m = cc in ap (pending_after xs) e
rest_operands (One f p) xs zero m h = absurd (cc)
rest_operands (One f p) xs (suc n) m h = let e : suc n ≡ m = cc in ap (pending_after xs) e
rest_operands (Two f p) xs zero m h = absurd (cc)
rest_operands (Two f p) xs (suc zero) m h = absurd (cc)
rest_operands (Two f p) xs (suc (suc n)) m h = let e : suc n ≡ m = cc in ap (pending_after xs) e

-- leaves can be read over a store that only counted
readable_leaves : (s t : StoreView) (first n : ℕ) (xs : List Node) → OnlyCounted s t → AllLeaves (IsReadable s first n) xs → AllLeaves (IsReadable t first n) xs
readable_leaves s t first n [] only h = tt
readable_leaves s t first n (Operand leaf ∷ xs) only h = (
  record { lawful = lawful_leaf-counted s t leaf only h.0.lawful; places = h.0.places },
  readable_leaves s t first n xs only h.1,
)
readable_leaves s t first n (One f p ∷ xs) only h = readable_leaves s t first n xs only h
readable_leaves s t first n (Two f p ∷ xs) only h = readable_leaves s t first n xs only h

-- ---- the run

-- after k nodes each place of the block has been led there, so many columns are pending as the nodes that are left ask
-- for, and so much was counted
pub record BlockTo (s now : StoreView) (first n : ℕ) (xs : List Node) (k : ℕ) (columns : Columns) : Type 0 where
  pub columns_are : AreColumns n columns
  pub places : (q : ℕ) → q < n → (i : List ℕ) → HaveIndex (first + q) i xs → RunTo s i xs k (pending_in n columns q)
  pub operands : pending_after (drop k xs) (length columns.kinds) ≡ pending_after xs 0
  pub functions : ℕ
  pub cells : ℕ
  pub applied : functions + functions_in (drop k xs) ≡ functions_in xs
  pub fetched : cells + stored_in (drop k xs) ≡ stored_in xs
  pub small : AreCounts s.counts
  pub just : ComputedJust s now (n * functions) (n * cells)

-- what is counted at no node
nothing : (s : StoreView) (n : ℕ) → AreCounts s.counts → ComputedJust s s (n * 0) (n * 0)
nothing s n small = subst (λ (m : ℕ). ComputedJust s s m m) (let e : 0 ≡ n * 0 = omega arith in e) (ComputedJust-none s small)

pub block_starts : (s : StoreView) (first n : ℕ) (xs : List Node) (columns : Columns) → AreCounts s.counts → columns.cells.items ≡ [] → columns.kinds ≡ [] → BlockTo s s first n xs 0 columns
block_starts s first n xs columns small no_cell no_kind =
    let none : (q : ℕ) → pending_in n columns q ≡ [] = λ q. ap (λ (ks : List Kind). pending_at n columns.cells.items ks q) no_kind in
    record {
      columns_are = record {
        count = omega (arith, ap length no_cell, ap (λ (ks : List Kind). length ks * n) no_kind);
        lawful = λ q h. subst (AllByRecursion IsElement) (sym (none q)) tt;
      };
      places = λ q h i index. subst (RunTo s i xs 0) (sym (none q)) (run_starts s i xs);
      operands = ap (λ (m : ℕ). pending_after xs m) (ap length no_kind);
      functions = 0;
      cells = 0;
      applied = omega arith;
      fetched = omega arith;
      small = small;
      just = nothing s n small;
    }

pub block_operands : (s now : StoreView) (first n : ℕ) (xs : List Node) (k : ℕ) (columns : Columns) (x : Node) → BlockTo s now first n xs k columns → IsSome (pending_after xs 0) → drop k xs ≡ x ∷ drop (suc k) xs → IsSome (pending_after (x ∷ []) (length columns.kinds))
block_operands s now first n xs k columns x b whole here =
    let left : IsSome (pending_after (drop k xs) (length columns.kinds)) = subst IsSome (sym b.operands) whole in
    next_operands x (drop (suc k) xs) (length columns.kinds) (subst (λ (ys : List Node). IsSome (pending_after ys (length columns.kinds))) here left)

pub block_readable : (s now : StoreView) (first n : ℕ) (xs : List Node) (k : ℕ) (columns : Columns) (x : Node) → BlockTo s now first n xs k columns → AllLeaves (IsReadable s first n) xs → drop k xs ≡ x ∷ drop (suc k) xs → AllLeaves (IsReadable now first n) (x ∷ [])
block_readable s now first n xs k columns x b readable here =
    readable_leaves s now first n (x ∷ []) b.just.only (leaves_next (IsReadable s first n) k xs x here readable)

-- a node more
more_functions : (a b c : ℕ) (x : Node) (xs ys : List Node) → ys ≡ x ∷ xs → a + functions_in ys ≡ c → (a + functions_in (x ∷ [])) + functions_in xs ≡ c
more_functions a b c x xs ys here h = omega (arith, h, functions_in-cons x xs, ap functions_in here)

more_cells : (a b c : ℕ) (x : Node) (xs ys : List Node) → ys ≡ x ∷ xs → a + stored_in ys ≡ c → (a + stored_in (x ∷ [])) + stored_in xs ≡ c
more_cells a b c x xs ys here h = omega (arith, h, stored_in-cons x xs, ap stored_in here)

just_more : (s now next : StoreView) (n f c g d : ℕ) → ComputedJust s now (n * f) (n * c) → ComputedJust now next (n * g) (n * d) → ComputedJust s next (n * (f + g)) (n * (c + d))
just_more s now next n f c g d one two =
    let more_f : n * f + n * g ≡ n * (f + g) = omega arith in
    let more_c : n * c + n * d ≡ n * (c + d) = omega arith in
    subst (λ (m : ℕ). ComputedJust s next m (n * (c + d))) more_f
    (subst (λ (m : ℕ). ComputedJust s next (n * f + n * g) m) more_c (ComputedJust-then s now next (n * f) (n * g) (n * c) (n * d) one two))

pub block_goes : (s now next : StoreView) (first n : ℕ) (xs : List Node) (k : ℕ) (old new : Columns) (x : Node) → BlockTo s now first n xs k old → drop k xs ≡ x ∷ drop (suc k) xs → Passes now first n x old new → ComputedJust now next (n * functions_in (x ∷ [])) (n * stored_in (x ∷ [])) → BlockTo s next first n xs (suc k) new
block_goes s now next first n xs k old new x b here pass count =
    let more : List Node = drop (suc k) xs in
    record {
      columns_are = pass.columns;
      places = λ q h i index.
          run_goes s now i xs k (pending_in n old q) (pending_in n new q) x b.just.only (b.places q h i index) here
          (pass.goes q h i (leaves_next (λ leaf. i ≡ index_at (leaf_shape leaf) (first + q)) k xs x here index));
      operands = sym (rest_operands x more (length old.kinds) (length new.kinds) pass.kinds)
          ∙ ap (λ (ys : List Node). pending_after ys (length old.kinds)) (sym here) ∙ b.operands;
      functions = b.functions + functions_in (x ∷ []);
      cells = b.cells + stored_in (x ∷ []);
      applied = omega (arith, b.applied, functions_in-cons x more, ap functions_in here);
      fetched = omega (arith, b.fetched, stored_in-cons x more, ap stored_in here);
      small = b.small;
      just = just_more s now next n b.functions b.cells (functions_in (x ∷ [])) (stored_in (x ∷ [])) b.just count;
    }

pub block_fails : (s now : StoreView) (first n : ℕ) (xs : List Node) (k : ℕ) (old : Columns) (x : Node) → BlockTo s now first n xs k old → k < length xs → drop k xs ≡ x ∷ drop (suc k) xs → FailsAt n x old → FailsFirst s first n xs k
block_fails s now first n xs k old x b there here fail = record {
  there = there;
  place = fail.place;
  within = fail.within;
  fails = λ i index. run_fails s i xs k (pending_in n old fail.place) x (b.places fail.place fail.within i index) here fail.fails;
  before = λ q h i index j less. (b.places q h i index).before j less;
}

-- so far no more was done than over all nodes
pub times-le : (n a b : ℕ) → a ≤ b → n * a ≤ n * b
times-le n a b h = mul-le-mul_left n h

pub block_costs : (s now : StoreView) (first n : ℕ) (xs : List Node) (k : ℕ) (columns : Columns) → BlockTo s now first n xs k columns → OnlyComputed s now (n * functions_in xs) (n * stored_in xs)
block_costs s now first n xs k columns b =
    OnlyComputed-more s now (n * b.functions) (n * functions_in xs) (n * b.cells) (n * stored_in xs)
    (times-le n b.functions (functions_in xs) (omega (arith, b.applied)))
    (times-le n b.cells (stored_in xs) (omega (arith, b.fetched)))
    (OnlyComputed-just s now (n * b.functions) (n * b.cells) b.small b.just)

-- nor with the next
pub block_few : (s now next : StoreView) (first n : ℕ) (xs : List Node) (k : ℕ) (columns : Columns) (x : Node) → BlockTo s now first n xs k columns → drop k xs ≡ x ∷ drop (suc k) xs → OnlyComputed now next (n * functions_in (x ∷ [])) (n * stored_in (x ∷ [])) → OnlyComputed s next (n * functions_in xs) (n * stored_in xs)
block_few s now next first n xs k columns x b here count =
    let f : ℕ = functions_in (x ∷ []) in
    let c : ℕ = stored_in (x ∷ []) in
    let few : b.functions + f ≤ functions_in xs = omega (arith, b.applied, functions_in-cons x (drop (suc k) xs), ap functions_in here) in
    let fewer : b.cells + c ≤ stored_in xs = omega (arith, b.fetched, stored_in-cons x (drop (suc k) xs), ap stored_in here) in
    OnlyComputed-more s next (n * b.functions + n * f) (n * functions_in xs) (n * b.cells + n * c) (n * stored_in xs)
    (omega (arith, times-le n (b.functions + f) (functions_in xs) few))
    (omega (arith, times-le n (b.cells + c) (stored_in xs) fewer))
    (OnlyComputed-then s now next (n * b.functions) (n * f) (n * b.cells) (n * c) (OnlyComputed-just s now (n * b.functions) (n * b.cells) b.small b.just) count)

-- after all nodes
pub block_ends : (s now : StoreView) (first n : ℕ) (xs : List Node) (k : ℕ) (columns : Columns) → BlockTo s now first n xs k columns → length xs ≤ k → IsRun s now first n xs columns None
block_ends s now first n xs k columns b past =
    let none : drop k xs ≡ [] = drop_of_length-le xs past in
    let f : b.functions ≡ functions_in xs = omega (arith, b.applied, ap functions_in none) in
    let c : b.cells ≡ stored_in xs = omega (arith, b.fetched, ap stored_in none) in (
      record {
        columns_are = b.columns_are;
        kinds = sym b.operands ∙ ap (λ (ys : List Node). pending_after ys (length columns.kinds)) none;
        none = λ q h i index. run_ends s i xs k (pending_in n columns q) (b.places q h i index) past;
        leaves = λ q h i index. run_leaves s i xs k (pending_in n columns q) (b.places q h i index) past;
      },
      subst (λ (m : ℕ). ComputedJust s now (n * m) (n * stored_in xs)) f (subst (λ (m : ℕ). ComputedJust s now (n * b.functions) (n * m)) c b.just),
    )

-- Leaves over a store that only counted, and what was counted.
use Rattle.std.proofs.Common.{◌≡◌, ℕ, ◌+◌, List, refl, sym, ap, ◌∙◌, subst}
use Rattle.array_store.specs.declared.ids.Counts.{Counts}
use Rattle.array_store.specs.Stores.{StoreView, AreCounts}
use Rattle.array_store.specs.Follows.{Follows, none}
use Rattle.array_store.specs.Counting.{OnlyCounted, ComputedJust, after_applications}
use Rattle.array_store.proofs.FollowsLemmas.{follows_same}
use Rattle.array_store.proofs.CountingLemmas.{ComputedJust-none, ComputedJust-after_fetches, ComputedJust-after_applications}
use Rattle.drag_along.specs.declared.leaves.Leaf.{Leaf}
use Rattle.drag_along.specs.declared.leaves.Leaf.TheVariants.{Stored, Gen}
use Rattle.drag_along.specs.Nodes.{stored_of_leaf}
use Rattle.drag_along.specs.Meaning.{leaf_cell, leaf_array}
use Rattle.drag_along.specs.Lawful.{IsLawfulLeaf}
use Rattle.e_machine.specs.Forced.{IsRead}

-- ---- other counts change no leaf

lawful_leaf-counts : (s : StoreView) (c : Counts) (leaf : Leaf) → IsLawfulLeaf s leaf → IsLawfulLeaf (record s { counts = c }) leaf
lawful_leaf-counts s c (Stored owner desc kind) h = record { live = h.live; kind = h.kind; low = h.low; high = h.high }
lawful_leaf-counts s c (Gen desc kind) h = h

leaf_cell-counts : (s : StoreView) (c : Counts) (leaf : Leaf) (i : List ℕ) → leaf_cell (record s { counts = c }) leaf i ≡ leaf_cell s leaf i
leaf_cell-counts s c (Stored owner desc kind) i = refl
leaf_cell-counts s c (Gen desc kind) i = refl

leaf_array-counts : (s : StoreView) (c : Counts) (shape : List ℕ) (leaf : Leaf) → leaf_array (record s { counts = c }) shape leaf ≡ leaf_array s shape leaf
leaf_array-counts s c shape (Stored owner desc kind) = refl
leaf_array-counts s c shape (Gen desc kind) = refl

pub lawful_leaf-counted : (old new : StoreView) (leaf : Leaf) → OnlyCounted old new → IsLawfulLeaf old leaf → IsLawfulLeaf new leaf
lawful_leaf-counted old new leaf only h =
    subst (λ (s : StoreView). IsLawfulLeaf s leaf) (sym only) (lawful_leaf-counts old new.counts leaf h)

pub leaf_cell-counted : (old new : StoreView) (leaf : Leaf) (i : List ℕ) → OnlyCounted old new → leaf_cell new leaf i ≡ leaf_cell old leaf i
leaf_cell-counted old new leaf i only =
    ap (λ (s : StoreView). leaf_cell s leaf i) only ∙ leaf_cell-counts old new.counts leaf i

pub leaf_array-counted : (old new : StoreView) (shape : List ℕ) (leaf : Leaf) → OnlyCounted old new → leaf_array new shape leaf ≡ leaf_array old shape leaf
leaf_array-counted old new shape leaf only =
    ap (λ (s : StoreView). leaf_array s shape leaf) only ∙ leaf_array-counts old new.counts shape leaf

-- what did nothing moves no holder
pub follows-unchanged : (old new : StoreView) → new ≡ old → Follows old new none none
follows-unchanged old new e = subst (λ (s : StoreView). Follows old s none none) (sym e) (follows_same old none)

-- ---- one element read, and one function applied

pub just_read : (old new : StoreView) (leaf : Leaf) → AreCounts old.counts → IsRead old new leaf → ComputedJust old new 0 (stored_of_leaf leaf + 0)
just_read old new (Stored owner desc kind) small read = subst (λ (s : StoreView). ComputedJust old s 0 1) (sym read) (ComputedJust-after_fetches old 1 small)
just_read old new (Gen desc kind) small read = subst (λ (s : StoreView). ComputedJust old s 0 0) (sym read) (ComputedJust-none old small)

pub just_applied : (old new : StoreView) → AreCounts old.counts → new ≡ after_applications old 1 → ComputedJust old new 1 0
just_applied old new small applied = subst (λ (s : StoreView). ComputedJust old s 1 0) (sym applied) (ComputedJust-after_applications old 1 small)

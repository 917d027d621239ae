-- Lemmas on what is answered: leaves that stand for what a segment means, and what was counted.
use Rattle.std.proofs.Common.{◌≡◌, ℕ, zero, suc, ℤ, false, IsTrue, List, [], ◌∷◌, Option, Some, None, refl, sym, ap, ◌∙◌, subst}
use Rattle.std.specs.Prelude.{slice_get}
use Rattle.std.specs.Option.{option_map}
use Rattle.std.specs.List.{AllByRecursion}
use Rattle.apl_base.specs.declared.cells.Kind.TheVariants.{Num}
use Rattle.apl_base.specs.declared.cells.Elem.{Elem}
use Rattle.apl_base.specs.declared.cells.Interval.{Interval}
use Rattle.apl_base.specs.declared.faults.Place.{Place}
use Rattle.apl_base.specs.Array.{Array, IsIndex}
use Rattle.apl_base.specs.Interval.{InInterval}
use Rattle.array_store.specs.Stores.{StoreView, AreCounts, HasRoom, new_owner, Makes}
use Rattle.array_store.specs.Counting.{OnlyComputed}
use Rattle.array_store.proofs.CountingLemmas.{Computed-just}
use Rattle.drag_along.specs.declared.leaves.Leaf.{Leaf}
use Rattle.drag_along.specs.declared.nodes.Node.{Node}
use Rattle.drag_along.specs.declared.nodes.Node.TheVariants.{Operand, One, Two}
use Rattle.drag_along.specs.Nodes.{leaf_shape, functions_in, node_place}
use Rattle.drag_along.specs.Segments.{SegmentView, IsSegment}
use Rattle.drag_along.specs.Meaning.{Means, Faults, leaf_array, value_at, fails_on, fails_at, IsFirstFault}
use Rattle.drag_along.specs.Lawful.{LeafWithin, MeansWithin, IsLawful}
use Rattle.drag_along.specs.Views.{IsWholeView, StandsForArray, only_leaf}
use Rattle.drag_along.specs.Holding.{HeldOnceMore}
use Rattle.drag_along.proofs.EntryLemmas.{only_meaning}
use Rattle.drag_along.proofs.OneLeafLemmas.{one_leaf_means, array_within}
use Rattle.e_machine.specs.Forced.{IsHeld, IsMade, IsHeldOrMade, IsForced, IsFault, elements_of, applications, fetches}
use Rattle.e_machine.specs.Runs.{HasElements}
use Rattle.e_machine.proofs.WholeLemmas.{stands-made}

-- ---- leaves that stand for arrays

-- a leaf's elements lie where the cells of its array do
pub stands_within : (s : StoreView) (leaf : Leaf) (a : Array) (range : Interval) → StandsForArray s leaf a → AllByRecursion (InInterval range) a.cells → LeafWithin s leaf range
stands_within s leaf a range stands all = λ i index.
    array_within s a.shape leaf range
    (subst (λ (x : Array). AllByRecursion (InInterval range) x.cells) (sym stands.array) all)
    i (subst (λ (ns : List ℕ). IsIndex ns i) stands.shape.same index)

-- ---- what is answered

-- a node that fails is a function
fails_function : (s : StoreView) (i : List ℕ) (xs : List Node) (k : ℕ) (st : List (Option Elem)) (x : Node) → IsTrue (fails_at s i xs k st) → slice_get xs k ≡ Some x → functions_in (x ∷ []) ≡ 1
fails_function s i [] k st x fails there = absurd (cc)
fails_function s i (y ∷ ys) zero st (Operand leaf) fails there = absurd (apart y leaf (same y (Operand leaf) there) fails)
  where
    same : (a b : Node) → Some a ≡ Some b → a ≡ b
    same a b e = cc

    apart : (a : Node) (l : Leaf) → a ≡ Operand l → IsTrue (fails_on a st) → ⊥
    apart (Operand m) l e t = absurd (cc)
    apart (One f p) l e t = absurd (cc)
    apart (Two f p) l e t = absurd (cc)
fails_function s i (y ∷ ys) zero st (One f p) fails there = refl
fails_function s i (y ∷ ys) zero st (Two f p) fails there = refl
fails_function s i (y ∷ ys) (suc k) st x fails there = fails_function s i ys k (value_at s i y st) x fails there

pub fault_function : (s : StoreView) (g : SegmentView) (k : ℕ) (x : Node) → IsFirstFault s g k → slice_get g.nodes k ≡ Some x → functions_in (x ∷ []) ≡ 1
fault_function s g k x fault there = fails_function s fault.fails.0 g.nodes k [] x fault.fails.2 there

-- the first fault, with the place of its node
pub answer_fault : (old new : StoreView) (g : SegmentView) (k : ℕ) (x : Node) (place : Place) → IsSegment g → IsFirstFault old g k → slice_get g.nodes k ≡ Some x → place ≡ node_place x → HasRoom old (elements_of g) → OnlyComputed old new (applications g) (fetches g) → IsFault old new g place
answer_fault old new g k x place seg fault there is room cost = record {
  means = sym (only_meaning old g (Faults place) seg (k, fault, ap (option_map node_place) there ∙ ap (λ (p : Place). Some p) (sym is)));
  room = room;
  counted = cost;
}

-- the array of the cells, in a leaf that reads a new owner
pub answer_made : (old between new : StoreView) (g : SegmentView) (cells : List ℤ) (key : ℕ) (leaf : Leaf) → IsSegment g → only_leaf g.nodes ≡ None → AreCounts old.counts → HasElements old between g cells → IsWholeView key g.shape Num leaf → Makes between new key (new_owner cells Num) → IsForced old new g leaf
answer_made old between new g cells key leaf seg many small has view makes =
    let a : Array = record { kind = Num; shape = g.shape; cells = cells } in
    let made : IsMade old new g a leaf = record {
      key = key;
      count = has.array.count;
      view = view;
      made = record {
        between = between;
        counts = Computed-just old between (applications g) (fetches g) small has.just;
        makes = makes;
      };
    } in
    record {
      array = a;
      means = sym (only_meaning old g (Means a) seg has.array);
      stands = stands-made between new key cells g.shape Num leaf makes has.array.count view;
      comes = subst (λ (o : Option Leaf). IsHeldOrMade old new g a o leaf) (sym many) made;
    }

-- the one leaf, held once more
pub answer_held : (old new : StoreView) (g : SegmentView) (leaf held : Leaf) → IsSegment g → only_leaf g.nodes ≡ Some leaf → held ≡ leaf → HeldOnceMore old new leaf → StandsForArray new held (leaf_array old (leaf_shape leaf) leaf) → IsForced old new g held
answer_held old new g leaf held seg one same more stands =
    let a : Array = leaf_array old (leaf_shape leaf) leaf in
    let is_held : IsHeld old new leaf held = record { same = same; held = more } in
    record {
      array = a;
      means = one_leaf_means old g leaf seg one;
      stands = stands;
      comes = subst (λ (o : Option Leaf). IsHeldOrMade old new g a o held) (sym one) is_held;
    }

-- the elements of what is answered lie in the segment's range, where it may not fail
pub answer_within : (old new : StoreView) (g : SegmentView) (leaf : Leaf) → IsLawful old g → IsForced old new g leaf → g.may_fail ≡ false → LeafWithin new leaf g.range
answer_within old new g leaf lawful value safe =
    stands_within new leaf value.array g.range value.stands (subst (MeansWithin g.range) value.means (lawful.sound safe))

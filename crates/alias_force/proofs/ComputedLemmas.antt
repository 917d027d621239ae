-- A segment whose elements come into a new owner: forced, or copied where it is a leaf.
use Rattle.std.proofs.Common.{◌≡◌, ℕ, ◌+◌, ◌*◌, Option, Some, None, sym, ap, ◌∙◌, subst, arith}
use Rattle.apl_base.specs.Array.{size_of}
use Rattle.array_store.specs.Stores.{StoreView, AreCounts}
use Rattle.array_store.specs.Counting.{OnlyFetched, Computed}
use Rattle.array_store.proofs.CountingLemmas.{OnlyComputed-fetched, OnlyComputed-more}
use Rattle.array_store.specs.declared.ids.BeginFault.{BeginFault}
use Rattle.array_store.specs.declared.ids.BeginFault.TheVariants as begin
use Rattle.drag_along.specs.declared.leaves.Leaf.{Leaf}
use Rattle.drag_along.specs.Nodes.{leaf_shape, stored_of_leaf}
use Rattle.drag_along.specs.Segments.{SegmentView, IsSegment, leaf_segment}
use Rattle.drag_along.specs.Meaning.{leaf_array}
use Rattle.drag_along.specs.Views.{only_leaf}
use Rattle.drag_along.proofs.OneLeafLemmas.{one_leaf_segment, one_leaf_means}
use Rattle.e_machine.specs.declared.faults.ForceFault.{ForceFault}
use Rattle.e_machine.specs.declared.faults.ForceFault.TheVariants as force
use Rattle.e_machine.specs.Refusals.{fault_of}
use Rattle.e_machine.specs.Forced.{elements_of, applications, fetches, IsForced, IsHeldOrMade, IsForceFault, IsCopy, IsCopyFault}
use Rattle.alias_force.specs.Steps.{IsComputed, IsNotComputed}

-- a segment that is no leaf was made
pub computed_forced : (old new : StoreView) (g : SegmentView) (leaf : Leaf) → only_leaf g.nodes ≡ None → IsForced old new g leaf → IsComputed old new g leaf
computed_forced old new g leaf many forced = record {
  array = forced.array;
  means = forced.means;
  stands = forced.stands;
  made = subst (λ (o : Option Leaf). IsHeldOrMade old new g forced.array o leaf) many forced.comes;
}

-- ---- a segment that is one stored leaf

-- it applies nothing, and fetches each element once
record IsFetched (g : SegmentView) (leaf : Leaf) : Type 0 where
  elements : elements_of g ≡ size_of (leaf_shape leaf)
  none : applications g ≡ 0
  once : fetches g ≡ size_of (leaf_shape leaf)

fetched_leaf : (g : SegmentView) (leaf : Leaf) → IsSegment g → only_leaf g.nodes ≡ Some leaf → stored_of_leaf leaf ≡ 1 → IsFetched g leaf
fetched_leaf g leaf segment one stored =
    let is : g ≡ leaf_segment leaf g.range = one_leaf_segment g leaf segment one in
    let size : elements_of g ≡ size_of (leaf_shape leaf) = ap elements_of is in
    let all : fetches g ≡ size_of (leaf_shape leaf) * (stored_of_leaf leaf + 0) = ap fetches is in
    let factor : stored_of_leaf leaf + 0 ≡ 1 = omega (arith, stored) in
    let functions : applications g ≡ size_of (leaf_shape leaf) * 0 = ap applications is in
    record {
      elements = size;
      none = omega (arith, functions);
      once = omega (arith, all ∙ ap (λ (n : ℕ). size_of (leaf_shape leaf) * n) factor);
    }

computed_counts : (old between : StoreView) (g : SegmentView) (leaf : Leaf) → AreCounts old.counts → IsFetched g leaf → OnlyFetched old between (size_of (leaf_shape leaf)) → Computed old between (applications g) (fetches g)
computed_counts old between g leaf small is fetched = record {
  all = OnlyComputed-more old between 0 (applications g) (size_of (leaf_shape leaf)) (fetches g) (omega arith) (omega (arith, is.once)) (OnlyComputed-fetched old between (size_of (leaf_shape leaf)) fetched);
  exact = omega (arith, is.none, fetched.applied);
}

pub computed_copied : (old new : StoreView) (g : SegmentView) (leaf copy : Leaf) → AreCounts old.counts → IsSegment g → only_leaf g.nodes ≡ Some leaf → stored_of_leaf leaf ≡ 1 → IsCopy old new leaf copy → IsComputed old new g copy
computed_copied old new g leaf copy small segment one stored copied =
    let is = fetched_leaf g leaf segment one stored in
    let made = copied.made in
    record {
      array = leaf_array old (leaf_shape leaf) leaf;
      means = one_leaf_means old g leaf segment one;
      stands = copied.stands;
      made = record {
        key = made.key;
        count = made.count;
        view = made.view;
        made = record {
          between = made.made.between;
          counts = computed_counts old made.made.between g leaf small is made.made.counts;
          makes = made.made.makes;
        };
      };
    }

pub not_copied : (old new : StoreView) (g : SegmentView) (leaf : Leaf) (fault : BeginFault) → AreCounts old.counts → IsSegment g → only_leaf g.nodes ≡ Some leaf → stored_of_leaf leaf ≡ 1 → IsCopyFault old new leaf fault → IsNotComputed old new g (fault_of fault)
not_copied old new g leaf (begin.WsFull live asked) small segment one stored full =
    let is = fetched_leaf g leaf segment one stored in
    record {
      live = full.live;
      asked = full.asked ∙ sym is.elements;
      full = omega (arith, full.full, is.elements);
      unchanged = full.unchanged;
    }
not_copied old new g leaf begin.NoMemory small segment one stored why =
    let is = fetched_leaf g leaf segment one stored in
    (omega (arith, why.0, is.elements), (computed_counts old new g leaf small is why.1).all)

pub not_forced : (old new : StoreView) (g : SegmentView) (fault : ForceFault) → IsForceFault old new g fault → IsNotComputed old new g fault
not_forced old new g (force.Fault place) why = why.1
not_forced old new g (force.WsFull live asked) why = why.1
not_forced old new g force.NoMemory why = (why.1, why.2)

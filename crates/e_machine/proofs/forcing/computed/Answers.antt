use Rattle.std.proofs.Common.{◌≡◌, ◌<◌, ◌∙◌, ℕ, length, get_or, Some, sym, ap, subst, arith}
use Rattle.std.specs.Prelude.{slice_get}
use Rattle.std.proofs.lemmas.Option.{slice_get_read}
use Rattle.drag_along.specs.declared.leaves.Leaf.{Leaf}
use Rattle.drag_along.specs.declared.nodes.Node.{Node}
use Rattle.array_store.specs.Stores.{StoreView}
use Rattle.drag_along.specs.Meaning.{IsFirstFault}
use Rattle.drag_along.specs.Segments.{SegmentView, IsSegment}
use Rattle.drag_along.specs.Views.{IsWholeView}
use Rattle.apl_base.specs.declared.cells.Kind.TheVariants.{Num}
use Rattle.apl_base.specs.Array.{size_of}
use Rattle.e_machine.specs.Runs.{HasElements}
use Rattle.e_machine.proofs.FirstFaults.{fault_below}
use Rattle.e_machine.proofs.ForcedLemmas.{fault_function, answer_fault, answer_made}
use Rattle.e_machine.proofs.forcing.computed.Goals as goal

-- the node that was read is the segment's node of that number
node_there : (inside g : SegmentView) (first len : ℕ) (x : Node) → inside ≡ g → len ≡ length inside.nodes → first < len → x ≡ get_or inside.nodes first x → slice_get g.nodes first ≡ Some x
node_there inside g first len x view_is many below read =
    ap (λ (y : SegmentView). slice_get y.nodes first) (sym view_is) ∙ slice_get_read inside.nodes len first x many below read

-- the node that fails is one of them
fault_inside : (store : StoreView) (inside g : SegmentView) (k len : ℕ) → inside ≡ g → len ≡ length inside.nodes → IsFirstFault store g k → k < len
fault_inside store inside g k len view_is many fault = omega (arith, fault_below store g k fault, many, ap (λ (y : SegmentView). length y.nodes) view_is)

pub index-requires : goal.index-requires
index-requires c =
    fault_inside c.args.store.now _ _ _ _ c.s.view_is c.s.inside.nodes.ok.0 (c.in_ok-failed.ensures.fault _ c.in-Some.is)

pub place_of-place-requires : goal.place_of-place-requires
place_of-place-requires c =
    let fault = c.in_ok-failed.ensures.fault _ c.in-Some.is in
    fault_function c.args.store.now c.args.s.now _ c.index.result.now fault
    (node_there _ _ _ _ c.index.result.now c.s.view_is c.s.inside.nodes.ok.0 (fault_inside _ _ _ _ _ c.s.view_is c.s.inside.nodes.ok.0 fault) c.index.ensures)

pub returns-in-Some-clause-refused : goal.returns-in-Some-clause-refused
returns-in-Some-clause-refused c =
    let fault = c.in_ok-failed.ensures.fault _ c.in-Some.is in (
      c.requires.many,
      answer_fault c.args.store.now c.compute.new.store c.args.s.now _ c.index.result.now c.place_of-place.result
          (subst IsSegment c.s.view_is c.s.invariant) fault
          (node_there _ _ _ _ c.index.result.now c.s.view_is c.s.inside.nodes.ok.0 (fault_inside _ _ _ _ _ c.s.view_is c.s.inside.nodes.ok.0 fault) c.index.ensures)
          c.place_of-place.ensures
          (omega (arith, c.in_ok-cells.ensures.within, c.size.ensures.value, ap (λ (y : SegmentView). size_of y.shape) c.s.view_is))
          c.compute.ensures.counted,
    )

-- the leaf has the shape of the segment
whole : (key : ℕ) (inside g : SegmentView) (leaf : Leaf) → inside ≡ g → IsWholeView key inside.shape Num leaf → IsWholeView key g.shape Num leaf
whole key inside g leaf view_is h = subst (λ (y : SegmentView). IsWholeView key y.shape Num leaf) view_is h

pub returns-clause-forced : goal.returns-clause-forced
returns-clause-forced c =
    let has : HasElements c.args.store.now c.compute.new.store c.args.s.now c.compute.new.cells.items =
    c.in_ok-failed.ensures.cells c.in_default.is in
    answer_made _ _ _ c.args.s.now _ _ _ (subst IsSegment c.s.view_is c.s.invariant) c.requires.many c.counts-counts.ensures.store.counts has (whole _ _ _ _ c.s.view_is c.whole_view.ensures) c.in_ok-owner.ensures.made

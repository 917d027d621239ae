use Rattle.std.proofs.Common.{◌≡◌, List, sym, subst, ap, ◌∙◌}
use Rattle.drag_along.specs.declared.nodes.Node.{Node}
use Rattle.drag_along.specs.Nodes.{leaf_shape, AllLeaves, pending_after}
use Rattle.drag_along.specs.Segments.{SegmentView, IsSegment}
use Rattle.beating.specs.Selecting.{SelectsNodes}
use Rattle.beating.proofs.NodeLemmas.{selected_names, selected_functions, selected_stored, selected_pending}
use Rattle.beating.proofs.MeaningLemmas.{IsSelection, selection_is, is_segment, are_lawful, all_fit, selected_over, selected_is_lawful}
use Rattle.beating.proofs.selecting.select.Goals as goal
use Rattle.beating.proofs.selecting.select.Goals.{After-shape_of}

pub select_leaves-requires-clause-lawful : goal.select_leaves-requires-clause-lawful
select_leaves-requires-clause-lawful c = are_lawful c.s.inside.shape c.s.inside.nodes.items c.s.invariant.leaves

pub select_leaves-requires-clause-fits : goal.select_leaves-requires-clause-fits
select_leaves-requires-clause-fits c =
    let e : c.args.s.now.shape ≡ c.s.inside.shape = sym (ap (λ (v : SegmentView). v.shape) c.s.view_is) in
    all_fit c.args.by.now c.s.inside.shape c.s.inside.nodes.items (rw e at c.requires.fits) c.s.invariant.leaves

pub shape_of-requires : goal.shape_of-requires
shape_of-requires c =
    ap (λ (ns : List Node). pending_after ns 0) c.deref.ensures.value
    ∙ selected_pending c.args.by.now c.s.inside.nodes.items c.select_leaves.new.nodes.items c.select_leaves.ensures.nodes 0
    ∙ c.s.invariant.whole

-- the segment with its new nodes and shape
selects : (c : After-shape_of) → IsSelection c.args.by.now c.args.s.now (record { shape = c.shape_of.result; kind = c.s.inside.kind; nodes = c.select_leaves.new.nodes.items; range = c.s.inside.range; may_fail = c.s.inside.may_fail })
selects c =
    selection_is c.args.by.now c.args.s.now (record { shape = c.shape_of.result; kind = c.s.inside.kind; nodes = c.select_leaves.new.nodes.items; range = c.s.inside.range; may_fail = c.s.inside.may_fail })
    (subst IsSegment c.s.view_is c.s.invariant)
    (ap (λ (v : SegmentView). v.kind) c.s.view_is)
    (ap (λ (v : SegmentView). v.range) c.s.view_is)
    (ap (λ (v : SegmentView). v.may_fail) c.s.view_is)
    (subst (λ (v : SegmentView). SelectsNodes c.args.by.now v.nodes c.select_leaves.new.nodes.items) c.s.view_is c.select_leaves.ensures.nodes)
    c.select_leaves.ensures.lawful
    (λ ns h. c.shape_of.ensures ns (subst (AllLeaves (λ leaf. leaf_shape leaf ≡ ns)) (sym c.deref.ensures.value) h))

pub invariant_of-s : goal.invariant_of-s
invariant_of-s c = is_segment _ _ _ (selects (goal.at.invariant_of-s c).After-shape_of)

pub returns-clause-shape : goal.returns-clause-shape
returns-clause-shape c = (selects (goal.at.returns-clause-shape c).After-shape_of).shape

pub returns-clause-segment : goal.returns-clause-segment
returns-clause-segment c = is_segment _ _ _ (selects (goal.at.returns-clause-segment c).After-shape_of)

pub returns-clause-lawful : goal.returns-clause-lawful
returns-clause-lawful c = λ store h.
    selected_is_lawful store _ _ _ (selects (goal.at.returns-clause-lawful c).After-shape_of) c.requires.safe h

pub returns-clause-meaning : goal.returns-clause-meaning
returns-clause-meaning c = λ store h.
    (selected_over store _ _ _ (selects (goal.at.returns-clause-meaning c).After-shape_of) c.requires.safe h).meaning

pub returns-clause-leaves : goal.returns-clause-leaves
returns-clause-leaves c = λ key.
    selected_names c.args.by.now c.args.s.now.nodes c.select_leaves.new.nodes.items (selects (goal.at.returns-clause-leaves c).After-shape_of).nodes key

pub returns-clause-functions : goal.returns-clause-functions
returns-clause-functions c =
    selected_functions c.args.by.now c.args.s.now.nodes c.select_leaves.new.nodes.items (selects (goal.at.returns-clause-functions c).After-shape_of).nodes

pub returns-clause-stored : goal.returns-clause-stored
returns-clause-stored c =
    selected_stored c.args.by.now c.args.s.now.nodes c.select_leaves.new.nodes.items (selects (goal.at.returns-clause-stored c).After-shape_of).nodes

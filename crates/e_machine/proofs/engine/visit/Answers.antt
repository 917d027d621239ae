use Rattle.std.proofs.Common.{◌≡◌, ◌∙◌, ◌*◌, ℕ, List, ◌++◌, length, take, Option, None, refl, sym, ap, subst}
use Rattle.std.specs.Prelude.{IsSome}
use Rattle.array_store.specs.Stores.{StoreView}
use Rattle.array_store.specs.Counting.{OnlyComputed}
use Rattle.drag_along.specs.declared.nodes.Node.{Node}
use Rattle.drag_along.specs.Nodes.{AllLeaves, functions_in, stored_in, pending_after}
use Rattle.drag_along.specs.Segments.{SegmentView, IsSegment}
use Rattle.e_machine.specs.declared.columns.Columns.{Columns}
use Rattle.e_machine.specs.Runs.{IsReadable, IsRun}
use Rattle.e_machine.proofs.FirstNodes.{take_operands, take_readable, all_readable}
use Rattle.e_machine.proofs.Visits.{visit_costs, visit_fails, visit_passes, visit_gains}
use Rattle.e_machine.proofs.engine.visit.Goals as goal

-- the nodes that were run are the first of the segment's
nodes : (ns : List Node) (inside g : SegmentView) → ns ≡ inside.nodes → inside ≡ g → ns ≡ g.nodes
nodes ns inside g e view_is = e ∙ ap (λ (x : SegmentView). x.nodes) view_is

costs : (old new : StoreView) (n limit : ℕ) (ns : List Node) (inside g : SegmentView) → ns ≡ inside.nodes → inside ≡ g → OnlyComputed old new (n * functions_in (take limit ns)) (n * stored_in (take limit ns)) → OnlyComputed old new (n * functions_in g.nodes) (n * stored_in g.nodes)
costs old new n limit ns inside g e view_is h =
    visit_costs old new n limit g.nodes
    (subst (λ (xs : List Node). OnlyComputed old new (n * functions_in (take limit xs)) (n * stored_in (take limit xs))) (nodes ns inside g e view_is) h)

-- the run over the first nodes, by what it answered
ran : (old new : StoreView) (first n limit : ℕ) (ns : List Node) (inside g : SegmentView) (columns : Columns) (o p : Option ℕ) → ns ≡ inside.nodes → inside ≡ g → IsRun old new first n (take limit ns) columns o → o ≡ p → IsRun old new first n (take limit g.nodes) columns p
ran old new first n limit ns inside g columns o p e view_is run is =
    subst (λ (xs : List Node). IsRun old new first n (take limit xs) columns p) (nodes ns inside g e view_is) (subst (IsRun old new first n (take limit ns) columns) is run)

-- they are all nodes
whole : (limit len : ℕ) (inside g : SegmentView) → inside ≡ g → len ≡ length inside.nodes → limit ≡ len → limit ≡ length g.nodes
whole limit len inside g view_is many same = same ∙ many ∙ ap (λ (x : SegmentView). length x.nodes) view_is

pub run-requires-clause-operands : goal.run-requires-clause-operands
run-requires-clause-operands c =
    let seg : IsSegment c.args.s.now = subst IsSegment c.s.view_is c.s.invariant in
    subst (λ (xs : List Node). IsSome (pending_after (take c.args.limit xs) 0)) (sym (nodes _ _ _ c.deref.ensures.value c.s.view_is))
    (take_operands c.args.limit c.args.s.now.nodes 0 (rw seg.whole refl))

pub run-requires-clause-readable : goal.run-requires-clause-readable
run-requires-clause-readable c =
    let seg : IsSegment c.args.s.now = subst IsSegment c.s.view_is c.s.invariant in
    subst (λ (xs : List Node). AllLeaves (IsReadable c.args.store.now c.args.first c.args.count) (take c.args.limit xs)) (sym (nodes _ _ _ c.deref.ensures.value c.s.view_is))
    (take_readable (IsReadable c.args.store.now c.args.first c.args.count) c.args.limit c.args.s.now.nodes
    (all_readable c.args.store.now c.args.store.now c.args.s.now.shape c.args.first c.args.count c.args.s.now.nodes refl c.requires.places seg.leaves c.requires.leaves))

pub returns-in_err-failed-clause-counted : goal.returns-in_err-failed-clause-counted
returns-in_err-failed-clause-counted c = costs _ _ c.args.count c.args.limit _ _ _ c.deref.ensures.value c.s.view_is c.run.ensures.counted

pub returns-in-Some-clause-counted : goal.returns-in-Some-clause-counted
returns-in-Some-clause-counted c = costs _ _ c.args.count c.args.limit _ _ _ c.deref.ensures.value c.s.view_is c.run.ensures.counted

pub returns-else-limit-len-clause-counted : goal.returns-else-limit-len-clause-counted
returns-else-limit-len-clause-counted c = costs _ _ c.args.count c.args.limit _ _ _ c.deref.ensures.value c.s.view_is c.run.ensures.counted

pub returns-in-Some-clause-visit : goal.returns-in-Some-clause-visit
returns-in-Some-clause-visit c =
    let seg : IsSegment c.args.s.now = subst IsSegment c.s.view_is c.s.invariant in
    visit_fails _ c.args.s.now c.args.limit c.args.first c.args.count c.in-Some.failed seg c.requires.limit
    (ran c.args.store.now c.run.new.store c.args.first c.args.count c.args.limit _ _ c.args.s.now c.run.new.pending _ _ c.deref.ensures.value c.s.view_is c.in_ok-failed.ensures.run c.in-Some.is)

pub returns-in_ok-extend_from_slice-clause-visit : goal.returns-in_ok-extend_from_slice-clause-visit
returns-in_ok-extend_from_slice-clause-visit c =
    let seg : IsSegment c.args.s.now = subst IsSegment c.s.view_is c.s.invariant in
    let run = ran c.args.store.now c.run.new.store c.args.first c.args.count c.args.limit _ _ c.args.s.now c.run.new.pending _ None c.deref.ensures.value c.s.view_is c.in_ok-failed.ensures.run c.in_default.is in
    let all : c.args.limit ≡ length c.args.s.now.nodes = whole _ _ _ _ c.s.view_is (c.len.ensures ∙ c.s.inside.nodes.ok.0) c.if-limit-len.true in
    let gained : c.extend_from_slice.new.self.items ≡ c.args.cells.now.items ++ c.run.new.pending.cells.items =
    c.in_ok-extend_from_slice.ensures.items ∙ ap (λ xs. c.args.cells.now.items ++ xs) c.deref-then-limit-len.ensures.value in
    visit_gains _ _ c.args.s.now c.args.limit c.args.first c.args.count c.run.new.pending c.args.cells.now.items _ seg c.requires.many all run.0 run.1 gained

pub returns-else-limit-len-clause-visit : goal.returns-else-limit-len-clause-visit
returns-else-limit-len-clause-visit c =
    let seg : IsSegment c.args.s.now = subst IsSegment c.s.view_is c.s.invariant in
    let run = ran c.args.store.now c.run.new.store c.args.first c.args.count c.args.limit _ _ c.args.s.now c.run.new.pending _ None c.deref.ensures.value c.s.view_is c.in_ok-failed.ensures.run c.in_default.is in
    visit_passes _ _ c.args.s.now c.args.limit c.args.first c.args.count c.run.new.pending c.args.cells.now.items c.args.cells.now.items seg run.0
    (λ all. c.if-limit-len.false (all ∙ sym (ap (λ (x : SegmentView). length x.nodes) c.s.view_is) ∙ sym (c.len.ensures ∙ c.s.inside.nodes.ok.0)))

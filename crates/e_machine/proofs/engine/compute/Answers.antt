use Rattle.std.proofs.Common.{◌≡◌, ◌∙◌, ◌+◌, ◌≤◌, ℕ, Option, unwrap_or, length, sym, ap, subst, arith}
use Rattle.apl_base.specs.Array.{size_of}
use Rattle.drag_along.specs.Segments.{SegmentView, IsSegment}
use Rattle.e_machine.specs.Runs.{IsVisit}
use Rattle.e_machine.proofs.FirstNodes.{leaves_counted}
use Rattle.e_machine.proofs.FirstFaults.{Finds, find_next, find_finds, find_computes, search_costs, search_costs_next}
use Rattle.e_machine.proofs.engine.compute.Goals as goal

-- the size is that of the segment
size_is : (n : ℕ) (inside g : SegmentView) → inside ≡ g → n ≡ size_of inside.shape → n ≡ size_of g.shape
size_is n inside g view_is is = is ∙ ap (λ (x : SegmentView). size_of x.shape) view_is

-- the limit is that of the search
limit_is : (failed : Option ℕ) (inside g : SegmentView) (len limit : ℕ) → inside ≡ g → len ≡ length inside.nodes → limit ≡ unwrap_or failed len → limit ≡ unwrap_or failed (length g.nodes)
limit_is failed inside g len limit view_is many is = is ∙ ap (unwrap_or failed) (many ∙ ap (λ (x : SegmentView). length x.nodes) view_is)

pub visit-requires-clause-leaves : goal.visit-requires-clause-leaves
visit-requires-clause-leaves c =
    leaves_counted c.args.store.now c.loop-done.store c.args.s.now.nodes c.loop-done.invariant.0.searched.cost.only c.requires.leaves

pub returns-in_err-earlier-clause-counted : goal.returns-in_err-earlier-clause-counted
returns-in_err-earlier-clause-counted c =
    let within : c.loop-done.done + c.min-count.result ≤ size_of c.args.s.now.shape = omega (arith, c.min-count.ensures, c.loop-done-test.true, size_is _ _ _ c.s.view_is c.size-size.ensures.value) in
    search_costs_next _ _ _ c.args.s.now _ _ _ _ c.loop-done.invariant.0.searched within c.visit.ensures.counted

pub loop-done-preserved : goal.loop-done-preserved
loop-done-preserved c =
    let within : c.loop-done.done + c.min-count.result ≤ size_of c.args.s.now.shape = omega (arith, c.min-count.ensures, c.loop-done-test.true, size_is _ _ _ c.s.view_is c.size-size.ensures.value) in (
      subst (λ (o : Option ℕ). Finds c.args.store.now c.visit.new.store c.args.s.now (c.loop-done.done + c.min-count.result) o c.visit.new.cells.items) (sym c.or-failed.ensures)
          (find_next _ _ _ c.args.s.now _ _ _ _ c.loop-done.failed c.in_ok-earlier.earlier c.loop-done.invariant.0 within
          (subst (λ (limit : ℕ). IsVisit c.loop-done.store c.visit.new.store c.args.s.now limit c.loop-done.done c.min-count.result c.loop-done.cells.items c.visit.new.cells.items c.in_ok-earlier.earlier)
          (limit_is c.loop-done.failed _ _ _ _ c.s.view_is (c.len.ensures ∙ c.s.inside.nodes.ok.0) c.unwrap_or-limit.ensures) c.in_ok-earlier.ensures.visit) c.visit.ensures.counted),
      c.visit.ensures.store,
      omega (arith, c.min-count.ensures, c.loop-done-test.true),
    )

pub returns-clause-fault : goal.returns-clause-fault
returns-clause-fault c =
    find_finds _ _ c.args.s.now _ _ _ c.loop-done.invariant.0 (omega (arith, c.loop-done-test.false, size_is _ _ _ c.s.view_is c.size-size.ensures.value))

pub returns-clause-cells : goal.returns-clause-cells
returns-clause-cells c = λ none.
    let is : c.size-size.result ≡ size_of c.args.s.now.shape = size_is _ _ _ c.s.view_is c.size-size.ensures.value in
    find_computes _ _ c.args.s.now _ _ _ (subst IsSegment c.s.view_is c.s.invariant) c.requires.many c.loop-done.invariant.0
    (omega (arith, is, c.loop-done.invariant.2)) (omega (arith, is, c.loop-done-test.false)) none

pub returns-clause-counted : goal.returns-clause-counted
returns-clause-counted c =
    search_costs _ _ c.args.s.now _ _ _ c.loop-done.invariant.0.searched (omega (arith, size_is _ _ _ c.s.view_is c.size-size.ensures.value, c.loop-done.invariant.2))

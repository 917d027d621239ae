use Rattle.std.proofs.Common.{◌≡◌, ◌∙◌, sym, ap, ◌≤◌, false, arith}
use Rattle.apl_base.specs.Array.{size_of, place_at, index_at}
use Rattle.apl_base.proofs.Sizes.{place_at-index_at}
use Rattle.iter_stack.proofs.Walks.{Next, walk-next, walk-all}
use Rattle.iter_stack.proofs.tests.count_in_order.Goals as goal

pub place_of-place-requires : goal.place_of-place-requires
place_of-place-requires c =
    let next : Next false c.args.shape.now c.loop-index.count c.in-Some.index.items c.next.new.self =
    walk-next _ _ _ _ _ (sym c.loop-index.invariant.0 ∙ c.in-Some.ensures.steps)
    in
    rw c.as_slice.ensures next.lawful

pub prove_eq-unreachable-requires : goal.prove_eq-unreachable-requires
prove_eq-unreachable-requires c =
    let next : Next false c.args.shape.now c.loop-index.count c.in-Some.index.items c.next.new.self =
    walk-next _ _ _ _ _ (sym c.loop-index.invariant.0 ∙ c.in-Some.ensures.steps)
    in
    let same : c.as_slice.result.now ≡ index_at c.args.shape.now c.loop-index.count = c.as_slice.ensures ∙ next.is in
    c.if-prove_eq.true (c.place_of-place.ensures.place ∙ ap (place_at c.args.shape.now) same ∙ place_at-index_at _ _ next.below)

pub loop-index-preserved-in-Some : goal.loop-index-preserved-in-Some
loop-index-preserved-in-Some c =
    let next : Next false c.args.shape.now c.loop-index.count c.in-Some.index.items c.next.new.self =
    walk-next _ _ _ _ _ (sym c.loop-index.invariant.0 ∙ c.in-Some.ensures.steps)
    in
    (next.rest, omega (arith, next.below))

pub loop-index-preserved : goal.loop-index-preserved
loop-index-preserved c =
    let next : Next false c.args.shape.now c.loop-index.count c.in-Some.index.items c.next.new.self =
    walk-next _ _ _ _ _ (sym c.loop-index.invariant.0 ∙ c.in-Some.ensures.steps)
    in
    (next.rest, omega (arith, next.below))

pub returns : goal.returns
returns c =
    let all : size_of c.args.shape.now ≤ c.loop-index.count = walk-all false _ _ (sym c.loop-index.invariant.0 ∙ c.in-None.ensures.steps.0) in
    omega (arith, c.loop-index.invariant.1)

use Rattle.std.proofs.Common.{ℤ, to_z, of_z, ◌-ℤ◌, ap, ◌∙◌, arith}
use mir.Syntax.{w128}
use Rattle.beating.specs.Runs.{vector_cell}
use Rattle.beating.proofs.RunLemmas.{run_of_one, vector_of, lies_after, number_is, difference_is, rising_start, rising_more, rising_broken, rising_end, same_difference, other_difference}
use Rattle.beating.proofs.PositionLemmas.{cells_positions}
use Rattle.beating.proofs.runs.run_of_cells.Goals as goal

pub returns-then-n-eq1-clause-run : goal.returns-then-n-eq1-clause-run
returns-then-n-eq1-clause-run c =
    run_of_one _ (vector_cell c.args.store.now c.args.owner c.args.desc.now) _ c.size-n.result
    (vector_of c.args.store.now c.args.owner c.args.desc.now c.size-n.result c.requires.vector c.size-n.ensures.value)
    c.if-n-eq1.true (number_is c.cell_at-from.result c.cell_at-from.ensures.number ∙ c.cell_at-from.ensures.value)

pub loop-j-init : goal.loop-j-init
loop-j-init c =
    let x = c.cell_at-from.result in
    let y = c.cell_at-last.result in
    let from_is = number_is x c.cell_at-from.ensures.number in
    let last_is = number_is y c.cell_at-last.ensures.number in
    rising_start c.args.store.now c.cell_at-from.new.store c.cell_at-last.new.store c.args.owner c.args.desc.now _ _ _ x y
    c.cell_at-from.ensures.counted c.cell_at-last.ensures.counted c.cell_at-from.ensures.number c.cell_at-last.ensures.number
    c.cell_at-from.ensures.value c.cell_at-last.ensures.value from_is last_is
    (ap (λ (z : ℤ). to_z w128 (of_z w128 (z -ℤ to_z w128 (of_z w128 x)))) last_is
    ∙ ap (λ (z : ℤ). to_z w128 (of_z w128 (y -ℤ z))) from_is
    ∙ difference_is y x c.cell_at-last.ensures.number c.cell_at-from.ensures.number)

pub cell_at-next-requires-clause-lies : goal.cell_at-next-requires-clause-lies
cell_at-next-requires-clause-lies c = lies_after c.args.store.now c.loop-j.store c.loop-j.j c.args.owner c.args.desc.now c.loop-j.invariant.store c.requires.lies

pub returns-then-next-last-clause-run : goal.returns-then-next-last-clause-run
returns-then-next-last-clause-run c =
    rising_broken c.args.store.now c.loop-j.store c.args.owner c.args.desc.now _ _ _ c.cell_at-next.result c.size-n.result c.loop-j.j
    c.loop-j.invariant c.requires.vector c.size-n.ensures.value c.loop-j.auto.j c.loop-j-test.true c.cell_at-next.ensures.value
    (other_difference c.cell_at-next.result _ c.cell_at-last.result c.cell_at-from.result
    c.cell_at-next.ensures.number c.cell_at-last.ensures.number c.cell_at-from.ensures.number c.if-next-last.true)

pub loop-j-preserved : goal.loop-j-preserved
loop-j-preserved c =
    let x = c.cell_at-next.result in
    rising_more c.args.store.now c.loop-j.store c.cell_at-next.new.store c.args.owner c.args.desc.now _ _ _ _ x c.loop-j.j
    c.loop-j.invariant c.loop-j.auto.j c.cell_at-next.ensures.counted c.cell_at-next.ensures.number c.cell_at-next.ensures.value
    (number_is x c.cell_at-next.ensures.number)
    (same_difference x _ (to_z w128 (of_z w128 c.cell_at-last.result) -ℤ to_z w128 (of_z w128 c.cell_at-from.result)) c.cell_at-next.ensures.number c.loop-j.invariant.number c.if-next-last.false)

pub returns-clause-run : goal.returns-clause-run
returns-clause-run c =
    rising_end c.args.store.now c.loop-j.store c.args.owner c.args.desc.now _ _ _ c.size-n.result c.loop-j.j
    c.loop-j.invariant c.requires.vector c.size-n.ensures.value (omega arith) c.loop-j-test.false

pub returns-then-n-eq1-clause-positions : goal.returns-then-n-eq1-clause-positions
returns-then-n-eq1-clause-positions c =
    cells_positions c.args.store.now c.args.owner c.args.desc.now _ c.counts-counts.ensures.store c.size-n.ensures.lawful c.requires.lies
    (run_of_one _ (vector_cell c.args.store.now c.args.owner c.args.desc.now) _ c.size-n.result
    (vector_of c.args.store.now c.args.owner c.args.desc.now c.size-n.result c.requires.vector c.size-n.ensures.value)
    c.if-n-eq1.true (number_is c.cell_at-from.result c.cell_at-from.ensures.number ∙ c.cell_at-from.ensures.value))

pub returns-clause-positions : goal.returns-clause-positions
returns-clause-positions c =
    cells_positions c.args.store.now c.args.owner c.args.desc.now _ c.counts-counts.ensures.store c.size-n.ensures.lawful c.requires.lies
    (rising_end c.args.store.now c.loop-j.store c.args.owner c.args.desc.now _ _ _ c.size-n.result c.loop-j.j
    c.loop-j.invariant c.requires.vector c.size-n.ensures.value (omega arith) c.loop-j-test.false)

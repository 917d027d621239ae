use mir.Syntax.{w128}
use Rattle.std.proofs.Common.{◌≡◌, ◌∙◌, length, vec_len, arith, rules}
use Rattle.std.proofs.lemmas.Int.{to_z-of_z}
use Rattle.made_fns.specs.Lines.{turned_cell}
use Rattle.made_fns.proofs.TurnLemmas.{line_facts, line_known, cell_is, grown, grown_long}
use Rattle.made_fns.proofs.turns.turn_places.Goals as goal

pub nonzero_div-number : goal.nonzero_div-number
nonzero_div-number c = (line_facts c.args.lengths.now c.args.along _ c.loop-place.place c.size_behind-run.ensures c.requires.within (omega (arith, c.loop-place-test.true, c.requires.items))).some

pub nonzero_rem-number : goal.nonzero_rem-number
nonzero_rem-number c = (line_facts c.args.lengths.now c.args.along _ c.loop-place.place c.size_behind-run.ensures c.requires.within (omega (arith, c.loop-place-test.true, c.requires.items))).axis

pub turn_of-requires-clause-axis : goal.turn_of-requires-clause-axis
turn_of-requires-clause-axis c = (line_facts c.args.lengths.now c.args.along _ c.loop-place.place c.size_behind-run.ensures c.requires.within (omega (arith, c.loop-place-test.true, c.requires.items))).axis

pub turn_of-requires-clause-run : goal.turn_of-requires-clause-run
turn_of-requires-clause-run c = (line_facts c.args.lengths.now c.args.along _ c.loop-place.place c.size_behind-run.ensures c.requires.within (omega (arith, c.loop-place-test.true, c.requires.items))).some

pub turn_of-requires-clause-few : goal.turn_of-requires-clause-few
turn_of-requires-clause-few c = omega (arith, (line_facts c.args.lengths.now c.args.along _ c.loop-place.place c.size_behind-run.ensures c.requires.within (omega (arith, c.loop-place-test.true, c.requires.items))).lines, c.requires.few)

pub turn_of-requires-clause-line : goal.turn_of-requires-clause-line
turn_of-requires-clause-line c = line_known c.args.lengths.now c.args.along _ c.loop-place.place c.args.turns.now (line_facts c.args.lengths.now c.args.along _ c.loop-place.place c.size_behind-run.ensures c.requires.within (omega (arith, c.loop-place-test.true, c.requires.items))) c.requires.turns

pub turned_number-from-requires-clause-number : goal.turned_number-from-requires-clause-number
turned_number-from-requires-clause-number c = (line_facts c.args.lengths.now c.args.along _ c.loop-place.place c.size_behind-run.ensures c.requires.within (omega (arith, c.loop-place-test.true, c.requires.items))).number

pub turned_number-from-requires-clause-axis : goal.turned_number-from-requires-clause-axis
turned_number-from-requires-clause-axis c = omega (arith, (line_facts c.args.lengths.now c.args.along _ c.loop-place.place c.size_behind-run.ensures c.requires.within (omega (arith, c.loop-place-test.true, c.requires.items))).short, c.requires.few)

pub item_at-cell-requires : goal.item_at-cell-requires
item_at-cell-requires c = omega (arith, (line_facts c.args.lengths.now c.args.along _ c.loop-place.place c.size_behind-run.ensures c.requires.within (omega (arith, c.loop-place-test.true, c.requires.items))).source _ c.turned_number-from.ensures.below, c.requires.items)

pub overflow_mul-from : goal.overflow_mul-from
overflow_mul-from c = omega (arith, (line_facts c.args.lengths.now c.args.along _ c.loop-place.place c.size_behind-run.ensures c.requires.within (omega (arith, c.loop-place-test.true, c.requires.items))).source _ c.turned_number-from.ensures.below, c.requires.few)

pub overflow_add-place : goal.overflow_add-place
overflow_add-place c = omega (arith, (line_facts c.args.lengths.now c.args.along _ c.loop-place.place c.size_behind-run.ensures c.requires.within (omega (arith, c.loop-place-test.true, c.requires.items))).source _ c.turned_number-from.ensures.below, c.requires.few)

pub unreachable-requires : goal.unreachable-requires
unreachable-requires c =
    let many : length c.loop-place.cells.items ≡ vec_len c.loop-place.cells = search rules in
    omega (arith, many, grown_long _ c.loop-place.place _ c.loop-place.invariant.0, c.loop-place.invariant.1, c.in_default.ensures.full, c.loop-place-test.true)

pub loop-place-preserved : goal.loop-place-preserved
loop-place-preserved c =
    let by = to_z-of_z w128 c.turn_of.result (record { sfits = c.turn_of.type_inv }) in
    let there = rw by at c.turned_number-from.ensures.value in
    let cell = to_z-of_z w128 c.item_at-cell.result (record { sfits = c.item_at-cell.type_inv }) in
    let pushed = rw cell at c.in-Ok.ensures.items in (
      grown (turned_cell c.args.lengths.now c.args.along c.args.turns.now c.args.items.now) c.loop-place.place _ _ c.item_at-cell.result c.loop-place.invariant.0 pushed
          (c.item_at-cell.ensures ∙ cell_is c.args.lengths.now c.args.along _ c.loop-place.place _ _ c.args.turns.now c.args.items.now c.size_behind-run.ensures c.turn_of.ensures.turn there),
      omega (arith, c.loop-place.invariant.1, c.in-Ok.ensures.capacity),
    )

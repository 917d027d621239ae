use mir.Syntax.{w128}
use Rattle.std.proofs.Common.{◌≡◌, ◌∙◌, length, vec_len, arith, rules}
use Rattle.std.proofs.lemmas.Int.{to_z-of_z}
use Rattle.made_fns.specs.Lines.{spread_cell}
use Rattle.made_fns.proofs.SpreadLemmas.{spread_facts, source_within, spread_is}
use Rattle.made_fns.proofs.TurnLemmas.{grown, grown_long}
use Rattle.made_fns.proofs.spreads.spread.Goals as goal

pub overflow_mul-base : goal.overflow_mul-base
overflow_mul-base c =
    let f = spread_facts c.args.lengths.now c.args.along _ c.args.axis c.loop-place.place c.size_behind-run.ensures c.requires.along (omega (arith, c.loop-place-test.true, c.size_within-size.ensures)) in
    rw (c.requires.sources) (omega (arith, f.lines, c.requires.few))

pub nonzero_div-base : goal.nonzero_div-base
nonzero_div-base c =
    let f = spread_facts c.args.lengths.now c.args.along _ c.args.axis c.loop-place.place c.size_behind-run.ensures c.requires.along (omega (arith, c.loop-place-test.true, c.size_within-size.ensures)) in
    rw (c.requires.sources) f.line

pub overflow_mul-base-in-loop-place : goal.overflow_mul-base-in-loop-place
overflow_mul-base-in-loop-place c =
    let f = spread_facts c.args.lengths.now c.args.along _ c.args.axis c.loop-place.place c.size_behind-run.ensures c.requires.along (omega (arith, c.loop-place-test.true, c.size_within-size.ensures)) in
    omega (arith, f.wide, c.requires.fewer)

pub overflow_mul-base-in-loop-place-2 : goal.overflow_mul-base-in-loop-place-2
overflow_mul-base-in-loop-place-2 c =
    let f = spread_facts c.args.lengths.now c.args.along _ c.args.axis c.loop-place.place c.size_behind-run.ensures c.requires.along (omega (arith, c.loop-place-test.true, c.size_within-size.ensures)) in
    rw (c.requires.sources) (omega (arith, f.outer, c.requires.fewer))

pub nonzero_rem-base : goal.nonzero_rem-base
nonzero_rem-base c =
    (spread_facts c.args.lengths.now c.args.along _ c.args.axis c.loop-place.place c.size_behind-run.ensures c.requires.along (omega (arith, c.loop-place-test.true, c.size_within-size.ensures))).some

pub overflow_add-base : goal.overflow_add-base
overflow_add-base c =
    let f = spread_facts c.args.lengths.now c.args.along _ c.args.axis c.loop-place.place c.size_behind-run.ensures c.requires.along (omega (arith, c.loop-place-test.true, c.size_within-size.ensures)) in
    rw (c.requires.sources) (omega (arith, f.outer, f.rest, f.short, c.requires.few, c.requires.fewer))

pub nonzero_div-place : goal.nonzero_div-place
nonzero_div-place c = nonzero_rem-base c

pub nonzero_rem-place : goal.nonzero_rem-place
nonzero_rem-place c =
    let f = spread_facts c.args.lengths.now c.args.along _ c.args.axis c.loop-place.place c.size_behind-run.ensures c.requires.along (omega (arith, c.loop-place-test.true, c.size_within-size.ensures)) in
    rw (c.requires.sources) f.axis

pub bounds-sources-place : goal.bounds-sources-place
bounds-sources-place c =
    let f = spread_facts c.args.lengths.now c.args.along _ c.args.axis c.loop-place.place c.size_behind-run.ensures c.requires.along (omega (arith, c.loop-place-test.true, c.size_within-size.ensures)) in
    rw (c.requires.sources) f.number

pub cell_from-cell-requires-clause-within : goal.cell_from-cell-requires-clause-within
cell_from-cell-requires-clause-within c =
    let f = spread_facts c.args.lengths.now c.args.along _ c.args.axis c.loop-place.place c.size_behind-run.ensures c.requires.along (omega (arith, c.loop-place-test.true, c.size_within-size.ensures)) in
    source_within c.args.lengths.now c.args.along _ c.args.axis c.loop-place.place _ c.args.items.now _ f c.requires.sources c.requires.items (c.requires.within _ (rw (c.requires.sources) f.number))

pub unreachable-requires : goal.unreachable-requires
unreachable-requires c =
    let many : length c.loop-place.cells.items ≡ vec_len c.loop-place.cells = search rules in
    omega (arith, many, grown_long _ c.loop-place.place _ c.loop-place.invariant.0, c.loop-place.invariant.1, c.in_default.ensures.full, c.loop-place-test.true)

pub loop-place-preserved : goal.loop-place-preserved
loop-place-preserved c =
    let cell = to_z-of_z w128 c.cell_from-cell.result (record { sfits = c.cell_from-cell.type_inv }) in
    let pushed = rw cell at c.in-Ok.ensures.items in
    let blank = to_z-of_z w128 c.args.blank c.ranges.blank in
    let before = rw blank at c.loop-place.invariant.0 in
    let is = rw blank at c.cell_from-cell.ensures in (
      rw blank (grown (spread_cell c.args.lengths.now c.args.along c.args.axis c.args.sources.now c.args.items.now c.args.blank) c.loop-place.place _ _ c.cell_from-cell.result before pushed
          (is ∙ spread_is c.args.lengths.now c.args.along _ c.args.axis c.loop-place.place _ c.args.sources.now c.args.items.now c.args.blank c.size_behind-run.ensures c.requires.sources)),
      omega (arith, c.loop-place.invariant.1, c.in-Ok.ensures.capacity),
    )

use mir.Syntax.{w128}
use Rattle.std.proofs.Common.{◌∙◌, map, ap, arith}
use Rattle.std.proofs.lemmas.Int.{to_z-of_z}
use Rattle.apl_base.specs.Selection.{upward}
use Rattle.made_fns.specs.Lines.{turned_cell}
use Rattle.made_fns.proofs.TurnLemmas.{line_facts, line_known, grown_long}
use Rattle.made_fns.proofs.BlockLemmas.{size_facts, block_facts, block_step, blocks_all}
use Rattle.made_fns.proofs.turns.turn_blocks.Goals as goal

pub overflow_mul-size : goal.overflow_mul-size
overflow_mul-size c = omega (arith, (size_facts c.args.lengths.now c.args.along _ c.size_behind-run.ensures c.requires.within c.requires.some).1, c.requires.few)

pub nonzero_div-block-end : goal.nonzero_div-block-end
nonzero_div-block-end c = (size_facts c.args.lengths.now c.args.along _ c.size_behind-run.ensures c.requires.within c.requires.some).0

pub turn_of-requires-clause-run : goal.turn_of-requires-clause-run
turn_of-requires-clause-run c =
    let f = block_facts c.args.lengths.now c.args.along _ c.loop-block.block _ c.size_behind-run.ensures c.requires.within c.requires.items c.loop-block-test.true c.requires.some in
    f.some

pub turn_of-requires-clause-few : goal.turn_of-requires-clause-few
turn_of-requires-clause-few c =
    let f = block_facts c.args.lengths.now c.args.along _ c.loop-block.block _ c.size_behind-run.ensures c.requires.within c.requires.items c.loop-block-test.true c.requires.some in
    omega (arith, f.wide, c.requires.few)

pub turn_of-requires-clause-line : goal.turn_of-requires-clause-line
turn_of-requires-clause-line c =
    let f = block_facts c.args.lengths.now c.args.along _ c.loop-block.block _ c.size_behind-run.ensures c.requires.within c.requires.items c.loop-block-test.true c.requires.some in
    line_known c.args.lengths.now c.args.along _ _ c.args.turns.now (line_facts c.args.lengths.now c.args.along _ _ c.size_behind-run.ensures c.requires.within f.start) c.requires.turns

pub overflow_mul-number : goal.overflow_mul-number
overflow_mul-number c =
    let f = block_facts c.args.lengths.now c.args.along _ c.loop-block.block _ c.size_behind-run.ensures c.requires.within c.requires.items c.loop-block-test.true c.requires.some in
    omega (arith, f.middle _ c.turned_number-number.ensures.below, f.wide, c.requires.few)

pub overflow_add-start : goal.overflow_add-start
overflow_add-start c =
    let f = block_facts c.args.lengths.now c.args.along _ c.loop-block.block _ c.size_behind-run.ensures c.requires.within c.requires.items c.loop-block-test.true c.requires.some in
    omega (arith, f.middle _ c.turned_number-number.ensures.below, f.end, c.requires.few)

pub overflow_add-start-in-loop-block : goal.overflow_add-start-in-loop-block
overflow_add-start-in-loop-block c =
    let f = block_facts c.args.lengths.now c.args.along _ c.loop-block.block _ c.size_behind-run.ensures c.requires.within c.requires.items c.loop-block-test.true c.requires.some in
    omega (arith, f.end, c.requires.few)

pub append_turned-requires-clause-second : goal.append_turned-requires-clause-second
append_turned-requires-clause-second c =
    let f = block_facts c.args.lengths.now c.args.along _ c.loop-block.block _ c.size_behind-run.ensures c.requires.within c.requires.items c.loop-block-test.true c.requires.some in
    omega (arith, f.middle _ c.turned_number-number.ensures.below)

pub append_turned-requires-clause-within : goal.append_turned-requires-clause-within
append_turned-requires-clause-within c =
    let f = block_facts c.args.lengths.now c.args.along _ c.loop-block.block _ c.size_behind-run.ensures c.requires.within c.requires.items c.loop-block-test.true c.requires.some in
    omega (arith, f.end, c.requires.items)

pub append_turned-requires-clause-room : goal.append_turned-requires-clause-room
append_turned-requires-clause-room c =
    let f = block_facts c.args.lengths.now c.args.along _ c.loop-block.block _ c.size_behind-run.ensures c.requires.within c.requires.items c.loop-block-test.true c.requires.some in
    omega (arith, grown_long _ _ _ c.loop-block.invariant.0, c.loop-block.invariant.1, f.end, c.requires.items)

pub loop-block-preserved : goal.loop-block-preserved
loop-block-preserved c =
    let f = block_facts c.args.lengths.now c.args.along _ c.loop-block.block _ c.size_behind-run.ensures c.requires.within c.requires.items c.loop-block-test.true c.requires.some in
    let by = to_z-of_z w128 c.turn_of.result (record { sfits = c.turn_of.type_inv }) in
    let there = rw by at c.turned_number-number.ensures.value in (
      block_step c.args.lengths.now c.args.along _ c.loop-block.block _ _ c.args.turns.now c.args.items.now _ _ f c.size_behind-run.ensures c.requires.items c.requires.alike c.turn_of.ensures.turn there c.turned_number-number.ensures.below
          c.loop-block.invariant.0 c.append_turned.ensures.items,
      omega (arith, c.loop-block.invariant.1, c.append_turned.ensures.capacity),
    )

pub returns : goal.returns
returns c =
    c.loop-block.invariant.0
    ∙ ap (λ n. map (turned_cell c.args.lengths.now c.args.along c.args.turns.now c.args.items.now) (upward 0 n))
    (blocks_all c.args.lengths.now c.args.along _ c.loop-block.block _ c.size_behind-run.ensures c.requires.within c.requires.some c.requires.items (omega (arith, c.loop-block-test.false)) (omega (arith, c.loop-block.auto.block-end)))

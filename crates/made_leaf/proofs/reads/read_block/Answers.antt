use Rattle.std.proofs.Common.{◌+◌, ◌-◌, ◌≤◌, length, arith}
use Rattle.apl_base.specs.Array.{size_of}
use Rattle.drag_along.specs.Nodes.{leaf_shape}
use Rattle.e_machine.proofs.ReadLemmas.{row_next, read_row_more}
use Rattle.made_leaf.proofs.BlockLemmas.{row_many, block_more, block_long}
use Rattle.made_leaf.proofs.reads.read_block.Goals as goal

pub read_row-requires-clause-lawful : goal.read_row-requires-clause-lawful
read_row-requires-clause-lawful c =
    let within : c.args.first + c.loop-done.done + (length c.loop-done.into - c.loop-done.done) ≤ size_of (leaf_shape c.args.leaf.now) = omega (arith, c.requires.places, c.loop-done-test.true, c.loop-done.auto.into) in
    row_next _ _ c.args.leaf.now c.args.first c.loop-done.done _ _ _ _ _ _ c.loop-done.walk c.loop-done.invariant.0 c.requires.lawful c.next_row-row.ensures.lawful c.next_row-row.ensures.few within c.next_row-row.ensures.numbers

pub loop-done-preserved : goal.loop-done-preserved
loop-done-preserved c =
    let many = row_many c.loop-done.store c.args.leaf.now _ _ _ _ c.read_row.ensures.cells in
    let fits : c.loop-done.done + c.next_row-row.result.count ≤ length c.loop-done.into = omega (arith, c.next_row-row.ensures.few, c.loop-done-test.true) in (
      read_row_more _ _ _ c.args.leaf.now c.args.first c.loop-done.done _ _ _ _ _ _ c.loop-done.walk _ c.loop-done.invariant.0 c.next_row-row.ensures.numbers c.next_row-row.ensures.moved (block_more c.loop-done.into _ _ c.loop-done.done _ c.read_row.ensures.cells many fits) c.read_row.ensures.lawful c.read_row.ensures.counted,
      c.read_row.ensures.store,
      block_long c.loop-done.into _ c.loop-done.done _ many fits,
    )

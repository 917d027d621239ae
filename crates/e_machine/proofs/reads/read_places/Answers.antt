use Rattle.std.proofs.Common.{◌+◌, ◌-◌, ◌≤◌, vec_len, length, ◌≡◌, arith, rules}
use Rattle.apl_base.specs.Array.{size_of}
use Rattle.drag_along.specs.Nodes.{leaf_shape}
use Rattle.e_machine.proofs.ReadLemmas.{row_next, read_row_more, length-read}
use Rattle.e_machine.proofs.reads.read_places.Goals as goal

pub read_row-requires-clause-lawful : goal.read_row-requires-clause-lawful
read_row-requires-clause-lawful c =
    let within : c.args.first + c.loop-done.done + (c.args.count - c.loop-done.done) ≤ size_of (leaf_shape c.args.leaf.now) = omega (arith, c.requires.places, c.loop-done-test.true) in
    row_next _ _ c.args.leaf.now c.args.first c.loop-done.done _ _ _ _ _ _ c.loop-done.walk c.loop-done.invariant.0 c.requires.lawful c.next_row-row.ensures.lawful c.next_row-row.ensures.few within c.next_row-row.ensures.numbers

pub loop-done-preserved : goal.loop-done-preserved
loop-done-preserved c =
    let before : length c.loop-done.into.items ≡ vec_len c.loop-done.into = search rules in
    let after : length c.read_row.new.into.items ≡ vec_len c.read_row.new.into = search rules in
    let more = length-read c.loop-done.store c.args.leaf.now _ _ _ _ _ c.read_row.ensures.cells in (
      read_row_more _ _ _ c.args.leaf.now c.args.first c.loop-done.done _ _ _ _ _ _ c.loop-done.walk _ c.loop-done.invariant.0 c.next_row-row.ensures.numbers c.next_row-row.ensures.moved c.read_row.ensures.cells c.read_row.ensures.lawful c.read_row.ensures.counted,
      c.read_row.ensures.store,
      omega (arith, c.next_row-row.ensures.few, c.loop-done-test.true),
      omega (arith, before, after, more, c.next_row-row.ensures.few, c.loop-done.invariant.3, c.read_row.ensures.capacity),
      omega (arith, c.read_row.ensures.capacity, c.loop-done.invariant.4),
    )

use Rattle.std.proofs.Common.{arith, rules}
use Rattle.e_machine.specs.Forced.{cells_from}
use Rattle.made_fns.proofs.ScanLemmas.{block_many, block_behind, fetched_more, ones-counted, ones-few, ones_more}
use Rattle.made_fns.proofs.scans.ones_of.Goals as goal

pub overflow_add-found : goal.overflow_add-found
overflow_add-found c =
    let many = block_many c.min-more.result c.elements-count.result c.loop-done.done 64 c.loop-done.block (search rules) c.min-more.ensures in
    omega (arith, c.ones_among-found.ensures, ones-counted c.read_block.new.into, ones-few c.read_block.new.into, c.loop-done.invariant.4, c.elements-count.ensures.few, c.min-more.ensures, many, c.read_block.auto.into)

pub loop-done-preserved : goal.loop-done-preserved
loop-done-preserved c =
    let many = block_many c.min-more.result c.elements-count.result c.loop-done.done 64 c.loop-done.block (search rules) c.min-more.ensures in
    let now = block_behind c.args.store.now c.loop-done.store c.args.leaf.now c.loop-done.done c.min-more.result _ _ c.loop-done.invariant.1.only many c.read_block.ensures.cells in (
      ones_more _ _ (cells_from c.args.store.now c.args.leaf.now 0 c.loop-done.done) c.read_block.new.into _ now c.loop-done.invariant.0 c.ones_among-found.ensures,
      fetched_more _ _ _ c.args.leaf.now _ _ _ c.loop-done.invariant.2 many c.loop-done.invariant.1 c.read_block.ensures.counted,
      c.read_block.ensures.store,
      omega (arith, c.min-more.ensures, c.loop-done.invariant.3),
      omega (arith, c.ones_among-found.ensures, ones-counted c.read_block.new.into, ones-few c.read_block.new.into, c.loop-done.invariant.4, many, c.read_block.auto.into),
    )

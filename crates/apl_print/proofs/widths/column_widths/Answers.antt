use Rattle.std.proofs.Common.{◌≡◌, ◌++◌, ◌∙◌, ap, arith, drop, length, sym, take}
use Rattle.apl_base.specs.Array.{size_of}
use Rattle.array_desc.specs.Desc.{DescView}
use Rattle.drag_along.specs.Nodes.{leaf_shape}
use Rattle.apl_print.specs.Layout.{widened}
use Rattle.apl_print.proofs.Passes.{over_whole, widened_more}
use Rattle.apl_print.proofs.widths.column_widths.Goals as goal

pub loop-done-preserved : goal.loop-done-preserved
loop-done-preserved c =
    let size : c.size-size.result ≡ size_of (leaf_shape c.args.leaf.now) = c.size-size.ensures.value ∙ ap (λ (d : DescView). size_of d.shape) c.desc.ensures in
    let long : length c.loop-done.widths.items ≡ c.loop-done.widths.len = ap length (sym c.deref_mut.ensures.value) ∙ c.deref_mut.ensures.len in
    let kept : length c.widen-column.new.widths ≡ c.loop-done.widths.len = c.widen-column.auto.widths ∙ c.deref_mut.ensures.len in
    let over : take c.loop-done.widths.len (c.widen-column.new.widths ++ drop (length c.widen-column.new.widths) c.loop-done.widths.items) ≡ c.widen-column.new.widths = over_whole c.loop-done.widths.len c.widen-column.new.widths c.loop-done.widths.items kept long in record {
      read = widened_more c.args.store.now c.loop-done.store _ c.args.leaf.now c.args.grid _ c.loop-done.widths.items _ c.loop-done.done c.read_block-done.result c.loop-done.column c.widen-column.result c.as_slice.result.now
          c.loop-done.invariant.read (c.as_slice.ensures.value ∙ c.read_block-done.ensures.cells) c.read_block-done.ensures.counted
          (over ∙ c.widen-column.ensures.widths ∙ ap (λ ws. widened c.args.grid c.loop-done.column ws c.as_slice.result.now) c.deref_mut.ensures.value)
          c.widen-column.ensures.next c.widen-column.ensures.within;
      long = c.loop-done.invariant.long;
      within = omega (arith, size, c.read_block-done.ensures.within);
      room = c.read_block-done.ensures.capacity;
      store = c.read_block-done.ensures.store;
    }

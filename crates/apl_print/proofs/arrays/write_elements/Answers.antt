use Rattle.std.proofs.Common.{◌≡◌, ◌≤◌, ◌∙◌, ap, arith, refl, string_bytes}
use Rattle.apl_base.specs.Array.{size_of}
use Rattle.array_desc.specs.Desc.{DescView}
use Rattle.drag_along.specs.Nodes.{leaf_shape}
use Rattle.apl_print.proofs.Passes.{gains_all, prefix_all, prefix_block, prefix_written, written_more, written_none}
use Rattle.apl_print.proofs.Utf8.{on-err, on-err-so, on-ok}
use Rattle.apl_print.proofs.arrays.write_elements.Goals as goal

pub loop-done-init : goal.loop-done-init
loop-done-init g c = record {
  written = written_none (g.O.Sink.written c.args.out.now) c.args.store.now c.args.leaf.now c.args.grid c.args.widths.now _ (string_bytes c.in_ok-text.text) c.counts-counts.ensures.store.counts c.requires.rows c.requires.columns refl c.in_ok-text.ensures.bytes;
  never_falls = omega arith;
  within = omega arith;
  room = omega (arith, c.in_ok-cells.ensures.exact);
  store = c.counts-counts.ensures.store;
}

pub returns-in_err-at-clause-err : goal.returns-in_err-at-clause-err
returns-in_err-at-clause-err g c =
    let size : c.size-size.result ≡ size_of (leaf_shape c.args.leaf.now) = c.size-size.ensures.value ∙ ap (λ (d : DescView). size_of d.shape) c.desc.ensures in
    let within : c.loop-done.done ≤ size_of (leaf_shape c.args.leaf.now) = omega (arith, size, c.loop-done.invariant.within) in
    on-err c.from_residual-in_err-at.result _
    (prefix_written _ _ c.args.store.now c.loop-done.store c.args.leaf.now c.args.grid c.args.widths.now c.loop-done.done (size_of (leaf_shape c.args.leaf.now)) c.loop-done.at (string_bytes c.loop-done.text) c.loop-done.invariant.written within)

pub loop-done-preserved : goal.loop-done-preserved
loop-done-preserved g c =
    let size : c.size-size.result ≡ size_of (leaf_shape c.args.leaf.now) = c.size-size.ensures.value ∙ ap (λ (d : DescView). size_of d.shape) c.desc.ensures in record {
      written = written_more _ (g.O.Sink.written c.loop-done.out) _ c.args.store.now c.loop-done.store c.read_block-done.new.store c.args.leaf.now c.args.grid c.args.widths.now c.loop-done.done c.read_block-done.result c.loop-done.at c.in_ok-at.at c.as_slice.result.now
          (string_bytes c.loop-done.text) (string_bytes c.add_elements.new.text) (string_bytes c.send_full.new.text) c.loop-done.invariant.written (c.as_slice.ensures.value ∙ c.read_block-done.ensures.cells) c.read_block-done.ensures.counted
          c.in_ok-at.ensures.text c.in_ok-at.ensures.next c.in_ok-at.ensures.lawful c.in_ok-send_full.ensures.ok;
      never_falls = omega (arith, c.loop-done.invariant.never_falls, c.send_full.ensures.never_falls);
      within = omega (arith, size, c.read_block-done.ensures.within);
      room = c.read_block-done.ensures.capacity;
      store = c.read_block-done.ensures.store;
    }

pub returns-in_err-send_full-clause-err : goal.returns-in_err-send_full-clause-err
returns-in_err-send_full-clause-err g c =
    on-err c.from_residual-in_err-send_full.result _
    (prefix_block _ (g.O.Sink.written c.loop-done.out) _ c.args.store.now c.loop-done.store c.args.leaf.now c.args.grid c.args.widths.now c.loop-done.done c.read_block-done.result (size_of (leaf_shape c.args.leaf.now)) c.loop-done.at c.as_slice.result.now
    (string_bytes c.loop-done.text) (string_bytes c.add_elements.new.text) c.loop-done.invariant.written (c.as_slice.ensures.value ∙ c.read_block-done.ensures.cells) c.in_ok-at.ensures.text c.read_block-done.ensures.within c.in_err-send_full.ensures.err)

pub returns-clause-ok : goal.returns-clause-ok
returns-clause-ok g c =
    let size : c.size-size.result ≡ size_of (leaf_shape c.args.leaf.now) = c.size-size.ensures.value ∙ ap (λ (d : DescView). size_of d.shape) c.desc.ensures in
    let all : c.loop-done.done ≡ size_of (leaf_shape c.args.leaf.now) = omega (arith, size, c.loop-done.invariant.within, c.loop-done-test.false) in
    on-ok c.send.result _ _
    (gains_all _ (g.O.Sink.written c.loop-done.out) _ c.args.store.now c.loop-done.store c.args.leaf.now c.args.grid c.args.widths.now c.loop-done.done (size_of (leaf_shape c.args.leaf.now)) c.loop-done.at (string_bytes c.loop-done.text) c.as_str.result.now c.loop-done.invariant.written all c.as_str.ensures.value)
    c.send.ensures.ok

pub returns-clause-err : goal.returns-clause-err
returns-clause-err g c =
    let size : c.size-size.result ≡ size_of (leaf_shape c.args.leaf.now) = c.size-size.ensures.value ∙ ap (λ (d : DescView). size_of d.shape) c.desc.ensures in
    let all : c.loop-done.done ≡ size_of (leaf_shape c.args.leaf.now) = omega (arith, size, c.loop-done.invariant.within, c.loop-done-test.false) in
    on-err-so c.send.result _ _
    (prefix_all _ (g.O.Sink.written c.loop-done.out) _ c.args.store.now c.loop-done.store c.args.leaf.now c.args.grid c.args.widths.now c.loop-done.done (size_of (leaf_shape c.args.leaf.now)) c.loop-done.at (string_bytes c.loop-done.text) c.as_str.result.now c.loop-done.invariant.written all c.as_str.ensures.value)
    c.send.ensures.err

-- The text is that of the leaf's array, by its elements in their grid.
use Rattle.std.proofs.Common.{◌≡◌, ◌<◌, ◌≤◌, ◌∙◌, ap, arith, subst, length, ℕ, List, [], OnOk, OnErr, encode_utf8_all, refl}
use Rattle.apl_base.specs.Array.{size_of}
use Rattle.array_desc.specs.Desc.{DescView}
use Rattle.drag_along.specs.Nodes.{leaf_kind, leaf_shape}
use Rattle.apl_outside.specs.Bytes.{Gains}
use Rattle.apl_print.specs.Bytes.{GainsPrefix}
use Rattle.apl_print.specs.Layout.{grid_of}
use Rattle.apl_print.proofs.LeafTexts.{grid_is, grid_wide, leaf_text_line, leaf_text_table}
use Rattle.apl_print.proofs.arrays.write_leaf.Goals as goal

pub returns-then-lengths-lt2-clause-ok : goal.returns-then-lengths-lt2-clause-ok
returns-then-lengths-lt2-clause-ok g c =
    let leaf = c.args.leaf.now in
    let shape : List ℕ = leaf_shape leaf in
    let lengths : c.lengths-lengths.result.now ≡ shape = c.lengths-lengths.ensures.value ∙ ap (λ (v : DescView). v.shape) (c.desc.view_is ∙ c.desc-desc.ensures) in
    let grid : c.of-grid.result ≡ grid_of (leaf_kind leaf) shape = grid_is leaf c.of-grid.result c.kind.result c.lengths-lengths.result.now c.of-grid.ensures c.kind.ensures lengths in
    let size : c.size.result ≡ size_of shape = c.size.ensures.value ∙ ap (λ (v : DescView). size_of v.shape) c.desc-desc.ensures in
    let some : 0 < size_of shape = omega (arith, size, c.if-size-eq0.false) in
    let few : length shape < 2 = subst (λ (xs : List ℕ). length xs < 2) lengths c.if-lengths-lt2.true in
    subst (λ (t : List ℕ). OnOk c.write_elements.result (Gains (g.O.Sink.written c.args.out.now) (g.O.Sink.written c.write_elements.new.out) (encode_utf8_all t)))
    (leaf_text_line c.args.store.now leaf c.of-grid.result [] grid refl some few) c.write_elements.ensures.ok

pub returns-then-lengths-lt2-clause-err : goal.returns-then-lengths-lt2-clause-err
returns-then-lengths-lt2-clause-err g c =
    let leaf = c.args.leaf.now in
    let shape : List ℕ = leaf_shape leaf in
    let lengths : c.lengths-lengths.result.now ≡ shape = c.lengths-lengths.ensures.value ∙ ap (λ (v : DescView). v.shape) (c.desc.view_is ∙ c.desc-desc.ensures) in
    let grid : c.of-grid.result ≡ grid_of (leaf_kind leaf) shape = grid_is leaf c.of-grid.result c.kind.result c.lengths-lengths.result.now c.of-grid.ensures c.kind.ensures lengths in
    let size : c.size.result ≡ size_of shape = c.size.ensures.value ∙ ap (λ (v : DescView). size_of v.shape) c.desc-desc.ensures in
    let some : 0 < size_of shape = omega (arith, size, c.if-size-eq0.false) in
    let few : length shape < 2 = subst (λ (xs : List ℕ). length xs < 2) lengths c.if-lengths-lt2.true in
    subst (λ (t : List ℕ). OnErr c.write_elements.result (GainsPrefix (g.O.Sink.written c.args.out.now) (g.O.Sink.written c.write_elements.new.out) (encode_utf8_all t)))
    (leaf_text_line c.args.store.now leaf c.of-grid.result [] grid refl some few) c.write_elements.ensures.err

pub column_widths-requires-clause-columns : goal.column_widths-requires-clause-columns
column_widths-requires-clause-columns g c =
    let leaf = c.args.leaf.now in
    let shape : List ℕ = leaf_shape leaf in
    let lengths : c.lengths-lengths.result.now ≡ shape = c.lengths-lengths.ensures.value ∙ ap (λ (v : DescView). v.shape) (c.desc.view_is ∙ c.desc-desc.ensures) in
    let grid : c.of-grid.result ≡ grid_of (leaf_kind leaf) shape = grid_is leaf c.of-grid.result c.kind.result c.lengths-lengths.result.now c.of-grid.ensures c.kind.ensures lengths in
    let size : c.size.result ≡ size_of shape = c.size.ensures.value ∙ ap (λ (v : DescView). size_of v.shape) c.desc-desc.ensures in
    let some : 0 < size_of shape = omega (arith, size, c.if-size-eq0.false) in
    (grid_wide leaf c.of-grid.result grid some).1

pub write_elements-requires-2-clause-rows : goal.write_elements-requires-2-clause-rows
write_elements-requires-2-clause-rows g c =
    let leaf = c.args.leaf.now in
    let shape : List ℕ = leaf_shape leaf in
    let lengths : c.lengths-lengths.result.now ≡ shape = c.lengths-lengths.ensures.value ∙ ap (λ (v : DescView). v.shape) (c.desc.view_is ∙ c.desc-desc.ensures) in
    let grid : c.of-grid.result ≡ grid_of (leaf_kind leaf) shape = grid_is leaf c.of-grid.result c.kind.result c.lengths-lengths.result.now c.of-grid.ensures c.kind.ensures lengths in
    let size : c.size.result ≡ size_of shape = c.size.ensures.value ∙ ap (λ (v : DescView). size_of v.shape) c.desc-desc.ensures in
    let some : 0 < size_of shape = omega (arith, size, c.if-size-eq0.false) in
    (grid_wide leaf c.of-grid.result grid some).0

pub write_elements-requires-2-clause-columns : goal.write_elements-requires-2-clause-columns
write_elements-requires-2-clause-columns g c =
    let leaf = c.args.leaf.now in
    let shape : List ℕ = leaf_shape leaf in
    let lengths : c.lengths-lengths.result.now ≡ shape = c.lengths-lengths.ensures.value ∙ ap (λ (v : DescView). v.shape) (c.desc.view_is ∙ c.desc-desc.ensures) in
    let grid : c.of-grid.result ≡ grid_of (leaf_kind leaf) shape = grid_is leaf c.of-grid.result c.kind.result c.lengths-lengths.result.now c.of-grid.ensures c.kind.ensures lengths in
    let size : c.size.result ≡ size_of shape = c.size.ensures.value ∙ ap (λ (v : DescView). size_of v.shape) c.desc-desc.ensures in
    let some : 0 < size_of shape = omega (arith, size, c.if-size-eq0.false) in
    (grid_wide leaf c.of-grid.result grid some).1

pub returns-clause-ok : goal.returns-clause-ok
returns-clause-ok g c =
    let leaf = c.args.leaf.now in
    let shape : List ℕ = leaf_shape leaf in
    let lengths : c.lengths-lengths.result.now ≡ shape = c.lengths-lengths.ensures.value ∙ ap (λ (v : DescView). v.shape) (c.desc.view_is ∙ c.desc-desc.ensures) in
    let grid : c.of-grid.result ≡ grid_of (leaf_kind leaf) shape = grid_is leaf c.of-grid.result c.kind.result c.lengths-lengths.result.now c.of-grid.ensures c.kind.ensures lengths in
    let size : c.size.result ≡ size_of shape = c.size.ensures.value ∙ ap (λ (v : DescView). size_of v.shape) c.desc-desc.ensures in
    let some : 0 < size_of shape = omega (arith, size, c.if-size-eq0.false) in
    let many : 2 ≤ length shape = subst (λ (xs : List ℕ). 2 ≤ length xs) lengths c.if-lengths-lt2.false in
    subst (λ (t : List ℕ). OnOk c.write_elements-2.result (Gains (g.O.Sink.written c.args.out.now) (g.O.Sink.written c.write_elements-2.new.out) (encode_utf8_all t)))
    (leaf_text_table c.args.store.now c.column_widths.new.store leaf c.of-grid.result c.as_slice.result.now grid c.column_widths.ensures.counted.only (c.as_slice.ensures.value ∙ c.in_ok-widths.ensures.widths) some many) c.write_elements-2.ensures.ok

pub returns-clause-err : goal.returns-clause-err
returns-clause-err g c =
    let leaf = c.args.leaf.now in
    let shape : List ℕ = leaf_shape leaf in
    let lengths : c.lengths-lengths.result.now ≡ shape = c.lengths-lengths.ensures.value ∙ ap (λ (v : DescView). v.shape) (c.desc.view_is ∙ c.desc-desc.ensures) in
    let grid : c.of-grid.result ≡ grid_of (leaf_kind leaf) shape = grid_is leaf c.of-grid.result c.kind.result c.lengths-lengths.result.now c.of-grid.ensures c.kind.ensures lengths in
    let size : c.size.result ≡ size_of shape = c.size.ensures.value ∙ ap (λ (v : DescView). size_of v.shape) c.desc-desc.ensures in
    let some : 0 < size_of shape = omega (arith, size, c.if-size-eq0.false) in
    let many : 2 ≤ length shape = subst (λ (xs : List ℕ). 2 ≤ length xs) lengths c.if-lengths-lt2.false in
    subst (λ (t : List ℕ). OnErr c.write_elements-2.result (GainsPrefix (g.O.Sink.written c.args.out.now) (g.O.Sink.written c.write_elements-2.new.out) (encode_utf8_all t)))
    (leaf_text_table c.args.store.now c.column_widths.new.store leaf c.of-grid.result c.as_slice.result.now grid c.column_widths.ensures.counted.only (c.as_slice.ensures.value ∙ c.in_ok-widths.ensures.widths) some many) c.write_elements-2.ensures.err

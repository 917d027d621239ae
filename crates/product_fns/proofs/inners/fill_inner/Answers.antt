use Rattle.std.proofs.Common.{◌≡◌, ◌*◌, ◌/◌, ◌^◌, ◌<◌, ◌≤◌, ℕ, List, length, refl, sym, ap, ◌∙◌, subst, arith}
use Rattle.apl_base.specs.Array.{Array, size_of}
use Rattle.array_desc.specs.Desc.{DescView}
use Rattle.drag_along.specs.Nodes.{leaf_shape}
use Rattle.e_machine.proofs.CountedLemmas.{leaf_array-counted}
use Rattle.leaf_names.specs.Variables.{array_of}
use Rattle.apl_model.specs.Product.{left_axes, left_at, right_axes, right_at}
use Rattle.product_fns.specs.Inner.{lines_of, shaped, AreLines}
use Rattle.product_fns.proofs.GroupLemmas.{some_if}
use Rattle.product_fns.proofs.InnerLemmas.{inner_whole, inner_filled}
use Rattle.product_fns.proofs.inners.fill_inner.Goals as goal

pub columns-q-requires-clause-some : goal.columns-q-requires-clause-some
columns-q-requires-clause-some c =
    let shape = ap (λ (d : DescView). d.shape) (c.behind-b.view_is ∙ c.desc.ensures) in
    subst (λ (ns : List ℕ). 0 < size_of (right_axes (shaped ns))) (sym shape)
    (inner_whole (array_of c.args.store.now c.args.a.now) (array_of c.args.store.now c.args.b.now) (length c.args.results.now) _ (some_if (length c.args.results.now) c.if-is_empty.ensures) c.requires.many refl).some

pub columns-q-requires-clause-few : goal.columns-q-requires-clause-few
columns-q-requires-clause-few c =
    let shape = ap (λ (d : DescView). d.shape) (c.behind-b.view_is ∙ c.desc.ensures) in
    let whole = inner_whole (array_of c.args.store.now c.args.a.now) (array_of c.args.store.now c.args.b.now) (length c.args.results.now) _ (some_if (length c.args.results.now) c.if-is_empty.ensures) c.requires.many refl in
    let few : size_of (right_axes (array_of c.args.store.now c.args.b.now)) ≤ 2 ^ 40 = omega (arith, whole.few, c.requires.few_results) in
    subst (λ (ns : List ℕ). size_of (right_axes (shaped ns)) ≤ 2 ^ 40) (sym shape) few

pub fill_products-requires-clause-row : goal.fill_products-requires-clause-row
fill_products-requires-clause-row c =
    let shape = ap (λ (d : DescView). d.shape) (c.behind-b.view_is ∙ c.desc.ensures) in
    let q = c.columns-q.ensures.value ∙ ap (λ (ns : List ℕ). size_of (right_axes (shaped ns))) shape in
    (inner_whole (array_of c.args.store.now c.args.a.now) (array_of c.args.store.now c.args.b.now) (length c.args.results.now) c.columns-q.result (some_if (length c.args.results.now) c.if-is_empty.ensures) c.requires.many q).some

pub fill_products-requires-clause-left : goal.fill_products-requires-clause-left
fill_products-requires-clause-left c =
    let shape = ap (λ (d : DescView). d.shape) (c.behind-b.view_is ∙ c.desc.ensures) in
    let q = c.columns-q.ensures.value ∙ ap (λ (ns : List ℕ). size_of (right_axes (shaped ns))) shape in
    let whole = inner_whole (array_of c.args.store.now c.args.a.now) (array_of c.args.store.now c.args.b.now) (length c.args.results.now) c.columns-q.result (some_if (length c.args.results.now) c.if-is_empty.ensures) c.requires.many q in
    let long : length c.as_mut_slice-line.result.now ≡ c.args.n = omega (arith, c.as_mut_slice-line.ensures.len, c.in_ok-buffer.ensures.len) in
    c.in_ok-left.ensures.lines.many ∙ ap (λ (m : ℕ). m * c.args.n) (sym whole.rows) ∙ ap (λ (m : ℕ). length c.args.results.now / c.columns-q.result * m) (sym long)

pub fill_products-requires-clause-whole : goal.fill_products-requires-clause-whole
fill_products-requires-clause-whole c =
    let shape = ap (λ (d : DescView). d.shape) (c.behind-b.view_is ∙ c.desc.ensures) in
    let q = c.columns-q.ensures.value ∙ ap (λ (ns : List ℕ). size_of (right_axes (shaped ns))) shape in
    (inner_whole (array_of c.args.store.now c.args.a.now) (array_of c.args.store.now c.args.b.now) (length c.args.results.now) c.columns-q.result (some_if (length c.args.results.now) c.if-is_empty.ensures) c.requires.many q).whole

pub returns-clause-value : goal.returns-clause-value
returns-clause-value c =
    let shape = ap (λ (d : DescView). d.shape) (c.behind-b.view_is ∙ c.desc.ensures) in
    let q = c.columns-q.ensures.value ∙ ap (λ (ns : List ℕ). size_of (right_axes (shaped ns))) shape in
    let a : Array = array_of c.args.store.now c.args.a.now in
    let b : Array = array_of c.args.store.now c.args.b.now in
    let n : ℕ = length c.as_mut_slice-line.result.now in
    let long : n ≡ c.args.n = omega (arith, c.as_mut_slice-line.ensures.len, c.in_ok-buffer.ensures.len) in
    let left : AreLines (left_at a) (left_axes a) n c.in_ok-left.left.kind c.in_ok-left.left.cells.items =
    subst (λ (m : ℕ). AreLines (left_at a) (left_axes a) m c.in_ok-left.left.kind c.in_ok-left.left.cells.items) (sym long) c.in_ok-left.ensures.lines in
    let same : array_of c.left_lines.new.store c.args.b.now ≡ b = leaf_array-counted c.args.store.now c.left_lines.new.store (leaf_shape c.args.b.now) c.args.b.now c.left_lines.ensures.counted.only in
    let right : AreLines (right_at b) (right_axes b) n c.in_ok-right.right.kind c.in_ok-right.right.cells.items =
    subst (λ (m : ℕ). AreLines (right_at b) (right_axes b) m c.in_ok-right.right.kind c.in_ok-right.right.cells.items) (sym long)
    (subst (λ (x : Array). AreLines (right_at x) (right_axes x) c.args.n c.in_ok-right.right.kind c.in_ok-right.right.cells.items) same c.in_ok-right.ensures.lines) in
    inner_filled a b (lines_of c.args.f c.args.g c.in_ok-left.left c.in_ok-right.right n c.columns-q.result) (length c.args.results.now) c.fill_products.new.results c.fill_products.result
    (long ∙ c.requires.goes.is) q left right c.requires.many c.fill_products.auto.results c.fill_products.ensures.value

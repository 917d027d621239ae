use Rattle.std.proofs.Common.{◌≡◌, ℕ, ℤ, List, false, length, sym, ap, ◌∙◌, subst, arith}
use Rattle.apl_base.proofs.Elements.{tabulated-count}
use Rattle.array_desc.specs.Desc.{DescView}
use Rattle.drag_along.specs.Nodes.{leaf_kind, leaf_shape}
use Rattle.drag_along.specs.Meaning.{leaf_cell}
use Rattle.leaf_names.specs.Variables.{array_of}
use Rattle.apl_model.specs.Whole.{is_extendable}
use Rattle.apl_model.specs.Product.{right_axes, right_at}
use Rattle.product_fns.specs.Inner.{shaped, AreLines}
use Rattle.product_fns.proofs.GroupLemmas.{front}
use Rattle.product_fns.proofs.InnerLemmas.{right_stored, right_many}
use Rattle.product_fns.proofs.inners.right_lines.Goals as goal

pub transpose-requires-clause-many : goal.transpose-requires-clause-many
transpose-requires-clause-many c =
    let shape = ap (λ (d : DescView). d.shape) (c.behind-b.view_is ∙ c.desc-2.ensures) in
    let stays : is_extendable (array_of c.args.store.now c.args.b.now) ≡ false = ap (λ (ns : List ℕ). is_extendable (shaped ns)) (sym shape) ∙ sym c.extends.ensures ∙ c.if-extends.false in
    ap length c.as_slice.ensures.value ∙ ap length c.in-Ok.ensures.cells ∙ tabulated-count (leaf_kind c.args.b.now) (leaf_shape c.args.b.now) (leaf_cell c.args.store.now c.args.b.now)
    ∙ right_many (array_of c.args.store.now c.args.b.now) c.args.n c.args.q stays (c.requires.length stays) c.requires.columns

pub returns-clause-lines : goal.returns-clause-lines
returns-clause-lines c =
    let shape = ap (λ (d : DescView). d.shape) (c.behind-b.view_is ∙ c.desc-2.ensures) in
    let stays : is_extendable (array_of c.args.store.now c.args.b.now) ≡ false = ap (λ (ns : List ℕ). is_extendable (shaped ns)) (sym shape) ∙ sym c.extends.ensures ∙ c.if-extends.false in
    let new : List ℤ = c.transpose.new.lines in
    let whole : c.in-Ok-zeros.lines.len ≡ length new = omega (arith, c.as_mut_slice.ensures.len, c.transpose.auto.lines) in
    let long : length new ≡ length c.as_slice.result.now =
    omega (arith, c.transpose.auto.lines, c.as_mut_slice.ensures.len, ap length c.as_mut_slice.ensures.value, c.in-Ok-zeros.ensures, c.len.ensures, c.as_slice.ensures.len) in
    subst (λ (zs : List ℤ). AreLines (right_at (array_of c.args.store.now c.args.b.now)) (right_axes (array_of c.args.store.now c.args.b.now)) c.args.n c.kind-kind.result zs) (sym (front new _ c.in-Ok-zeros.lines.len whole))
    (right_stored (array_of c.args.store.now c.args.b.now) c.args.n c.args.q c.kind-kind.result c.as_slice.result.now new stays (c.requires.length stays) c.requires.columns c.kind-kind.ensures (c.as_slice.ensures.value ∙ c.in-Ok.ensures.cells)
    (tabulated-count (leaf_kind c.args.b.now) (leaf_shape c.args.b.now) (leaf_cell c.args.store.now c.args.b.now)) c.in-Ok.ensures.lawful long c.transpose.ensures.each)

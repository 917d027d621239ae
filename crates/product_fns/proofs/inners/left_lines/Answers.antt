use Rattle.std.proofs.Common.{◌≡◌, ◌^◌, ◌≤◌, ℕ, List, false, length, sym, ap, ◌∙◌, subst, arith}
use Rattle.apl_base.specs.Array.{size_of}
use Rattle.apl_base.proofs.Elements.{tabulated-count}
use Rattle.array_desc.specs.Desc.{DescView}
use Rattle.drag_along.specs.Nodes.{leaf_kind, leaf_shape}
use Rattle.drag_along.specs.Meaning.{leaf_cell}
use Rattle.leaf_names.specs.Variables.{array_of}
use Rattle.apl_model.specs.Whole.{is_extendable}
use Rattle.product_fns.specs.Inner.{shaped}
use Rattle.product_fns.proofs.InnerLemmas.{left_stored}
use Rattle.product_fns.proofs.inners.left_lines.Goals as goal

pub returns-in-Ok-clause-lines : goal.returns-in-Ok-clause-lines
returns-in-Ok-clause-lines c =
    let shape = ap (λ (d : DescView). d.shape) (c.behind-a.view_is ∙ c.desc-2.ensures) in
    let stays : is_extendable (array_of c.args.store.now c.args.a.now) ≡ false = ap (λ (ns : List ℕ). is_extendable (shaped ns)) (sym shape) ∙ sym c.extends.ensures ∙ c.if-extends.false in
    left_stored (array_of c.args.store.now c.args.a.now) c.args.n c.kind-kind.result c.in-Ok.cells.items stays (c.requires.length stays) c.kind-kind.ensures c.in-Ok.ensures.cells
    (tabulated-count (leaf_kind c.args.a.now) (leaf_shape c.args.a.now) (leaf_cell c.args.store.now c.args.a.now)) c.in-Ok.ensures.lawful

pub returns-in-Ok-clause-few : goal.returns-in-Ok-clause-few
returns-in-Ok-clause-few c =
    let small : size_of (leaf_shape c.args.a.now) ≤ 2 ^ 40 = subst (λ (d : DescView). size_of d.shape ≤ 2 ^ 40) c.desc.ensures c.size-size.ensures.lawful.shape.product in
    omega (arith, small, ap length c.in-Ok.ensures.cells, tabulated-count (leaf_kind c.args.a.now) (leaf_shape c.args.a.now) (leaf_cell c.args.store.now c.args.a.now))

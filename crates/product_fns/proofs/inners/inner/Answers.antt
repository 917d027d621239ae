use Rattle.std.proofs.Common.{◌≡◌, ℕ, List, true, false, sym, ap, ◌∙◌, subst}
use Rattle.apl_base.specs.Array.{IsShape}
use Rattle.array_desc.specs.Desc.{DescView}
use Rattle.drag_along.specs.Nodes.{leaf_shape}
use Rattle.leaf_names.specs.Variables.{array_of}
use Rattle.product_fns.specs.Inner.{HasLength, inner_shape, shaped}
use Rattle.product_fns.proofs.InnerAnswers.{inner_limited}
use Rattle.product_fns.proofs.inners.inner.Goals as goal

pub returns-in_default-shape_of_lines-clause-answer : goal.returns-in_default-shape_of_lines-clause-answer
returns-in_default-shape_of_lines-clause-answer c =
    let left = ap (λ (d : DescView). d.shape) (c.behind-a.view_is ∙ c.desc.ensures) in
    let right = ap (λ (d : DescView). d.shape) (c.behind-b.view_is ∙ c.desc-2.ensures) in
    let goes : HasLength c.in-Some.n (shaped (leaf_shape c.args.a.now)) (shaped (leaf_shape c.args.b.now)) =
    subst (λ (ns : List ℕ). HasLength c.in-Some.n (shaped ns) (shaped (leaf_shape c.args.b.now))) left (subst (λ (ns : List ℕ). HasLength c.in-Some.n (shaped c.behind-a.inside.shape) (shaped ns)) right c.in-Some.ensures.goes) in
    let apart : IsShape (inner_shape (array_of c.args.store.now c.args.a.now) (array_of c.args.store.now c.args.b.now)) → ⊥ = λ fits.
    let same : IsShape (inner_shape (shaped c.behind-a.inside.shape) (shaped c.behind-b.inside.shape)) =
    subst (λ (ns : List ℕ). IsShape (inner_shape (shaped ns) (shaped c.behind-b.inside.shape))) (sym left) (subst (λ (ns : List ℕ). IsShape (inner_shape (shaped (leaf_shape c.args.a.now)) (shaped ns))) (sym right) fits) in
    let no : false ≡ true = c.in_default-shape_of_lines.ensures.exact.1 same in
    cc in
    inner_limited c.args.store.now c.args.f c.args.g c.args.a.now c.args.b.now c.in-Some.n (record { is = goes.is; left = goes.left; right = goes.right }) apart

use Rattle.std.proofs.Common.{◌≡◌, ◌++◌, refl, ap, ◌∙◌}
use Rattle.apl_base.specs.Array.{IsShape}
use Rattle.array_desc.specs.Desc.{DescView}
use Rattle.drag_along.specs.Nodes.{leaf_shape}
use Rattle.product_fns.proofs.OuterLemmas.{limit_exact}
use Rattle.product_fns.proofs.outers.pending.Goals as goal

pub returns-in-Ok-clause-limit : goal.returns-in-Ok-clause-limit
returns-in-Ok-clause-limit c =
    let left : c.behind-a.inside.shape ≡ leaf_shape c.args.a.now = ap (λ (d : DescView). d.shape) (c.behind-a.view_is ∙ c.desc.ensures) in
    let right : c.behind-b.inside.shape ≡ leaf_shape c.args.b.now = ap (λ (d : DescView). d.shape) (c.behind-b.view_is ∙ c.desc-2.ensures) in
    let fits : IsShape (leaf_shape c.args.a.now ++ leaf_shape c.args.b.now) = rw (left, right) at (c.in_ok-within_limit.ensures.0 refl) in
    limit_exact c.args.store.now c.args.f c.args.a.now c.args.b.now _ _ fits (λ e. cc)

pub returns-in-Err-clause-limit : goal.returns-in-Err-clause-limit
returns-in-Err-clause-limit c =
    let left : c.behind-a.inside.shape ≡ leaf_shape c.args.a.now = ap (λ (d : DescView). d.shape) (c.behind-a.view_is ∙ c.desc.ensures) in
    let right : c.behind-b.inside.shape ≡ leaf_shape c.args.b.now = ap (λ (d : DescView). d.shape) (c.behind-b.view_is ∙ c.desc-2.ensures) in
    let fits : IsShape (leaf_shape c.args.a.now ++ leaf_shape c.args.b.now) = rw (left, right) at (c.in_ok-within_limit.ensures.0 refl) in
    limit_exact c.args.store.now c.args.f c.args.a.now c.args.b.now _ _ fits (λ e. cc)

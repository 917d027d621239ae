use Rattle.std.proofs.Common.{◌≡◌, ℕ, List, ap, ◌∙◌, subst}
use Rattle.array_desc.specs.Desc.{DescView}
use Rattle.beating.specs.declared.selections.Selection.TheVariants as select
use Rattle.drag_along.specs.Nodes.{leaf_shape}
use Rattle.product_fns.specs.Outer.{IsExtended}
use Rattle.product_fns.proofs.OuterLemmas.{if_ok, product_means, product_is, product_names}
use Rattle.product_fns.proofs.outers.joined_over.Goals as goal

-- both leaves as they were read
over_right : (c : goal.After-join2) → IsExtended c.args.store.now (select.OuterLeft (leaf_shape c.args.b.now)) c.args.a.now c.in_ok-left.left
over_right c =
    let shape : c.behind-b.inside.shape ≡ leaf_shape c.args.b.now = ap (λ (d : DescView). d.shape) (c.behind-b.view_is ∙ c.desc.ensures) in
    subst (λ (ns : List ℕ). IsExtended c.args.store.now (select.OuterLeft ns) c.args.a.now c.in_ok-left.left) shape c.in_ok-left.ensures

under_left : (c : goal.After-join2) → IsExtended c.args.store.now (select.OuterRight (leaf_shape c.args.a.now)) c.args.b.now c.in_ok-right.right
under_left c =
    let shape : c.behind-a.inside.shape ≡ leaf_shape c.args.a.now = ap (λ (d : DescView). d.shape) (c.behind-a.view_is ∙ c.desc-2.ensures) in
    subst (λ (ns : List ℕ). IsExtended c.args.store.now (select.OuterRight ns) c.args.b.now c.in_ok-right.right) shape c.in_ok-right.ensures

pub returns-clause-pending : goal.returns-clause-pending
returns-clause-pending c =
    if_ok c.join2.result _ _ (λ j e. product_is c.args.store.now c.args.f c.args.place c.args.a.now c.args.b.now _ _ j (over_right c) (under_left c) e) c.join2.ensures.exact

pub returns-clause-means : goal.returns-clause-means
returns-clause-means c =
    if_ok c.join2.result _ _ (λ j e. product_means c.args.store.now c.args.f c.args.place c.args.a.now c.args.b.now _ _ _ c.requires.fits (over_right c) (under_left c) (e c.args.store.now)) c.join2.ensures.meaning

pub returns-clause-lawful : goal.returns-clause-lawful
returns-clause-lawful c =
    if_ok c.join2.result _ _ (λ j e. e c.args.store.now (under_left c).lawful (over_right c).lawful) c.join2.ensures.lawful

pub returns-clause-leaves : goal.returns-clause-leaves
returns-clause-leaves c =
    if_ok c.join2.result _ _ (λ j e. product_names c.args.store.now c.args.a.now c.args.b.now _ _ j (over_right c) (under_left c) e) c.join2.ensures.leaves

use Rattle.std.proofs.Common.{◌≡◌, refl, sym, ap, subst, ◌∙◌}
use Rattle.std.proofs.lemmas.Result.{IfOk-weaker}
use Rattle.drag_along.specs.Segments.{side_of}
use Rattle.drag_along.specs.Lawful.{LeafWithin}
use Rattle.value_range.specs.declared.sides.Ranged.{Ranged}
use Rattle.value_range.specs.Interval.{ranged1}
use Rattle.pending_steps.proofs.FoldLemmas.{unnamed, fold_shape, fold_named, fold_leaf, fold_means}
use Rattle.pending_steps.proofs.joins.join_one.Goals as goal

-- src/joins.rt:23:1
pub returns-clause-shape : goal.returns-clause-shape
returns-clause-shape c =
    IfOk-weaker c.of_leaf.result _ _ (λ s is. fold_shape c.args.right.shape c.in-Some.leaf _ _ (c.in-Some.ensures.folded c.args.place) s is) c.of_leaf.ensures.exact

-- src/joins.rt:23:1
pub returns-clause-lawful : goal.returns-clause-lawful
returns-clause-lawful c =
    let range : (ranged1 c.args.f (side_of c.args.right)).range ≡ c.range1.result.range =
    sym (ap (λ (r : Ranged). r.range) (c.range1.ensures.exact ∙ ap (ranged1 c.args.f) c.side_of.ensures.side)) in
    IfOk-weaker c.of_leaf.result _ _ (λ s law store right.
    law store (fold_leaf c.args.right.shape c.in-Some.leaf _ (c.in-Some.ensures.folded c.args.place) store)
    (subst (LeafWithin store c.in-Some.leaf) range (c.in-Some.ensures.within c.requires.numbers store))) c.of_leaf.ensures.lawful

-- src/joins.rt:23:1
pub returns-clause-meaning : goal.returns-clause-meaning
returns-clause-meaning c =
    IfOk-weaker c.of_leaf.result _ _ (λ s is store. fold_means c.args.right.shape c.in-Some.leaf _ _ (c.in-Some.ensures.folded c.args.place) s is store) c.of_leaf.ensures.exact

-- src/joins.rt:23:1
pub returns-clause-leaves : goal.returns-clause-leaves
returns-clause-leaves c =
    IfOk-weaker c.of_leaf.result _ _ (λ s is key.
    fold_named c.args.right.shape c.in-Some.leaf _ _ (c.in-Some.ensures.folded c.args.place) s is key
    ∙ sym (unnamed c.args.right key (c.in-Some.ensures.exact.0 refl).numbers)) c.of_leaf.ensures.exact

use Rattle.std.proofs.Common.{◌≡◌, refl, sym, ap, subst, ◌∙◌, arith}
use Rattle.std.proofs.lemmas.Result.{IfOk-weaker}
use Rattle.drag_along.specs.Segments.{side_of}
use Rattle.drag_along.specs.Lawful.{LeafWithin}
use Rattle.value_range.specs.declared.sides.Side.{Side}
use Rattle.value_range.specs.declared.sides.Ranged.{Ranged}
use Rattle.value_range.specs.Interval.{ranged2}
use Rattle.pending_steps.proofs.FoldLemmas.{unnamed, fold_shape, fold_named, fold_leaf, fold_means}
use Rattle.pending_steps.proofs.joins.join_two.Goals as goal

pub returns-clause-shape : goal.returns-clause-shape
returns-clause-shape c =
    IfOk-weaker c.of_leaf.result _ _ (λ s is. fold_shape c.args.right.shape c.in-Some.leaf _ _ (c.in-Some.ensures.folded c.args.place) s is) c.of_leaf.ensures.exact

pub returns-clause-lawful : goal.returns-clause-lawful
returns-clause-lawful c =
    let range : (ranged2 c.args.f (side_of c.args.left) (side_of c.args.right)).range ≡ c.range2-range.result.range =
    sym (ap (λ (r : Ranged). r.range) (c.range2-range.ensures.exact ∙ ap (λ (x : Side). ranged2 c.args.f x c.side_of-2.result) c.side_of.ensures.side ∙ ap (λ (x : Side). ranged2 c.args.f (side_of c.args.left) x) c.side_of-2.ensures.side)) in
    IfOk-weaker c.of_leaf.result _ _ (λ s law store right left.
    law store (fold_leaf c.args.right.shape c.in-Some.leaf _ (c.in-Some.ensures.folded c.args.place) store)
    (subst (LeafWithin store c.in-Some.leaf) range (c.in-Some.ensures.within store))) c.of_leaf.ensures.lawful

pub returns-clause-meaning : goal.returns-clause-meaning
returns-clause-meaning c =
    IfOk-weaker c.of_leaf.result _ _ (λ s is store. fold_means c.args.right.shape c.in-Some.leaf _ _ (c.in-Some.ensures.folded c.args.place) s is store) c.of_leaf.ensures.exact

pub returns-clause-leaves : goal.returns-clause-leaves
returns-clause-leaves c =
    let folds = c.in-Some.ensures.exact.0 refl in
    IfOk-weaker c.of_leaf.result _ _ (λ s is key.
    omega (
      arith,
      fold_named c.args.right.shape c.in-Some.leaf _ _ (c.in-Some.ensures.folded c.args.place) s is key,
      unnamed c.args.right key folds.right_numbers,
      unnamed c.args.left key folds.left_numbers,
    )) c.of_leaf.ensures.exact

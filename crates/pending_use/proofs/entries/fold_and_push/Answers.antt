use Rattle.std.proofs.Common.{◌≡◌, ℕ, List, refl, sym, ap, ◌∙◌, subst, arith}
use Rattle.apl_base.specs.declared.cells.Interval.{Interval}
use Rattle.array_store.specs.Follows.{none}
use Rattle.array_store.proofs.FollowsLemmas.{follows_same, follows_counted}
use Rattle.value_range.specs.declared.sides.Side.{Side}
use Rattle.value_range.specs.declared.sides.Ranged.{Ranged}
use Rattle.value_range.specs.Interval.{ranged2}
use Rattle.drag_along.specs.declared.leaves.Leaf.{Leaf}
use Rattle.drag_along.specs.Segments.{side_of, leaf_segment, named_by}
use Rattle.drag_along.specs.Meaning.{Means, leaf_array}
use Rattle.drag_along.specs.Lawful.{IsLawfulLeaf, LeafWithin}
use Rattle.drag_along.proofs.OneLeafLemmas.{one_leaf_lawful, one_leaf_means}
use Rattle.beating.proofs.FoldLemmas.{numbers_in_range}
use Rattle.pending_use.proofs.Changes.{pushed}
use Rattle.pending_use.proofs.entries.fold_and_push.Goals as goal

pub fold2-requires-clause-left_in_range : goal.fold2-requires-clause-left_in_range
fold2-requires-clause-left_in_range c = numbers_in_range c.args.store.now c.args.left.now c.side_of.ensures.segment c.requires.left

pub fold2-requires-clause-right_in_range : goal.fold2-requires-clause-right_in_range
fold2-requires-clause-right_in_range c = numbers_in_range c.args.store.now c.args.right.now c.side_of-2.ensures.segment c.requires.right

pub returns-clause-pushed : goal.returns-clause-pushed
returns-clause-pushed c = λ yes place.
    let store = c.args.store.now in
    let leaf : Leaf = c.in-Some.leaf in
    let range : Interval = c.range2-range.result.range in
    let folds = c.in-Some.ensures.folded place in
    let known : ranged2 c.args.f (side_of c.args.left.now) (side_of c.args.right.now) ≡ c.range2-range.result =
    ap (λ (a : Side). ranged2 c.args.f a (side_of c.args.right.now)) (sym c.side_of.ensures.side)
    ∙ ap (ranged2 c.args.f c.side_of.result) (sym c.side_of-2.ensures.side) ∙ sym c.range2-range.ensures.exact in
    let within : LeafWithin store leaf range =
    subst (λ (r : Ranged). LeafWithin store leaf r.range) known (c.in-Some.ensures.within store) in
    let named : (key : ℕ) → named_by (leaf_segment leaf range) key ≡ 0 = λ key.
    let none_named = ap (λ (l : Leaf). named_by (leaf_segment l range) key) folds.is in omega (arith, none_named) in
    pushed store store c.args.stack.now c.push_leaf.new.stack (leaf_segment leaf range) _ c.in_ok-push_leaf.ensures.pushed
    (follows_counted store store none none _ _ (λ key. refl) named (follows_same store none))
    ((one_leaf_lawful store leaf range).1 (subst (IsLawfulLeaf store) (sym folds.is) tt, within))
    (one_leaf_means store (leaf_segment leaf range) leaf c.in_ok-push_leaf.ensures.segment refl
    ∙ ap (λ (ns : List ℕ). Means (leaf_array store ns leaf)) folds.shape.same ∙ folds.means store)

use Rattle.std.proofs.Common.{◌≡◌, ℕ, List, refl, ap, ◌∙◌, subst, arith}
use Rattle.apl_base.specs.Array.{Array}
use Rattle.array_store.specs.Follows.{Follows, none}
use Rattle.array_store.proofs.FollowsLemmas.{follows_then, follows_counted}
use Rattle.drag_along.specs.declared.leaves.Leaf.{Leaf}
use Rattle.drag_along.specs.Nodes.{named_by_leaf}
use Rattle.drag_along.specs.Segments.{leaf_segment, named_by}
use Rattle.drag_along.specs.Meaning.{Means, leaf_array}
use Rattle.drag_along.proofs.OneLeafLemmas.{one_leaf_lawful, one_leaf_means}
use Rattle.pending_use.proofs.Changes.{pushed, stayed}
use Rattle.value_stack.proofs.NewestLemmas.{few_named}
use Rattle.pending_use.proofs.entries.push_again.Goals as goal

pub held-held-requires-clause-holders : goal.held-held-requires-clause-holders
held-held-requires-clause-holders c = λ key named.
    omega (arith, c.requires.few key, few_named c.args.stack.now key c.len-count.ensures.segments, c.len-count.ensures.value, c.len-count.type_inv)

pub returns-in_default-clause-stays : goal.returns-in_default-clause-stays
returns-in_default-clause-stays c =
    let gone : Follows c.held-held.new.store c.release.new.store (named_by_leaf c.args.leaf.now) none =
    subst (λ (l : Leaf). Follows c.held-held.new.store c.release.new.store (named_by_leaf l) none) c.copy.ensures.same c.release.ensures.follows in
    stayed c.args.store.now c.release.new.store c.args.stack.now c.push_leaf.new.stack c.in_default.ensures.kept
    (follows_then c.args.store.now c.held-held.new.store c.release.new.store none (named_by_leaf c.args.leaf.now) none c.held-held.ensures.follows gone)

pub returns-clause-pushed : goal.returns-clause-pushed
returns-clause-pushed c =
    let new = c.held-held.new.store in
    let leaf : Leaf = c.held-held.result in
    let stands = c.held-held.ensures.stands in
    let named : (key : ℕ) → named_by (leaf_segment leaf c.leaf_interval-range.result) key ≡ named_by_leaf c.args.leaf.now key = λ key.
    let same : named_by_leaf leaf key ≡ named_by_leaf c.args.leaf.now key = ap (λ (l : Leaf). named_by_leaf l key) c.held-held.ensures.same in
    omega (arith, same) in
    pushed c.args.store.now new c.args.stack.now c.push_leaf.new.stack _ _ c.in-Ok.ensures.pushed
    (follows_counted c.args.store.now new none (named_by_leaf c.args.leaf.now) _ _ (λ key. refl) named c.held-held.ensures.follows)
    ((one_leaf_lawful new leaf c.leaf_interval-range.result).1 (stands.lawful, c.leaf_interval-range.ensures.within))
    (one_leaf_means new (leaf_segment leaf c.leaf_interval-range.result) leaf c.in-Ok.ensures.segment refl
    ∙ ap (λ (ns : List ℕ). Means (leaf_array new ns leaf)) stands.shape.same ∙ ap (λ (a : Array). Means a) stands.array)

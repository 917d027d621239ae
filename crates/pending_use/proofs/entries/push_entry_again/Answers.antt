use Rattle.std.proofs.Common.{◌≡◌, Some, ◌++◌, [], ◌∷◌, sym, ap, ◌∙◌, subst}
use Rattle.drag_along.specs.declared.leaves.Leaf.{Leaf}
use Rattle.drag_along.specs.Nodes.{leaf_shape}
use Rattle.drag_along.specs.Segments.{SegmentView, leaf_segment}
use Rattle.drag_along.specs.Meaning.{Meaning, Means, leaf_array, entry}
use Rattle.drag_along.specs.Lawful.{IsLawful, IsLawfulLeaf}
use Rattle.drag_along.proofs.OneLeafLemmas.{one_leaf_segment, one_leaf_lawful, one_leaf_means}
use Rattle.value_stack.specs.Stacks.{entries}
use Rattle.value_stack.proofs.EntriesLemmas.{entry_is_lawful}
use Rattle.pending_use.specs.Uses.{Becomes}
use Rattle.pending_use.proofs.entries.push_entry_again.Goals as goal

same_entry : (a b : SegmentView) → Some a ≡ Some b → a ≡ b
same_entry a b e = cc

pub push_again-requires-clause-lawful : goal.push_again-requires-clause-lawful
push_again-requires-clause-lawful c =
    let s : SegmentView = c.entry.result.now in
    let one : s ≡ leaf_segment c.in-Some.leaf.now s.range = one_leaf_segment s c.in-Some.leaf.now c.in-Some.ensures.segment (sym c.in-Some.ensures.found) in
    let lawful : IsLawful c.args.store.now s = entry_is_lawful c.args.store.now c.args.stack.now c.args.at s c.requires.lawful c.entry.ensures in
    subst (IsLawfulLeaf c.args.store.now) (sym c.copy-leaf.ensures.same)
    ((one_leaf_lawful c.args.store.now c.in-Some.leaf.now s.range).0 (subst (IsLawful c.args.store.now) one lawful)).0

pub returns-clause-pushed : goal.returns-clause-pushed
returns-clause-pushed c = λ yes segment found.
    let s : SegmentView = c.entry.result.now in
    let store = c.args.store.now in
    let same : s ≡ segment = same_entry s segment (sym c.entry.ensures ∙ found) in
    let copied : Means (leaf_array store (leaf_shape c.copy-leaf.result) c.copy-leaf.result) ≡ Means (leaf_array store (leaf_shape c.in-Some.leaf.now) c.in-Some.leaf.now) =
    ap (λ (l : Leaf). Means (leaf_array store (leaf_shape l) l)) c.copy-leaf.ensures.same in
    let means : entry store s ≡ Means (leaf_array store (leaf_shape c.in-Some.leaf.now) c.in-Some.leaf.now) =
    one_leaf_means store s c.in-Some.leaf.now c.in-Some.ensures.segment (sym c.in-Some.ensures.found) in
    subst (λ (m : Meaning). Becomes store c.push_again.new.store c.args.stack.now c.push_again.new.stack (entries store c.args.stack.now ++ m ∷ []))
    (copied ∙ sym means ∙ ap (entry store) same) c.in_ok-push_again.ensures.pushed

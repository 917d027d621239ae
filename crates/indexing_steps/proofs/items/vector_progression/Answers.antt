use Rattle.std.proofs.Common.{◌≡◌, sym, ap, ◌∙◌}
use Rattle.apl_base.specs.Array.{size_of}
use Rattle.array_desc.specs.Desc.{DescView}
use Rattle.drag_along.specs.Nodes.{leaf_shape}
use Rattle.indexing_steps.proofs.ItemLemmas.{empty_is, vector_is, is_number_leaf, not_zero}
use Rattle.indexing_steps.proofs.items.vector_progression.Goals as goal

pub as_progression-requires-clause-numbers : goal.as_progression-requires-clause-numbers
as_progression-requires-clause-numbers c =
    let size : c.size.result ≡ size_of (leaf_shape c.args.leaf.now) = c.size.ensures.value ∙ ap (λ (d : DescView). size_of d.shape) c.desc.ensures in
    is_number_leaf c.args.store.now c.args.leaf.now c.requires.numbers (not_zero (size_of (leaf_shape c.args.leaf.now)) (λ e. c.if-size-eq0.false (size ∙ e)))

pub returns-then-size-eq0-clause-progression : goal.returns-then-size-eq0-clause-progression
returns-then-size-eq0-clause-progression c =
    let size : c.size.result ≡ size_of (leaf_shape c.args.leaf.now) = c.size.ensures.value ∙ ap (λ (d : DescView). size_of d.shape) c.desc.ensures in
    empty_is c.args.store.now c.args.leaf.now c.requires.numbers c.requires.vector (sym size ∙ c.if-size-eq0.true)

pub returns-clause-progression : goal.returns-clause-progression
returns-clause-progression c =
    let size : c.size.result ≡ size_of (leaf_shape c.args.leaf.now) = c.size.ensures.value ∙ ap (λ (d : DescView). size_of d.shape) c.desc.ensures in
    vector_is c.args.store.now c.args.leaf.now c.in-Some.run'
    (is_number_leaf c.args.store.now c.args.leaf.now c.requires.numbers (not_zero (size_of (leaf_shape c.args.leaf.now)) (λ e. c.if-size-eq0.false (size ∙ e))))
    c.requires.vector c.in-Some.ensures.run c.in-Some.ensures.positions

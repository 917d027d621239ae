use Rattle.std.proofs.Common.{ap, ◌∙◌}
use Rattle.drag_along.specs.declared.leaves.Leaf.{Leaf}
use Rattle.drag_along.specs.Nodes.{leaf_shape}
use Rattle.drag_along.specs.Segments.{leaf_segment}
use Rattle.drag_along.specs.Meaning.{Means, leaf_array}
use Rattle.product_fns.proofs.OuterLemmas.{extended_is}
use Rattle.product_fns.proofs.outers.extended.Goals as goal

pub returns : goal.returns
returns c =
    let s = c.args.store.now in
    record {
      extended = extended_is s c.args.by.now c.args.leaf.now c.leaf_interval.result _ _ c.requires.lawful c.leaf_interval.ensures.value c.leaf_interval.ensures.within
          (c.in_ok-segment.ensures.exact ∙ ap (λ (l : Leaf). leaf_segment l c.leaf_interval.result) c.copy.ensures.same)
          c.select.ensures.nodes c.select.ensures.range c.select.ensures.segment (c.select.ensures.lawful s) (c.select.ensures.meaning s)
          (c.in_ok-segment.ensures.meaning s ∙ ap (λ (l : Leaf). Means (leaf_array s (leaf_shape l) l)) c.copy.ensures.same);
    }

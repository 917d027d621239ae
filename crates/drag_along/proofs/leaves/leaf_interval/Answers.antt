use Rattle.std.proofs.Common.{sym, subst}
use Rattle.drag_along.specs.declared.leaves.Leaf.{Leaf}
use Rattle.drag_along.specs.Lawful.{LeafWithin}
use Rattle.drag_along.proofs.LeafLemmas.{range_within}
use Rattle.drag_along.proofs.leaves.leaf_interval.Goals as goal

pub returns-in-Gen-clause-within : goal.returns-in-Gen-clause-within
returns-in-Gen-clause-within c =
    subst (λ (l : Leaf). LeafWithin c.args.store.now l c.least_and_greatest.result) (sym c.in-Gen.is)
    (range_within _ _ c.least_and_greatest.ensures.range)

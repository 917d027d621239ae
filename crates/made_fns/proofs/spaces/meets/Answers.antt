use Rattle.std.proofs.Common.{◌∙◌, ◌<◌, ℕ, List, length, sym, subst}
use Rattle.drag_along.specs.Nodes.{leaf_shape}
use Rattle.made_fns.proofs.KeepLemmas.{axis_there}
use Rattle.made_fns.proofs.spaces.meets.Goals as goal

pub bounds-lengths-along : goal.bounds-lengths-along
bounds-lengths-along c =
    subst (λ (ns : List ℕ). c.args.along < length ns) (sym c.lengths.ensures) (axis_there (leaf_shape c.args.b.now) c.args.along c.requires (sym c.is_extendable.ensures.value ∙ c.if-is_extendable.false))

use Rattle.std.proofs.Common.{ℕ, List, [], ◌∷◌}
use Rattle.std.specs.List.{IsDistinct}
use Rattle.apl_model.specs.Environment.{is_same_name}
use Rattle.names_use.proofs.uses.enter.Goals as goal

one : (name : List ℕ) → IsDistinct is_same_name (name ∷ [])
unfolding IsDistinct
one name = (tt, tt)

pub bind-requires : goal.bind-requires
bind-requires c = one c.args.declared

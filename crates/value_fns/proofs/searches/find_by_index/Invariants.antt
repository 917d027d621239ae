use Rattle.std.proofs.Common.{◌≡◌, ◌++◌, map, take, drop, pos}
use Rattle.apl_model.specs.Made.{counted_from}
use Rattle.value_fns.specs.Placed.{first_place}
use Rattle.value_fns.proofs.searches.find_by_index.Given as goal

abbrev pub invariant-loop-slot : goal.invariant-loop-slot
invariant-loop-slot l = l.wanted ≡ map (λ z. counted_from (pos l.origin) (first_place l.cells z)) (take l.slot-index l.initial.wanted) ++ drop l.slot-index l.initial.wanted

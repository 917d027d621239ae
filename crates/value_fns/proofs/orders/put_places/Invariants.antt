use Rattle.std.proofs.Common.{◌≡◌, map, take, pos}
use Rattle.apl_model.specs.Made.{counted_from}
use Rattle.value_fns.specs.Placed.{Placed}
use Rattle.value_fns.proofs.orders.put_places.Given as goal

abbrev pub invariant-loop-i : goal.invariant-loop-i
invariant-loop-i l = take l.i l.cells ≡ map (λ (x : Placed). counted_from (pos l.origin) x.1) (take l.i l.index)

use Rattle.array_store.proofs.PlaceLemmas.{Copied}
use Rattle.array_store.proofs.places.copy_along.Given as goal

abbrev pub invariant-loop-slot : goal.invariant-loop-slot
invariant-loop-slot l = Copied l.cells l.from l.step l.into l.place l.slot-index

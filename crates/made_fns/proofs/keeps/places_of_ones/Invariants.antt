use Rattle.std.proofs.Common.{◌≡◌, map, take, Some}
use Rattle.apl_model.specs.Made.{ones_from}
use Rattle.made_fns.proofs.keeps.places_of_ones.Given as goal

-- the places of the ones so far
abbrev pub invariant-loop-place : goal.invariant-loop-place
invariant-loop-place l = l.places.items ≡ map Some (ones_from 0 (take l.place l.bits))

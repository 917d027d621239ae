use Rattle.std.proofs.Common.{ℤ, pos, get_or, arith, rules, to_z-of_z, FitsSigned}
use Rattle.std.specs.Int.{w128}
use Rattle.std.proofs.lemmas.Int.{ints}
use Rattle.apl_model.specs.Made.{counted_from}
use Rattle.value_fns.specs.Placed.{first_place}
use Rattle.value_fns.proofs.Mapped.{mapped_more}
use Rattle.value_fns.proofs.searches.find_by_steps.Goals as goal

pub loop-slot-preserved : goal.loop-slot-preserved
loop-slot-preserved c =
    let fits : FitsSigned w128 (get_or c.loop-slot.wanted c.loop-slot.slot-index (pos 0)) = search rules in
    let place = simp to_z-of_z at c.place_among.ensures in
    mapped_more (λ (z : ℤ). counted_from (pos c.args.origin) (first_place c.args.cells.now z)) c.args.wanted.now c.loop-slot.wanted c.loop-slot.slot-index _ (omega arith) (omega arith) c.loop-slot.invariant
    (omega (arith, ints, place))

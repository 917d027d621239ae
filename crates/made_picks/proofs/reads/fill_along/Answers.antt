use mir.Syntax.{w128}
use Rattle.std.proofs.Common.{◌≡◌, ◌<◌, ℕ, pos, ◌+ℤ◌, ◌*ℤ◌, length, arith}
use Rattle.std.proofs.lemmas.Int.{to_z-of_z}
use Rattle.apl_base.specs.Number.{IsNumber}
use Rattle.e_machine.proofs.RowLemmas.{filled_none, filled_next}
use Rattle.made_picks.proofs.reads.fill_along.Goals as goal

pub loop-slot-init : goal.loop-slot-init
loop-slot-init c =
    let from = to_z-of_z w128 _ c.ranges.from in
    let step = to_z-of_z w128 _ c.ranges.step in
    rw (from, step) (filled_none _ _ _ c.ranges.from)

pub loop-slot-preserved : goal.loop-slot-preserved
loop-slot-preserved c =
    let from = to_z-of_z w128 _ c.ranges.from in
    let step = to_z-of_z w128 _ c.ranges.step in
    let after = to_z-of_z w128 c.next_number-number.result (record { sfits = c.next_number-number.type_inv }) in
    let filled = rw (from, step) at c.loop-slot.invariant in
    let on = rw step at c.next_number-number.ensures in
    let many : length c.loop-slot.into ≡ length c.args.into.now = c.loop-slot.auto.into in
    let numbers : (j : ℕ) → j < length c.loop-slot.into → IsNumber (c.args.from +ℤ (c.args.step *ℤ pos j)) =
    λ j h. c.requires j (omega (arith, h, many)) in
    let below : c.loop-slot.slot-index < length c.loop-slot.into = omega arith in
    rw (from, step, after) (filled_next _ _ _ _ _ _ numbers below filled on)

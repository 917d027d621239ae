use mir.Syntax.{w128}
use Rattle.std.proofs.Common.{◌^◌, ◌<◌, length, subst, sym, arith}
use Rattle.std.proofs.lemmas.Int.{to_z-of_z}
use Rattle.array_store.specs.Places.{PlacesWithin}
use Rattle.array_store.proofs.PlaceLemmas.{copied_none, copied_next}
use Rattle.array_store.proofs.places.copy_along.Goals as goal

pub loop-slot-init : goal.loop-slot-init
loop-slot-init c =
    let from = to_z-of_z w128 _ c.ranges.from in
    let step = to_z-of_z w128 _ c.ranges.step in
    rw (from, step) (copied_none _ _ _ _ c.ranges.from)

pub loop-slot-preserved : goal.loop-slot-preserved
loop-slot-preserved c =
    let from = to_z-of_z w128 _ c.ranges.from in
    let step = to_z-of_z w128 _ c.ranges.step in
    let cell = to_z-of_z w128 c.cell_at.result (record { sfits = c.cell_at.type_inv }) in
    let after = to_z-of_z w128 c.next_place-place.result (record { sfits = c.next_place-place.type_inv }) in
    let copied = rw (from, step) at c.loop-slot.invariant in
    let on = rw step at c.next_place-place.ensures in
    let small : length c.args.cells.now < 2 ^ 64 = omega arith in
    let within = subst (PlacesWithin (length c.args.cells.now) c.args.from c.args.step) (sym c.loop-slot.auto.into) c.requires in
    let below : c.loop-slot.slot-index < length c.loop-slot.into = omega arith in
    rw (from, step, cell, after) (copied_next _ _ _ _ _ _ _ _ small within below copied c.cell_at.ensures on)

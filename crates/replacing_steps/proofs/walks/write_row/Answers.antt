use mir.Syntax.{w128}
use Rattle.std.proofs.Common.{◌≡◌, ◌∙◌, ◌<◌, ◌≤◌, ◌+◌, ℕ, ℤ, pos, ◌+ℤ◌, ◌*ℤ◌, ◌≤ℤ◌, ◌<ℤ◌, None, Some, length, get_or, sym, ap, subst, arith}
use Rattle.std.specs.Prelude.{unsigned_abs}
use Rattle.std.proofs.lemmas.Int.{to_z-of_z}
use Rattle.apl_base.specs.Number.{IsCell}
use Rattle.apl_base.proofs.Integers.{magnitude-below}
use Rattle.array_store.specs.Stores.{holders_of, cells_of, kind_of}
use Rattle.made_picks.specs.Tracks.{places_on}
use Rattle.replacing_steps.specs.Writes.{value_by}
use Rattle.replacing_steps.proofs.WriteLemmas.{readable_written, cells_written}
use Rattle.replacing_steps.proofs.WalkLemmas.{row_more, row_all, row_reached, row_fits, has_part, value_lawful}
use Rattle.replacing_steps.proofs.walks.write_row.Goals as goal

pub unreachable-requires : goal.unreachable-requires
unreachable-requires c =
    let some = c.requires.named c.loop-j.j (omega (arith, c.loop-j-test.true, c.len-j-end.ensures)) in
    let none : c.place.result ≡ None = c.in_default.is in
    let there : c.place.result ≡ Some some.0 = c.place.ensures ∙ some.1 in
    cc

pub number_on-number-requires-clause-number : goal.number_on-number-requires-clause-number
number_on-number-requires-clause-number c =
    let z = c.in-Some.place in
    let read : get_or (places_on c.args.track.now) c.loop-j.j None ≡ Some z = sym c.place.ensures ∙ c.in-Some.is in
    let at = to_z-of_z w128 c.args.at c.ranges.at in
    let stride = to_z-of_z w128 c.args.stride c.ranges.stride in
    let place = to_z-of_z w128 z (row_fits c.args.store.now c.args.owner c.args.at c.args.stride c.args.track.now c.loop-j.j z c.requires.row read) in
    rw (at, stride, place) (row_reached c.args.store.now c.args.owner c.args.at c.args.stride c.args.track.now c.loop-j.j z c.requires.row read).number

pub write_number-requires-clause-low : goal.write_number-requires-clause-low
write_number-requires-clause-low c =
    let z = c.in-Some.place in
    let read : get_or (places_on c.args.track.now) c.loop-j.j None ≡ Some z = sym c.place.ensures ∙ c.in-Some.is in
    let at = to_z-of_z w128 c.args.at c.ranges.at in
    let stride = to_z-of_z w128 c.args.stride c.ranges.stride in
    let place = to_z-of_z w128 z (row_fits c.args.store.now c.args.owner c.args.at c.args.stride c.args.track.now c.loop-j.j z c.requires.row read) in
    let number = to_z-of_z w128 c.number_on-number.result (record { sfits = c.number_on-number.type_inv }) in
    let is = rw (at, stride, place) at c.number_on-number.ensures in
    let reach = readable_written c.args.store.now c.loop-j.store c.args.owner _ _ c.loop-j.invariant.cells (row_reached c.args.store.now c.args.owner c.args.at c.args.stride c.args.track.now c.loop-j.j z c.requires.row read) in
    rw number (subst (λ (x : ℤ). pos 0 ≤ℤ x) (sym is) reach.cell.1)

pub write_number-requires-clause-high : goal.write_number-requires-clause-high
write_number-requires-clause-high c =
    let z = c.in-Some.place in
    let read : get_or (places_on c.args.track.now) c.loop-j.j None ≡ Some z = sym c.place.ensures ∙ c.in-Some.is in
    let at = to_z-of_z w128 c.args.at c.ranges.at in
    let stride = to_z-of_z w128 c.args.stride c.ranges.stride in
    let place = to_z-of_z w128 z (row_fits c.args.store.now c.args.owner c.args.at c.args.stride c.args.track.now c.loop-j.j z c.requires.row read) in
    let number = to_z-of_z w128 c.number_on-number.result (record { sfits = c.number_on-number.type_inv }) in
    let is = rw (at, stride, place) at c.number_on-number.ensures in
    let reach = readable_written c.args.store.now c.loop-j.store c.args.owner _ _ c.loop-j.invariant.cells (row_reached c.args.store.now c.args.owner c.args.at c.args.stride c.args.track.now c.loop-j.j z c.requires.row read) in
    rw number (subst (λ (x : ℤ). x <ℤ pos (length (cells_of c.loop-j.store c.args.owner))) (sym is) reach.cell.2)

pub write_number-requires-clause-lawful : goal.write_number-requires-clause-lawful
write_number-requires-clause-lawful c =
    let value = to_z-of_z w128 c.value_of.result (record { sfits = c.value_of.type_inv }) in
    let kinds = cells_written c.args.store.now c.loop-j.store c.args.owner _ c.args.values.now c.loop-j.invariant.cells c.requires.kind in
    let has = has_part c.args.values.now c.args.first (length (places_on c.args.track.now)) (c.args.first + c.loop-j.j) 1 c.requires.values (omega (arith, c.loop-j-test.true, c.len-j-end.ensures)) in
    rw value (subst (IsCell (kind_of c.loop-j.store c.args.owner)) (sym c.value_of.ensures) (value_lawful (kind_of c.loop-j.store c.args.owner) c.args.values.now (c.args.first + c.loop-j.j) kinds has))

pub loop-j-preserved : goal.loop-j-preserved
loop-j-preserved c =
    let z = c.in-Some.place in
    let read : get_or (places_on c.args.track.now) c.loop-j.j None ≡ Some z = sym c.place.ensures ∙ c.in-Some.is in
    let at = to_z-of_z w128 c.args.at c.ranges.at in
    let stride = to_z-of_z w128 c.args.stride c.ranges.stride in
    let place = to_z-of_z w128 z (row_fits c.args.store.now c.args.owner c.args.at c.args.stride c.args.track.now c.loop-j.j z c.requires.row read) in
    let number = to_z-of_z w128 c.number_on-number.result (record { sfits = c.number_on-number.type_inv }) in
    let value = to_z-of_z w128 c.value_of.result (record { sfits = c.value_of.type_inv }) in
    let is = rw (at, stride, place) at c.number_on-number.ensures in
    let reach = readable_written c.args.store.now c.loop-j.store c.args.owner _ _ c.loop-j.invariant.cells (row_reached c.args.store.now c.args.owner c.args.at c.args.stride c.args.track.now c.loop-j.j z c.requires.row read) in
    let low : pos 0 ≤ℤ c.number_on-number.result = subst (λ (x : ℤ). pos 0 ≤ℤ x) (sym is) reach.cell.1 in
    let high : c.number_on-number.result <ℤ pos (length (cells_of c.loop-j.store c.args.owner)) = subst (λ (x : ℤ). x <ℤ pos (length (cells_of c.loop-j.store c.args.owner))) (sym is) reach.cell.2 in
    let so_far = rw (at, stride) at c.loop-j.invariant in
    let step = rw (number, value) at c.write_number.ensures.written in
    rw (at, stride) (row_more c.args.store.now c.loop-j.store c.write_number.new.store c.args.owner (value_by c.args.values.now) c.args.first c.args.stride c.args.track.now c.args.at z c.number_on-number.result c.value_of.result c.loop-j.j
    so_far (omega (arith, c.loop-j-test.true, c.len-j-end.ensures)) read is c.value_of.ensures reach.cell.0
    (magnitude-below c.number_on-number.result (length (cells_of c.loop-j.store c.args.owner)) low high) step c.write_number.ensures.store)

pub returns-clause-written : goal.returns-clause-written
returns-clause-written c =
    let at = to_z-of_z w128 c.args.at c.ranges.at in
    let stride = to_z-of_z w128 c.args.stride c.ranges.stride in
    let so_far = rw (at, stride) at c.loop-j.invariant in
    row_all c.args.store.now c.loop-j.store c.args.owner (value_by c.args.values.now) c.args.first c.args.stride c.args.track.now c.args.at c.loop-j.j so_far (omega (arith, c.loop-j-test.false, c.len-j-end.ensures))

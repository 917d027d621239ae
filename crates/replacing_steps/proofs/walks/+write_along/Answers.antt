use mir.Syntax.{w128}
use Rattle.std.proofs.Common.{◌≡◌, ◌∙◌, ◌<◌, ◌≤◌, ◌+◌, ◌*◌, ◌^◌, ◌∷◌, ℕ, ℤ, pos, ◌+ℤ◌, ◌*ℤ◌, ◌≤ℤ◌, ◌<ℤ◌, None, Some, length, drop, get_or, sym, ap, subst, arith, refl}
use Rattle.std.specs.Prelude.{unsigned_abs}
use Rattle.std.proofs.lemmas.Bool.{eqb-true}
use Rattle.std.proofs.lemmas.Int.{to_z-of_z}
use Rattle.std.proofs.lemmas.List.{length-map}
use Rattle.apl_base.specs.Array.{size_of}
use Rattle.apl_base.specs.Number.{IsCell, IsNumber}
use Rattle.apl_base.proofs.Integers.{magnitude-below}
use Rattle.apl_base.proofs.Lists.{all_place}
use Rattle.array_store.specs.Stores.{StoreView, holders_of, cells_of, kind_of, with_cell}
use Rattle.made_picks.specs.Picks.{IsReached, IsReadable}
use Rattle.made_picks.specs.Tracks.{places_on}
use Rattle.made_picks.proofs.WalkLemmas.{axis_facts, reached_at, can_pick, place_reached, some_rest, fits_few, place_fits, rest_long}
use Rattle.replacing_steps.specs.Writes.{value_by, written, places_by, places_in, owner_leaf, IsRow, WritesCells}
use Rattle.replacing_steps.proofs.WriteLemmas.{reached_written, cells_written, writes_one, writes_same}
use Rattle.replacing_steps.proofs.WalkLemmas.{row_places, row_size, wrote_none, wrote_more, wrote_all, has_part, value_lawful, names_first, names_rest, inner_count, no_tracks, one_written}
use Rattle.replacing_steps.proofs.walks.+write_along.Goals as goal

pub write_number-requires : goal.write_number-requires
write_number-requires t c = record {
  alone = c.requires.alone;
  low =
      rw (to_z-of_z w128 c.args.at c.ranges.at) (reached_at c.args.store.now (owner_leaf c.args.owner) (drop c.args.axis c.args.desc.now.shape) (drop c.args.axis c.args.desc.now.strides) c.args.at c.requires.reached c.requires.some).cell.1;
  high =
      rw (to_z-of_z w128 c.args.at c.ranges.at) (reached_at c.args.store.now (owner_leaf c.args.owner) (drop c.args.axis c.args.desc.now.shape) (drop c.args.axis c.args.desc.now.strides) c.args.at c.requires.reached c.requires.some).cell.2;
  lawful =
      let value = to_z-of_z w128 c.value_of.result (record { sfits = c.value_of.type_inv }) in
      let count : places_in c.args.tracks.now ≡ 1 = ap places_in (no_tracks c.args.tracks.now c.in_default.ensures.cases) in
      let has = has_part c.args.values.now c.args.first (places_in c.args.tracks.now) c.args.first 1 c.requires.values (omega (arith, count)) in
      rw value (subst (IsCell (kind_of c.args.store.now c.args.owner)) (sym c.value_of.ensures) (value_lawful (kind_of c.args.store.now c.args.owner) c.args.values.now c.args.first c.requires.kind has));
}

pub returns-in_default-clause-written : goal.returns-in_default-clause-written
returns-in_default-clause-written t c =
    let at = to_z-of_z w128 c.args.at c.ranges.at in
    let value = to_z-of_z w128 c.value_of.result (record { sfits = c.value_of.type_inv }) in
    let step = rw (at, value) at c.write_number.ensures.written in
    let reach = reached_at c.args.store.now (owner_leaf c.args.owner) (drop c.args.axis c.args.desc.now.shape) (drop c.args.axis c.args.desc.now.strides) c.args.at c.requires.reached c.requires.some in
    one_written c.args.store.now c.write_number.new.store c.args.owner (value_by c.args.values.now) c.args.first (drop c.args.axis c.args.desc.now.strides) c.args.tracks.now c.args.at c.value_of.result (no_tracks c.args.tracks.now c.in_default.ensures.cases) c.value_of.ensures reach step

pub write_row-requires-clause-row : goal.write_row-requires-clause-row
write_row-requires-clause-row t c =
    let f = axis_facts c.args.desc.now.shape c.args.desc.now.strides c.args.axis c.args.tracks.now c.in-Some.track.now c.in-Some.rest.now c.requires.lawful.strides c.in-Some.ensures.cases.0 c.requires.fits in
    let at = to_z-of_z w128 c.args.at c.ranges.at in
    let stride = to_z-of_z w128 c.stride_of-stride.result (record { sfits = c.stride_of-stride.type_inv }) in
    rw (at, stride) (subst (λ (s : ℤ). IsRow c.args.store.now c.args.owner c.args.at s c.in-Some.track.now) (sym c.stride_of-stride.ensures)
    (can_pick c.args.store.now (owner_leaf c.args.owner) c.args.desc.now.shape c.args.desc.now.strides c.args.axis c.args.at c.in-Some.track.now c.in-Some.rest.now f c.requires.lawful.shape c.requires.reached c.requires.some))

pub write_row-requires-clause-named : goal.write_row-requires-clause-named
write_row-requires-clause-named t c = names_first c.in-Some.track.now c.in-Some.rest.now c.args.tracks.now c.in-Some.ensures.cases.0 c.requires.named

pub returns-then-is_empty-clause-written : goal.returns-then-is_empty-clause-written
returns-then-is_empty-clause-written t c =
    let f = axis_facts c.args.desc.now.shape c.args.desc.now.strides c.args.axis c.args.tracks.now c.in-Some.track.now c.in-Some.rest.now c.requires.lawful.strides c.in-Some.ensures.cases.0 c.requires.fits in
    let at = to_z-of_z w128 c.args.at c.ranges.at in
    let stride = to_z-of_z w128 c.stride_of-stride.result (record { sfits = c.stride_of-stride.type_inv }) in
    let row = rw (at, stride) at c.write_row.ensures.written in
    let places = row_places c.stride_of-stride.result (drop (c.args.axis + 1) c.args.desc.now.strides) (drop c.args.axis c.args.desc.now.strides) c.args.at c.in-Some.track.now c.in-Some.rest.now c.args.tracks.now
    (f.strides_are ∙ ap (λ (s : ℤ). s ∷ drop (c.args.axis + 1) c.args.desc.now.strides) (sym c.stride_of-stride.ensures)) c.in-Some.ensures.cases.0 (eqb-true (length c.in-Some.rest.now) 0 (sym c.is_empty.ensures ∙ c.if-is_empty.true)) in
    writes_same c.args.store.now c.write_row.new.store c.args.owner _ _ row (ap (λ zs. written (value_by c.args.values.now) c.args.first zs (cells_of c.args.store.now c.args.owner)) places)

pub len-j-end-requires : goal.len-j-end-requires
len-j-end-requires t c =
    let f = axis_facts c.args.desc.now.shape c.args.desc.now.strides c.args.axis c.args.tracks.now c.in-Some.track.now c.in-Some.rest.now c.requires.lawful.strides c.in-Some.ensures.cases.0 c.requires.fits in
    fits_few (get_or c.args.desc.now.shape c.args.axis 0) c.in-Some.track.now f.fits

pub loop-j-init : goal.loop-j-init
loop-j-init t c =
    let at = to_z-of_z w128 c.args.at c.ranges.at in
    let stride = to_z-of_z w128 c.stride_of-stride.result (record { sfits = c.stride_of-stride.type_inv }) in
    rw (at, stride) (wrote_none c.args.store.now c.args.owner (value_by c.args.values.now) c.args.first c.stride_of-stride.result (drop (c.args.axis + 1) c.args.desc.now.strides) c.in-Some.track.now c.in-Some.rest.now c.args.at c.counts-counts.ensures.store)

pub place-requires-clause-fits : goal.place-requires-clause-fits
place-requires-clause-fits t c =
    let f = axis_facts c.args.desc.now.shape c.args.desc.now.strides c.args.axis c.args.tracks.now c.in-Some.track.now c.in-Some.rest.now c.requires.lawful.strides c.in-Some.ensures.cases.0 c.requires.fits in
    (get_or c.args.desc.now.shape c.args.axis 0, all_place (λ (n : ℕ). n ≤ 2 ^ 40) c.args.desc.now.shape c.args.axis 0 c.requires.lawful.shape.each f.below, f.fits)

pub unreachable-requires : goal.unreachable-requires
unreachable-requires t c =
    let some = names_first c.in-Some.track.now c.in-Some.rest.now c.args.tracks.now c.in-Some.ensures.cases.0 c.requires.named c.loop-j.j (omega (arith, c.loop-j-test.true, c.len-j-end.ensures)) in
    let none : c.place.result ≡ None = c.in_default-place.is in
    let there : c.place.result ≡ Some some.0 = c.place.ensures ∙ some.1 in
    cc

pub number_on-behind-requires-clause-from : goal.number_on-behind-requires-clause-from
number_on-behind-requires-clause-from t c =
    rw (to_z-of_z w128 c.args.at c.ranges.at) (reached_at c.args.store.now (owner_leaf c.args.owner) (drop c.args.axis c.args.desc.now.shape) (drop c.args.axis c.args.desc.now.strides) c.args.at c.requires.reached c.requires.some).number

pub number_on-behind-requires-clause-number : goal.number_on-behind-requires-clause-number
number_on-behind-requires-clause-number t c =
    let f = axis_facts c.args.desc.now.shape c.args.desc.now.strides c.args.axis c.args.tracks.now c.in-Some.track.now c.in-Some.rest.now c.requires.lawful.strides c.in-Some.ensures.cases.0 c.requires.fits in
    let z = c.in-Some-place.place in
    let read : get_or (places_on c.in-Some.track.now) c.loop-j.j None ≡ Some z = sym c.place.ensures ∙ c.in-Some-place.is in
    let at = to_z-of_z w128 c.args.at c.ranges.at in
    let stride = to_z-of_z w128 c.stride_of-stride.result (record { sfits = c.stride_of-stride.type_inv }) in
    let place = to_z-of_z w128 z (place_fits c.args.desc.now.shape c.args.desc.now.strides c.args.axis c.in-Some.track.now c.in-Some.rest.now c.loop-j.j z f c.requires.lawful.shape read) in
    let reach = place_reached c.args.store.now (owner_leaf c.args.owner) c.args.desc.now.shape c.args.desc.now.strides c.args.axis c.args.at c.in-Some.track.now c.in-Some.rest.now c.loop-j.j z f c.requires.reached read in
    let here = reached_at c.args.store.now (owner_leaf c.args.owner) (drop (c.args.axis + 1) c.args.desc.now.shape) (drop (c.args.axis + 1) c.args.desc.now.strides) (c.args.at +ℤ (get_or c.args.desc.now.strides c.args.axis (pos 0) *ℤ z)) reach
    (some_rest c.args.desc.now.shape c.args.desc.now.strides c.args.axis c.in-Some.track.now c.in-Some.rest.now f c.requires.some) in
    rw (at, stride, place) (subst (λ (s : ℤ). IsNumber (c.args.at +ℤ (s *ℤ z))) (sym c.stride_of-stride.ensures) here.number)

pub write_along-number-requires : goal.write_along-number-requires
write_along-number-requires t c =
    let f = axis_facts c.args.desc.now.shape c.args.desc.now.strides c.args.axis c.args.tracks.now c.in-Some.track.now c.in-Some.rest.now c.requires.lawful.strides c.in-Some.ensures.cases.0 c.requires.fits in
    let z = c.in-Some-place.place in
    let read : get_or (places_on c.in-Some.track.now) c.loop-j.j None ≡ Some z = sym c.place.ensures ∙ c.in-Some-place.is in
    let at = to_z-of_z w128 c.args.at c.ranges.at in
    let stride = to_z-of_z w128 c.stride_of-stride.result (record { sfits = c.stride_of-stride.type_inv }) in
    let place = to_z-of_z w128 z (place_fits c.args.desc.now.shape c.args.desc.now.strides c.args.axis c.in-Some.track.now c.in-Some.rest.now c.loop-j.j z f c.requires.lawful.shape read) in
    let number = to_z-of_z w128 c.number_on-behind.result (record { sfits = c.number_on-behind.type_inv }) in
    let is = rw (at, stride, place) at c.number_on-behind.ensures in
    let from : c.number_on-behind.result ≡ c.args.at +ℤ (get_or c.args.desc.now.strides c.args.axis (pos 0) *ℤ z) = is ∙ ap (λ (s : ℤ). c.args.at +ℤ (s *ℤ z)) c.stride_of-stride.ensures in
    let reach = place_reached c.args.store.now (owner_leaf c.args.owner) c.args.desc.now.shape c.args.desc.now.strides c.args.axis c.args.at c.in-Some.track.now c.in-Some.rest.now c.loop-j.j z f c.requires.reached read in
    let now = reached_written c.args.store.now c.loop-j.store c.args.owner _ (drop (c.args.axis + 1) c.args.desc.now.shape) (drop (c.args.axis + 1) c.args.desc.now.strides) (c.args.at +ℤ (get_or c.args.desc.now.strides c.args.axis (pos 0) *ℤ z)) c.loop-j.invariant.cells reach in
    let inner = inner_count c.in-Some.track.now c.in-Some.rest.now c.args.tracks.now c.args.first c.loop-j.j c.loop-j.number c.in-Some.ensures.cases.0 (omega (arith, c.loop-j-test.true, c.len-j-end.ensures)) c.loop-j.invariant.number_is in (
      omega (arith, c.decreases, c.in-Some.ensures.cases.1),
      (
        omega (arith, c.requires.alone, c.loop-j.invariant.cells.holders c.args.owner),
        (
          c.requires.lawful,
          (
            rw number (subst (IsReached c.loop-j.store (owner_leaf c.args.owner) (drop (c.args.axis + 1) c.args.desc.now.shape) (drop (c.args.axis + 1) c.args.desc.now.strides)) (sym from) now),
            (
              f.rest,
              (
                some_rest c.args.desc.now.shape c.args.desc.now.strides c.args.axis c.in-Some.track.now c.in-Some.rest.now f c.requires.some,
                (
                  names_rest c.in-Some.track.now c.in-Some.rest.now c.args.tracks.now c.in-Some.ensures.cases.0 c.requires.named,
                  (
                    has_part c.args.values.now c.args.first (places_in c.args.tracks.now) c.loop-j.number (places_in c.in-Some.rest.now) c.requires.values inner,
                    (
                      omega (arith, inner, c.requires.numbers),
                      cells_written c.args.store.now c.loop-j.store c.args.owner _ c.args.values.now c.loop-j.invariant.cells c.requires.kind,
                    ),
                  ),
                ),
              ),
            ),
          ),
        ),
      ),
    )

pub loop-j-preserved : goal.loop-j-preserved
loop-j-preserved t c =
    let f = axis_facts c.args.desc.now.shape c.args.desc.now.strides c.args.axis c.args.tracks.now c.in-Some.track.now c.in-Some.rest.now c.requires.lawful.strides c.in-Some.ensures.cases.0 c.requires.fits in
    let z = c.in-Some-place.place in
    let read : get_or (places_on c.in-Some.track.now) c.loop-j.j None ≡ Some z = sym c.place.ensures ∙ c.in-Some-place.is in
    let at = to_z-of_z w128 c.args.at c.ranges.at in
    let stride = to_z-of_z w128 c.stride_of-stride.result (record { sfits = c.stride_of-stride.type_inv }) in
    let place = to_z-of_z w128 z (place_fits c.args.desc.now.shape c.args.desc.now.strides c.args.axis c.in-Some.track.now c.in-Some.rest.now c.loop-j.j z f c.requires.lawful.shape read) in
    let number = to_z-of_z w128 c.number_on-behind.result (record { sfits = c.number_on-behind.type_inv }) in
    let is = rw (at, stride, place) at c.number_on-behind.ensures in
    let so_far = rw (at, stride) at c.loop-j.invariant in
    let step = rw number at c.write_along-number.ensures.written in
    let long = rest_long c.args.desc.now.shape c.args.desc.now.strides c.args.axis c.in-Some.track.now c.in-Some.rest.now f c.requires.lawful.strides in
    rw (at, stride) (wrote_more c.args.store.now c.loop-j.store c.write_along-number.new.store c.args.owner (value_by c.args.values.now) c.args.first c.stride_of-stride.result (drop (c.args.axis + 1) c.args.desc.now.strides) c.in-Some.track.now c.in-Some.rest.now c.args.at z c.number_on-behind.result c.loop-j.j c.loop-j.number c.write_along-number.result
    (omega (arith, long, length-map c.in-Some.rest.now places_on)) so_far (omega (arith, c.loop-j-test.true, c.len-j-end.ensures)) read is step c.write_along-number.ensures.next c.write_along-number.ensures.store)

pub returns-clause-written : goal.returns-clause-written
returns-clause-written t c =
    let f = axis_facts c.args.desc.now.shape c.args.desc.now.strides c.args.axis c.args.tracks.now c.in-Some.track.now c.in-Some.rest.now c.requires.lawful.strides c.in-Some.ensures.cases.0 c.requires.fits in
    let at = to_z-of_z w128 c.args.at c.ranges.at in
    let stride = to_z-of_z w128 c.stride_of-stride.result (record { sfits = c.stride_of-stride.type_inv }) in
    let so_far = rw (at, stride) at c.loop-j.invariant in
    wrote_all c.args.store.now c.loop-j.store c.args.owner (value_by c.args.values.now) c.args.first c.stride_of-stride.result (drop (c.args.axis + 1) c.args.desc.now.strides) (drop c.args.axis c.args.desc.now.strides) c.in-Some.track.now c.in-Some.rest.now c.args.tracks.now c.args.at c.loop-j.j c.loop-j.number
    so_far (omega (arith, c.loop-j-test.false, c.len-j-end.ensures)) (f.strides_are ∙ ap (λ (s : ℤ). s ∷ drop (c.args.axis + 1) c.args.desc.now.strides) (sym c.stride_of-stride.ensures)) c.in-Some.ensures.cases.0

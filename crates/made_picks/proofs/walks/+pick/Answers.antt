use mir.Syntax.{w128}
use Rattle.std.proofs.Common.{◌≡◌, ◌<◌, ◌≤◌, ◌+◌, ◌^◌, ◌∙◌, ◌∷◌, ℕ, ℤ, pos, ◌+ℤ◌, ◌*ℤ◌, None, Some, length, vec_len, map, drop, get_or, sym, ap, subst, arith, rules}
use Rattle.std.proofs.lemmas.Bool.{eqb-true}
use Rattle.std.proofs.lemmas.Int.{to_z-of_z}
use Rattle.apl_base.specs.Array.{size_of}
use Rattle.apl_base.specs.Number.{IsNumber}
use Rattle.apl_base.proofs.Lists.{all_place}
use Rattle.array_store.proofs.CountingLemmas.{OnlyFetched-more}
use Rattle.made_picks.specs.Picks.{cell_by, lengths_on, IsReached}
use Rattle.made_picks.specs.Tracks.{places_on, CanPick}
use Rattle.made_picks.proofs.WalkLemmas.{axis_facts, reached_at, reached-counted, can_pick, place_reached, some_rest, rest_facts, rest_few, rest_long, fits_few, place_fits, row_ends, picked_none, picked_blanks, picked_more, picked_all, one_row, few_rows, more_long, blanks_long}
use Rattle.made_picks.proofs.walks.+pick.Goals.{in-Some-place, in-None}
use Rattle.made_picks.proofs.walks.+pick.Goals as goal

pub read_number-requires : goal.read_number-requires
read_number-requires t c =
    rw (to_z-of_z w128 c.args.at c.ranges.at) (reached_at c.args.store.now c.args.leaf.now (drop c.args.axis c.args.desc.now.shape) (drop c.args.axis c.args.desc.now.strides) c.args.at c.requires.reached c.requires.some)

pub stride_of-stride-requires : goal.stride_of-stride-requires
stride_of-stride-requires t c =
    (axis_facts c.args.desc.now.shape c.args.desc.now.strides c.args.axis c.args.tracks.now c.in-Some.track.now c.in-Some.rest.now c.requires.lawful.strides c.in-Some.ensures.cases.0 c.requires.fits).long

pub pick_row-requires-clause-can : goal.pick_row-requires-clause-can
pick_row-requires-clause-can t c =
    let f = axis_facts c.args.desc.now.shape c.args.desc.now.strides c.args.axis c.args.tracks.now c.in-Some.track.now c.in-Some.rest.now c.requires.lawful.strides c.in-Some.ensures.cases.0 c.requires.fits in
    let at = to_z-of_z w128 c.args.at c.ranges.at in
    let stride = to_z-of_z w128 c.stride_of-stride.result (record { sfits = c.stride_of-stride.type_inv }) in
    rw (at, stride) (subst (λ (s : ℤ). CanPick c.args.store.now c.args.leaf.now c.args.at s c.in-Some.track.now) (sym c.stride_of-stride.ensures)
    (can_pick c.args.store.now c.args.leaf.now c.args.desc.now.shape c.args.desc.now.strides c.args.axis c.args.at c.in-Some.track.now c.in-Some.rest.now f c.requires.lawful.shape c.requires.reached c.requires.some))

pub returns-then-is_empty-clause-cells : goal.returns-then-is_empty-clause-cells
returns-then-is_empty-clause-cells t c =
    let f = axis_facts c.args.desc.now.shape c.args.desc.now.strides c.args.axis c.args.tracks.now c.in-Some.track.now c.in-Some.rest.now c.requires.lawful.strides c.in-Some.ensures.cases.0 c.requires.fits in
    let at = to_z-of_z w128 c.args.at c.ranges.at in
    let blank = to_z-of_z w128 c.args.blank c.ranges.blank in
    let stride = to_z-of_z w128 c.stride_of-stride.result (record { sfits = c.stride_of-stride.type_inv }) in
    let cells = rw (at, stride, blank) at c.pick_row.ensures.cells in
    row_ends (cell_by c.args.store.now c.args.leaf.now) c.args.blank c.args.at c.stride_of-stride.result (drop (c.args.axis + 1) c.args.desc.now.strides) (drop c.args.axis c.args.desc.now.strides) c.args.tracks.now c.in-Some.track.now c.in-Some.rest.now c.args.cells.now.items _
    (f.strides_are ∙ ap (λ (s : ℤ). s ∷ drop (c.args.axis + 1) c.args.desc.now.strides) (sym c.stride_of-stride.ensures)) c.in-Some.ensures.cases.0 (eqb-true (length c.in-Some.rest.now) 0 (sym c.is_empty.ensures ∙ c.if-is_empty.true)) cells

pub len-j-end-requires : goal.len-j-end-requires
len-j-end-requires t c =
    let f = axis_facts c.args.desc.now.shape c.args.desc.now.strides c.args.axis c.args.tracks.now c.in-Some.track.now c.in-Some.rest.now c.requires.lawful.strides c.in-Some.ensures.cases.0 c.requires.fits in
    fits_few (get_or c.args.desc.now.shape c.args.axis 0) c.in-Some.track.now f.fits

pub loop-j-init : goal.loop-j-init
loop-j-init t c =
    let at = to_z-of_z w128 c.args.at c.ranges.at in
    let blank = to_z-of_z w128 c.args.blank c.ranges.blank in
    let stride = to_z-of_z w128 c.stride_of-stride.result (record { sfits = c.stride_of-stride.type_inv }) in (
      rw (at, stride, blank) (picked_none c.args.store.now c.args.leaf.now c.args.blank c.stride_of-stride.result (drop (c.args.axis + 1) c.args.desc.now.strides) c.in-Some.track.now c.in-Some.rest.now c.args.at c.args.cells.now.items c.counts-counts.ensures.store),
      omega arith,
      omega arith,
    )

pub place-requires-clause-fits : goal.place-requires-clause-fits
place-requires-clause-fits t c =
    let f = axis_facts c.args.desc.now.shape c.args.desc.now.strides c.args.axis c.args.tracks.now c.in-Some.track.now c.in-Some.rest.now c.requires.lawful.strides c.in-Some.ensures.cases.0 c.requires.fits in
    (get_or c.args.desc.now.shape c.args.axis 0, all_place (λ (n : ℕ). n ≤ 2 ^ 40) c.args.desc.now.shape c.args.axis 0 c.requires.lawful.shape.each f.below, f.fits)

pub number_on-next-requires-clause-from : goal.number_on-next-requires-clause-from
number_on-next-requires-clause-from t c =
    rw (to_z-of_z w128 c.args.at c.ranges.at) (reached_at c.args.store.now c.args.leaf.now (drop c.args.axis c.args.desc.now.shape) (drop c.args.axis c.args.desc.now.strides) c.args.at c.requires.reached c.requires.some).number

pub number_on-next-requires-clause-number : goal.number_on-next-requires-clause-number
number_on-next-requires-clause-number t c =
    let f = axis_facts c.args.desc.now.shape c.args.desc.now.strides c.args.axis c.args.tracks.now c.in-Some.track.now c.in-Some.rest.now c.requires.lawful.strides c.in-Some.ensures.cases.0 c.requires.fits in
    let z = c.in-Some-place.place in
    let read : get_or (places_on c.in-Some.track.now) c.loop-j.j None ≡ Some z = sym c.place.ensures ∙ c.in-Some-place.is in
    let at = to_z-of_z w128 c.args.at c.ranges.at in
    let stride = to_z-of_z w128 c.stride_of-stride.result (record { sfits = c.stride_of-stride.type_inv }) in
    let place = to_z-of_z w128 z (place_fits c.args.desc.now.shape c.args.desc.now.strides c.args.axis c.in-Some.track.now c.in-Some.rest.now c.loop-j.j z f c.requires.lawful.shape read) in
    let reach = place_reached c.args.store.now c.args.leaf.now c.args.desc.now.shape c.args.desc.now.strides c.args.axis c.args.at c.in-Some.track.now c.in-Some.rest.now c.loop-j.j z f c.requires.reached read in
    let here = reached_at c.args.store.now c.args.leaf.now (drop (c.args.axis + 1) c.args.desc.now.shape) (drop (c.args.axis + 1) c.args.desc.now.strides) (c.args.at +ℤ (get_or c.args.desc.now.strides c.args.axis (pos 0) *ℤ z)) reach
    (some_rest c.args.desc.now.shape c.args.desc.now.strides c.args.axis c.in-Some.track.now c.in-Some.rest.now f c.requires.some) in
    rw (at, stride, place) (subst (λ (s : ℤ). IsNumber (c.args.at +ℤ (s *ℤ z))) (sym c.stride_of-stride.ensures) here.number)

pub pick-requires : goal.pick-requires
pick-requires t c =
    let f = axis_facts c.args.desc.now.shape c.args.desc.now.strides c.args.axis c.args.tracks.now c.in-Some.track.now c.in-Some.rest.now c.requires.lawful.strides c.in-Some.ensures.cases.0 c.requires.fits in
    let z = c.in-Some-place.place in
    let read : get_or (places_on c.in-Some.track.now) c.loop-j.j None ≡ Some z = sym c.place.ensures ∙ c.in-Some-place.is in
    let at = to_z-of_z w128 c.args.at c.ranges.at in
    let stride = to_z-of_z w128 c.stride_of-stride.result (record { sfits = c.stride_of-stride.type_inv }) in
    let place = to_z-of_z w128 z (place_fits c.args.desc.now.shape c.args.desc.now.strides c.args.axis c.in-Some.track.now c.in-Some.rest.now c.loop-j.j z f c.requires.lawful.shape read) in
    let next = to_z-of_z w128 c.number_on-next.result (record { sfits = c.number_on-next.type_inv }) in
    let is = rw (at, stride, place) at c.number_on-next.ensures in
    let from : c.number_on-next.result ≡ c.args.at +ℤ (get_or c.args.desc.now.strides c.args.axis (pos 0) *ℤ z) = is ∙ ap (λ (s : ℤ). c.args.at +ℤ (s *ℤ z)) c.stride_of-stride.ensures in
    let reach = place_reached c.args.store.now c.args.leaf.now c.args.desc.now.shape c.args.desc.now.strides c.args.axis c.args.at c.in-Some.track.now c.in-Some.rest.now c.loop-j.j z f c.requires.reached read in
    let now = reached-counted c.args.store.now c.loop-j.store c.args.leaf.now (drop (c.args.axis + 1) c.args.desc.now.shape) (drop (c.args.axis + 1) c.args.desc.now.strides) (c.args.at +ℤ (get_or c.args.desc.now.strides c.args.axis (pos 0) *ℤ z)) c.loop-j.invariant.0.counted.only reach in
    let rest = rest_facts c.in-Some.track.now c.in-Some.rest.now c.args.tracks.now c.in-Some.ensures.cases.0 c.requires.many c.requires.few in
    let row = one_row c.loop-j.j (length (places_on c.in-Some.track.now)) (size_of (lengths_on (map places_on c.in-Some.rest.now))) (omega (arith, c.loop-j-test.true, c.len-j-end.ensures)) in (
      omega (arith, c.decreases, c.in-Some.ensures.cases.1),
      (
        c.requires.lawful,
        (
          rw next (subst (IsReached c.loop-j.store c.args.leaf.now (drop (c.args.axis + 1) c.args.desc.now.shape) (drop (c.args.axis + 1) c.args.desc.now.strides)) (sym from) now),
          (
            f.rest,
            (
              some_rest c.args.desc.now.shape c.args.desc.now.strides c.args.axis c.in-Some.track.now c.in-Some.rest.now f c.requires.some,
              (
                rest.some,
                (
                  rest.few,
                  omega (arith, row, rest.size, c.requires.room, c.loop-j.invariant.1, c.loop-j.invariant.2),
                ),
              ),
            ),
          ),
        ),
      ),
    )

pub picked_count-requires-clause-each : goal.picked_count-requires-clause-each
picked_count-requires-clause-each t c =
    let f = axis_facts c.args.desc.now.shape c.args.desc.now.strides c.args.axis c.args.tracks.now c.in-Some.track.now c.in-Some.rest.now c.requires.lawful.strides c.in-Some.ensures.cases.0 c.requires.fits in
    rest_few c.args.desc.now.shape c.args.desc.now.strides c.args.axis c.in-Some.track.now c.in-Some.rest.now f

pub picked_count-requires-clause-few : goal.picked_count-requires-clause-few
picked_count-requires-clause-few t c = (rest_facts c.in-Some.track.now c.in-Some.rest.now c.args.tracks.now c.in-Some.ensures.cases.0 c.requires.many c.requires.few).few

pub picked_count-requires-clause-some : goal.picked_count-requires-clause-some
picked_count-requires-clause-some t c = (rest_facts c.in-Some.track.now c.in-Some.rest.now c.args.tracks.now c.in-Some.ensures.cases.0 c.requires.many c.requires.few).some

pub push_blanks-requires : goal.push_blanks-requires
push_blanks-requires t c =
    let rest = rest_facts c.in-Some.track.now c.in-Some.rest.now c.args.tracks.now c.in-Some.ensures.cases.0 c.requires.many c.requires.few in
    let row = one_row c.loop-j.j (length (places_on c.in-Some.track.now)) (size_of (lengths_on (map places_on c.in-Some.rest.now))) (omega (arith, c.loop-j-test.true, c.len-j-end.ensures)) in
    omega (arith, row, rest.size, c.picked_count.ensures, c.requires.room, c.loop-j.invariant.1, c.loop-j.invariant.2)

pub loop-j-preserved : goal.loop-j-preserved
loop-j-preserved t c =
    let f = axis_facts c.args.desc.now.shape c.args.desc.now.strides c.args.axis c.args.tracks.now c.in-Some.track.now c.in-Some.rest.now c.requires.lawful.strides c.in-Some.ensures.cases.0 c.requires.fits in
    let at = to_z-of_z w128 c.args.at c.ranges.at in
    let blank = to_z-of_z w128 c.args.blank c.ranges.blank in
    let stride = to_z-of_z w128 c.stride_of-stride.result (record { sfits = c.stride_of-stride.type_inv }) in
    let so_far = rw (at, stride, blank) at c.loop-j.invariant.0 in
    let below : c.loop-j.j < length (places_on c.in-Some.track.now) = omega (arith, c.loop-j-test.true, c.len-j-end.ensures) in
    let before : length c.loop-j.cells.items ≡ vec_len c.loop-j.cells = search rules in
    let long = rest_long c.args.desc.now.shape c.args.desc.now.strides c.args.axis c.in-Some.track.now c.in-Some.rest.now f c.requires.lawful.strides in
    elim c.match-place.branch [
      | in-Some-place w ↦
          let z = w.in-Some-place.place in
          let read : get_or (places_on c.in-Some.track.now) c.loop-j.j None ≡ Some z = sym c.place.ensures ∙ w.in-Some-place.is in
          let place = to_z-of_z w128 z (place_fits c.args.desc.now.shape c.args.desc.now.strides c.args.axis c.in-Some.track.now c.in-Some.rest.now c.loop-j.j z f c.requires.lawful.shape read) in
          let next = to_z-of_z w128 w.number_on-next.result (record { sfits = w.number_on-next.type_inv }) in
          let is = rw (at, stride, place) at w.number_on-next.ensures in
          let cells = rw (next, blank) at w.pick.ensures.cells in
          let after : length w.pick.new.cells.items ≡ vec_len w.pick.new.cells = search rules in
          let more = more_long (cell_by c.loop-j.store c.args.leaf.now) c.args.blank (drop (c.args.axis + 1) c.args.desc.now.strides) c.in-Some.rest.now w.number_on-next.result c.loop-j.cells.items w.pick.new.cells.items long cells in
          rw (w.store-is, w.cells-is) (
            rw (at, stride, blank) (picked_more c.args.store.now c.loop-j.store w.pick.new.store c.args.leaf.now c.args.blank c.stride_of-stride.result (drop (c.args.axis + 1) c.args.desc.now.strides) c.in-Some.track.now c.in-Some.rest.now c.args.at z w.number_on-next.result
                c.args.cells.now.items c.loop-j.cells.items w.pick.new.cells.items c.loop-j.j so_far below read is cells w.pick.ensures.counted w.pick.ensures.store),
            omega (arith, before, after, more, c.loop-j.invariant.1),
            omega (arith, c.loop-j.invariant.2, w.pick.ensures.capacity),
          )
      | in-None w ↦
          let none : get_or (places_on c.in-Some.track.now) c.loop-j.j None ≡ None = sym c.place.ensures ∙ w.in-None.is in
          let cells = rw blank at w.push_blanks.ensures.cells in
          let after : length w.push_blanks.new.into.items ≡ vec_len w.push_blanks.new.into = search rules in
          let more = blanks_long c.args.blank w.picked_count.result c.loop-j.cells.items w.push_blanks.new.into.items cells in
          rw (w.store-is, w.cells-is) (
            rw (at, stride, blank) (picked_blanks c.args.store.now c.loop-j.store c.args.leaf.now c.args.blank c.stride_of-stride.result (drop (c.args.axis + 1) c.args.desc.now.strides) c.in-Some.track.now c.in-Some.rest.now c.args.at
                c.args.cells.now.items c.loop-j.cells.items w.push_blanks.new.into.items c.loop-j.j w.picked_count.result so_far below none w.picked_count.ensures cells),
            omega (arith, before, after, more, w.picked_count.ensures, c.loop-j.invariant.1),
            omega (arith, c.loop-j.invariant.2, w.push_blanks.ensures.capacity),
          )
    ]

pub returns-clause-cells : goal.returns-clause-cells
returns-clause-cells t c =
    let f = axis_facts c.args.desc.now.shape c.args.desc.now.strides c.args.axis c.args.tracks.now c.in-Some.track.now c.in-Some.rest.now c.requires.lawful.strides c.in-Some.ensures.cases.0 c.requires.fits in
    let at = to_z-of_z w128 c.args.at c.ranges.at in
    let blank = to_z-of_z w128 c.args.blank c.ranges.blank in
    let stride = to_z-of_z w128 c.stride_of-stride.result (record { sfits = c.stride_of-stride.type_inv }) in
    let so_far = rw (at, stride, blank) at c.loop-j.invariant.0 in
    picked_all c.args.store.now c.loop-j.store c.args.leaf.now c.args.blank c.stride_of-stride.result (drop (c.args.axis + 1) c.args.desc.now.strides) (drop c.args.axis c.args.desc.now.strides) c.in-Some.track.now c.in-Some.rest.now c.args.tracks.now c.args.at
    c.args.cells.now.items c.loop-j.cells.items c.loop-j.j so_far (omega (arith, c.loop-j-test.false, c.len-j-end.ensures))
    (f.strides_are ∙ ap (λ (s : ℤ). s ∷ drop (c.args.axis + 1) c.args.desc.now.strides) (sym c.stride_of-stride.ensures)) c.in-Some.ensures.cases.0

pub returns-clause-capacity : goal.returns-clause-capacity
returns-clause-capacity t c = c.loop-j.invariant.2

pub returns-clause-counted : goal.returns-clause-counted
returns-clause-counted t c =
    let rest = rest_facts c.in-Some.track.now c.in-Some.rest.now c.args.tracks.now c.in-Some.ensures.cases.0 c.requires.many c.requires.few in
    let rows = few_rows c.loop-j.j (length (places_on c.in-Some.track.now)) (size_of (lengths_on (map places_on c.in-Some.rest.now))) (omega (arith, c.loop-j.auto.j-end, c.len-j-end.ensures)) in
    OnlyFetched-more _ _ _ _ (omega (arith, rows, rest.size)) c.loop-j.invariant.0.counted

pub returns-clause-store : goal.returns-clause-store
returns-clause-store t c = c.loop-j.invariant.0.store

use mir.Syntax.{w128}
use Rattle.std.proofs.Common.{◌≡◌, ◌++◌, ◌∙◌, ℤ, List, ◌+ℤ◌, ◌-ℤ◌, ◌*ℤ◌, length, vec_len, map, replicate, All, sym, ap, subst, arith, rules, length-append, to_z-of_z, FitsSigned}
use Rattle.std.proofs.lemmas.List.{length-replicate}
use Rattle.array_store.proofs.CountingLemmas.{OnlyFetched-more}
use Rattle.made_picks.specs.declared.tracks.Track.{Track}
use Rattle.made_picks.specs.declared.tracks.Track.TheVariants.{Line, Listed}
use Rattle.made_picks.specs.Picks.{cell_by, read_or}
use Rattle.made_picks.specs.Tracks.{Names, FitsAxis, places_on}
use Rattle.made_picks.proofs.TrackLemmas.{length-line}
use Rattle.made_picks.proofs.WalkLemmas.{line_reached, listed_reached, row-line, row-listed}
use Rattle.made_picks.proofs.walks.pick_row.Goals as goal

pub pick_line-requires-clause-reached : goal.pick_line-requires-clause-reached
pick_line-requires-clause-reached c =
    let at = to_z-of_z {w = w128} {z = c.args.at} c.ranges.at in
    let stride = to_z-of_z {w = w128} {z = c.args.stride} c.ranges.stride in
    let from_fits : FitsSigned w128 c.in-Line.from = search rules in
    let step_fits : FitsSigned w128 c.in-Line.step = search rules in
    let from = to_z-of_z {w = w128} {z = c.in-Line.from} from_fits in
    let step = to_z-of_z {w = w128} {z = c.in-Line.step} step_fits in
    let fits : FitsAxis c.requires.can.along (Line c.in-Line.before c.in-Line.from c.in-Line.step c.in-Line.count c.in-Line.after) = subst (FitsAxis c.requires.can.along) c.in-Line.is c.requires.can.fits in
    rw (at, stride, from, step) (line_reached c.args.store.now c.args.leaf.now c.requires.can.along c.args.at c.args.stride c.in-Line.from c.in-Line.step c.in-Line.count fits.0 c.requires.can.reached)

pub pick_line-requires-clause-room : goal.pick_line-requires-clause-room
pick_line-requires-clause-room c =
    let before : length c.args.cells.now.items ≡ vec_len c.args.cells.now = search rules in
    let after : length c.push_blanks.new.into.items ≡ vec_len c.push_blanks.new.into = search rules in
    let many = ap (λ (t : Track). length (places_on t)) c.in-Line.is ∙ length-line c.in-Line.before c.in-Line.after c.in-Line.count c.in-Line.from c.in-Line.step in
    let blank = to_z-of_z {w = w128} {z = c.args.blank} c.ranges.blank in
    let one = rw blank at c.push_blanks.ensures.cells in
    omega (arith, before, after, many, c.requires.room, c.push_blanks.ensures.capacity, ap length one, length-append c.args.cells.now.items (replicate c.in-Line.before c.args.blank), length-replicate c.in-Line.before c.args.blank)

pub pick_listed-requires-clause-can : goal.pick_listed-requires-clause-can
pick_listed-requires-clause-can c =
    let at = to_z-of_z {w = w128} {z = c.args.at} c.ranges.at in
    let stride = to_z-of_z {w = w128} {z = c.args.stride} c.ranges.stride in
    let origin_fits : FitsSigned w128 c.in-Listed.origin = search rules in
    let origin = to_z-of_z {w = w128} {z = c.in-Listed.origin} origin_fits in
    let fits : FitsAxis c.requires.can.along (Listed c.in-Listed.values c.in-Listed.origin) = subst (FitsAxis c.requires.can.along) c.in-Listed.is c.requires.can.fits in
    let named : All (Names c.in-Listed.origin c.requires.can.along) c.as_slice.result.now = subst (All (Names c.in-Listed.origin c.requires.can.along)) (sym c.as_slice.ensures.value) fits.0 in
    rw (at, stride, origin) (record {
      along = c.requires.can.along;
      few = c.requires.can.few;
      counted = fits.2;
      number = c.requires.can.number;
      named = named;
      reached = listed_reached c.args.store.now c.args.leaf.now c.requires.can.along c.args.at c.args.stride c.in-Listed.origin c.as_slice.result.now named c.requires.can.reached;
    })

pub returns-in-Line-clause-cells : goal.returns-in-Line-clause-cells
returns-in-Line-clause-cells c =
    let at = to_z-of_z {w = w128} {z = c.args.at} c.ranges.at in
    let stride = to_z-of_z {w = w128} {z = c.args.stride} c.ranges.stride in
    let blank = to_z-of_z {w = w128} {z = c.args.blank} c.ranges.blank in
    let from_fits : FitsSigned w128 c.in-Line.from = search rules in
    let step_fits : FitsSigned w128 c.in-Line.step = search rules in
    let from = to_z-of_z {w = w128} {z = c.in-Line.from} from_fits in
    let step = to_z-of_z {w = w128} {z = c.in-Line.step} step_fits in
    let one = rw blank at c.push_blanks.ensures.cells in
    let two = rw (at, stride, from, step) at c.pick_line.ensures.cells in
    let three = rw blank at c.push_blanks-in-Line.ensures.cells in
    row-line (λ z. cell_by c.args.store.now c.args.leaf.now (c.args.at +ℤ (c.args.stride *ℤ z))) c.args.blank c.in-Line.before c.in-Line.count c.in-Line.after c.in-Line.from c.in-Line.step c.args.cells.now.items _ _ _ one two three
    ∙ ap (λ (t : Track). c.args.cells.now.items ++ map (read_or c.args.blank (λ z. cell_by c.args.store.now c.args.leaf.now (c.args.at +ℤ (c.args.stride *ℤ z)))) (places_on t)) (sym c.in-Line.is)

pub returns-in-Line-clause-counted : goal.returns-in-Line-clause-counted
returns-in-Line-clause-counted c =
    let many = ap (λ (t : Track). length (places_on t)) c.in-Line.is ∙ length-line c.in-Line.before c.in-Line.after c.in-Line.count c.in-Line.from c.in-Line.step in
    OnlyFetched-more _ _ _ _ (omega (arith, many)) c.pick_line.ensures.counted

pub returns-in-Listed-clause-cells : goal.returns-in-Listed-clause-cells
returns-in-Listed-clause-cells c =
    let at = to_z-of_z {w = w128} {z = c.args.at} c.ranges.at in
    let stride = to_z-of_z {w = w128} {z = c.args.stride} c.ranges.stride in
    let origin_fits : FitsSigned w128 c.in-Listed.origin = search rules in
    let origin = to_z-of_z {w = w128} {z = c.in-Listed.origin} origin_fits in
    let read = rw (at, stride, origin) at c.pick_listed.ensures.cells in
    let f : ℤ → ℤ = λ z. cell_by c.args.store.now c.args.leaf.now (c.args.at +ℤ (c.args.stride *ℤ z)) in
    read ∙ ap (λ (vs : List ℤ). c.args.cells.now.items ++ map (λ v. f (v -ℤ c.in-Listed.origin)) vs) c.as_slice.ensures.value
    ∙ ap (λ (xs : List ℤ). c.args.cells.now.items ++ xs) (row-listed f c.args.blank c.in-Listed.origin c.in-Listed.values.items)
    ∙ ap (λ (t : Track). c.args.cells.now.items ++ map (read_or c.args.blank f) (places_on t)) (sym c.in-Listed.is)

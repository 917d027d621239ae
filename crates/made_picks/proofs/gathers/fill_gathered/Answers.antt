use mir.Syntax.{w128}
use Rattle.std.proofs.Common.{◌≡◌, ◌∙◌, ◌<◌, length, vec_len, ap, subst, arith, rules, to_z-of_z, FitsSigned}
use Rattle.array_desc.specs.Desc.{DescView, IsDesc}
use Rattle.array_store.proofs.CountingLemmas.{OnlyFetched-then, OnlyFetched-more}
use Rattle.made_picks.specs.Picks.{positions_of}
use Rattle.made_picks.specs.Tracks.{named_along}
use Rattle.made_picks.proofs.GatherLemmas.{gathered_size, gathered_some, gathered_cells}
use Rattle.made_picks.proofs.gathers.fill_gathered.Goals as goal

pub pick-requires-clause-some : goal.pick-requires-clause-some
pick-requires-clause-some c =
    let some : 0 < c.args.size = omega (arith, c.if-size-eq0.false) in
    gathered_some c.args.store.now c.args.b.now c.desc-desc.result.now.shape c.args.positions.now c.args.origin c.args.size (ap (λ (d : DescView). d.shape) c.desc-desc.ensures) c.requires.ranks c.requires.within c.requires.size some

pub pick-requires-clause-many : goal.pick-requires-clause-many
pick-requires-clause-many c =
    let places = rw (to_z-of_z {w = w128} {z = c.args.origin} c.ranges.origin) at c.in_ok-tracks.ensures.places in
    let size = gathered_size c.args.store.now c.args.b.now _ c.args.positions.now c.args.origin c.in_ok-tracks.tracks.items c.as_slice.result.now c.args.size (ap (λ (d : DescView). d.shape) (c.desc.view_is ∙ c.desc-desc.ensures)) c.as_slice.ensures.value places c.requires.ranks c.requires.size in
    omega (arith, size, c.if-size-eq0.false)

pub pick-requires-clause-few : goal.pick-requires-clause-few
pick-requires-clause-few c =
    let places = rw (to_z-of_z {w = w128} {z = c.args.origin} c.ranges.origin) at c.in_ok-tracks.ensures.places in
    let size = gathered_size c.args.store.now c.args.b.now _ c.args.positions.now c.args.origin c.in_ok-tracks.tracks.items c.as_slice.result.now c.args.size (ap (λ (d : DescView). d.shape) (c.desc.view_is ∙ c.desc-desc.ensures)) c.as_slice.ensures.value places c.requires.ranks c.requires.size in
    omega (arith, size, c.requires.few)

pub pick-requires-clause-room : goal.pick-requires-clause-room
pick-requires-clause-room c =
    let places = rw (to_z-of_z {w = w128} {z = c.args.origin} c.ranges.origin) at c.in_ok-tracks.ensures.places in
    let size = gathered_size c.args.store.now c.args.b.now _ c.args.positions.now c.args.origin c.in_ok-tracks.tracks.items c.as_slice.result.now c.args.size (ap (λ (d : DescView). d.shape) (c.desc.view_is ∙ c.desc-desc.ensures)) c.as_slice.ensures.value places c.requires.ranks c.requires.size in
    let many : length c.args.cells.now.items ≡ vec_len c.args.cells.now = search rules in
    omega (arith, size, many, ap length c.requires.empty, c.requires.room)

pub returns-clause-cells : goal.returns-clause-cells
returns-clause-cells c =
    let places = rw (to_z-of_z {w = w128} {z = c.args.origin} c.ranges.origin) at c.in_ok-tracks.ensures.places in
    let base_fits : FitsSigned w128 c.desc.inside.base = search rules in
    let base = to_z-of_z {w = w128} {z = c.desc.inside.base} base_fits in
    let cells = rw base at c.pick.ensures.cells in
    let placed = places ∙ ap (λ (d : DescView). named_along c.args.origin d.shape (positions_of c.args.store.now c.args.positions.now)) c.desc.view_is in
    gathered_cells c.args.store.now c.tracks_of.new.store c.args.b.now c.desc-desc.result.now c.desc.inside.base c.args.positions.now c.args.origin c.in_ok-tracks.tracks.items c.as_slice.result.now c.args.cells.now.items c.pick.new.cells.items
    c.desc-desc.ensures (ap (λ (d : DescView). d.base) c.desc.view_is) (subst IsDesc (c.desc.view_is ∙ c.desc-desc.ensures) c.desc.invariant.0) c.tracks_of.ensures.counted.only c.as_slice.ensures.value placed c.requires.ranks c.requires.within c.requires.empty cells

pub returns-clause-counted : goal.returns-clause-counted
returns-clause-counted c =
    let places = rw (to_z-of_z {w = w128} {z = c.args.origin} c.ranges.origin) at c.in_ok-tracks.ensures.places in
    let size = gathered_size c.args.store.now c.args.b.now _ c.args.positions.now c.args.origin c.in_ok-tracks.tracks.items c.as_slice.result.now c.args.size (ap (λ (d : DescView). d.shape) (c.desc.view_is ∙ c.desc-desc.ensures)) c.as_slice.ensures.value places c.requires.ranks c.requires.size in
    OnlyFetched-more c.args.store.now c.pick.new.store _ _ (omega (arith, size)) (OnlyFetched-then c.args.store.now c.tracks_of.new.store c.pick.new.store _ _ c.tracks_of.ensures.counted c.pick.ensures.counted)

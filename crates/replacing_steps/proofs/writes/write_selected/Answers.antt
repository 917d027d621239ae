use mir.Syntax.{w128}
use Rattle.std.proofs.Common.{◌∙◌, ◌<◌, sym, ap, subst, arith, to_z-of_z}
use Rattle.std.specs.Prelude.{All}
use Rattle.apl_base.specs.Array.{size_of}
use Rattle.array_desc.specs.Desc.{DescView}
use Rattle.drag_along.specs.Views.{owner_array}
use Rattle.leaf_names.specs.Variables.{array_of}
use Rattle.made_picks.specs.Picks.{positions_of}
use Rattle.made_picks.specs.Tracks.{named_along}
use Rattle.replacing_steps.specs.Writes.{NamesEach, places_in}
use Rattle.replacing_steps.proofs.SelectLemmas.{array_some, selected_size, value_size, same_kind, named_each, kind_counted, selected_all}
use Rattle.std.proofs.lemmas.Result.{on_ok_weaker}
use Rattle.replacing_steps.proofs.writes.write_selected.Goals as goal

pub write_value-requires-clause-some : goal.write_value-requires-clause-some
write_value-requires-clause-some c =
    let some : 0 < size_of c.args.selected.now = omega (arith, c.if-size-eq0.false, c.size.ensures.value) in
    array_some c.args.store.now c.args.origin (owner_array c.args.store.now c.args.owner c.args.desc.now.shape) (array_of c.args.store.now c.args.value.now) c.args.positions.now c.args.selected.now c.requires.can some

pub write_value-requires-clause-named : goal.write_value-requires-clause-named
write_value-requires-clause-named c =
    let places = rw (to_z-of_z {w = w128} {z = c.args.origin} c.ranges.origin) at c.in_ok-tracks.ensures.places in
    let placed = places ∙ ap (λ (d : DescView). named_along c.args.origin d.shape (positions_of c.args.store.now c.args.positions.now)) c.desc.view_is in
    subst (All NamesEach) (sym c.as_slice.ensures.value) (named_each c.args.origin c.args.desc.now.shape (positions_of c.args.store.now c.args.positions.now) c.in_ok-tracks.tracks.items placed)

pub write_value-requires-clause-few : goal.write_value-requires-clause-few
write_value-requires-clause-few c =
    let places = rw (to_z-of_z {w = w128} {z = c.args.origin} c.ranges.origin) at c.in_ok-tracks.ensures.places in
    let placed = places ∙ ap (λ (d : DescView). named_along c.args.origin d.shape (positions_of c.args.store.now c.args.positions.now)) c.desc.view_is in
    let size = selected_size c.args.store.now c.args.origin (owner_array c.args.store.now c.args.owner c.args.desc.now.shape) (array_of c.args.store.now c.args.value.now) c.args.positions.now c.args.selected.now c.in_ok-tracks.tracks.items c.requires.can placed in
    omega (arith, size, ap places_in c.as_slice.ensures.value, c.requires.can.shape.product)

pub write_value-requires-clause-kind : goal.write_value-requires-clause-kind
write_value-requires-clause-kind c =
    let some : 0 < size_of c.args.selected.now = omega (arith, c.if-size-eq0.false, c.size.ensures.value) in
    same_kind c.args.store.now c.args.origin (owner_array c.args.store.now c.args.owner c.args.desc.now.shape) (array_of c.args.store.now c.args.value.now) c.args.positions.now c.args.selected.now c.requires.can some
    ∙ sym (kind_counted c.args.store.now c.tracks_of.new.store c.args.owner c.in_ok-tracks.ensures.counted.only)

pub write_value-requires-clause-count : goal.write_value-requires-clause-count
write_value-requires-clause-count c =
    let places = rw (to_z-of_z {w = w128} {z = c.args.origin} c.ranges.origin) at c.in_ok-tracks.ensures.places in
    let placed = places ∙ ap (λ (d : DescView). named_along c.args.origin d.shape (positions_of c.args.store.now c.args.positions.now)) c.desc.view_is in
    let size = selected_size c.args.store.now c.args.origin (owner_array c.args.store.now c.args.owner c.args.desc.now.shape) (array_of c.args.store.now c.args.value.now) c.args.positions.now c.args.selected.now c.in_ok-tracks.tracks.items c.requires.can placed in
    value_size (array_of c.args.store.now c.args.value.now) c.args.selected.now c.as_slice.result.now c.requires.can.fits (ap places_in c.as_slice.ensures.value ∙ size)

pub returns-clause-written : goal.returns-clause-written
returns-clause-written c =
    let places = rw (to_z-of_z {w = w128} {z = c.args.origin} c.ranges.origin) at c.in_ok-tracks.ensures.places in
    let placed = places ∙ ap (λ (d : DescView). named_along c.args.origin d.shape (positions_of c.args.store.now c.args.positions.now)) c.desc.view_is in
    on_ok_weaker c.write_value.result (selected_all c.args.store.now c.tracks_of.new.store c.write_value.new.store c.args.owner c.args.desc.now c.args.origin c.args.value.now c.args.positions.now c.args.selected.now c.in_ok-tracks.tracks.items c.as_slice.result.now
    c.in_ok-tracks.ensures.counted.only c.requires.whole c.requires.can placed c.as_slice.ensures.value) c.write_value.ensures.written

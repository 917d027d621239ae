use mir.Syntax.{w128}
use Rattle.std.proofs.Common.{◌≡◌, ◌∙◌, length, All, true, Option, sym, ap, subst, arith}
use Rattle.std.proofs.lemmas.Int.{to_z-of_z}
use Rattle.drag_along.specs.declared.leaves.Leaf.{Leaf}
use Rattle.leaf_names.specs.Variables.{array_of}
use Rattle.apl_model.specs.Subscript.{in_axis}
use Rattle.made_fns.proofs.Lengths.{length-array_of}
use Rattle.made_picks.specs.Tracks.{Names, named_on}
use Rattle.made_picks.proofs.PositionLemmas.{position_of, names-all}
use Rattle.made_picks.proofs.positions.track_of.Goals as goal

pub returns-in-Some-line_of-clause-places : goal.returns-in-Some-line_of-clause-places
returns-in-Some-line_of-clause-places c =
    let origin = to_z-of_z w128 c.args.origin c.ranges.origin in
    let places = rw origin at (c.in-Some-line_of.ensures.places c.args.store.now) in
    places ∙ sym (ap (λ (p : Option Leaf). named_on c.args.origin c.args.n (position_of c.args.store.now p)) c.in-Some.is)

pub returns-in-Some-line_of-clause-fits : goal.returns-in-Some-line_of-clause-fits
returns-in-Some-line_of-clause-fits c =
    let origin = to_z-of_z w128 c.args.origin c.ranges.origin in
    let line = rw origin at (c.in-Some-line_of.ensures.line c.args.n c.args.store.now) in
    line (subst (λ (p : Option Leaf). in_axis c.args.origin c.args.n (position_of c.args.store.now p) ≡ true) c.in-Some.is c.requires.within)

pub returns-clause-fits : goal.returns-clause-fits
returns-clause-fits c =
    let origin = to_z-of_z w128 c.args.origin c.ranges.origin in
    let cells = c.in_ok-values.ensures.cells in
    let within = subst (λ (p : Option Leaf). in_axis c.args.origin c.args.n (position_of c.args.store.now p) ≡ true) c.in-Some.is c.requires.within in
    let named = names-all c.args.origin c.args.n (array_of c.args.store.now c.in-Some.leaf).cells within in
    rw origin (
      subst (All (Names c.args.origin c.args.n)) (sym cells) named,
      omega (arith, ap length cells, length-array_of c.args.store.now c.in-Some.leaf, c.elements-count.ensures.value, c.elements-count.ensures.few),
      c.requires.origin,
    )

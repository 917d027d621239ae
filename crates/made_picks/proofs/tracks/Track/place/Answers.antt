use mir.Syntax.{w128}
use Rattle.std.proofs.Common.{◌∙◌, ◌++◌, get_or, None, replicate, sym, ap, rules, to_z-of_z, FitsSigned}
use Rattle.made_picks.specs.declared.tracks.Track.{Track}
use Rattle.made_picks.specs.Tracks.{places_on, stepped}
use Rattle.made_picks.proofs.TrackLemmas.{none-behind}
use Rattle.made_picks.proofs.tracks.Track.place.Goals as goal

pub returns-in-Line : goal.returns-in-Line
returns-in-Line c =
    let from_fits : FitsSigned w128 c.in-Line.from = search rules in
    let step_fits : FitsSigned w128 c.in-Line.step = search rules in
    let from = to_z-of_z {w = w128} {z = c.in-Line.from} from_fits in
    let step = to_z-of_z {w = w128} {z = c.in-Line.step} step_fits in
    let here = rw (from, step) at c.line_place.ensures in
    here ∙ sym (none-behind (replicate c.in-Line.before None ++ stepped c.in-Line.from c.in-Line.step c.in-Line.count) c.in-Line.after c.args.j) ∙ sym (ap (λ (t : Track). get_or (places_on t) c.args.j None) c.in-Line.is)

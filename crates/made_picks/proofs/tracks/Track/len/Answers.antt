use Rattle.std.proofs.Common.{◌∙◌, length, sym, ap, arith}
use Rattle.made_picks.specs.declared.tracks.Track.{Track}
use Rattle.made_picks.specs.Tracks.{places_on}
use Rattle.made_picks.proofs.TrackLemmas.{length-line}
use Rattle.made_picks.proofs.tracks.Track.len.Goals as goal

pub overflow_add-result : goal.overflow_add-result
overflow_add-result c =
    let many = ap (λ (t : Track). length (places_on t)) c.in-Line.is ∙ length-line c.in-Line.before c.in-Line.after c.in-Line.count c.in-Line.from c.in-Line.step in
    omega (arith, many, c.requires)

pub overflow_add-result-in-Line : goal.overflow_add-result-in-Line
overflow_add-result-in-Line c =
    let many = ap (λ (t : Track). length (places_on t)) c.in-Line.is ∙ length-line c.in-Line.before c.in-Line.after c.in-Line.count c.in-Line.from c.in-Line.step in
    omega (arith, many, c.requires)

pub returns-in-Line : goal.returns-in-Line
returns-in-Line c =
    sym (ap (λ (t : Track). length (places_on t)) c.in-Line.is ∙ length-line c.in-Line.before c.in-Line.after c.in-Line.count c.in-Line.from c.in-Line.step)

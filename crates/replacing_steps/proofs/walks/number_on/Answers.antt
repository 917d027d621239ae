use mir.Syntax.{w128}
use Rattle.std.proofs.Common.{◌+ℤ◌, ◌*ℤ◌}
use Rattle.std.proofs.lemmas.Int.{to_z-of_z}
use Rattle.made_picks.proofs.TrackLemmas.{fits_between}
use Rattle.apl_base.proofs.Fitting.{number_in_cell}
use Rattle.replacing_steps.proofs.walks.number_on.Goals as goal

pub returns : goal.returns
returns c =
    let from = to_z-of_z w128 c.args.from c.ranges.from in
    let step = to_z-of_z w128 c.args.step c.ranges.step in
    let place = to_z-of_z w128 c.args.place c.ranges.place in
    let product = to_z-of_z w128 (c.args.step *ℤ c.args.place) (fits_between c.args.from (c.args.step *ℤ c.args.place) c.requires.from c.requires.number) in
    let sum = to_z-of_z w128 (c.args.from +ℤ (c.args.step *ℤ c.args.place)) (number_in_cell (c.args.from +ℤ (c.args.step *ℤ c.args.place)) c.requires.number) in
    rw (from, step, place, product) sum

use Rattle.std.proofs.Common.{ap, pos, get_or, arith, rules, FitsSigned}
use Rattle.std.specs.Int.{w128}
use Rattle.std.proofs.lemmas.Int.{ints, to_z-of_z}
use Rattle.std.proofs.lemmas.List.{get_or_default}
use Rattle.value_fns.specs.Placed.{Placed}
use Rattle.value_fns.proofs.Merged.{parts_here}
use Rattle.value_fns.proofs.merges.first_not_below.Goals as goal

pub returns-then-wanted-index-clause-parts : goal.returns-then-wanted-index-clause-parts
returns-then-wanted-index-clause-parts c =
    let f : FitsSigned w128 c.args.wanted = c.ranges.wanted in
    let g : FitsSigned w128 (get_or c.args.index.now c.loop-place.place (pos 0, 0)).0 = search rules in
    let wanted = to_z-of_z w128 c.args.wanted c.ranges.wanted in
    parts_here c.args.index.now c.loop-place.place c.args.wanted c.requires.rises (rw wanted at c.loop-place.invariant) (λ d below.
    let same = ap (λ (y : Placed). y.0) (get_or_default c.args.index.now c.loop-place.place (pos 0, 0) d below) in
    omega (arith, ints, same, c.if-wanted-index.true))

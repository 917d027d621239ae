use Rattle.std.proofs.Common.{◌≤◌, ◌∙◌, length, arith, rules, of_z, FitsSigned, ap, sym}
use Rattle.std.specs.Int.{w128}
use Rattle.std.proofs.lemmas.Int.{ints}
use Rattle.value_fns.specs.Placed.{Placed}
use Rattle.value_fns.proofs.Found.{found, missing}
use Rattle.value_fns.proofs.searches.place_from.Goals as goal

pub returns-in-Some : goal.returns-in-Some
returns-in-Some c =
    let f : FitsSigned w128 c.args.wanted = c.ranges.wanted in
    let g : FitsSigned w128 c.in-Some.pair.now.0 = search rules in
    found c.args.wanted c.args.cells.now c.args.index.now c.args.from c.in-Some.pair.now c.requires.index c.requires.parts (omega (arith, c.in-Some.ensures.lookup.3.0)) c.in-Some.ensures.lookup.1 (omega (arith, ints, c.if-pair-wanted.true))

pub returns-in_default : goal.returns-in_default
returns-in_default c =
    missing c.args.wanted c.args.cells.now c.args.index.now c.args.from c.requires.index c.requires.parts (λ d below same. c.if-pair-wanted.false (ap (of_z w128) (ap (λ (x : Placed). x.0) (c.in-Some.ensures.lookup.3.1 d) ∙ sym same)))

pub returns-in_default-2 : goal.returns-in_default-2
returns-in_default-2 c =
    missing c.args.wanted c.args.cells.now c.args.index.now c.args.from c.requires.index c.requires.parts (λ d below same. absurd (let past : length c.args.index.now ≤ c.args.from = rw c.in_default.is at c.get.ensures.lookup.3 in omega arith))

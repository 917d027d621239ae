use Rattle.apl_model.specs.Refusal.{Occurrence}
use Rattle.apl_defn.proofs.PlaceLemmas.{met_first, names_of_one}
use Rattle.apl_defn.proofs.names.met_again.Goals as goal

pub returns-then-branch-clause-names : goal.returns-then-branch-clause-names
returns-then-branch-clause-names c n =
    let place : Occurrence = record { name = c.in-Some.place.name.now; line = c.in-Some.place.line; column = c.in-Some.place.column } in
    rw c.in-Some.is (names_of_one place n c.args.names.now c.add.new.self (c.in_ok-add.ensures.names n))

pub returns-clause-met : goal.returns-clause-met
returns-clause-met c =
    let place : Occurrence = record { name = c.in-Some.place.name.now; line = c.in-Some.place.line; column = c.in-Some.place.column } in
    rw c.in-Some.is (met_first place c.args.names.now (rw c.if-branch.false at c.in_ok-add.ensures.met))

pub returns-clause-names : goal.returns-clause-names
returns-clause-names c n =
    let place : Occurrence = record { name = c.in-Some.place.name.now; line = c.in-Some.place.line; column = c.in-Some.place.column } in
    rw c.in-Some.is (names_of_one place n c.args.names.now c.add.new.self (c.in_ok-add.ensures.names n))

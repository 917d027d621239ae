use Rattle.e_machine.specs.Forced.{IsForced}
use Rattle.std.proofs.Common.{◌≡◌, Some, sym}
use Rattle.drag_along.specs.Views.{only_leaf}
use Rattle.e_machine.proofs.ForcedLemmas.{answer_held, answer_within}
use Rattle.e_machine.proofs.forcing.force.Goals as goal

pub returns-in-Some-clause-forced : goal.returns-in-Some-clause-forced
returns-in-Some-clause-forced c =
    let one : only_leaf c.args.s.now.nodes ≡ Some c.in-Some.leaf.now = sym c.in-Some.ensures.found in
    answer_held c.args.store.now c.held.new.store c.args.s.now c.in-Some.leaf.now c.held.result c.in-Some.ensures.segment one c.held.ensures.same c.held.ensures.held c.held.ensures.stands

pub returns-in-Some-clause-within : goal.returns-in-Some-clause-within
returns-in-Some-clause-within c = λ safe.
    let one : only_leaf c.args.s.now.nodes ≡ Some c.in-Some.leaf.now = sym c.in-Some.ensures.found in
    let value : IsForced c.args.store.now c.held.new.store c.args.s.now c.held.result =
    answer_held c.args.store.now c.held.new.store c.args.s.now c.in-Some.leaf.now c.held.result c.in-Some.ensures.segment one c.held.ensures.same c.held.ensures.held c.held.ensures.stands in
    answer_within c.args.store.now c.held.new.store c.args.s.now c.held.result c.requires.lawful value safe

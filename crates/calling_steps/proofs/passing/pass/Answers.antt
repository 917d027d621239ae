use Rattle.std.proofs.Common.{◌≡◌, Bool, true, sym, subst}
use Rattle.std.proofs.lemmas.Result.{IfOk-weaker}
use Rattle.calling_steps.specs.Ready.{Passes}
use Rattle.calling_steps.proofs.PassLemmas.{passes_one}
use Rattle.calling_steps.proofs.passing.pass.Goals as goal

pub give-requires-clause-lawful : goal.give-requires-clause-lawful
give-requires-clause-lawful c = (c.requires.lawful.0, c.in_ok-leaf.ensures.takes.lawful c.requires.lawful.0 c.requires.lawful.1)

pub returns-clause-passes : goal.returns-clause-passes
returns-clause-passes c =
    let asked : c.args.asked ≡ true = c.if-not-asked.false in
    IfOk-weaker c.give.result _ _ (λ _ gives.
    subst (λ (b : Bool). Passes c.args.machine.now c.give.new.machine b c.args.name.now) (sym asked)
    (passes_one c.args.machine.now c.take_newest.new.machine c.give.new.machine c.args.name.now c.in_ok-leaf.leaf c.in_ok-leaf.ensures.takes gives c.requires.lawful)) c.give.ensures.gives

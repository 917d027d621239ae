use Rattle.std.proofs.Common.{ℕ, List, Option, sym, subst}
use Rattle.std.proofs.lemmas.Result.{IfOk-weaker}
use Rattle.calling_steps.specs.Ready.{GivesTo}
use Rattle.calling_steps.proofs.PassLemmas.{gives_to, let_go}
use Rattle.calling_steps.proofs.passing.give.Goals as goal

pub returns-in-Some-clause-gives : goal.returns-in-Some-clause-gives
returns-in-Some-clause-gives c =
    IfOk-weaker c.give_leaf.result _ _ (λ _ gives.
    subst (λ (o : Option (List ℕ)). GivesTo c.args.machine.now c.give_leaf.new.self o c.args.leaf) (sym c.in-Some.is) (gives_to c.args.machine.now c.give_leaf.new.self c.in-Some.name c.args.leaf gives)) c.give_leaf.ensures.gives

pub returns-in-None-clause-gives : goal.returns-in-None-clause-gives
returns-in-None-clause-gives c =
    subst (λ (o : Option (List ℕ)). GivesTo c.args.machine.now (record c.args.machine.now { store = c.release.new.store }) o c.args.leaf) (sym c.in-None.is)
    (let_go c.args.machine.now c.release.new.store c.args.leaf c.release.ensures.follows c.requires.lawful.0 c.requires.lawful.1)

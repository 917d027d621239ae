use Rattle.std.proofs.Common.{ℕ, List, Option, Some, sym, subst}
use Rattle.std.proofs.lemmas.Result.{IfOk-weaker}
use Rattle.apl_model.specs.Frames.{line_number}
use Rattle.name_table.specs.Laws.{with_argument}
use Rattle.calling_steps.specs.Ready.{Changes}
use Rattle.calling_steps.proofs.PassLemmas.{label_set}
use Rattle.calling_steps.proofs.passing.set_label.Goals as goal

pub give_leaf-requires-clause-leaf : goal.give_leaf-requires-clause-leaf
give_leaf-requires-clause-leaf c = (c.number_leaf-leaf.ensures.stands c.args.machine.now.store).lawful

pub returns-clause-label : goal.returns-clause-label
returns-clause-label c =
    IfOk-weaker c.give_leaf.result _ _ (λ _ gives.
    subst (λ (o : Option (List ℕ)). Changes c.args.machine.now c.give_leaf.new.self (with_argument o (Some (line_number c.args.number)))) (sym c.in-Some.is)
    (label_set c.args.machine.now c.give_leaf.new.self c.in-Some.label c.number_leaf-leaf.result c.args.number c.number_leaf-leaf.ensures gives)) c.give_leaf.ensures.gives

use Rattle.std.proofs.lemmas.Result.{IfOk-weaker}
use Rattle.pending_steps.proofs.StepLemmas.{newest_lawful}
use Rattle.indexing_steps.proofs.FallLemmas.{newest_selected}
use Rattle.value_stack.proofs.NewestLemmas.{newest_at}
use Rattle.indexing_steps.proofs.selecting.select_newest.Goals as goal

pub returns-clause-selects : goal.returns-clause-selects
returns-clause-selects c =
    let s = c.in-Some.newest in
    let lawful = newest_lawful c.args.store.now c.args.stack.now c.pop.new.self s c.in-Some.ensures.taken c.requires.lawful in
    IfOk-weaker c.push.result _ _ (λ _ is.
    newest_selected c.args.store.now c.args.stack.now c.pop.new.self c.push.new.self s c.select.new.s c.args.by.now c.functions-functions.ensures.segment c.in-Some.ensures.taken is
    (c.requires.safe s (newest_at c.args.stack.now c.pop.new.self s c.in-Some.ensures.taken)) c.requires.lawful
    (c.select.ensures.lawful c.args.store.now lawful) (c.select.ensures.meaning c.args.store.now lawful) c.select.ensures.leaves) c.push.ensures.ok

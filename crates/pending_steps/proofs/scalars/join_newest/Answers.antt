use Rattle.std.proofs.lemmas.Result.{IfOk-weaker}
use Rattle.drag_along.specs.Lawful.{IsLawful}
use Rattle.value_stack.specs.Stacks.{IsLawfulStack}
use Rattle.beating.proofs.FoldLemmas.{numbers_in_range}
use Rattle.pending_steps.proofs.StepLemmas.{newest_lawful, older_lawful, pushed_lawful}
use Rattle.pending_steps.proofs.scalars.join_newest.Goals as goal

-- src/scalars.rt:88:18
pub join_one-requires-clause-numbers : goal.join_one-requires-clause-numbers
join_one-requires-clause-numbers c =
    numbers_in_range c.args.store.now c.in-Some.right c.functions-functions.ensures.segment (newest_lawful c.args.store.now c.args.stack.now c.pop.new.self c.in-Some.right c.in-Some.ensures.taken c.requires.lawful)

-- src/scalars.rt:69:1
pub returns-clause-lawful : goal.returns-clause-lawful
returns-clause-lawful c =
    let right : IsLawful c.args.store.now c.in-Some.right = newest_lawful c.args.store.now c.args.stack.now c.pop.new.self c.in-Some.right c.in-Some.ensures.taken c.requires.lawful in
    let older : IsLawfulStack c.args.store.now c.pop.new.self = older_lawful c.args.store.now c.args.stack.now c.pop.new.self c.in-Some.right c.in-Some.ensures.taken c.requires.lawful in
    IfOk-weaker c.push.result _ _ (λ _ is. pushed_lawful c.args.store.now c.push.new.self c.pop.new.self c.in_ok-joined.joined is older (c.in_ok-joined.ensures.lawful c.args.store.now right)) c.push.ensures.ok

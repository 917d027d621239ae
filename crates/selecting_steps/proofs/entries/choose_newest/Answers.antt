use Rattle.std.proofs.lemmas.Result.{IfOk-weaker}
use Rattle.pending_steps.proofs.StepLemmas.{newest_lawful, older_lawful, pushed_lawful}
use Rattle.selecting_steps.proofs.NewestLemmas.{newest_chosen}
use Rattle.value_stack.proofs.NewestLemmas.{newest_at}
use Rattle.selecting_steps.proofs.entries.choose_newest.Goals as goal

pub returns-clause-chosen : goal.returns-clause-chosen
returns-clause-chosen c =
    let store = c.args.store.now in
    let stack = c.args.stack.now in
    let older = c.pop.new.self in
    let newest = c.in-Some.newest in
    let is = c.in-Some.ensures.taken in
    let lawful = newest_lawful store stack older newest is c.requires.lawful in
    let safe = c.requires.safe newest (newest_at stack older newest is) in
    IfOk-weaker c.push.result _ _ (λ _ put. newest_chosen c.args.choice.now store stack c.push.new.self older newest c.make.new.s is put c.functions-functions.ensures.segment lawful safe (c.make.ensures.meaning store lawful)) c.push.ensures.ok

pub returns-clause-lawful : goal.returns-clause-lawful
returns-clause-lawful c =
    let store = c.args.store.now in
    let stack = c.args.stack.now in
    let older = c.pop.new.self in
    let newest = c.in-Some.newest in
    let is = c.in-Some.ensures.taken in
    let made = c.make.ensures.lawful store (newest_lawful store stack older newest is c.requires.lawful) in
    IfOk-weaker c.push.result _ _ (λ _ put. pushed_lawful store c.push.new.self older c.make.new.s put (older_lawful store stack older newest is c.requires.lawful) made) c.push.ensures.ok

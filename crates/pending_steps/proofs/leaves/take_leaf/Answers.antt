use Rattle.std.proofs.lemmas.Result.{IfOk-weaker}
use Rattle.pending_steps.proofs.HeldLemmas.{newest_above}
use Rattle.pending_steps.proofs.LeafLemmas.{newest_taken}
use Rattle.pending_steps.proofs.leaves.take_leaf.Goals as goal

pub returns-clause-takes : goal.returns-clause-takes
returns-clause-takes c =
    IfOk-weaker c.as_leaf.result _ _ (λ leaf comes.
    newest_taken c.args.store.now c.as_leaf.new.store c.args.stack.now c.pop.new.self c.in-Some.newest leaf c.in-Some.ensures.taken c.requires.lawful c.requires.held comes) c.as_leaf.ensures.comes

pub returns-clause-rest : goal.returns-clause-rest
returns-clause-rest c s at = newest_above c.args.stack.now c.pop.new.self c.in-Some.newest s c.in-Some.ensures.taken at

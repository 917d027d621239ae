use Rattle.std.proofs.Common.{arith}
use Rattle.std.proofs.lemmas.Result.{IfOk-weaker}
use Rattle.pending_steps.proofs.StepLemmas.{older_lawful}
use Rattle.indexing_steps.proofs.FallLemmas.{mid_held, mid_long, dropped_below}
use Rattle.indexing_steps.proofs.dropping.drop_below.Goals as goal

pub drop_many-requires : goal.drop_many-requires
drop_many-requires c = record {
  operands =
      omega (arith, c.requires.operands, mid_long c.args.stack.now c.pop.new.self c.in-Some.newest c.in-Some.ensures.taken);
  lawful = older_lawful c.args.store.now c.args.stack.now c.pop.new.self c.in-Some.newest c.in-Some.ensures.taken c.requires.lawful;
  held = mid_held c.args.store.now c.args.stack.now c.pop.new.self c.in-Some.newest c.in-Some.ensures.taken c.requires.held;
}

pub returns : goal.returns
returns c = record {
  dropped = IfOk-weaker c.push.result _ _ (λ _ is.
      dropped_below c.args.store.now c.drop_many.new.store c.args.stack.now c.pop.new.self c.drop_many.new.stack c.push.new.self c.in-Some.newest c.args.count c.in-Some.ensures.taken is c.requires.lawful c.requires.held c.drop_many.ensures.dropped) c.push.ensures.ok;
  limit = c.drop_many.ensures.dropped.moves.follows.limit;
}

use Rattle.std.proofs.Common.{ℕ, ◌+◌, subst, arith}
use Rattle.std.proofs.lemmas.Result.{IfOk-weaker}
use Rattle.indexing_steps.specs.Falls.{DropsBelow}
use Rattle.indexing_steps.proofs.GatherLemmas.{put_over, one_longer, put_held}
use Rattle.indexing_steps.proofs.gathering.put_gathered.Goals as goal

pub drop_below-requires-clause-operands : goal.drop_below-requires-clause-operands
drop_below-requires-clause-operands c =
    omega (arith, one_longer c.args.store.now c.args.stack.now c.push_leaf.new.stack c.args.leaf c.in_ok-push_leaf.ensures.puts, c.count_there-count.ensures, c.requires.operands)

pub drop_below-requires-clause-held : goal.drop_below-requires-clause-held
drop_below-requires-clause-held c = put_held c.args.store.now c.args.stack.now c.push_leaf.new.stack c.args.leaf c.in_ok-push_leaf.ensures.puts c.requires.held

pub returns : goal.returns
returns c = record {
  puts = IfOk-weaker c.drop_below.result _ _ (λ _ dropped.
      put_over c.args.store.now c.drop_below.new.store c.args.stack.now c.push_leaf.new.stack c.drop_below.new.stack c.args.leaf _ c.in_ok-push_leaf.ensures.puts
      (subst (λ (n : ℕ). DropsBelow c.args.store.now c.drop_below.new.store c.push_leaf.new.stack c.drop_below.new.stack (1 + n)) c.count_there-count.ensures dropped)) c.drop_below.ensures.dropped;
  limit = c.drop_below.ensures.limit;
}

use Rattle.std.proofs.lemmas.Result.{IfOk-weaker, IfErr-weaker}
use Rattle.value_stack.specs.Stacks.{entries}
use Rattle.leaf_steps.proofs.TakingLemmas.{none_taken, one_taken, halted_so, stopped_halts, stopped_at_no_error}
use Rattle.leaf_steps.proofs.takes.take_one.Goals as goal

pub returns-in_err-settle_entries-clause-moves : goal.returns-in_err-settle_entries-clause-moves
returns-in_err-settle_entries-clause-moves c = halted_so c.from_residual.result _ c.settle_entries.ensures.moves

pub returns-clause-takes : goal.returns-clause-takes
returns-clause-takes c =
    IfOk-weaker c.take_safe.result _ _ (λ leaf takes.
    one_taken c.args.store.now c.settle_entries.new.store c.take_safe.new.store c.args.stack.now c.settle_entries.new.stack c.take_safe.new.stack leaf
    (none_taken c.args.store.now c.settle_entries.new.store c.args.stack.now c.settle_entries.new.stack c.in_ok-settle_entries.ensures.arrays c.settle_entries.ensures.means c.settle_entries.ensures.moves)
    takes) c.take_safe.ensures.takes

pub returns-clause-halted : goal.returns-clause-halted
returns-clause-halted c =
    IfErr-weaker c.take_safe.result _ _ (λ why stopped.
    stopped_halts c.args.store.now c.settle_entries.new.store (entries c.args.store.now c.args.stack.now) why c.settle_entries.ensures.moves.follows.limit stopped) c.take_safe.ensures.stopped

pub returns-clause-moves : goal.returns-clause-moves
returns-clause-moves c =
    IfErr-weaker c.take_safe.result _ _ (λ why stopped. stopped_at_no_error c.settle_entries.new.store.limit why _ stopped) c.take_safe.ensures.stopped

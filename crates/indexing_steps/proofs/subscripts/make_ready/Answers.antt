use Rattle.std.proofs.Common.{◌≡◌, ◌-◌, length, sym, ◌∙◌, arith}
use Rattle.indexing_steps.proofs.OperandLemmas.{computed_stays}
use Rattle.value_stack.proofs.NewestLemmas.{safe_at}
use Rattle.indexing_steps.proofs.subscripts.make_ready.Goals as goal

pub returns-in_ok-settle_entries-clause-computed : goal.returns-in_ok-settle_entries-clause-computed
returns-in_ok-settle_entries-clause-computed c k s low high g =
    let settled = c.in_ok-settle_entries.ensures in
    let long : length c.settle_entries.new.stack ≡ c.len-newest.result = settled.length ∙ c.compute_between.ensures.length ∙ sym c.len-newest.ensures.value in
    computed_stays c.compute_between.new.stack c.settle_entries.new.stack (c.len-newest.result - 1 - c.count_there.result) (c.len-newest.result - 1) c.in_ok-compute_between.ensures.computed settled.fewer settled.length k s
    (omega (arith, low, long, c.count_there.ensures)) (omega (arith, high, long)) g

pub returns-in_ok-settle_entries-clause-safe : goal.returns-in_ok-settle_entries-clause-safe
returns-in_ok-settle_entries-clause-safe c s g = safe_at c.settle_entries.new.stack _ s c.in_ok-settle_entries.ensures.safe g

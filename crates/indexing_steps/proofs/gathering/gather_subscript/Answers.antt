use Rattle.std.proofs.Common.{◌≡◌, ◌-◌, length, sym, ◌∙◌, arith}
use Rattle.indexing_steps.proofs.OperandLemmas.{computed_stays}
use Rattle.indexing_steps.proofs.gathering.gather_subscript.Goals as goal

pub gather_leaves-requires-clause-computed : goal.gather_leaves-requires-clause-computed
gather_leaves-requires-clause-computed c k s low high g =
    let settled = c.in_ok-settle_entries.ensures in
    let long : length c.settle_entries.new.stack ≡ c.len-end.result = settled.length ∙ c.compute_between.ensures.length ∙ sym c.len-end.ensures.value in
    computed_stays c.compute_between.new.stack c.settle_entries.new.stack (c.len-end.result - 1 - c.count_there.result) c.len-end.result c.in_ok-compute_between.ensures.computed settled.fewer settled.length k s
    (omega (arith, low, long, c.count_there.ensures)) (omega (arith, high, long)) g

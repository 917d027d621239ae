use Rattle.std.proofs.Common.{◌≡◌, ◌-◌, length, sym, ◌∙◌, arith}
use Rattle.std.proofs.lemmas.Result.{IfOk-weaker}
use Rattle.indexing_steps.proofs.OperandLemmas.{computed_stays}
use Rattle.replacing_steps.proofs.ready.make_ready.Goals as goal

pub returns-clause-computed : goal.returns-clause-computed
returns-clause-computed c =
    let long : length c.settle_entries.new.stack ≡ c.len-end.result = c.settle_entries.ensures.length ∙ c.compute_between.ensures.length ∙ sym c.len-end.ensures.value in
    IfOk-weaker c.settle_entries.result _ _ (λ _ fewer. λ k s low high g.
    computed_stays c.compute_between.new.stack c.settle_entries.new.stack (c.len-end.result - 1 - c.count_there.result) c.len-end.result c.in_ok-compute_between.ensures.computed fewer c.settle_entries.ensures.length k s
    (omega (arith, low, long, c.count_there.ensures)) (omega (arith, high, long)) g) c.settle_entries.ensures.fewer

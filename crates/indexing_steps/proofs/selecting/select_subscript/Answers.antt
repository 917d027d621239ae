use Rattle.std.proofs.Common.{ℕ, subst}
use Rattle.std.proofs.lemmas.Result.{IfOk-weaker}
use Rattle.indexing_steps.specs.Falls.{DropsBelow}
use Rattle.indexing_steps.proofs.AnswerLemmas.{selection_steps}
use Rattle.indexing_steps.proofs.selecting.select_subscript.Goals as goal

pub returns-clause-step : goal.returns-clause-step
returns-clause-step c =
    IfOk-weaker c.drop_below.result _ _ (λ _ dropped.
    selection_steps c.args.origin c.args.mask.now c.args.place c.args.store.now c.drop_below.new.store c.args.stack.now c.select_newest.new.stack c.drop_below.new.stack c.args.by.now c.requires.selection c.in_ok-select_newest.ensures.selects
    (subst (λ (n : ℕ). DropsBelow c.args.store.now c.drop_below.new.store c.select_newest.new.stack c.drop_below.new.stack n) c.count_there.ensures dropped)) c.drop_below.ensures.dropped

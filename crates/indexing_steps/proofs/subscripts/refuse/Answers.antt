use Rattle.std.proofs.Common.{inr}
use Rattle.indexing_steps.proofs.AnswerLemmas.{answer_refuses}
use Rattle.indexing_steps.proofs.subscripts.refuse.Goals as goal

pub returns-in-Ok-clause-halted : goal.returns-in-Ok-clause-halted
returns-in-Ok-clause-halted c =
    let r = c.requires.refused in
    inr (answer_refuses c.args.origin c.args.mask.now c.args.place c.settle_entries.new.store c.settle_entries.new.stack _ r.array r.positions c.args.kind c.in-Ok.ensures.arrays c.settle_entries.ensures.means r.operands r.answer)

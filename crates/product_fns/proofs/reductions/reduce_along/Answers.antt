use Rattle.product_fns.proofs.reductions.reduce_along.Goals as goal

pub returns-clause-answer : goal.returns-clause-answer
returns-clause-answer c = c.reduce_within.ensures.answer

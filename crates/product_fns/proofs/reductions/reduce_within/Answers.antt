use Rattle.product_fns.proofs.AnswerLemmas.{along_refused}
use Rattle.product_fns.proofs.reductions.reduce_within.Goals as goal

pub returns-in-Err-clause-answer : goal.returns-in-Err-clause-answer
returns-in-Err-clause-answer c = along_refused c.args.store.now c.args.f c.args.axis c.args.b.now c.args.left.now c.size.result c.in-Err.refused c.requires.left c.requires.fits c.size.ensures.value c.in-Err.ensures.refused

use Rattle.product_fns.proofs.InnerAnswers.{inner_refused}
use Rattle.product_fns.proofs.inners.inner_within.Goals as goal

pub returns-in-Err-clause-answer : goal.returns-in-Err-clause-answer
returns-in-Err-clause-answer c =
    inner_refused c.args.store.now c.args.f c.args.g c.args.a.now c.args.b.now c.args.shape.now c.args.n c.size.result c.in-Err.refused c.requires.goes c.requires.shape c.requires.fits c.size.ensures.value c.in-Err.ensures.refused

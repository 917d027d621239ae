use Rattle.product_fns.proofs.PairLemmas.{row_is}
use Rattle.product_fns.proofs.lines.product.Goals as goal

pub returns-in-Add-Mul-clause-exact : goal.returns-in-Add-Mul-clause-exact
returns-in-Add-Mul-clause-exact c = c.product_at_once.ensures.exact c.args.f c.args.g (row_is _ _ c.in-Add-Mul.is-0) (row_is _ _ c.in-Add-Mul.is-1)

pub returns-in-Add-Eq-clause-exact : goal.returns-in-Add-Eq-clause-exact
returns-in-Add-Eq-clause-exact c = c.product_at_once-in-Add-Eq.ensures.exact c.args.f c.args.g (row_is _ _ c.in-Add-Eq.is-0) (row_is _ _ c.in-Add-Eq.is-1)

pub returns-in-Or-And-clause-exact : goal.returns-in-Or-And-clause-exact
returns-in-Or-And-clause-exact c = c.product_at_once-in-Or-And.ensures.exact c.args.f c.args.g (row_is _ _ c.in-Or-And.is-0) (row_is _ _ c.in-Or-And.is-1)

pub returns-in-And-Eq-clause-exact : goal.returns-in-And-Eq-clause-exact
returns-in-And-Eq-clause-exact c = c.product_at_once-in-And-Eq.ensures.exact c.args.f c.args.g (row_is _ _ c.in-And-Eq.is-0) (row_is _ _ c.in-And-Eq.is-1)

pub returns-in-Max-Add-clause-exact : goal.returns-in-Max-Add-clause-exact
returns-in-Max-Add-clause-exact c = c.product_at_once-in-Max-Add.ensures.exact c.args.f c.args.g (row_is _ _ c.in-Max-Add.is-0) (row_is _ _ c.in-Max-Add.is-1)

pub returns-in-Min-Add-clause-exact : goal.returns-in-Min-Add-clause-exact
returns-in-Min-Add-clause-exact c = c.product_at_once-in-Min-Add.ensures.exact c.args.f c.args.g (row_is _ _ c.in-Min-Add.is-0) (row_is _ _ c.in-Min-Add.is-1)

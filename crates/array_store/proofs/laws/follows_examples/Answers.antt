use Rattle.std.proofs.Common.{◌≡◌, arith}
use Rattle.array_store.proofs.laws.follows_examples.Goals as goal

pub returns-clause-uncounted : goal.returns-clause-uncounted
returns-clause-uncounted c = λ follows. let h : 1 ≡ 2 = follows.holders 0 in absurd (omega (arith, h))

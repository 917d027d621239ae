use Rattle.made_fns.proofs.TurnLemmas.{without_then, without_else}
use Rattle.made_fns.proofs.turns.are_without.Goals as goal

pub returns-then-eq : goal.returns-then-eq
returns-then-eq c = without_then c.args.axis c.args.some.now c.args.all.now _ _ c.requires.axis c.eq.ensures c.if-eq.true c.eq-then-eq.ensures

pub returns-else-eq : goal.returns-else-eq
returns-else-eq c = without_else c.args.axis c.args.some.now c.args.all.now _ c.requires.axis c.eq.ensures c.if-eq.false

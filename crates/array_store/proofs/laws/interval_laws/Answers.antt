use Rattle.array_store.proofs.IntervalLemmas.{IsLeastToGreatest-exact}
use Rattle.array_store.proofs.laws.interval_laws.Goals as goal

pub returns : goal.returns
returns c = IsLeastToGreatest-exact

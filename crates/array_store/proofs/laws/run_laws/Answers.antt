use Rattle.array_store.proofs.PlaceLemmas.{whole_run}
use Rattle.array_store.proofs.laws.run_laws.Goals as goal

pub returns : goal.returns
returns c = whole_run

use Rattle.array_store.proofs.CountingLemmas.{costs_nothing, costs_then, costs_more, costs_fetched, costs_computed, costs_made}
use Rattle.array_store.proofs.laws.costs_laws.Goals as goal

pub returns : goal.returns
returns c =
    record { nothing = costs_nothing; then = costs_then; more = costs_more; fetched = costs_fetched; computed = costs_computed; made = costs_made }

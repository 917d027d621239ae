use Rattle.drag_along.proofs.EntryLemmas.{entry_is_meaning, only_meaning}
use Rattle.drag_along.proofs.laws.meaning_laws.Goals as goal

pub returns : goal.returns
returns c = record { computed = entry_is_meaning; only = only_meaning }

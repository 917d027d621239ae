use Rattle.standing.proofs.StandLemmas.{older_then_younger, arrays_are_pending, oldest_fault_ends, end_stays}
use Rattle.standing.proofs.laws.stands_are_lists.Goals as goal

pub returns : goal.returns
returns c = record { parts = older_then_younger; arrays = arrays_are_pending; fault = oldest_fault_ends; end = end_stays }

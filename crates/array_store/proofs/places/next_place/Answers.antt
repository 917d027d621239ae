use Rattle.std.proofs.Common.{rules}
use Rattle.std.proofs.lemmas.Int.{wraps}
use Rattle.array_store.proofs.places.next_place.Goals as goal

pub returns : goal.returns
returns c = search (rules, wraps)

use Rattle.std.proofs.Common.{rules}
use Rattle.std.proofs.lemmas.Int.{wraps}
use Rattle.made_picks.proofs.reads.next_number.Goals as goal

pub returns : goal.returns
returns c = search (rules, wraps)

use Rattle.std.proofs.Common.{◌-◌, length}
use Rattle.apl_read.proofs.QuoteLemmas.{IsQuotedSoFar}
use Rattle.apl_read.proofs.quotes.read_quoted.Given as goal

abbrev pub invariant-loop-at : goal.invariant-loop-at
invariant-loop-at l = IsQuotedSoFar l.rest l.at l.characters.items

abbrev pub decreases-loop-at : goal.decreases-loop-at
decreases-loop-at l = length l.rest - l.at

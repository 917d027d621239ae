use Rattle.std.proofs.Common.{◌≡◌, take, Some}
use Rattle.apl_model.proofs.Unique.{token_words}
use Rattle.apl_defn.proofs.Readers.{run}
use Rattle.apl_defn.specs.HeaderSteps.{takes}
use Rattle.apl_defn.specs.declared.headers.HeaderSoFar.TheVariants as so_far
use Rattle.apl_defn.proofs.headers.read_header.Given as goal

abbrev pub invariant-loop-token : goal.invariant-loop-token
invariant-loop-token l = run takes (Some so_far.Opened) (token_words (take l.token-index l.token-items)) ≡ Some l.header

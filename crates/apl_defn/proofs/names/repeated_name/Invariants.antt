use Rattle.std.proofs.Common.{◌++◌, take}
use Rattle.apl_model.specs.Refusal.{names_in, labels_in}
use Rattle.apl_defn.proofs.PlaceLemmas.{IsFirstAgain}
use Rattle.apl_defn.proofs.names.repeated_name.Given as goal

abbrev pub invariant-loop-token : goal.invariant-loop-token
invariant-loop-token l = IsFirstAgain (names_in l.first.number (take l.token-index l.first.tokens)) l.names l.found

abbrev pub invariant-loop-line : goal.invariant-loop-line
invariant-loop-line l = IsFirstAgain (names_in l.first.number l.first.tokens ++ labels_in (take l.line-index l.body)) l.names l.found

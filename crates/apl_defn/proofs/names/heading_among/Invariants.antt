use Rattle.std.proofs.Common.{take}
use Rattle.apl_model.specs.Refusal.{names_in}
use Rattle.apl_defn.proofs.PlaceLemmas.{IsFirstWrong}
use Rattle.apl_defn.specs.NameRules.{IsHeading}
use Rattle.apl_defn.proofs.names.heading_among.Given as goal

abbrev pub invariant-loop-token : goal.invariant-loop-token
invariant-loop-token l = IsFirstWrong (IsHeading l.lookup) (names_in l.line (take l.token-index l.tokens)) l.found

use Rattle.std.proofs.Common.{◌≡◌, ◌++◌, take}
use Rattle.apl_model.specs.Refusal.{names_in, labels_in}
use Rattle.apl_defn.proofs.PlaceLemmas.{IsFirstWrong}
use Rattle.apl_defn.specs.NameRules.{IsHeading}
use Rattle.apl_defn.proofs.names.declared_name.Given as goal

abbrev pub invariant-loop-token : goal.invariant-loop-token
invariant-loop-token l = IsFirstWrong (λ n. ¬ (n ≡ l.own) × IsHeading l.lookup n) (names_in l.first.number (take l.token-index l.first.tokens)) l.found

abbrev pub invariant-loop-line : goal.invariant-loop-line
invariant-loop-line l =
    IsFirstWrong (λ n. ¬ (n ≡ l.own) × IsHeading l.lookup n) (names_in l.first.number l.first.tokens ++ labels_in (take l.line-index l.body)) l.found

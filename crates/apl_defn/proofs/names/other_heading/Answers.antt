use Rattle.std.proofs.Common.{◌≡◌, ℕ, List, true, false, sym, subst, ◌∙◌}
use Rattle.apl_model.specs.Refusal.{Occurrence, IsFirstIfAny}
use Rattle.apl_defn.proofs.PlaceLemmas.{wrong_alike, right_first}
use Rattle.apl_defn.specs.NameRules.{IsHeading}
use Rattle.apl_defn.specs.Occurrences.{IsWrong, at_most_one}
use Rattle.apl_defn.proofs.names.other_heading.Goals as goal

false_true : false ≡ true → ⊥
false_true e = cc

pub returns-then-is : goal.returns-then-is
returns-then-is c =
    let p = c.in_ok-name.field-0 in
    let place : Occurrence = record { name = p.name.now; line = p.line; column = p.column } in
    let L : List ℕ → Type 0 = λ n. ¬ (n ≡ c.args.own.now) × IsHeading c.args.lookup.now n in
    rw c.in_ok-name.was (right_first L place (λ h. h.0 (c.is.ensures.0 c.if-is.true)))

pub returns : goal.returns
returns c =
    let p = c.in_ok-name.field-0 in
    let place : Occurrence = record { name = p.name.now; line = p.line; column = p.column } in
    let K : List ℕ → Type 0 = IsHeading c.args.lookup.now in
    let L : List ℕ → Type 0 = λ n. ¬ (n ≡ c.args.own.now) × IsHeading c.args.lookup.now n in
    rw c.in_ok-name.was (wrong_alike K L place c.heading_at.result (λ h. (λ e. false_true (sym c.if-is.false ∙ c.is.ensures.1 e), h)) (λ h. h.1)
    (subst (λ v. IsFirstIfAny (IsWrong K (at_most_one v)) c.heading_at.result) c.in_ok-name.was c.heading_at.ensures))

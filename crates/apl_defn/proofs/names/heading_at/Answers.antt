use Rattle.std.proofs.Common.{sym, ap, ◌∙◌}
use Rattle.apl_model.specs.Refusal.{Occurrence}
use Rattle.std.specs.Option.{is_some}
use Rattle.apl_defn.proofs.PlaceLemmas.{wrong_first}
use Rattle.apl_defn.specs.NameRules.{IsHeading}
use Rattle.apl_defn.proofs.names.heading_at.Goals as goal

pub returns : goal.returns
returns c =
    let place : Occurrence = record { name = c.in_ok-place.place.name.now; line = c.in_ok-place.place.line; column = c.in_ok-place.place.column } in
    let e = sym c.arguments.ensures ∙ c.in_ok-arguments.was in
    rw c.in_ok-place.was (wrong_first (IsHeading c.args.lookup.now) place (ap is_some e))

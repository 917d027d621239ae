use Rattle.std.proofs.Common.{ap, sym, subst, ◌∙◌}
use Rattle.std.specs.Prelude.{map}
use Rattle.apl_model.specs.Mirror.{item_of}
use Rattle.apl_model.specs.Script.{parts, heading_of}
use Rattle.apl_defn.proofs.ScriptLemmas.{form_refused, all_closed, use_refused, all_read}
use Rattle.apl_defn.specs.Passes.{AreUses}
use Rattle.apl_defn.specs.Reading.{AreAccepted}
use Rattle.apl_defn.proofs.scripts.read_items.Goals as goal

pub returns-in-Some-clause-refused : goal.returns-in-Some-clause-refused
returns-in-Some-clause-refused c = form_refused c.args.given.now c.in_ok-forms.forms c.in_ok-forms.ensures c.in-Some.refusal c.in-Some.is

pub read_uses-requires-clause-closed : goal.read_uses-requires-clause-closed
read_uses-requires-clause-closed c = all_closed c.args.given.now c.in_ok-forms.forms c.in_ok-forms.ensures c.in_default.is

pub returns-in-Some-earliest-clause-refused : goal.returns-in-Some-earliest-clause-refused
returns-in-Some-earliest-clause-refused c =
    let ls = c.args.given.now in
    let u = c.in_ok-uses.uses in
    let classes = c.in_ok-lookup.ensures ∙ c.in_ok-classes_from.ensures ∙ ap (λ v. map heading_of v) c.as_slice.ensures.value in
    use_refused ls c.in_ok-forms.forms c.in_ok-forms.ensures c.in_default.is u (subst (λ v. AreUses v (parts ls) u) classes c.in_ok-uses.ensures)
    c.in-Some-earliest.refusal c.in-Some-earliest.is

pub returns-clause-accepted : goal.returns-clause-accepted
returns-clause-accepted c =
    let ls = c.args.given.now in
    let u = c.in_ok-uses.uses in
    let classes = c.in_ok-lookup.ensures ∙ c.in_ok-classes_from.ensures ∙ ap (λ v. map heading_of v) c.as_slice.ensures.value in
    subst (λ v. AreAccepted ls (record { lines = ls; items = map item_of v })) (sym c.from_vec-2.ensures)
    (all_read ls c.in_ok-forms.forms c.in_ok-forms.ensures c.in_default.is u (subst (λ v. AreUses v (parts ls) u) classes c.in_ok-uses.ensures) c.in_default-earliest.is)

-- What a choice makes of a pending expression.
use Rattle.std.proofs.Common.{◌≡◌, ℕ, List, refl, sym, ap, ◌∙◌}
use Rattle.beating.specs.declared.selections.Selection.{Selection}
use Rattle.beating.specs.declared.selections.Selection.TheVariants as select
use Rattle.beating.specs.Selecting.{selected_meaning}
use Rattle.drag_along.specs.Meaning.{Meaning, Means, Faults}
use Rattle.selection_choices.specs.declared.choices.Choice.{Choice}
use Rattle.selection_choices.specs.declared.choices.Choice.TheVariants as choice
use Rattle.selection_choices.specs.Choices.{chosen_meaning}

both_meanings : (to : List ℕ) (by : Selection) (m : Meaning) → selected_meaning by (selected_meaning (select.Extend to) m) ≡ chosen_meaning (choice.Widen to by) m
both_meanings to by (Means a) = refl
both_meanings to by (Faults place) = refl

-- one selection after an extension
pub widened_meaning : (c : Choice) (to kept : List ℕ) (by : Selection) (a b d : Meaning) → c ≡ choice.Widen to by → kept ≡ to → b ≡ selected_meaning (select.Extend kept) a → d ≡ selected_meaning by b → d ≡ chosen_meaning c a
widened_meaning c to kept by a b d is same first second =
    second ∙ ap (selected_meaning by) first ∙ ap (λ (k : List ℕ). selected_meaning by (selected_meaning (select.Extend k) a)) same
    ∙ both_meanings to by a ∙ ap (λ (x : Choice). chosen_meaning x a) (sym is)

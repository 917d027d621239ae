use Rattle.std.proofs.Common.{◌≡◌, ◌<◌, ℕ, ℤ, pos, ◌-ℤ◌, true, get_or, to_z, of_z, sym, subst, ◌∙◌, arith, rules}
use Rattle.std.proofs.lemmas.Int.{to_z-of_z}
use mir.Val.{SFits}
use mir.Syntax.{w128}
use Rattle.apl_model.specs.Made.{is_axis_among}
use Rattle.selection_choices.proofs.AxisLemmas.{less, all_pass, one_fails}
use Rattle.selection_choices.proofs.axes.are_axes.Goals as goal

pub returns-then-not-is_axis : goal.returns-then-not-is_axis
returns-then-not-is_axis c =
    let numbers = c.args.numbers.now in
    let number : ℤ = get_or numbers c.loop-number.number-index (pos 0) in
    let fits : SFits w128 (get_or numbers c.loop-number.number-index (pos 0)) = search rules in
    let here = subst (λ (o : ℤ). c.is_axis.result ≡ is_axis_among (less o numbers) (to_z w128 (of_z w128 number) -ℤ o)) (to_z-of_z w128 c.args.origin c.ranges.origin) c.is_axis.ensures in
    let read = subst (λ (z : ℤ). c.is_axis.result ≡ is_axis_among (less c.args.origin numbers) (z -ℤ c.args.origin)) (to_z-of_z w128 number fits) here in
    sym (one_fails (is_axis_among (less c.args.origin numbers)) c.args.origin numbers c.loop-number.number-index c.loop-number-test.true (sym read ∙ c.if-not-is_axis.true))

pub returns : goal.returns
returns c =
    let numbers = c.args.numbers.now in
    let each = subst (λ (o : ℤ). (j : ℕ) → j < c.loop-number.number-index → is_axis_among (less o numbers) (get_or numbers j (pos 0) -ℤ o) ≡ true) (to_z-of_z w128 c.args.origin c.ranges.origin) c.loop-number.invariant in
    sym (all_pass (is_axis_among (less c.args.origin numbers)) c.args.origin numbers (λ j w. each j (omega (arith, w, c.loop-number-test.false))))

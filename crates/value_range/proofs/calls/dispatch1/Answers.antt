-- The row that the arm is about, in place of the function.
use Rattle.std.proofs.Common.{false, subst, sym}
use Rattle.apl_base.specs.declared.rows.Mon.{Mon}
use Rattle.value_range.specs.Interval.{row1, at_sides}
use Rattle.value_range.specs.Sound.{IsSharpAt}
use Rattle.value_range.proofs.calls.dispatch1.Goals as goal

pub returns-in-Minus-clause-sharper : goal.returns-in-Minus-clause-sharper
returns-in-Minus-clause-sharper c =
    let P : Mon → Type 0 = λ f. IsSharpAt (at_sides false (λ _ _. row1 f)) c.args.a c.args.a c.range_of-in-Minus.result in
    subst P (sym c.in-Minus.is) c.range_of-in-Minus.ensures.sharper

pub returns-in-Recip-clause-sharper : goal.returns-in-Recip-clause-sharper
returns-in-Recip-clause-sharper c =
    let P : Mon → Type 0 = λ f. IsSharpAt (at_sides false (λ _ _. row1 f)) c.args.a c.args.a c.range_of-in-Recip.result in
    subst P (sym c.in-Recip.is) c.range_of-in-Recip.ensures.sharper

pub returns-in-Abs-clause-sharper : goal.returns-in-Abs-clause-sharper
returns-in-Abs-clause-sharper c =
    let P : Mon → Type 0 = λ f. IsSharpAt (at_sides false (λ _ _. row1 f)) c.args.a c.args.a c.range_of-in-Abs.result in
    subst P (sym c.in-Abs.is) c.range_of-in-Abs.ensures.sharper

pub returns-in-Not-clause-sharper : goal.returns-in-Not-clause-sharper
returns-in-Not-clause-sharper c =
    let P : Mon → Type 0 = λ f. IsSharpAt (at_sides false (λ _ _. row1 f)) c.args.a c.args.a c.range_of-in-Not.result in
    subst P (sym c.in-Not.is) c.range_of-in-Not.ensures.sharper

pub returns-in-Fact-clause-sharper : goal.returns-in-Fact-clause-sharper
returns-in-Fact-clause-sharper c =
    let P : Mon → Type 0 = λ f. IsSharpAt (at_sides false (λ _ _. row1 f)) c.args.a c.args.a c.range_of-in-Fact.result in
    subst P (sym c.in-Fact.is) c.range_of-in-Fact.ensures.sharper

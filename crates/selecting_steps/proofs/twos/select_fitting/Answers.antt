use Rattle.std.proofs.Common.{ℤ, subst}
use Rattle.std.specs.Prelude.{Option}
use Rattle.std.proofs.lemmas.Int.{to_z-of_z}
use mir.Syntax.{w128}
use Rattle.value_stack.specs.Stacks.{entries}
use Rattle.pending_steps.specs.Shapes.{second_shape}
use Rattle.selection_choices.specs.declared.choices.Choice.{Choice}
use Rattle.selecting_steps.specs.Chosen.{ChoosesByNewest}
use Rattle.selecting_steps.proofs.StepLemmas.{second_stepped}
use Rattle.selecting_steps.proofs.twos.select_fitting.Goals as goal

pub returns-clause-step : goal.returns-clause-step
returns-clause-step c =
    let store = c.make_ready.new.store in
    let stack = c.make_ready.new.stack in
    let same = to_z-of_z w128 c.args.origin c.ranges.origin in
    let chooses = subst (λ (o : ℤ). ChoosesByNewest o c.args.f (second_shape stack) (entries store stack) c.in-Ok.choice) same c.in-Ok.ensures.chooses in
    let by = subst (λ (x : Option Choice). ChoosesByNewest c.args.origin c.args.f (second_shape stack) (entries store stack) x) c.in-Some.is chooses in
    second_stepped c.args.origin c.args.f c.args.place c.in-Some.choice (second_shape stack) (entries c.args.store.now c.args.stack.now) (entries store stack) (entries c.choice_of_second.new.store stack) _ c.make_ready.ensures.means c.choice_of_second.ensures.means by c.in_ok-choose_second.ensures.chosen

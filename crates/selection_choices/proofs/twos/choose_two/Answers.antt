use Rattle.std.proofs.Common.{ℤ, sym, ap, subst, ◌∙◌}
use Rattle.std.specs.Prelude.{Option, IfOk, IfErr}
use Rattle.std.proofs.lemmas.List.{length-take-le}
use Rattle.std.proofs.lemmas.Result.{IfOk-weaker, IfErr-weaker, err_from_is_err_and}
use Rattle.std.proofs.lemmas.Int.{to_z-of_z}
use mir.Syntax.{w128}
use Rattle.e_machine.specs.Forced.{cells_from}
use Rattle.apl_model.specs.Evaluation.{dyadic_value}
use Rattle.leaf_names.specs.Variables.{array_of}
use Rattle.selection_choices.specs.declared.choices.Choice.{Choice}
use Rattle.selection_choices.specs.Choices.{Errs, ChoosesOrTakesMore}
use Rattle.selection_choices.specs.Left.{Lists}
use Rattle.selection_choices.proofs.twos.choose_two.Goals as goal

pub returns-in_err-count-clause-refused : goal.returns-in_err-count-clause-refused
returns-in_err-count-clause-refused c =
    let p = err_from_is_err_and c.from_residual.result c.from_residual.ensures.1 in
    rw (p.1, p.2) (λ b is. c.in_err-count.ensures.refused c.args.origin c.args.store.now b is)

pub returns-clause-chooses : goal.returns-clause-chooses
returns-clause-chooses c =
    let a = array_of c.args.store.now c.args.left.now in
    let many = length-take-le c.in_ok-count.count _ c.in_ok-count.ensures.few ∙ c.in_ok-count.ensures.count in
    let lists : Lists c.read_block.new.into (array_of c.args.store.now c.args.left.now) = record {
      list = c.in_ok-count.ensures.list c.args.store.now;
      cells = sym (c.read_block.ensures.cells ∙ ap (cells_from c.args.store.now c.args.left.now 0) many);
    } in
    subst (λ (o : ℤ). IfOk c.choice_by.result (λ (x : Option Choice). ChoosesOrTakesMore (dyadic_value o c.args.f a) c.args.f a c.args.shape.now x)) (to_z-of_z w128 c.args.origin c.ranges.origin)
    (IfOk-weaker c.choice_by.result _ _ (λ x h. h a lists) c.choice_by.ensures.chooses)

pub returns-clause-refused : goal.returns-clause-refused
returns-clause-refused c =
    let a = array_of c.args.store.now c.args.left.now in
    let many = length-take-le c.in_ok-count.count _ c.in_ok-count.ensures.few ∙ c.in_ok-count.ensures.count in
    let lists : Lists c.read_block.new.into (array_of c.args.store.now c.args.left.now) = record {
      list = c.in_ok-count.ensures.list c.args.store.now;
      cells = sym (c.read_block.ensures.cells ∙ ap (cells_from c.args.store.now c.args.left.now 0) many);
    } in
    subst (λ (o : ℤ). IfErr c.choice_by.result (λ kind. Errs (dyadic_value o c.args.f a) c.args.shape.now kind)) (to_z-of_z w128 c.args.origin c.ranges.origin)
    (IfErr-weaker c.choice_by.result _ _ (λ x h. h a lists) c.choice_by.ensures.refused)

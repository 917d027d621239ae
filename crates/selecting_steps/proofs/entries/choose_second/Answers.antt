use Rattle.std.proofs.Common.{ℕ, List, [], ◌∷◌, length, ap, subst, ◌∙◌, arith, length-append}
use Rattle.std.proofs.lemmas.Result.{IfOk-weaker}
use Rattle.drag_along.specs.Segments.{SegmentView}
use Rattle.selection_choices.specs.Choices.{ChoiceFits}
use Rattle.selecting_steps.proofs.NewestLemmas.{second_at, second_shape_is, second_chosen}
use Rattle.selecting_steps.proofs.entries.choose_second.Goals as goal

pub choose_newest-requires-clause-operand : goal.choose_newest-requires-clause-operand
choose_newest-requires-clause-operand c =
    let gone = c.let_newest_go.ensures.goes in
    omega (arith, c.requires.operands, ap (λ (xs : List SegmentView). length xs) gone.stack, length-append c.let_newest_go.new.stack (gone.newest ∷ []))

pub choose_newest-requires-clause-safe : goal.choose_newest-requires-clause-safe
choose_newest-requires-clause-safe c s g =
    let gone = c.let_newest_go.ensures.goes in
    c.requires.safe s (second_at c.args.stack.now c.let_newest_go.new.stack gone.newest gone.stack c.requires.operands ∙ g)

pub choose_newest-requires-clause-fits : goal.choose_newest-requires-clause-fits
choose_newest-requires-clause-fits c =
    let gone = c.let_newest_go.ensures.goes in
    subst (λ (ns : List ℕ). ChoiceFits c.args.choice.now ns) (second_shape_is c.args.stack.now c.let_newest_go.new.stack gone.newest gone.stack c.requires.operands) c.requires.fits

pub returns-clause-chosen : goal.returns-clause-chosen
returns-clause-chosen c =
    let gone = c.let_newest_go.ensures.goes in
    IfOk-weaker c.choose_newest.result _ _ (λ _ h. second_chosen c.args.choice.now _ _ _ _ _ _ (second_shape_is c.args.stack.now c.let_newest_go.new.stack gone.newest gone.stack c.requires.operands) gone.means h) c.choose_newest.ensures.chosen

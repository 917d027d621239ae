use Rattle.std.proofs.Common.{ℕ, List, inr, subst, arith}
use Rattle.drag_along.specs.Meaning.{Meaning}
use Rattle.apl_model.specs.Evaluation.{monadic_value}
use Rattle.apl_compile.specs.declared.codes.Op.TheVariants.{Mon}
use Rattle.leaf_steps.specs.Origins.{RefusesFrom}
use Rattle.selection_choices.specs.Choices.{Errs}
use Rattle.selecting_steps.proofs.NewestLemmas.{newest_kept}
use Rattle.selecting_steps.proofs.StepLemmas.{newest_refuses}
use Rattle.selecting_steps.proofs.ones.refuse.Goals as goal

pub returns-in-Ok-clause-halted : goal.returns-in-Ok-clause-halted
returns-in-Ok-clause-halted c =
    let new = c.settle_entries.new.stack in
    let errs : Errs (monadic_value c.args.origin c.args.f) _ c.args.kind =
    subst (λ (ns : List ℕ). Errs (monadic_value c.args.origin c.args.f) ns c.args.kind) (newest_kept c.args.stack.now new c.in-Ok.ensures.shapes c.in-Ok.ensures.length) c.requires.errs in
    inr (subst (λ (ms : List Meaning). RefusesFrom c.args.origin (record { place = c.args.place; op = Mon c.args.f }) 1 ms c.args.kind c.args.place) c.settle_entries.ensures.means
    (newest_refuses c.args.origin c.args.f c.args.place c.args.kind c.settle_entries.new.store new c.in-Ok.ensures.arrays (omega (arith, c.requires.operand, c.in-Ok.ensures.length)) errs))

use Rattle.std.proofs.Common.{ℕ, List, inr, sym, subst, arith}
use Rattle.drag_along.specs.Meaning.{Meaning}
use Rattle.value_stack.specs.Stacks.{entries}
use Rattle.apl_compile.specs.declared.codes.Op.TheVariants.{Dya}
use Rattle.leaf_steps.specs.Origins.{RefusesFrom}
use Rattle.pending_steps.specs.Shapes.{second_shape}
use Rattle.selecting_steps.specs.Chosen.{ErrsByNewest}
use Rattle.selecting_steps.proofs.NewestLemmas.{second_kept}
use Rattle.selecting_steps.proofs.StepLemmas.{second_refuses}
use Rattle.selecting_steps.proofs.twos.refuse.Goals as goal

pub returns-in-Ok-clause-halted : goal.returns-in-Ok-clause-halted
returns-in-Ok-clause-halted c =
    let new = c.settle_entries.new.stack in
    let means = c.settle_entries.ensures.means in
    let shaped = subst (λ (ns : List ℕ). ErrsByNewest c.args.origin c.args.f ns (entries c.args.store.now c.args.stack.now) c.args.kind) (second_kept c.args.stack.now new c.in-Ok.ensures.shapes c.in-Ok.ensures.length) c.requires.errs in
    let errs = subst (λ (ms : List Meaning). ErrsByNewest c.args.origin c.args.f (second_shape new) ms c.args.kind) (sym means) shaped in
    inr (subst (λ (ms : List Meaning). RefusesFrom c.args.origin (record { place = c.args.place; op = Dya c.args.f }) 2 ms c.args.kind c.args.place) means
    (second_refuses c.args.origin c.args.f c.args.place c.args.kind c.settle_entries.new.store new c.in-Ok.ensures.arrays (omega (arith, c.requires.operands, c.in-Ok.ensures.length)) errs))

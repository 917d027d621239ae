use Rattle.std.proofs.Common.{◌≡◌, inr, List, Err, sym, subst, arith}
use Rattle.drag_along.specs.Meaning.{Meaning}
use Rattle.apl_model.specs.Lift.{fitting_shape}
use Rattle.apl_compile.specs.declared.codes.Op.TheVariants.{Dya}
use Rattle.apl_model.specs.declared.functions.DyaFn.TheVariants.{Scalar}
use Rattle.std.specs.Prelude.{ℕ, slice_index_or, length, ◌-◌, []}
use Rattle.pending_steps.specs.Shapes.{shapes_of, newest_shape, second_shape}
use Rattle.pending_steps.specs.Steps.{Refuses}
use Rattle.pending_steps.proofs.EndLemmas.{unfit_refuses}
use Rattle.pending_steps.proofs.twos.refuse.Goals as goal

pub returns-in-Ok-clause-halted : goal.returns-in-Ok-clause-halted
returns-in-Ok-clause-halted c =
    let new = c.settle_entries.new.stack in
    let old = c.args.stack.now in
    let shapes : shapes_of old ≡ shapes_of new = sym c.in-Ok.ensures.shapes in
    let long : length old ≡ length new = sym c.in-Ok.ensures.length in
    let unfit : fitting_shape (newest_shape new) (second_shape new) ≡ Err c.args.kind =
    subst (λ (k : ℕ). fitting_shape (slice_index_or (shapes_of new) (k - 1) []) (slice_index_or (shapes_of new) (k - 2) []) ≡ Err c.args.kind) long
    (subst (λ (s : List (List ℕ)). fitting_shape (slice_index_or s (length old - 1) []) (slice_index_or s (length old - 2) []) ≡ Err c.args.kind) shapes c.requires.unfit) in
    inr (subst (λ (ms : List Meaning). Refuses (record { place = c.args.place; op = Dya (Scalar c.args.f) }) 2 ms c.args.kind c.args.place) c.settle_entries.ensures.means
    (unfit_refuses c.args.f c.args.place c.args.kind c.settle_entries.new.store new c.in-Ok.ensures.arrays (omega (arith, c.requires.operands, long)) unfit))

use Rattle.std.proofs.Common.{◌≡◌, inr, List, sym, subst, refl}
use Rattle.std.specs.Prelude.{None}
use Rattle.std.proofs.lemmas.Result.{IfOk-weaker}
use Rattle.drag_along.specs.Segments.{SegmentView}
use Rattle.value_stack.specs.Stacks.{MayFail, IsLeastOrNone}
use Rattle.replacing_steps.specs.Replaces.{RefusesReplace}
use Rattle.replacing_steps.proofs.FreeLemmas.{err_is}
use Rattle.replacing_steps.proofs.MachineLemmas.{replaces_from, refuses_kept}
use Rattle.replacing_steps.proofs.replacing.check_and_write.Goals as goal

pub write_and_drop-requires-clause-safe : goal.write_and_drop-requires-clause-safe
write_and_drop-requires-clause-safe c = subst (λ (stack : List SegmentView). IsLeastOrNone MayFail stack 0 None) (sym c.shape_to_write.ensures.stack) c.requires.safe

pub write_and_drop-requires-clause-lawful : goal.write_and_drop-requires-clause-lawful
write_and_drop-requires-clause-lawful c = (c.requires.lawful.0, c.shape_to_write.ensures.keeps.lawful c.requires.lawful.0 c.requires.lawful.1)

pub returns-in-Ok-clause-replaces : goal.returns-in-Ok-clause-replaces
returns-in-Ok-clause-replaces c =
    IfOk-weaker c.write_and_drop.result _ _ (λ _ r.
    replaces_from c.args.machine.now c.shape_to_write.new.machine c.write_and_drop.new.machine c.args.name.now c.args.mask.now c.shape_to_write.ensures.keeps c.shape_to_write.ensures.pending r c.requires.lawful.0 c.requires.lawful.1) c.write_and_drop.ensures.replaces

pub returns-in-Err-clause-halted : goal.returns-in-Err-clause-halted
returns-in-Err-clause-halted c =
    let refused = err_is c.in_ok-selected.field-0 c.in-Err.kind (RefusesReplace c.shape_to_write.new.machine c.args.name.now c.args.mask.now) c.in_ok-selected.ensures.refused c.in-Err.is in
    inr (
      refl,
      refuses_kept c.shape_to_write.new.machine c.args.machine.now c.args.name.now c.args.mask.now c.in-Err.kind
          (sym (c.shape_to_write.ensures.keeps.variables c.requires.lawful.0 c.requires.lawful.1)) (sym c.shape_to_write.ensures.pending) refused,
    )

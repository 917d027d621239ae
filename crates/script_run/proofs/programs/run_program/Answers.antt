use Rattle.std.proofs.Common.{ap, ◌∙◌, ◌+◌}
use Rattle.script_run.proofs.LoopLemmas.{counts-next, counts-none, counts-on, has-item, went-next, went-none, went-on, went-stops, went-wanting}
use Rattle.script_run.proofs.programs.run_program.Goals as goal

pub loop-item-init : goal.loop-item-init
loop-item-init g c = (counts-none c.args.program.now, went-none c.args.program.now _ c.requires.rest)

pub run_item-requires-clause-item : goal.run_item-requires-clause-item
run_item-requires-clause-item g c =
    has-item c.args.program.now _ (c.as_slice-item-items.ensures ∙ ap (λ o. o.items) c.outline.ensures) _ _ c.loop-item-test.true c.item-item.is _
    c.loop-item.invariant.0 c.requires.compiled

pub returns-in-Err : goal.returns-in-Err
returns-in-Err g c =
    went-stops c.args.program.now _ (c.as_slice-item-items.ensures ∙ ap (λ o. o.items) c.outline.ensures) _ _ c.loop-item-test.true c.item-item.is _ _ _ _ _ _
    c.loop-item.invariant.0 c.loop-item.invariant.1 c.in-Err.ensures

pub returns-in_default : goal.returns-in_default
returns-in_default g c =
    went-wanting c.args.program.now _ _ _ _
    (went-next c.args.program.now _ (c.as_slice-item-items.ensures ∙ ap (λ o. o.items) c.outline.ensures) _ _ c.loop-item-test.true c.item-item.is _ _ _ _ _ _
    c.loop-item.invariant.0 c.loop-item.invariant.1 c.requires.compiled c.in-Ok.ensures)

pub loop-item-preserved : goal.loop-item-preserved
loop-item-preserved g c =
    let items = c.as_slice-item-items.ensures ∙ ap (λ o. o.items) c.outline.ensures in
    let counted = c.in-Some.ensures.1 ∙ ap (λ n. c.loop-item.code + n) c.code_count.ensures in (
      counts-on _ _ _ (counts-next c.args.program.now _ items _ _ c.loop-item-test.true c.item-item.is _ c.loop-item.invariant.0 _ counted),
      went-on _ _ _ _ _ (went-next c.args.program.now _ items _ _ c.loop-item-test.true c.item-item.is _ _ _ _ _ _
          c.loop-item.invariant.0 c.loop-item.invariant.1 c.requires.compiled c.in-Ok.ensures),
    )

use Rattle.std.proofs.Common.{◌+◌, Some, sym, subst}
use Rattle.apl_model.specs.declared.outlines.OutlineBody.{OutlineBody}
use Rattle.apl_model.specs.Frames.{line_number}
use Rattle.name_table.specs.Laws.{with_argument}
use Rattle.calling_steps.specs.Ready.{Changes}
use Rattle.calling_steps.specs.Calls.{labels_in}
use Rattle.calling_steps.proofs.EnterLemmas.{every_label_set, labels_beside, next_label_set}
use Rattle.calling_steps.proofs.LeaveLemmas.{same_counts}
use Rattle.calling_steps.proofs.entering.set_labels.Goals as goal

pub set_label-requires : goal.set_label-requires
set_label-requires c = record { lawful = labels_beside c.args.machine.now c.loop-at.machine (labels_in c.args.body.now) c.loop-at.at c.loop-at.invariant c.requires.lawful }

pub returns-in_err-set_label-clause-run : goal.returns-in_err-set_label-clause-run
returns-in_err-set_label-clause-run c = same_counts c.args.machine.now c.loop-at.machine c.set_label.new.machine c.loop-at.invariant.run c.set_label.ensures.run

pub loop-at-preserved : goal.loop-at-preserved
loop-at-preserved c =
    next_label_set c.args.machine.now c.loop-at.machine c.set_label.new.machine c.args.body.now c.loop-at.at c.index-body-at.result c.loop-at-test.true c.index-body-at.is c.loop-at.invariant
    (subst (λ (b : OutlineBody). Changes c.loop-at.machine c.set_label.new.machine (with_argument b.label (Some (line_number (c.loop-at.at + 1))))) (sym c.index-body-at.is) c.in_ok-set_label.ensures.label)
    c.set_label.ensures.run

pub returns-clause-labels : goal.returns-clause-labels
returns-clause-labels c = every_label_set c.args.machine.now c.loop-at.machine c.args.body.now c.loop-at.at c.loop-at-test.false c.loop-at.invariant

pub returns-clause-run : goal.returns-clause-run
returns-clause-run c = c.loop-at.invariant.run

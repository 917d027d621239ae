use Rattle.std.proofs.Common.{Bool, subst}
use Rattle.std.proofs.lemmas.Result.{IfOk-weaker}
use Rattle.calling_steps.specs.Calls.{labels_in}
use Rattle.calling_steps.specs.Ready.{Passes}
use Rattle.calling_steps.proofs.EnterLemmas.{changed_beside, changed_arrays, passed_beside, entered}
use Rattle.calling_steps.proofs.entering.begin.Goals as goal

pub pass-requires-clause-lawful : goal.pass-requires-clause-lawful
pass-requires-clause-lawful c = changed_beside c.args.machine.now c.bind_frame.new.machine _ c.in_ok-bind_frame.ensures.bound c.requires.lawful

pub pass-requires-clause-arrays : goal.pass-requires-clause-arrays
pass-requires-clause-arrays c = changed_arrays c.args.machine.now c.bind_frame.new.machine _ c.in_ok-bind_frame.ensures.bound c.requires.lawful c.requires.arrays

pub pass-requires-2-clause-lawful : goal.pass-requires-2-clause-lawful
pass-requires-2-clause-lawful c =
    passed_beside c.bind_frame.new.machine c.pass.new.machine _ _ c.in_ok-pass.ensures.passes (changed_beside c.args.machine.now c.bind_frame.new.machine _ c.in_ok-bind_frame.ensures.bound c.requires.lawful)

pub set_labels-requires : goal.set_labels-requires
set_labels-requires c =
    record {
      lawful =
          passed_beside c.pass.new.machine c.pass-2.new.machine _ _ c.in_ok-pass-2.ensures.passes
          (passed_beside c.bind_frame.new.machine c.pass.new.machine _ _ c.in_ok-pass.ensures.passes (changed_beside c.args.machine.now c.bind_frame.new.machine _ c.in_ok-bind_frame.ensures.bound c.requires.lawful));
    }

pub returns-clause-enters : goal.returns-clause-enters
returns-clause-enters c =
    IfOk-weaker c.set_labels.result _ _ (λ _ labels.
    entered c.args.machine.now c.bind_frame.new.machine c.pass.new.machine c.pass-2.new.machine c.set_labels.new.machine c.args.header.now (labels_in c.args.body.now) c.args.arguments
    c.requires.lawful c.requires.distinct c.in_ok-bind_frame.ensures.bound
    (subst (λ (b : Bool). Passes c.bind_frame.new.machine c.pass.new.machine b c.args.header.now.left) c.takes_left.ensures c.in_ok-pass.ensures.passes)
    (subst (λ (b : Bool). Passes c.pass.new.machine c.pass-2.new.machine b c.args.header.now.right) c.takes_right.ensures c.in_ok-pass-2.ensures.passes)
    labels) c.set_labels.ensures.labels

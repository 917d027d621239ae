use Rattle.std.proofs.Common.{◌≡◌, ◌+◌, ◌-◌, ◌∙◌, suc, subst, refl, arith, Ok, Err}
use Rattle.std.specs.Prelude.{Result}
use Rattle.array_store.specs.Follows.{none}
use Rattle.calling_steps.specs.declared.flows.Flow.{Flow}
use Rattle.machine_state.specs.StandsFor.{IsLawfulMachine}
use Rattle.d_machine.specs.declared.breaks.Break.{Break}
use Rattle.d_machine.specs.declared.breaks.Break.TheVariants as break
use Rattle.d_machine.specs.Answers.{Scene}
use Rattle.d_machine.specs.Running.{scene, AreSameTurns, RunsCode, UnlessCutOff}
use Rattle.d_machine.proofs.CodeLemmas.{Came, code_came, unless_so}
use Rattle.d_machine.proofs.PerformLemmas.{unless_always}
use Rattle.d_machine.proofs.TurnLemmas.{came_longer, depth_entered, lawful_entered, pending_entered, takes_done, takes_end_stop, takes_error, takes_error_stop, takes_stop, turn_spent, turns_begun, turns_entered}
use Rattle.d_machine.proofs.+run.Goals as goal

-- ---- with no turn left

pub turn-returns-then-machine-eq0-clause-takes : goal.turns::turn-returns-then-machine-eq0-clause-takes
turn-returns-then-machine-eq0-clause-takes g t c =
    let old : Scene = scene c.args.machine.now (g.O.Sink.written c.args.out.now) (g.O.Sink.faults c.args.out.now) (g.T.Sink.written c.args.trace.now) (g.T.Sink.faults c.args.trace.now) in
    turn_spent c.args.program.now c.args.line c.args.code.now.instructions old c.if-machine-eq0.true

pub turn-returns-then-machine-eq0-clause-lawful : goal.turns::turn-returns-then-machine-eq0-clause-lawful
turn-returns-then-machine-eq0-clause-lawful g t c = c.requires.lawful

pub turn-returns-then-machine-eq0-clause-turns : goal.turns::turn-returns-then-machine-eq0-clause-turns
turn-returns-then-machine-eq0-clause-turns g t c = refl

-- ---- it begins

pub turn-overflow_sub-machine : goal.turns::turn-overflow_sub-machine
turn-overflow_sub-machine g t c = omega (arith, c.if-machine-eq0.false)

pub turn-overflow_add-machine : goal.turns::turn-overflow_add-machine
turn-overflow_add-machine g t c = record { fits = omega (arith, c.if-machine-eq0.false, c.requires.turns) }

pub turn-end-requires : goal.turns::turn-end-requires
turn-end-requires g t c = record {
  entries = λ w.
      let left = c.args.machine.now.turns_left - 1 in
      let number = c.args.machine.now.begun + 1 in
      let old : Scene = scene c.args.machine.now (g.O.Sink.written c.args.out.now) (g.O.Sink.faults c.args.out.now) (g.T.Sink.written c.args.trace.now) (g.T.Sink.faults c.args.trace.now) in
      let begun : Scene = record old { machine = record c.args.machine.now { turns_left = left; begun = number } } in
      let mid : Scene = scene c.run_code.new.machine (g.O.Sink.written c.run_code.new.out) (g.O.Sink.faults c.run_code.new.out) (g.T.Sink.written c.run_code.new.trace) (g.T.Sink.faults c.run_code.new.trace) in
      omega (arith, c.len.ensures, came_longer begun mid (code_came c.args.program.now c.args.code.now.instructions begun mid (Ok c.in-Ok.to) c.in-Ok.ensures.runs) w);
}

pub turn-end-requires-in-Err-Error : goal.turns::turn-end-requires-in-Err-Error
turn-end-requires-in-Err-Error g t c = record {
  entries = λ w.
      let left = c.args.machine.now.turns_left - 1 in
      let number = c.args.machine.now.begun + 1 in
      let old : Scene = scene c.args.machine.now (g.O.Sink.written c.args.out.now) (g.O.Sink.faults c.args.out.now) (g.T.Sink.written c.args.trace.now) (g.T.Sink.faults c.args.trace.now) in
      let begun : Scene = record old { machine = record c.args.machine.now { turns_left = left; begun = number } } in
      let mid : Scene = scene c.run_code.new.machine (g.O.Sink.written c.run_code.new.out) (g.O.Sink.faults c.run_code.new.out) (g.T.Sink.written c.run_code.new.trace) (g.T.Sink.faults c.run_code.new.trace) in
      omega (arith, c.len.ensures, came_longer begun mid (code_came c.args.program.now c.args.code.now.instructions begun mid (Err (break.Error c.in-Err-Error.kind c.in-Err-Error.place)) (subst (λ (b : Break). RunsCode c.args.program.now c.args.code.now.instructions begun mid (Err b)) c.in-Err-Error.field-0-is c.in-Err-Error.ensures.runs)) w);
}

-- ---- it ends well

pub turn-returns-in-Ok-end-clause-takes : goal.turns::turn-returns-in-Ok-end-clause-takes
turn-returns-in-Ok-end-clause-takes g t c =
    let old : Scene = scene c.args.machine.now (g.O.Sink.written c.args.out.now) (g.O.Sink.faults c.args.out.now) (g.T.Sink.written c.args.trace.now) (g.T.Sink.faults c.args.trace.now) in
    let mid : Scene = scene c.run_code.new.machine (g.O.Sink.written c.run_code.new.out) (g.O.Sink.faults c.run_code.new.out) (g.T.Sink.written c.run_code.new.trace) (g.T.Sink.faults c.run_code.new.trace) in
    let new : Scene = scene c.end.new.machine (g.O.Sink.written c.run_code.new.out) (g.O.Sink.faults c.run_code.new.out) (g.T.Sink.written c.end.new.trace) (g.T.Sink.faults c.end.new.trace) in
    let left = c.args.machine.now.turns_left - 1 in
    let number = c.args.machine.now.begun + 1 in
    let one : c.args.machine.now.turns_left ≡ suc left = omega (arith, c.if-machine-eq0.false) in
    let numbered : number ≡ suc c.args.machine.now.begun = omega arith in
    let begun : Scene = record old { machine = record c.args.machine.now { turns_left = left; begun = number } } in
    takes_done c.args.program.now c.args.line c.args.code.now.instructions old mid new left number one numbered (c.end.ensures.stays (g.O.Sink.written c.run_code.new.out) (g.O.Sink.faults c.run_code.new.out)) c.in-Ok.to c.in-Ok.ensures.runs
    (c.in-Ok-end.ensures.ended (g.O.Sink.written c.run_code.new.out) (g.O.Sink.faults c.run_code.new.out)) (λ w. c.in-Ok-end.ensures.operations w (g.O.Sink.written c.run_code.new.out) (g.O.Sink.faults c.run_code.new.out) old c.operations.ensures (omega (arith, c.len.ensures, c.args.machine.now.costs.ok)))

pub turn-returns-in-Ok-end-clause-below : goal.turns::turn-returns-in-Ok-end-clause-below
turn-returns-in-Ok-end-clause-below g t c = pending_entered c.run_code.new.machine c.end.new.machine c.end.ensures.machine ∙ c.in-Ok.ensures.below

pub turn-returns-in-Ok-end-clause-lawful : goal.turns::turn-returns-in-Ok-end-clause-lawful
turn-returns-in-Ok-end-clause-lawful g t c = lawful_entered c.run_code.new.machine c.end.new.machine c.end.ensures.machine c.in-Ok.ensures.lawful

pub turn-returns-in-Ok-end-clause-turns : goal.turns::turn-returns-in-Ok-end-clause-turns
turn-returns-in-Ok-end-clause-turns g t c =
    let old : Scene = scene c.args.machine.now (g.O.Sink.written c.args.out.now) (g.O.Sink.faults c.args.out.now) (g.T.Sink.written c.args.trace.now) (g.T.Sink.faults c.args.trace.now) in
    let mid : Scene = scene c.run_code.new.machine (g.O.Sink.written c.run_code.new.out) (g.O.Sink.faults c.run_code.new.out) (g.T.Sink.written c.run_code.new.trace) (g.T.Sink.faults c.run_code.new.trace) in
    let left = c.args.machine.now.turns_left - 1 in
    let number = c.args.machine.now.begun + 1 in
    let one : c.args.machine.now.turns_left ≡ suc left = omega (arith, c.if-machine-eq0.false) in
    let numbered : number ≡ suc c.args.machine.now.begun = omega arith in
    let begun : Scene = record old { machine = record c.args.machine.now { turns_left = left; begun = number } } in
    turns_entered c.args.machine.now c.run_code.new.machine c.end.new.machine left number one numbered
    (code_came c.args.program.now c.args.code.now.instructions begun mid (Ok c.in-Ok.to) c.in-Ok.ensures.runs).turns c.end.ensures.machine

pub turn-returns-in-Ok-end-clause-depth : goal.turns::turn-returns-in-Ok-end-clause-depth
turn-returns-in-Ok-end-clause-depth g t c = depth_entered c.args.machine.now c.run_code.new.machine c.end.new.machine c.end.ensures.machine c.in-Ok.ensures.depth

-- ---- its good end is not entered

pub turn-returns-in-Err-clause-takes : goal.turns::turn-returns-in-Err-clause-takes
turn-returns-in-Err-clause-takes g t c =
    let old : Scene = scene c.args.machine.now (g.O.Sink.written c.args.out.now) (g.O.Sink.faults c.args.out.now) (g.T.Sink.written c.args.trace.now) (g.T.Sink.faults c.args.trace.now) in
    let mid : Scene = scene c.run_code.new.machine (g.O.Sink.written c.run_code.new.out) (g.O.Sink.faults c.run_code.new.out) (g.T.Sink.written c.run_code.new.trace) (g.T.Sink.faults c.run_code.new.trace) in
    let new : Scene = scene c.end.new.machine (g.O.Sink.written c.run_code.new.out) (g.O.Sink.faults c.run_code.new.out) (g.T.Sink.written c.end.new.trace) (g.T.Sink.faults c.end.new.trace) in
    let left = c.args.machine.now.turns_left - 1 in
    let number = c.args.machine.now.begun + 1 in
    let one : c.args.machine.now.turns_left ≡ suc left = omega (arith, c.if-machine-eq0.false) in
    let numbered : number ≡ suc c.args.machine.now.begun = omega arith in
    let begun : Scene = record old { machine = record c.args.machine.now { turns_left = left; begun = number } } in
    takes_end_stop c.args.program.now c.args.line c.args.code.now.instructions old mid new left number one numbered (c.end.ensures.stays (g.O.Sink.written c.run_code.new.out) (g.O.Sink.faults c.run_code.new.out)) c.in-Ok.to c.in-Err.stop c.in-Ok.ensures.runs
    (c.in-Err.ensures.cut (g.O.Sink.written c.run_code.new.out) (g.O.Sink.faults c.run_code.new.out))

pub turn-returns-in-Err-clause-lawful : goal.turns::turn-returns-in-Err-clause-lawful
turn-returns-in-Err-clause-lawful g t c = unless_always {A = Flow} (Err (break.Stop c.in-Err.stop)) _ (lawful_entered c.run_code.new.machine c.end.new.machine c.end.ensures.machine c.in-Ok.ensures.lawful)

pub turn-returns-in-Err-clause-turns : goal.turns::turn-returns-in-Err-clause-turns
turn-returns-in-Err-clause-turns g t c =
    let old : Scene = scene c.args.machine.now (g.O.Sink.written c.args.out.now) (g.O.Sink.faults c.args.out.now) (g.T.Sink.written c.args.trace.now) (g.T.Sink.faults c.args.trace.now) in
    let mid : Scene = scene c.run_code.new.machine (g.O.Sink.written c.run_code.new.out) (g.O.Sink.faults c.run_code.new.out) (g.T.Sink.written c.run_code.new.trace) (g.T.Sink.faults c.run_code.new.trace) in
    let left = c.args.machine.now.turns_left - 1 in
    let number = c.args.machine.now.begun + 1 in
    let one : c.args.machine.now.turns_left ≡ suc left = omega (arith, c.if-machine-eq0.false) in
    let numbered : number ≡ suc c.args.machine.now.begun = omega arith in
    let begun : Scene = record old { machine = record c.args.machine.now { turns_left = left; begun = number } } in
    unless_always {A = Flow} (Err (break.Stop c.in-Err.stop)) _ (turns_entered c.args.machine.now c.run_code.new.machine c.end.new.machine left number one numbered
    (code_came c.args.program.now c.args.code.now.instructions begun mid (Ok c.in-Ok.to) c.in-Ok.ensures.runs).turns c.end.ensures.machine)

-- ---- it ends by an error

pub turn-returns-in-Ok-end-2-clause-takes : goal.turns::turn-returns-in-Ok-end-2-clause-takes
turn-returns-in-Ok-end-2-clause-takes g t c =
    let old : Scene = scene c.args.machine.now (g.O.Sink.written c.args.out.now) (g.O.Sink.faults c.args.out.now) (g.T.Sink.written c.args.trace.now) (g.T.Sink.faults c.args.trace.now) in
    let mid : Scene = scene c.run_code.new.machine (g.O.Sink.written c.run_code.new.out) (g.O.Sink.faults c.run_code.new.out) (g.T.Sink.written c.run_code.new.trace) (g.T.Sink.faults c.run_code.new.trace) in
    let new : Scene = scene c.end-in-Err-Error.new.machine (g.O.Sink.written c.run_code.new.out) (g.O.Sink.faults c.run_code.new.out) (g.T.Sink.written c.end-in-Err-Error.new.trace) (g.T.Sink.faults c.end-in-Err-Error.new.trace) in
    let left = c.args.machine.now.turns_left - 1 in
    let number = c.args.machine.now.begun + 1 in
    let one : c.args.machine.now.turns_left ≡ suc left = omega (arith, c.if-machine-eq0.false) in
    let numbered : number ≡ suc c.args.machine.now.begun = omega arith in
    let begun : Scene = record old { machine = record c.args.machine.now { turns_left = left; begun = number } } in
    takes_error c.args.program.now c.args.line c.args.code.now.instructions old mid new left number one numbered (c.end-in-Err-Error.ensures.stays (g.O.Sink.written c.run_code.new.out) (g.O.Sink.faults c.run_code.new.out)) c.in-Err-Error.kind c.in-Err-Error.place (subst (λ (b : Break). RunsCode c.args.program.now c.args.code.now.instructions begun mid (Err b)) c.in-Err-Error.field-0-is c.in-Err-Error.ensures.runs)
    (c.in-Ok-end-2.ensures.ended (g.O.Sink.written c.run_code.new.out) (g.O.Sink.faults c.run_code.new.out)) (λ w. c.in-Ok-end-2.ensures.operations w (g.O.Sink.written c.run_code.new.out) (g.O.Sink.faults c.run_code.new.out) old c.operations.ensures (omega (arith, c.len.ensures, c.args.machine.now.costs.ok)))

pub turn-returns-in-Ok-end-2-clause-lawful : goal.turns::turn-returns-in-Ok-end-2-clause-lawful
turn-returns-in-Ok-end-2-clause-lawful g t c = lawful_entered c.run_code.new.machine c.end-in-Err-Error.new.machine c.end-in-Err-Error.ensures.machine (subst (λ (b : Break). UnlessCutOff {A = Flow} (Err b) (IsLawfulMachine c.run_code.new.machine none)) c.in-Err-Error.field-0-is c.in-Err-Error.ensures.lawful)

pub turn-returns-in-Ok-end-2-clause-turns : goal.turns::turn-returns-in-Ok-end-2-clause-turns
turn-returns-in-Ok-end-2-clause-turns g t c =
    let old : Scene = scene c.args.machine.now (g.O.Sink.written c.args.out.now) (g.O.Sink.faults c.args.out.now) (g.T.Sink.written c.args.trace.now) (g.T.Sink.faults c.args.trace.now) in
    let mid : Scene = scene c.run_code.new.machine (g.O.Sink.written c.run_code.new.out) (g.O.Sink.faults c.run_code.new.out) (g.T.Sink.written c.run_code.new.trace) (g.T.Sink.faults c.run_code.new.trace) in
    let left = c.args.machine.now.turns_left - 1 in
    let number = c.args.machine.now.begun + 1 in
    let one : c.args.machine.now.turns_left ≡ suc left = omega (arith, c.if-machine-eq0.false) in
    let numbered : number ≡ suc c.args.machine.now.begun = omega arith in
    let begun : Scene = record old { machine = record c.args.machine.now { turns_left = left; begun = number } } in
    turns_entered c.args.machine.now c.run_code.new.machine c.end-in-Err-Error.new.machine left number one numbered
    (code_came c.args.program.now c.args.code.now.instructions begun mid (Err (break.Error c.in-Err-Error.kind c.in-Err-Error.place)) (subst (λ (b : Break). RunsCode c.args.program.now c.args.code.now.instructions begun mid (Err b)) c.in-Err-Error.field-0-is c.in-Err-Error.ensures.runs)).turns c.end-in-Err-Error.ensures.machine

-- ---- its end by an error is not entered

pub turn-returns-in-Err-end-clause-takes : goal.turns::turn-returns-in-Err-end-clause-takes
turn-returns-in-Err-end-clause-takes g t c =
    let old : Scene = scene c.args.machine.now (g.O.Sink.written c.args.out.now) (g.O.Sink.faults c.args.out.now) (g.T.Sink.written c.args.trace.now) (g.T.Sink.faults c.args.trace.now) in
    let mid : Scene = scene c.run_code.new.machine (g.O.Sink.written c.run_code.new.out) (g.O.Sink.faults c.run_code.new.out) (g.T.Sink.written c.run_code.new.trace) (g.T.Sink.faults c.run_code.new.trace) in
    let new : Scene = scene c.end-in-Err-Error.new.machine (g.O.Sink.written c.run_code.new.out) (g.O.Sink.faults c.run_code.new.out) (g.T.Sink.written c.end-in-Err-Error.new.trace) (g.T.Sink.faults c.end-in-Err-Error.new.trace) in
    let left = c.args.machine.now.turns_left - 1 in
    let number = c.args.machine.now.begun + 1 in
    let one : c.args.machine.now.turns_left ≡ suc left = omega (arith, c.if-machine-eq0.false) in
    let numbered : number ≡ suc c.args.machine.now.begun = omega arith in
    let begun : Scene = record old { machine = record c.args.machine.now { turns_left = left; begun = number } } in
    takes_error_stop c.args.program.now c.args.line c.args.code.now.instructions old mid new left number one numbered (c.end-in-Err-Error.ensures.stays (g.O.Sink.written c.run_code.new.out) (g.O.Sink.faults c.run_code.new.out)) c.in-Err-Error.kind c.in-Err-Error.place c.in-Err-end.stop (subst (λ (b : Break). RunsCode c.args.program.now c.args.code.now.instructions begun mid (Err b)) c.in-Err-Error.field-0-is c.in-Err-Error.ensures.runs)
    (c.in-Err-end.ensures.cut (g.O.Sink.written c.run_code.new.out) (g.O.Sink.faults c.run_code.new.out))

pub turn-returns-in-Err-end-clause-lawful : goal.turns::turn-returns-in-Err-end-clause-lawful
turn-returns-in-Err-end-clause-lawful g t c = unless_always {A = Flow} (Err (break.Stop c.in-Err-end.stop)) _ (lawful_entered c.run_code.new.machine c.end-in-Err-Error.new.machine c.end-in-Err-Error.ensures.machine (subst (λ (b : Break). UnlessCutOff {A = Flow} (Err b) (IsLawfulMachine c.run_code.new.machine none)) c.in-Err-Error.field-0-is c.in-Err-Error.ensures.lawful))

pub turn-returns-in-Err-end-clause-turns : goal.turns::turn-returns-in-Err-end-clause-turns
turn-returns-in-Err-end-clause-turns g t c =
    let old : Scene = scene c.args.machine.now (g.O.Sink.written c.args.out.now) (g.O.Sink.faults c.args.out.now) (g.T.Sink.written c.args.trace.now) (g.T.Sink.faults c.args.trace.now) in
    let mid : Scene = scene c.run_code.new.machine (g.O.Sink.written c.run_code.new.out) (g.O.Sink.faults c.run_code.new.out) (g.T.Sink.written c.run_code.new.trace) (g.T.Sink.faults c.run_code.new.trace) in
    let left = c.args.machine.now.turns_left - 1 in
    let number = c.args.machine.now.begun + 1 in
    let one : c.args.machine.now.turns_left ≡ suc left = omega (arith, c.if-machine-eq0.false) in
    let numbered : number ≡ suc c.args.machine.now.begun = omega arith in
    let begun : Scene = record old { machine = record c.args.machine.now { turns_left = left; begun = number } } in
    unless_always {A = Flow} (Err (break.Stop c.in-Err-end.stop)) _ (turns_entered c.args.machine.now c.run_code.new.machine c.end-in-Err-Error.new.machine left number one numbered
    (code_came c.args.program.now c.args.code.now.instructions begun mid (Err (break.Error c.in-Err-Error.kind c.in-Err-Error.place)) (subst (λ (b : Break). RunsCode c.args.program.now c.args.code.now.instructions begun mid (Err b)) c.in-Err-Error.field-0-is c.in-Err-Error.ensures.runs)).turns c.end-in-Err-Error.ensures.machine)

-- ---- its code is cut off, or spent

pub turn-returns-in-Err-Stop-clause-takes : goal.turns::turn-returns-in-Err-Stop-clause-takes
turn-returns-in-Err-Stop-clause-takes g t c =
    let old : Scene = scene c.args.machine.now (g.O.Sink.written c.args.out.now) (g.O.Sink.faults c.args.out.now) (g.T.Sink.written c.args.trace.now) (g.T.Sink.faults c.args.trace.now) in
    let mid : Scene = scene c.run_code.new.machine (g.O.Sink.written c.run_code.new.out) (g.O.Sink.faults c.run_code.new.out) (g.T.Sink.written c.run_code.new.trace) (g.T.Sink.faults c.run_code.new.trace) in
    let left = c.args.machine.now.turns_left - 1 in
    let number = c.args.machine.now.begun + 1 in
    let one : c.args.machine.now.turns_left ≡ suc left = omega (arith, c.if-machine-eq0.false) in
    let numbered : number ≡ suc c.args.machine.now.begun = omega arith in
    let begun : Scene = record old { machine = record c.args.machine.now { turns_left = left; begun = number } } in
    takes_stop c.args.program.now c.args.line c.args.code.now.instructions old mid left number c.in-Err-Stop.stop one numbered (subst (λ (b : Break). RunsCode c.args.program.now c.args.code.now.instructions begun mid (Err b)) c.in-Err-Stop.field-0-is c.in-Err-Stop.ensures.runs)

pub turn-returns-in-Err-Stop-clause-lawful : goal.turns::turn-returns-in-Err-Stop-clause-lawful
turn-returns-in-Err-Stop-clause-lawful g t c = subst (λ (b : Break). UnlessCutOff {A = Flow} (Err b) (IsLawfulMachine c.run_code.new.machine none)) c.in-Err-Stop.field-0-is c.in-Err-Stop.ensures.lawful

pub turn-returns-in-Err-Stop-clause-turns : goal.turns::turn-returns-in-Err-Stop-clause-turns
turn-returns-in-Err-Stop-clause-turns g t c =
    let old : Scene = scene c.args.machine.now (g.O.Sink.written c.args.out.now) (g.O.Sink.faults c.args.out.now) (g.T.Sink.written c.args.trace.now) (g.T.Sink.faults c.args.trace.now) in
    let mid : Scene = scene c.run_code.new.machine (g.O.Sink.written c.run_code.new.out) (g.O.Sink.faults c.run_code.new.out) (g.T.Sink.written c.run_code.new.trace) (g.T.Sink.faults c.run_code.new.trace) in
    let left = c.args.machine.now.turns_left - 1 in
    let number = c.args.machine.now.begun + 1 in
    let one : c.args.machine.now.turns_left ≡ suc left = omega (arith, c.if-machine-eq0.false) in
    let numbered : number ≡ suc c.args.machine.now.begun = omega arith in
    let begun : Scene = record old { machine = record c.args.machine.now { turns_left = left; begun = number } } in
    let stopped : Result Flow Break = Err (break.Stop c.in-Err-Stop.stop) in
    unless_so stopped (Came begun mid) (AreSameTurns c.args.machine.now c.run_code.new.machine) (λ came. turns_begun c.args.machine.now c.run_code.new.machine left number one numbered came.turns)
    (code_came c.args.program.now c.args.code.now.instructions begun mid stopped (subst (λ (b : Break). RunsCode c.args.program.now c.args.code.now.instructions begun mid (Err b)) c.in-Err-Stop.field-0-is c.in-Err-Stop.ensures.runs))

use Rattle.std.proofs.Common.{◌∙◌, ap, subst, drop, take, length, ◌-◌, List}
use Rattle.std.proofs.lemmas.List.{take_rest}
use Rattle.std.specs.Prelude.{IsTrue}
use Rattle.apl_print.specs.declared.costs.Cost.{Cost}
use Rattle.apl_print.specs.declared.faults.PrintFault.TheVariants.{OutFault}
use Rattle.machine_state.specs.declared.machines.Machine.{Machine}
use Rattle.d_machine.specs.Answers.{Scene, operations}
use Rattle.d_machine.specs.Running.{scene}
use Rattle.d_machine.proofs.OutputLemmas.{rose_since}
use Rattle.d_machine.proofs.PerformLemmas.{err_of}
use Rattle.d_machine.proofs.TurnLemmas.{at_ended, stops_ended, tells_ended}
use Rattle.d_machine.proofs.turns.end.Goals as goal

pub returns-in-Ok-clause-ended : goal.returns-in-Ok-clause-ended
returns-in-Ok-clause-ended g c out faults start s is =
    let old : Scene = scene c.args.machine.now out faults (g.T.Sink.written c.args.trace.now) (g.T.Sink.faults c.args.trace.now) in
    let cost : Cost = record { line = c.args.begin.line; begun = c.args.begin.number; ops = c.in-Some.ops } in
    let wanted : IsTrue c.args.machine.now.traced = c.if-not-machine.false in
    at_ended start old c.end_statement.new.machine (g.T.Sink.written c.end_statement.new.trace) (g.T.Sink.faults c.end_statement.new.trace) cost s
    c.end_statement.ensures.rest c.end_statement.ensures.never_falls wanted (c.in-Ok.ensures.told wanted) is

pub returns-in-Ok-clause-operations : goal.returns-in-Ok-clause-operations
returns-in-Ok-clause-operations g c w out faults =
    let new : Scene = scene c.end_statement.new.machine out faults (g.T.Sink.written c.end_statement.new.trace) (g.T.Sink.faults c.end_statement.new.trace) in
    let cost : Cost = record { line = c.args.begin.line; begun = c.args.begin.number; ops = c.in-Some.ops } in
    let all : List Cost = c.as_slice.result.now in
    tells_ended c.args.begin c.args.machine.now new (take (length all - c.args.begin.entries) (drop c.args.begin.entries all)) c.operations.result cost (c.requires.entries w)
    (take_rest all c.args.begin.entries ∙ ap (λ (cs : List Cost). drop c.args.begin.entries cs) c.as_slice.ensures.value) c.operations.ensures c.in-Some.ensures (c.in-Ok.ensures.told w).entered
    (ap (λ (m : Machine). operations m) c.end_statement.ensures.rest)

pub returns-in-Err-OutFault-clause-cut : goal.returns-in-Err-OutFault-clause-cut
returns-in-Err-OutFault-clause-cut g c out faults start s is =
    let old : Scene = scene c.args.machine.now out faults (g.T.Sink.written c.args.trace.now) (g.T.Sink.faults c.args.trace.now) in
    let cost : Cost = record { line = c.args.begin.line; begun = c.args.begin.number; ops = c.in-Some.ops } in
    let wanted : IsTrue c.args.machine.now.traced = c.if-not-machine.false in (
      subst IsTrue is.since.traced wanted,
      rose_since start.trace_faults (g.T.Sink.faults c.args.trace.now) (g.T.Sink.faults c.end_statement.new.trace) is.since.trace_faults
          (c.end_statement.ensures.rose (err_of c.end_statement.result c.in-Err-OutFault.field-0 OutFault c.in-Err-OutFault.is c.in-Err-OutFault.field-0-is)),
      stops_ended start old c.end_statement.new.machine (g.T.Sink.written c.end_statement.new.trace) (g.T.Sink.faults c.end_statement.new.trace) cost s c.in-Err-OutFault.ensures.not_told is,
    )

pub returns-in-Err-NoMemory-clause-cut : goal.returns-in-Err-NoMemory-clause-cut
returns-in-Err-NoMemory-clause-cut g c out faults start s is =
    let old : Scene = scene c.args.machine.now out faults (g.T.Sink.written c.args.trace.now) (g.T.Sink.faults c.args.trace.now) in
    let cost : Cost = record { line = c.args.begin.line; begun = c.args.begin.number; ops = c.in-Some.ops } in
    stops_ended start old c.end_statement.new.machine (g.T.Sink.written c.end_statement.new.trace) (g.T.Sink.faults c.end_statement.new.trace) cost s c.in-Err-NoMemory.ensures.not_told is

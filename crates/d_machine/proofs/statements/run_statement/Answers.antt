use Rattle.std.proofs.Common.{ℕ, ◌∙◌, subst, sym, ap, Ok, Err}
use Rattle.std.specs.Option.{option_copied}
use Rattle.array_store.specs.Follows.{none}
use Rattle.apl_compile.specs.declared.codes.Code.{Code}
use Rattle.calling_steps.specs.declared.flows.Flow.{Flow}
use Rattle.machine_state.specs.StandsFor.{IsLawfulMachine}
use Rattle.d_machine.specs.declared.breaks.Break.{Break}
use Rattle.d_machine.specs.declared.breaks.Break.TheVariants as break
use Rattle.d_machine.specs.Answers.{Scene}
use Rattle.d_machine.specs.Running.{scene, last_line, AreSameTurns, TakesTurn, UnlessCutOff}
use Rattle.d_machine.proofs.StatementLemmas.{arrays_at_rest, code_there, lawful_stop, runs_done, runs_error, runs_stopped, sound_code, still_at_rest}
use Rattle.d_machine.proofs.SoundLemmas.{sound_program}
use Rattle.d_machine.proofs.statements.run_statement.Goals as goal

pub unreachable-requires : goal.unreachable-requires
unreachable-requires g c =
    code_there c.args.program.now c.args.at c.requires.statement (sym c.code.ensures ∙ ap option_copied c.in_default.is)

pub unreachable-unreachable : goal.unreachable-unreachable
unreachable-unreachable g c = c.unreachable.result

pub turn-requires-clause-code : goal.turn-requires-clause-code
turn-requires-clause-code g c = sound_code c.args.program.now c.args.at c.in-Some.code.now c.requires.statement c.in-Some.ensures

pub turn-requires-clause-below : goal.turn-requires-clause-below
turn-requires-clause-below g c = arrays_at_rest c.args.machine.now c.requires.rest

pub turn-requires-clause-turns : goal.turn-requires-clause-turns
turn-requires-clause-turns g c = c.requires.rest.turns

pub turn-requires-clause-lawful : goal.turn-requires-clause-lawful
turn-requires-clause-lawful g c = c.requires.rest.lawful

pub returns-in-Ok : goal.returns-in-Ok
returns-in-Ok g c =
    let old : Scene = scene c.args.machine.now (g.O.Sink.written c.args.out.now) (g.O.Sink.faults c.args.out.now) (g.T.Sink.written c.args.trace.now) (g.T.Sink.faults c.args.trace.now) in
    let mid : Scene = scene c.turn.new.machine (g.O.Sink.written c.turn.new.out) (g.O.Sink.faults c.turn.new.out) (g.T.Sink.written c.turn.new.trace) (g.T.Sink.faults c.turn.new.trace) in
    let code : Code = c.in-Some.code.now in
    let takes : TakesTurn c.args.program.now (last_line code.instructions) code.instructions old mid (Ok c.in-Ok.field-0) =
    subst (λ (n : ℕ). TakesTurn c.args.program.now n code.instructions old mid (Ok c.in-Ok.field-0)) c.line_of.ensures c.in-Ok.ensures.takes in
    runs_done c.args.program.now c.args.at code old mid c.in-Some.ensures c.requires.rest c.in-Ok.field-0 takes
    (still_at_rest c.args.machine.now c.turn.new.machine c.requires.rest c.in-Ok.ensures.lawful c.in-Ok.ensures.turns c.in-Ok.ensures.below c.in-Ok.ensures.depth)

pub end_all-requires : goal.end_all-requires
end_all-requires g c = record { lawful = (none, subst (λ (b : Break). UnlessCutOff {A = Flow} (Err b) (IsLawfulMachine c.turn.new.machine none)) c.in-Err-Error.field-0-is c.in-Err-Error.ensures.lawful) }

pub returns-in-Err-Error : goal.returns-in-Err-Error
returns-in-Err-Error g c =
    let old : Scene = scene c.args.machine.now (g.O.Sink.written c.args.out.now) (g.O.Sink.faults c.args.out.now) (g.T.Sink.written c.args.trace.now) (g.T.Sink.faults c.args.trace.now) in
    let mid : Scene = scene c.turn.new.machine (g.O.Sink.written c.turn.new.out) (g.O.Sink.faults c.turn.new.out) (g.T.Sink.written c.turn.new.trace) (g.T.Sink.faults c.turn.new.trace) in
    let code : Code = c.in-Some.code.now in
    let takes : TakesTurn c.args.program.now (last_line code.instructions) code.instructions old mid (Err (break.Error c.in-Err-Error.kind c.in-Err-Error.place)) =
    subst (λ (n : ℕ). TakesTurn c.args.program.now n code.instructions old mid (Err (break.Error c.in-Err-Error.kind c.in-Err-Error.place))) c.line_of.ensures
    (subst (λ (b : Break). TakesTurn c.args.program.now c.line_of.result code.instructions old mid (Err b)) c.in-Err-Error.field-0-is c.in-Err-Error.ensures.takes) in
    runs_error c.args.program.now c.args.at code old mid c.in-Some.ensures c.requires.rest c.end_all.new.machine
    (subst (λ (b : Break). UnlessCutOff {A = Flow} (Err b) (IsLawfulMachine c.turn.new.machine none)) c.in-Err-Error.field-0-is c.in-Err-Error.ensures.lawful)
    (subst (λ (b : Break). UnlessCutOff {A = Flow} (Err b) (AreSameTurns c.args.machine.now c.turn.new.machine)) c.in-Err-Error.field-0-is c.in-Err-Error.ensures.turns)
    c.end_all.ensures.ends c.end_all.ensures.run c.in-Err-Error.kind c.in-Err-Error.place takes

pub end_stopped-requires : goal.end_stopped-requires
end_stopped-requires g c = record { lawful = lawful_stop c.in-Err-Stop.stop c.turn.new.machine (subst (λ (b : Break). UnlessCutOff {A = Flow} (Err b) (IsLawfulMachine c.turn.new.machine none)) c.in-Err-Stop.field-0-is c.in-Err-Stop.ensures.lawful) }

pub returns-in-Err-Stop : goal.returns-in-Err-Stop
returns-in-Err-Stop g c =
    let old : Scene = scene c.args.machine.now (g.O.Sink.written c.args.out.now) (g.O.Sink.faults c.args.out.now) (g.T.Sink.written c.args.trace.now) (g.T.Sink.faults c.args.trace.now) in
    let mid : Scene = scene c.turn.new.machine (g.O.Sink.written c.turn.new.out) (g.O.Sink.faults c.turn.new.out) (g.T.Sink.written c.turn.new.trace) (g.T.Sink.faults c.turn.new.trace) in
    let code : Code = c.in-Some.code.now in
    let takes : TakesTurn c.args.program.now (last_line code.instructions) code.instructions old mid (Err (break.Stop c.in-Err-Stop.stop)) =
    subst (λ (n : ℕ). TakesTurn c.args.program.now n code.instructions old mid (Err (break.Stop c.in-Err-Stop.stop))) c.line_of.ensures
    (subst (λ (b : Break). TakesTurn c.args.program.now c.line_of.result code.instructions old mid (Err b)) c.in-Err-Stop.field-0-is c.in-Err-Stop.ensures.takes) in
    runs_stopped c.args.program.now c.args.at code old mid c.in-Some.ensures c.requires.rest c.end_stopped.new.machine c.in-Err-Stop.stop takes
    (subst (λ (b : Break). UnlessCutOff {A = Flow} (Err b) (IsLawfulMachine c.turn.new.machine none)) c.in-Err-Stop.field-0-is c.in-Err-Stop.ensures.lawful)
    (subst (λ (b : Break). UnlessCutOff {A = Flow} (Err b) (AreSameTurns c.args.machine.now c.turn.new.machine)) c.in-Err-Stop.field-0-is c.in-Err-Stop.ensures.turns)
    c.end_stopped.ensures

pub turn-requires-clause-program : goal.turn-requires-clause-program
turn-requires-clause-program g c = sound_program c.args.program.now c.args.at c.requires.statement

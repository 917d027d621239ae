use Rattle.std.proofs.Common.{ℕ, ◌≡◌, ◌+◌, ◌-◌, ◌*◌, length, drop}
use Rattle.array_store.specs.Follows.{none}
use Rattle.machine_state.specs.StandsFor.{IsLawfulMachine}
use Rattle.d_machine.specs.Running.{scene, AreSameTurns, Stays}
use Rattle.d_machine.proofs.Arrivals.{Arrives}
use Rattle.apl_compile.specs.Running.{lines_with}
use Rattle.machine_state.specs.Steps.{pending}
use Rattle.d_machine.proofs.LineLemmas.{LinesAt}
use Rattle.machine_state.specs.declared.machines.Machine.{Machine}
use Rattle.d_machine.proofs.+run.Given as goal

-- the calls that may still begin, five steps each: from the lines of a body to a turn, its code, an instruction and the next call
abbrev calls_left : Machine → ℕ
calls_left m = (257 - length m.names.frames) * 5

abbrev pub decreases-calling::call : goal.decreases-calling::call
decreases-calling::call g l = calls_left l.machine.now

abbrev pub decreases-performing::perform : goal.decreases-performing::perform
decreases-performing::perform g l = calls_left l.machine.now + 1

abbrev pub decreases-running::run_code : goal.decreases-running::run_code
decreases-running::run_code g l = calls_left l.machine.now + 2

abbrev pub decreases-turns::turn : goal.decreases-turns::turn
decreases-turns::turn g l = calls_left l.machine.now + 3

abbrev pub decreases-lines::run_lines : goal.decreases-lines::run_lines
decreases-lines::run_lines g l = calls_left l.machine.now + 4

-- the run has come to the instruction
abbrev pub invariant-running::run_code-loop-instruction : goal.invariant-running::run_code-loop-instruction
invariant-running::run_code-loop-instruction g l = record {
  arrives : Arrives l.program l.base l.code.instructions l.instruction-index l.to
      (scene l.fn.machine (g.O.Sink.written l.fn.out) (g.O.Sink.faults l.fn.out) (g.T.Sink.written l.fn.trace) (g.T.Sink.faults l.fn.trace))
      (scene l.machine (g.O.Sink.written l.out) (g.O.Sink.faults l.out) (g.T.Sink.written l.trace) (g.T.Sink.faults l.trace));
  items : l.instruction-items ≡ l.code.instructions;
  lawful : IsLawfulMachine l.machine none;
  turns : AreSameTurns l.fn.machine l.machine;
  stays : Stays
      (scene l.fn.machine (g.O.Sink.written l.fn.out) (g.O.Sink.faults l.fn.out) (g.T.Sink.written l.fn.trace) (g.T.Sink.faults l.fn.trace))
      (scene l.machine (g.O.Sink.written l.out) (g.O.Sink.faults l.out) (g.T.Sink.written l.trace) (g.T.Sink.faults l.trace));
}

-- the run has come to the line of this number
abbrev pub invariant-lines::run_lines-loop-at : goal.invariant-lines::run_lines-loop-at
invariant-lines::run_lines-loop-at g l = record {
  lines : LinesAt l.program (lines_with l.body (drop l.first l.program.codes)) l.next
      (scene l.fn.machine (g.O.Sink.written l.fn.out) (g.O.Sink.faults l.fn.out) (g.T.Sink.written l.fn.trace) (g.T.Sink.faults l.fn.trace))
      (scene l.machine (g.O.Sink.written l.out) (g.O.Sink.faults l.out) (g.T.Sink.written l.trace) (g.T.Sink.faults l.trace));
  stays : Stays
      (scene l.fn.machine (g.O.Sink.written l.fn.out) (g.O.Sink.faults l.fn.out) (g.T.Sink.written l.fn.trace) (g.T.Sink.faults l.fn.trace))
      (scene l.machine (g.O.Sink.written l.out) (g.O.Sink.faults l.out) (g.T.Sink.written l.trace) (g.T.Sink.faults l.trace));
  below : pending l.machine ≡ pending l.fn.machine;
  turns : AreSameTurns l.fn.machine l.machine;
  lawful : IsLawfulMachine l.machine none;
}

abbrev pub decreases-lines::run_lines-loop-at : goal.decreases-lines::run_lines-loop-at
decreases-lines::run_lines-loop-at g l = l.machine.turns_left

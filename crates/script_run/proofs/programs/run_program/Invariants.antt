use Rattle.d_machine.specs.Running.{scene}
use Rattle.script_run.proofs.LoopLemmas.{Counts, Went}
use Rattle.script_run.proofs.programs.run_program.Given as goal

abbrev pub invariant-loop-item : goal.invariant-loop-item
invariant-loop-item g l =
    Counts l.program l.code l.item-index
    × Went l.program (scene l.fn.machine (g.O.Sink.written l.fn.out) (g.O.Sink.faults l.fn.out) (g.T.Sink.written l.fn.trace) (g.T.Sink.faults l.fn.trace))
    (scene l.machine (g.O.Sink.written l.out) (g.O.Sink.faults l.out) (g.T.Sink.written l.trace) (g.T.Sink.faults l.trace)) l.end l.item-index

use Rattle.calling_steps.proofs.LeaveLemmas.{EntriesGo, FramesGo}
use Rattle.calling_steps.proofs.ends.end_all.Given as goal

abbrev pub invariant-loop : goal.invariant-loop
invariant-loop l = FramesGo l.fn.machine l.machine l.counter l.end

abbrev pub invariant-loop-2 : goal.invariant-loop-2
invariant-loop-2 l = EntriesGo l.fn.machine l.machine l.counter l.end

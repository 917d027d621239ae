use Rattle.std.proofs.Common.{◌≤◌, take, flat_map}
use Rattle.apl_outside.specs.Bytes.{Gains}
use Rattle.apl_run.specs.Traces.{line_of_global}
use Rattle.apl_run.proofs.descriptions.write_globals.Given as goal

abbrev pub invariant-loop-name : goal.invariant-loop-name
invariant-loop-name g l =
    Gains (g.T.Sink.written l.fn.tr) (g.T.Sink.written l.tr) (flat_map (line_of_global l.names.globals) (take l.name-index l.name-items))
    × (g.T.Sink.faults l.fn.tr ≤ g.T.Sink.faults l.tr)

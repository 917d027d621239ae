use Rattle.std.proofs.Common.{◌≡◌, ◌++◌, drop}
use Rattle.apl_model.proofs.Bridge.{positions_with}
use Rattle.apl_compile.specs.Code.{positions_code}
use Rattle.apl_compile.proofs.expressions.+emit.Given as goal

abbrev pub invariant-emit_positions-loop-at : goal.invariant-emit_positions-loop-at
invariant-emit_positions-loop-at l = l.code ≡ l.initial.code ++ positions_code (positions_with (drop l.at l.positions))

use Rattle.std.proofs.Common.{◌≡◌, take, encode_utf8_all}
use Rattle.command_steps.proofs.Joins.{joined}
use Rattle.command_steps.proofs.lines.names_line.Given as goal

abbrev pub invariant-loop-at : goal.invariant-loop-at
invariant-loop-at l = l.line.bytes.items ≡ encode_utf8_all (joined (take l.at l.fn.names))

use Rattle.std.proofs.Common.{◌≡◌, ◌++◌, length}
use Rattle.std.specs.Prelude.{map}
use Rattle.apl_model.specs.Lines.{cut, without_return, numbered}
use Rattle.apl_read.specs.Refusals.{lines_refusal}
use Rattle.apl_read.proofs.script_lines.read_lines.Given as goal

-- what is left decides the refusal, and adds its lines to those that were read
abbrev pub invariant-loop-rest : goal.invariant-loop-rest
invariant-loop-rest l = record {
  refusal : lines_refusal 1 (map without_return (cut l.characters)) ≡ lines_refusal l.number (map without_return (cut l.rest));
  lines : numbered 1 (map without_return (cut l.characters)) ≡ l.lines.items ++ numbered l.number (map without_return (cut l.rest));
}

abbrev pub decreases-loop-rest : goal.decreases-loop-rest
decreases-loop-rest l = length l.rest

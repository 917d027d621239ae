use Rattle.std.proofs.Common.{◌≡◌, drop}
use Rattle.apl_model.specs.Refusal.{place_after}
use Rattle.apl_read.proofs.script_lines.end_of.Given as goal

abbrev pub invariant-loop-c : goal.invariant-loop-c
invariant-loop-c l = place_after 1 1 l.characters ≡ place_after l.line l.column (drop l.c-index l.characters)

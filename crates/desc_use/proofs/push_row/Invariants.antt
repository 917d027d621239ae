use Rattle.std.proofs.Common.{◌≡◌, ◌++◌}
use Rattle.desc_use.proofs.WalkLemmas.{along}
use Rattle.desc_use.proofs.push_row.Given as goal

abbrev pub invariant-loop-j : goal.invariant-loop-j
invariant-loop-j l = l.numbers.items ≡ l.fn.numbers.items ++ along l.row.from l.row.step l.j

use Rattle.replacing_steps.specs.Writes.{value_by}
use Rattle.replacing_steps.proofs.WalkLemmas.{RowTo}
use Rattle.replacing_steps.proofs.walks.write_row.Given as goal

-- the places so far
abbrev pub invariant-loop-j : goal.invariant-loop-j
invariant-loop-j l = RowTo l.fn.store l.store l.owner (value_by l.values) l.first l.stride l.track l.at l.j

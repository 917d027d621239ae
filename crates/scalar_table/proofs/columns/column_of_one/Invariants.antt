use Rattle.std.proofs.Common.{[], ◌∷◌}
use Rattle.scalar_table.specs.Row.{scalar}
use Rattle.scalar_table.specs.Columns.{element_in}
use Rattle.scalar_table.proofs.Filling.{Filled}
use Rattle.scalar_table.proofs.columns.column_of_one.Given as goal

-- the places so far have their values
abbrev pub invariant-loop-k : goal.invariant-loop-k
invariant-loop-k g l = Filled (λ j. scalar g.R.ScalarRow.function (element_in l.kind l.fn.column j ∷ [])) l.fn.column l.column l.k

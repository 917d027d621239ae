use Rattle.std.proofs.Common.{[], ◌∷◌}
use Rattle.scalar_table.specs.Row.{scalar}
use Rattle.product_fns.proofs.FoldLemmas.{FoldedFrom}
use Rattle.product_fns.proofs.folds.fold_row.Given as goal

-- the cells behind were combined
abbrev pub invariant-loop-k : goal.invariant-loop-k
invariant-loop-k g l = FoldedFrom (λ a b. scalar g.R.ScalarRow.function (a ∷ b ∷ [])) l.kind l.cells l.fn.right l.k l.value

abbrev pub decreases-loop-k : goal.decreases-loop-k
decreases-loop-k g l = l.k

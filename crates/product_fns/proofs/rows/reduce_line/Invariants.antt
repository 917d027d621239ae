use Rattle.std.proofs.Common.{◌-◌}
use Rattle.array_store.specs.Stores.{IsStore}
use Rattle.array_store.specs.Counting.{Computed}
use Rattle.product_fns.specs.Folding.{rows_of}
use Rattle.product_fns.proofs.RowLemmas.{LineFrom}
use Rattle.product_fns.proofs.rows.reduce_line.Given as goal

-- the elements behind were reduced, with what that counts
abbrev pub invariant-loop-left : goal.invariant-loop-left
invariant-loop-left l = record {
  line : LineFrom (rows_of l.fn.store l.f l.leaf l.n 1) l.first l.left l.value;
  counted : Computed l.fn.store l.store (l.n - 1 - l.left) (l.n - l.left);
  store : IsStore l.store;
}

abbrev pub decreases-loop-left : goal.decreases-loop-left
decreases-loop-left l = l.left

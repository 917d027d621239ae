use Rattle.std.proofs.Common.{◌≡◌, ◌-◌, ◌*◌, length}
use Rattle.array_store.specs.Stores.{IsStore}
use Rattle.array_store.specs.Counting.{Computed}
use Rattle.product_fns.specs.Folding.{rows_of}
use Rattle.product_fns.proofs.RowLemmas.{RowsFrom}
use Rattle.product_fns.proofs.rows.reduce_rows.Given as goal

-- the rows behind were reduced, with what that counts
abbrev pub invariant-loop-left : goal.invariant-loop-left
invariant-loop-left l = record {
  rows : RowsFrom (rows_of l.fn.store l.f l.leaf l.n (length l.fn.results)) l.first l.left l.kind l.results;
  long : length l.row ≡ length l.results;
  counted : Computed l.fn.store l.store ((l.n - 1 - l.left) * length l.fn.results) ((l.n - l.left) * length l.fn.results);
  store : IsStore l.store;
}

abbrev pub decreases-loop-left : goal.decreases-loop-left
decreases-loop-left l = l.left

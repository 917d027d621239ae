use Rattle.std.proofs.Common.{◌≡◌, ◌-◌, ◌≤◌, replicate, vec_len, vec_capacity}
use Rattle.array_store.specs.Stores.{IsStore}
use Rattle.apl_print.specs.declared.blocks.TheConstants.{BLOCK}
use Rattle.apl_print.proofs.Passes.{Widened}
use Rattle.apl_print.proofs.widths.column_widths.Given as goal

-- so many elements were read, and the columns widened by them
abbrev pub invariant-loop-done : goal.invariant-loop-done
invariant-loop-done l = record {
  read : Widened l.fn.store l.store l.leaf l.grid (replicate l.grid.columns 0) l.widths.items l.done l.column;
  long : vec_len l.widths ≡ l.grid.columns;
  within : l.done ≤ l.size;
  room : BLOCK ≤ vec_capacity l.cells;
  store : IsStore l.store;
}

abbrev pub decreases-loop-done : goal.decreases-loop-done
decreases-loop-done l = l.size - l.done

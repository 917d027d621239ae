use Rattle.std.proofs.Common.{◌-◌, ◌≤◌, string_bytes, vec_capacity}
use Rattle.array_store.specs.Stores.{IsStore}
use Rattle.apl_print.specs.declared.blocks.TheConstants.{BLOCK}
use Rattle.apl_print.proofs.Passes.{Written}
use Rattle.apl_print.proofs.arrays.write_elements.Given as goal

-- so many elements were read and added, and the text is still to be sent
abbrev pub invariant-loop-done : goal.invariant-loop-done
invariant-loop-done g l = record {
  written : Written (g.O.Sink.written l.fn.out) (g.O.Sink.written l.out) l.fn.store l.store l.leaf l.grid l.widths l.done l.at (string_bytes l.text);
  never_falls : g.O.Sink.faults l.fn.out ≤ g.O.Sink.faults l.out;
  within : l.done ≤ l.size;
  room : BLOCK ≤ vec_capacity l.cells;
  store : IsStore l.store;
}

abbrev pub decreases-loop-done : goal.decreases-loop-done
decreases-loop-done g l = l.size - l.done

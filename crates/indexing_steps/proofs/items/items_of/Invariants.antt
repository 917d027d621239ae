use Rattle.std.proofs.Common.{◌≡◌}
use Rattle.array_store.specs.Counting.{OnlyCounted}
use Rattle.indexing_steps.specs.Operands.{arrays_of}
use Rattle.indexing_steps.proofs.ItemLemmas.{AreFirst}
use Rattle.indexing_steps.proofs.items.items_of.Given as goal

abbrev pub invariant-loop-axis : goal.invariant-loop-axis
invariant-loop-axis l = record {
  first : AreFirst l.fn.origin l.shape (arrays_of l.initial.store l.positions) l.axis l.items.items;
  room : l.items.capacity ≡ 8;
  counted : OnlyCounted l.initial.store l.store;
}

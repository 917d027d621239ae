use Rattle.std.proofs.Common.{◌≡◌, ℕ, ◌<◌, false, pos, get_or}
use Rattle.std.specs.Ordering.{int_eq}
use Rattle.array_store.specs.Stores.{IsStore}
use Rattle.array_store.specs.Counting.{OnlyFetched}
use Rattle.leaf_names.specs.Variables.{array_of}
use Rattle.value_fns.proofs.encodes.has_zero.Given as goal

abbrev pub invariant-loop-place : goal.invariant-loop-place
invariant-loop-place l = record {
  none : (k : ℕ) → k < l.place → int_eq (pos 0) (get_or (array_of l.fn.store l.fn.leaf).cells k (pos 0)) ≡ false;
  counted : OnlyFetched l.fn.store l.store l.place;
  store : IsStore l.store;
}

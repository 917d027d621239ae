use Rattle.std.proofs.Common.{◌≡◌, ℕ, ◌<◌, false, pos, int_lt, get_or}
use Rattle.array_store.specs.Stores.{IsStore}
use Rattle.array_store.specs.Counting.{OnlyFetched}
use Rattle.leaf_names.specs.Variables.{array_of}
use Rattle.value_fns.proofs.encodes.has_negative.Given as goal

abbrev pub invariant-loop-place : goal.invariant-loop-place
invariant-loop-place l = record {
  none : (k : ℕ) → k < l.place → int_lt (get_or (array_of l.fn.store l.fn.leaf).cells k (pos 0)) (pos 0) ≡ false;
  counted : OnlyFetched l.fn.store l.store l.place;
  store : IsStore l.store;
}

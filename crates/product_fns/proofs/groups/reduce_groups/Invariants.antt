use Rattle.std.proofs.Common.{◌≡◌, ◌-◌, ◌*◌, length, take}
use Rattle.array_store.specs.Stores.{IsStore}
use Rattle.array_store.specs.Counting.{Computed}
use Rattle.product_fns.specs.Folding.{rows_of, AreAllResults}
use Rattle.product_fns.proofs.groups.reduce_groups.Given as goal

-- the groups so far were reduced, with what that counts
abbrev pub invariant-loop-i : goal.invariant-loop-i
invariant-loop-i l = record {
  results : AreAllResults (rows_of l.fn.store l.f l.leaf l.n l.q) (take (l.i * l.q) l.results);
  long : length l.buffer ≡ length l.fn.buffer;
  counted : Computed l.fn.store l.store ((l.i * l.q) * (l.n - 1)) ((l.i * l.q) * l.n);
  store : IsStore l.store;
}

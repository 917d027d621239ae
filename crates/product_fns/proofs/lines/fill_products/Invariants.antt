use Rattle.std.proofs.Common.{◌≡◌, ◌+◌, ◌-◌, ◌*◌, length}
use Rattle.array_store.specs.Stores.{IsStore}
use Rattle.array_store.specs.Counting.{Computed}
use Rattle.product_fns.specs.Inner.{lines_of}
use Rattle.product_fns.proofs.LineLemmas.{AreFirst}
use Rattle.product_fns.proofs.lines.fill_products.Given as goal

-- the results so far, with what was applied for them
abbrev pub invariant-loop-p : goal.invariant-loop-p
invariant-loop-p l = record {
  results : AreFirst (lines_of l.f l.g l.left l.right (length l.fn.buffer) l.q) l.p l.results;
  long : length l.buffer ≡ length l.fn.buffer;
  counted : Computed l.fn.store l.store (l.p * (length l.fn.buffer + (length l.fn.buffer - 1))) 0;
  store : IsStore l.store;
}

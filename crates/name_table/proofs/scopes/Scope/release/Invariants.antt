use Rattle.std.proofs.Common.{◌≡◌, length}
use Rattle.array_store.specs.Stores.{IsStore}
use Rattle.name_table.proofs.ReleaseLemmas.{Going}
use Rattle.name_table.proofs.scopes.Scope.release.Given as goal

abbrev pub invariant-loop-bound : goal.invariant-loop-bound
invariant-loop-bound l = record {
  going : Going l.fn.store l.store l.initial.table.entries l.table.entries;
  counts : l.store.counts ≡ l.fn.store.counts;
  store : IsStore l.store;
}

abbrev pub decreases-loop-bound : goal.decreases-loop-bound
decreases-loop-bound l = length l.table.entries

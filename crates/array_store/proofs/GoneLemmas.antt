-- Where holders only go, no owner comes.
use Rattle.std.proofs.Common.{[], inl, arith}
use Rattle.array_store.specs.Stores.{StoreView}
use Rattle.array_store.specs.Came.{Renews}
use Rattle.array_store.specs.Follows.{LeafCounts, Follows, none}

pub renews_gone : (old new : StoreView) (gone : LeafCounts) → Follows old new gone none → Renews old new []
renews_gone old new gone follows = record {
  each = λ key live. inl (omega (arith, follows.holders key, live), follows.kept key (omega (arith, follows.holders key, live)));
}

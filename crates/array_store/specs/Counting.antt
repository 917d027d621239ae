-- What a call counted. A store that only counted has the same owners, live cells and limit.
use Rattle.std.specs.Prelude.{◌≡◌, ℕ, ◌+◌, ◌<◌, ◌≤◌}
use Rattle.array_store.specs.Stores.{StoreView, OwnerView, Makes, counted}

-- the same store but for what it counted
abbrev pub OnlyCounted : StoreView → StoreView → Type 0
OnlyCounted old new = new ≡ record old { counts = new.counts }

-- so many cells were fetched, and nothing else was done
abbrev pub after_fetches : StoreView → ℕ → StoreView
after_fetches s n = record s { counts = record s.counts { fetched = counted s.counts.fetched n } }

-- so many functions were applied, and nothing else was done
abbrev pub after_applications : StoreView → ℕ → StoreView
after_applications s n = record s { counts = record s.counts { applied = counted s.counts.applied n } }

-- a count that rose by at most so much, and did not fall
pub record RoseBy (old new most : ℕ) : Type 0 where
  pub low : old ≤ new
  pub high : new ≤ old + most

-- cells were fetched, at most so many, and nothing else was done
pub record OnlyFetched (old new : StoreView) (most : ℕ) : Type 0 where
  pub only : OnlyCounted old new
  pub fetched : RoseBy old.counts.fetched new.counts.fetched most
  pub applied : new.counts.applied ≡ old.counts.applied
  pub made : new.counts.made ≡ old.counts.made

-- functions were applied and cells fetched, at most so many of each, and nothing else was done
pub record OnlyComputed (old new : StoreView) (functions cells : ℕ) : Type 0 where
  pub only : OnlyCounted old new
  pub applied : RoseBy old.counts.applied new.counts.applied functions
  pub fetched : RoseBy old.counts.fetched new.counts.fetched cells
  pub made : new.counts.made ≡ old.counts.made

-- functions were applied, exactly so many, and nothing else was done but to fetch cells
pub record Computed (old new : StoreView) (functions cells : ℕ) : Type 0 where
  pub all : OnlyComputed old new functions cells
  pub exact : new.counts.applied ≡ counted old.counts.applied functions

-- functions were applied and cells fetched, exactly so many of each, and nothing else was done
pub record ComputedJust (old new : StoreView) (functions cells : ℕ) : Type 0 where
  pub only : OnlyCounted old new
  pub applied : new.counts.applied ≡ counted old.counts.applied functions
  pub fetched : new.counts.fetched ≡ counted old.counts.fetched cells
  pub made : new.counts.made ≡ old.counts.made

-- the three counts rose by at most so much, whatever else was done
pub record Costs (old new : StoreView) (fetched made applied : ℕ) : Type 0 where
  pub fetched_rose : RoseBy old.counts.fetched new.counts.fetched fetched
  pub made_rose : RoseBy old.counts.made new.counts.made made
  pub applied_rose : RoseBy old.counts.applied new.counts.applied applied

-- there is no room for so many cells more, as these two numbers say, and nothing was done
pub record IsFull (old new : StoreView) (size held wanted : ℕ) : Type 0 where
  pub live : held ≡ old.live
  pub asked : wanted ≡ size
  pub full : old.limit < old.live + size
  pub unchanged : new ≡ old

-- an owner was made, after something was counted
pub record MakesAfter (Counts : StoreView → Type 0) (new : StoreView) (key : ℕ) (o : OwnerView) : Type 0 where
  pub between : StoreView
  pub counts : Counts between
  pub makes : Makes between new key o

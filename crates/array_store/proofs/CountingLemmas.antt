-- Lemmas on what was counted, for this crate and its callers.
use Rattle.std.proofs.Common.{◌≡◌, ℕ, ◌+◌, ◌≤◌, length, refl, sym, ap, ◌∙◌, subst, arith}
use Rattle.array_store.specs.declared.ids.Counts.{Counts}
use Rattle.array_store.specs.Stores.{OwnerView, StoreView, AreCounts, Makes, counted}
use Rattle.array_store.specs.Follows.{Follows, none}
use Rattle.array_store.specs.Counting.{OnlyCounted, RoseBy, OnlyFetched, OnlyComputed, Computed, ComputedJust, Costs, after_fetches, after_applications}
use Rattle.array_store.proofs.FollowsLemmas.{follows_counts}

-- one count after another
pub OnlyCounted-then : (a b c : StoreView) → OnlyCounted a b → OnlyCounted b c → OnlyCounted a c
OnlyCounted-then a b c p q =
    q ∙ ap (λ (s : StoreView). let t : StoreView = record s { counts = c.counts } in t) p

-- a count of what was done moves no holder
pub follows-counted : (old new : StoreView) → OnlyCounted old new → Follows old new none none
follows-counted old new only =
    subst (λ (s : StoreView). Follows old s none none) (sym only) (follows_counts old new.counts)

RoseBy-then : (a b c m n : ℕ) → RoseBy a b m → RoseBy b c n → RoseBy a c (m + n)
RoseBy-then a b c m n p q = record { low = omega arith; high = omega arith }

RoseBy-more : (a b m n : ℕ) → m ≤ n → RoseBy a b m → RoseBy a b n
RoseBy-more a b m n few p = record { low = p.low; high = omega arith }

-- ---- cells fetched

pub OnlyFetched-none : (s : StoreView) (most : ℕ) → OnlyFetched s s most
OnlyFetched-none s most =
    record { only = refl; fetched = record { low = omega arith; high = omega arith }; applied = refl; made = refl }

pub OnlyFetched-then : (a b c : StoreView) (m n : ℕ) → OnlyFetched a b m → OnlyFetched b c n → OnlyFetched a c (m + n)
OnlyFetched-then a b c m n p q =
    record {
      only = OnlyCounted-then a b c p.only q.only;
      fetched = RoseBy-then _ _ _ m n p.fetched q.fetched;
      applied = q.applied ∙ p.applied;
      made = q.made ∙ p.made;
    }

pub OnlyFetched-more : (a b : StoreView) (m n : ℕ) → m ≤ n → OnlyFetched a b m → OnlyFetched a b n
OnlyFetched-more a b m n few p =
    record { only = p.only; fetched = RoseBy-more _ _ m n few p.fetched; applied = p.applied; made = p.made }

-- ---- functions applied too

pub OnlyComputed-none : (s : StoreView) (f m : ℕ) → OnlyComputed s s f m
OnlyComputed-none s f m =
    record {
      only = refl;
      applied = record { low = omega arith; high = omega arith };
      fetched = record { low = omega arith; high = omega arith };
      made = refl;
    }

pub OnlyComputed-then : (a b c : StoreView) (f g m n : ℕ) → OnlyComputed a b f m → OnlyComputed b c g n → OnlyComputed a c (f + g) (m + n)
OnlyComputed-then a b c f g m n p q =
    record {
      only = OnlyCounted-then a b c p.only q.only;
      applied = RoseBy-then _ _ _ f g p.applied q.applied;
      fetched = RoseBy-then _ _ _ m n p.fetched q.fetched;
      made = q.made ∙ p.made;
    }

pub OnlyComputed-more : (a b : StoreView) (f g m n : ℕ) → f ≤ g → m ≤ n → OnlyComputed a b f m → OnlyComputed a b g n
OnlyComputed-more a b f g m n fewer few p =
    record {
      only = p.only;
      applied = RoseBy-more _ _ f g fewer p.applied;
      fetched = RoseBy-more _ _ m n few p.fetched;
      made = p.made;
    }

pub OnlyComputed-fetched : (a b : StoreView) (n : ℕ) → OnlyFetched a b n → OnlyComputed a b 0 n
OnlyComputed-fetched a b n p =
    record { only = p.only; applied = record { low = omega (arith, p.applied); high = omega (arith, p.applied) }; fetched = p.fetched; made = p.made }

-- ---- exactly so many

pub ComputedJust-none : (s : StoreView) → AreCounts s.counts → ComputedJust s s 0 0
ComputedJust-none s small = record { only = refl; applied = omega arith; fetched = omega arith; made = refl }

pub ComputedJust-then : (a b c : StoreView) (f g m n : ℕ) → ComputedJust a b f m → ComputedJust b c g n → ComputedJust a c (f + g) (m + n)
ComputedJust-then a b c f g m n p q =
    record {
      only = OnlyCounted-then a b c p.only q.only;
      applied = omega (arith, p.applied, q.applied);
      fetched = omega (arith, p.fetched, q.fetched);
      made = q.made ∙ p.made;
    }

pub OnlyComputed-just : (a b : StoreView) (f m : ℕ) → AreCounts a.counts → ComputedJust a b f m → OnlyComputed a b f m
OnlyComputed-just a b f m small p =
    record {
      only = p.only;
      applied = record { low = omega arith; high = omega arith };
      fetched = record { low = omega arith; high = omega arith };
      made = p.made;
    }

pub Computed-just : (a b : StoreView) (f m : ℕ) → AreCounts a.counts → ComputedJust a b f m → Computed a b f m
Computed-just a b f m small p = record { all = OnlyComputed-just a b f m small p; exact = p.applied }

-- ---- the store after them

pub after_fetches-then : (s : StoreView) (m n : ℕ) → after_fetches (after_fetches s m) n ≡ after_fetches s (m + n)
after_fetches-then s m n =
    let both : counted (counted s.counts.fetched m) n ≡ counted s.counts.fetched (m + n) = omega arith in
    ap (λ (k : ℕ). let t : StoreView = record s { counts = record s.counts { fetched = k } } in t) both

pub after_applications-then : (s : StoreView) (m n : ℕ) → after_applications (after_applications s m) n ≡ after_applications s (m + n)
after_applications-then s m n =
    let both : counted (counted s.counts.applied m) n ≡ counted s.counts.applied (m + n) = omega arith in
    ap (λ (k : ℕ). let t : StoreView = record s { counts = record s.counts { applied = k } } in t) both

pub OnlyFetched-after : (s : StoreView) (n : ℕ) → AreCounts s.counts → OnlyFetched s (after_fetches s n) n
OnlyFetched-after s n small =
    record { only = refl; fetched = record { low = omega arith; high = omega arith }; applied = refl; made = refl }

pub ComputedJust-after_fetches : (s : StoreView) (n : ℕ) → AreCounts s.counts → ComputedJust s (after_fetches s n) 0 n
ComputedJust-after_fetches s n small = record { only = refl; applied = omega arith; fetched = refl; made = refl }

pub ComputedJust-after_applications : (s : StoreView) (n : ℕ) → AreCounts s.counts → ComputedJust s (after_applications s n) n 0
ComputedJust-after_applications s n small = record { only = refl; applied = refl; fetched = omega arith; made = refl }

-- ---- what it cost

rose_nothing : (n m : ℕ) → m ≡ n → RoseBy n m 0
rose_nothing n m e = record { low = omega (arith, e); high = omega (arith, e) }

pub costs_nothing : (a b : StoreView) → b.counts ≡ a.counts → Costs a b 0 0 0
costs_nothing a b same =
    record {
      fetched_rose = rose_nothing _ _ (ap (λ (c : Counts). c.fetched) same);
      made_rose = rose_nothing _ _ (ap (λ (c : Counts). c.made) same);
      applied_rose = rose_nothing _ _ (ap (λ (c : Counts). c.applied) same);
    }

pub costs_then : (a b c : StoreView) (f g m n p q : ℕ) → Costs a b f m p → Costs b c g n q → Costs a c (f + g) (m + n) (p + q)
costs_then a b c f g m n p q x y =
    record {
      fetched_rose = RoseBy-then _ _ _ f g x.fetched_rose y.fetched_rose;
      made_rose = RoseBy-then _ _ _ m n x.made_rose y.made_rose;
      applied_rose = RoseBy-then _ _ _ p q x.applied_rose y.applied_rose;
    }

pub costs_more : (a b : StoreView) (f g m n p q : ℕ) → f ≤ g → m ≤ n → p ≤ q → Costs a b f m p → Costs a b g n q
costs_more a b f g m n p q i j k x =
    record {
      fetched_rose = RoseBy-more _ _ f g i x.fetched_rose;
      made_rose = RoseBy-more _ _ m n j x.made_rose;
      applied_rose = RoseBy-more _ _ p q k x.applied_rose;
    }

pub costs_fetched : (a b : StoreView) (cells : ℕ) → OnlyFetched a b cells → Costs a b cells 0 0
costs_fetched a b cells x =
    record { fetched_rose = x.fetched; made_rose = rose_nothing _ _ x.made; applied_rose = rose_nothing _ _ x.applied }

pub costs_computed : (a b : StoreView) (functions cells : ℕ) → OnlyComputed a b functions cells → Costs a b cells 0 functions
costs_computed a b functions cells x =
    record { fetched_rose = x.fetched; made_rose = rose_nothing _ _ x.made; applied_rose = x.applied }

pub costs_made : (a b : StoreView) (key : ℕ) (o : OwnerView) → AreCounts a.counts → Makes a b key o → Costs a b 0 (length o.cells) 0
costs_made a b key o small makes =
    let made : b.counts.made ≡ counted a.counts.made (length o.cells) = ap (λ (c : Counts). c.made) makes.counts in
    record {
      fetched_rose = rose_nothing _ _ (ap (λ (c : Counts). c.fetched) makes.counts);
      made_rose = record { low = omega (arith, made, small.made); high = omega (arith, made) };
      applied_rose = rose_nothing _ _ (ap (λ (c : Counts). c.applied) makes.counts);
    }

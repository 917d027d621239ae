-- One entry, in whose place a leaf comes that reads a new owner.
use Rattle.std.proofs.Common.{◌≡◌, ◌≢◌, inl, inr, ℕ, ◌<◌, List, [], ◌∷◌, ◌++◌, length, Option, Some, None, refl, sym, ap, ◌∙◌, subst, arith}
use Rattle.std.specs.Prelude.{slice_get, unwrap_or, sum_by}
use Rattle.std.proofs.lemmas.Bool.{cases_eq, eq-eqb}
use Rattle.std.proofs.lemmas.Bool.Decides.{nat_tests}
use Rattle.std.proofs.lemmas.List.Sums.{sum_by-cons}
use Rattle.apl_base.specs.declared.cells.Kind.{Kind}
use Rattle.apl_base.specs.declared.cells.Interval.{Interval}
use Rattle.apl_base.specs.Array.{Array, size_of}
use Rattle.apl_base.specs.Interval.{InInterval, exact_interval}
use Rattle.array_store.specs.Stores.{OwnerView, StoreView, IsStore, AreCounts, HasRoom, owner_at, owner_of, no_owner, holders_of, cells_of, interval_of, data_at, new_owner, counted}
use Rattle.array_store.specs.Counting.{OnlyComputed}
use Rattle.array_store.specs.Follows.{LeafCounts, Follows, Holds, none, one_of, both}
use Rattle.array_store.specs.Came.{Came, Renews}
use Rattle.array_store.proofs.StoreLemmas.{owner_of-found}
use Rattle.array_store.proofs.FollowsLemmas.{follows_then, follows_after, follows_beside, follows_counted, cells_of-kept, interval_of-kept}
use Rattle.array_store.proofs.CameLemmas.{renews_then, renews_made, renews_counted}
use Rattle.drag_along.specs.declared.leaves.Leaf.{Leaf}
use Rattle.drag_along.specs.Nodes.{leaf_shape, leaf_kind, named_by_leaf}
use Rattle.drag_along.specs.Segments.{SegmentView, IsSegment, named_by, leaf_segment}
use Rattle.drag_along.specs.Meaning.{Means, leaf_array, entry}
use Rattle.drag_along.specs.Lawful.{IsLawful, IsLawfulLeaf, IsLeafInterval, LeafWithin, SameData}
use Rattle.drag_along.specs.Views.{IsWholeView, StandsForArray}
use Rattle.drag_along.proofs.KeptLemmas.{follows_keeps, segment_kept, leaf_kept}
use Rattle.drag_along.proofs.LeafLemmas.{IsLawful-leaf, entry-leaf}
use Rattle.drag_along.proofs.LawfulLemmas.{FormIf, HasForm, entry-form}
use Rattle.e_machine.specs.declared.faults.ForceFault.{ForceFault}
use Rattle.e_machine.specs.declared.faults.ForceFault.TheVariants as force
use Rattle.e_machine.specs.Forced.{elements_of, applications, fetches}
use Rattle.leaf_names.proofs.KeptLemmas.{array_kept}
use Rattle.alias_force.specs.Moving.{IsOwn, IsOwnOf, ComputesAll, CostsAtMost, OwnersCame, IsRefusedAt}
use Rattle.alias_force.specs.Steps.{IsComputed, IsNotComputed, PutsLeaf, LetsGo, MovesEntry, RefusesEntry}
use Rattle.array_store.proofs.GoneLemmas.{renews_gone}
use Rattle.array_store.proofs.RoomLemmas.{room_counted}

-- ---- an entry that is refused

-- a segment that is held means the same where something was only counted
counted_means : (old new : StoreView) (g : SegmentView) → IsLawful old g → Holds old (named_by g) → Follows old new none none → entry new g ≡ entry old g
counted_means old new g lawful holds follows =
    let beside : Holds old (both none (named_by g)) = λ key. omega (arith, holds key) in
    (segment_kept old new g (follows_keeps old new none none (named_by g) (named_by g) follows beside (λ key. omega arith)) lawful).1

-- the sums over one entry
one_sum : (f : SegmentView → ℕ) (g : SegmentView) → sum_by f (g ∷ []) ≡ f g
one_sum f g = omega (arith, sum_by-cons f g [])

computed_costs : (old new : StoreView) (g : SegmentView) → OnlyComputed old new (applications g) (fetches g) → CostsAtMost old new (g ∷ [])
computed_costs old new g c = record {
  fetched_rose = record { low = c.fetched.low; high = omega (arith, c.fetched.high, one_sum fetches g) };
  made_rose = record { low = omega (arith, c.made); high = omega (arith, c.made) };
  applied_rose = record { low = c.applied.low; high = omega (arith, c.applied.high, one_sum applications g) };
}

-- nothing was done
no_costs : (old new : StoreView) (g : SegmentView) → new ≡ old → CostsAtMost old new (g ∷ [])
no_costs old new g same =
    let fetched : new.counts.fetched ≡ old.counts.fetched = ap (λ (s : StoreView). s.counts.fetched) same in
    let made : new.counts.made ≡ old.counts.made = ap (λ (s : StoreView). s.counts.made) same in
    let applied : new.counts.applied ≡ old.counts.applied = ap (λ (s : StoreView). s.counts.applied) same in
    record {
      fetched_rose = record { low = omega arith; high = omega arith };
      made_rose = record { low = omega arith; high = omega arith };
      applied_rose = record { low = omega arith; high = omega arith };
    }

why_refused : (old new : StoreView) (g : SegmentView) (fault : ForceFault) → IsLawful old g → Holds old (named_by g) → Follows old new none none → IsNotComputed old new g fault → IsRefusedAt new g fault
why_refused old new g (force.Fault place) lawful holds follows why =
    (counted_means old new g lawful holds follows ∙ why.means, room_counted old new (elements_of g) why.counted.only why.room)
why_refused old new g (force.WsFull live asked) lawful holds follows why =
    let held : new.live ≡ old.live = ap (λ (s : StoreView). s.live) why.unchanged in
    let limit : new.limit ≡ old.limit = ap (λ (s : StoreView). s.limit) why.unchanged in
    record { live = why.live ∙ sym held; asked = why.asked; full = omega (arith, why.full, held, limit); unchanged = refl }
why_refused old new g force.NoMemory lawful holds follows why = room_counted old new (elements_of g) why.1.only why.0

refused_costs : (old new : StoreView) (g : SegmentView) (fault : ForceFault) → IsNotComputed old new g fault → CostsAtMost old new (g ∷ [])
refused_costs old new g (force.Fault place) why = computed_costs old new g why.counted
refused_costs old new g (force.WsFull live asked) why = no_costs old new g why.unchanged
refused_costs old new g force.NoMemory why = computed_costs old new g why.1

pub refuses_entry : (old new : StoreView) (stack : List SegmentView) (at : ℕ) (g : SegmentView) (fault : ForceFault) → slice_get stack at ≡ Some g → IsLawful old g → Holds old (named_by g) → Follows old new none none → IsNotComputed old new g fault → RefusesEntry old new stack at fault
refuses_entry old new stack at g fault there lawful holds follows why = record {
  segment = g;
  there = there;
  refused = why_refused old new g fault lawful holds follows why;
  follows = follows;
  costs = refused_costs old new g fault why;
}

-- ---- a leaf that reads a new owner

-- what is so of it: its owner, whose key was free, has just the cells of the array
pub record IsFresh (old new : StoreView) (a : Array) (leaf : Leaf) : Type 0 where
  pub key : ℕ
  pub view : IsWholeView key a.shape a.kind leaf
  pub count : length a.cells ≡ size_of a.shape
  pub named : (other : ℕ) → named_by_leaf leaf other ≡ one_of key other
  pub free : holders_of old key ≡ 0
  pub owner : owner_of new key ≡ new_owner a.cells a.kind

fresh_leaf : (old new : StoreView) (g : SegmentView) (leaf : Leaf) (is : IsComputed old new g leaf) → IsFresh old new is.array leaf
fresh_leaf old new g leaf is =
    let made = is.made in
    let between = made.made.between in
    let makes = made.made.makes in
    let same : owner_at old made.key ≡ None = ap (λ (s : StoreView). owner_at s made.key) (sym made.made.counts.all.only) ∙ makes.was_free in
    record {
      key = made.key;
      view = made.view;
      count = made.count;
      named = λ other. ap (λ (l : Leaf). named_by_leaf l other) made.view.is;
      free = ap (λ (o : Option OwnerView). (unwrap_or o no_owner).holders) same;
      owner = owner_of-found new made.key (new_owner is.array.cells is.array.kind) makes.made;
    }

-- an owner that nobody held is not named by a segment whose leaves are held
unnamed : (old : StoreView) (gone : LeafCounts) (key : ℕ) → Holds old gone → holders_of old key ≡ 0 → gone key ≡ 0
unnamed old gone key holds free = omega (arith, holds key, free)

pub one_of-self : (key : ℕ) → one_of key key ≡ 1
one_of-self key = rw (eq-eqb key key refl) refl

pub one_of-other : (key other : ℕ) → other ≢ key → one_of key other ≡ 0
one_of-other key other differs = grind (arith, nat_tests)

-- the owner that a leaf names is its own
pub named_key : (key other : ℕ) → 0 < one_of key other → key ≡ other
named_key key other named = elim (cases_eq other key) [
  | inl same ↦ sym same
  | inr differs ↦ absurd (omega (arith, named, one_of-other key other differs))
]

-- so its key was free
free_key : (old mid : StoreView) (a : Array) (leaf : Leaf) (fresh : IsFresh old mid a leaf) (key : ℕ) → 0 < named_by_leaf leaf key → holders_of old key ≡ 0
free_key old mid a leaf fresh key named =
    subst (λ (k : ℕ). holders_of old k ≡ 0) (named_key fresh.key key (omega (arith, named, fresh.named key))) fresh.free

-- the leaf came, then the entry's leaves were let go
come_and_go : (old mid new : StoreView) (g : SegmentView) (leaf : Leaf) (range : Interval) → Holds old (named_by g) → Follows old mid none (named_by_leaf leaf) → Follows mid new (named_by g) none → Follows old new (named_by g) (named_by (leaf_segment leaf range))
come_and_go old mid new g leaf range holds came gone =
    let first : Follows old mid (both (named_by g) none) (both (named_by g) (named_by_leaf leaf)) = follows_after old mid none (named_by_leaf leaf) (named_by g) came in
    let second : Follows mid new (both (named_by g) (named_by_leaf leaf)) (both none (named_by_leaf leaf)) = follows_beside mid new (named_by g) none (named_by_leaf leaf) gone in
    follows_counted old new (both (named_by g) none) (both none (named_by_leaf leaf)) (named_by g) (named_by (leaf_segment leaf range)) (λ key. omega arith) (λ key. omega arith)
    (follows_then old mid new (both (named_by g) none) (both (named_by g) (named_by_leaf leaf)) (both none (named_by_leaf leaf)) first second)

-- after the leaves of the entry were let go, its owner is as it was made
pub record IsLeft (mid new : StoreView) (a : Array) (leaf : Leaf) (key : ℕ) : Type 0 where
  pub same : SameData mid new (named_by_leaf leaf)
  pub alone : holders_of new key ≡ 1
  pub cells : cells_of new key ≡ a.cells
  pub interval : interval_of new key ≡ interval_of mid key
  pub exact : interval_of mid key ≡ exact_interval a.cells

pub left : (old mid new : StoreView) (gone : LeafCounts) (a : Array) (leaf : Leaf) (fresh : IsFresh old mid a leaf) → Holds old gone → Follows mid new gone none → IsLeft mid new a leaf fresh.key
left old mid new gone a leaf fresh holds follows =
    let key : ℕ = fresh.key in
    let made : holders_of mid key ≡ 1 = ap (λ (o : OwnerView). o.holders) fresh.owner in
    let apart : gone key ≡ 0 = unnamed old gone key holds fresh.free in
    let kept : data_at new key ≡ data_at mid key = follows.kept key (omega (arith, made, apart)) in
    let now : holders_of new key ≡ 1 = omega (arith, follows.holders key, made, apart) in
    let its_own : (other : ℕ) → 0 < named_by_leaf leaf other → key ≡ other = λ other named. named_key key other (omega (arith, named, fresh.named other)) in
    record {
      same = record {
        live = λ other named. subst (λ (k : ℕ). 0 < holders_of new k) (its_own other named) (omega (arith, now));
        kept = λ other named. subst (λ (k : ℕ). data_at new k ≡ data_at mid k) (its_own other named) kept;
      };
      alone = now;
      cells = cells_of-kept mid new key kept ∙ ap (λ (o : OwnerView). o.cells) fresh.owner;
      interval = interval_of-kept mid new key kept;
      exact = ap (λ (o : OwnerView). o.interval) fresh.owner;
    }

-- the leaf's elements lie in the range over the new store too
within_left : (mid new : StoreView) (leaf : Leaf) (range : Interval) → SameData mid new (named_by_leaf leaf) → IsLawfulLeaf mid leaf → LeafWithin mid leaf range → LeafWithin new leaf range
within_left mid new leaf range same lawful within =
    λ i index. subst (InInterval range) (sym ((leaf_kept mid new leaf same lawful).1 i)) (within i index)

-- what is known of a leaf of the owner is the interval that is kept for it
known_interval : (mid : StoreView) (key : ℕ) (shape : List ℕ) (kind : Kind) (leaf : Leaf) (range : Interval) → IsWholeView key shape kind leaf → IsLeafInterval mid leaf range → range ≡ interval_of mid key
known_interval mid key shape kind leaf range view known = subst (λ (l : Leaf). IsLeafInterval mid l range) view.is known

pub view_shape : (key : ℕ) (shape : List ℕ) (kind : Kind) (leaf : Leaf) → IsWholeView key shape kind leaf → leaf_shape leaf ≡ shape
view_shape key shape kind leaf view = ap leaf_shape view.is ∙ view.whole.shape

pub view_kind : (key : ℕ) (shape : List ℕ) (kind : Kind) (leaf : Leaf) → IsWholeView key shape kind leaf → leaf_kind leaf ≡ kind
view_kind key shape kind leaf view = ap leaf_kind view.is

-- the leaf has an owner of its own
pub own_of : (old mid new : StoreView) (a : Array) (leaf : Leaf) (fresh : IsFresh old mid a leaf) → IsLeft mid new a leaf fresh.key → IsOwnOf new fresh.key a.shape
own_of old mid new a leaf fresh now = record {
  fills = record { live = omega (arith, now.alone); count = ap length now.cells ∙ fresh.count };
  alone = now.alone;
  exact = now.interval ∙ now.exact ∙ ap exact_interval (sym now.cells);
}

-- the entry that comes has an owner of its own
own_entry : (old mid new : StoreView) (a : Array) (leaf : Leaf) (range : Interval) (fresh : IsFresh old mid a leaf) → IsLeft mid new a leaf fresh.key → IsLeafInterval mid leaf range → IsOwn new (leaf_segment leaf range)
own_entry old mid new a leaf range fresh kept_so known =
    let key : ℕ = fresh.key in
    let shape : leaf_shape leaf ≡ a.shape = view_shape key a.shape a.kind leaf fresh.view in
    let kind : leaf_kind leaf ≡ a.kind = view_kind key a.shape a.kind leaf fresh.view in
    let kept : range ≡ interval_of new key = known_interval mid key a.shape a.kind leaf range fresh.view known ∙ sym kept_so.interval in
    let shaped : IsWholeView key (leaf_shape leaf) a.kind leaf = subst (λ (ns : List ℕ). IsWholeView key ns a.kind leaf) (sym shape) fresh.view in
    record {
      key = key;
      leaf = leaf;
      is = ap (leaf_segment leaf) kept;
      view = subst (λ (k : Kind). IsWholeView key (leaf_shape leaf) k leaf) (sym kind) shaped;
      own = subst (IsOwnOf new key) (sym shape) (own_of old mid new a leaf fresh kept_so);
    }

-- it means the array
comes_meaning : (mid new : StoreView) (a : Array) (leaf : Leaf) (range : Interval) → leaf_shape leaf ≡ a.shape → SameData mid new (named_by_leaf leaf) → StandsForArray mid leaf a → entry new (leaf_segment leaf range) ≡ Means a
comes_meaning mid new a leaf range shape same stands =
    let here : leaf_array mid (leaf_shape leaf) leaf ≡ a = ap (λ (ns : List ℕ). leaf_array mid ns leaf) shape ∙ stands.array in
    entry-leaf new leaf range ∙ ap (λ (b : Array). Means b) (array_kept mid new leaf same stands.lawful ∙ here)

-- ---- what it cost

-- as many cells were made as the segment has elements
made_size : (old new : StoreView) (g : SegmentView) (leaf : Leaf) → IsSegment g → (is : IsComputed old new g leaf) → length is.array.cells ≡ elements_of g
made_size old new g leaf segment is =
    let form : HasForm g.shape is.array = subst (FormIf g.shape) is.means (entry-form old g segment) in
    form.count

computes_one : (old mid new : StoreView) (g : SegmentView) (leaf : Leaf) → IsSegment g → (is : IsComputed old mid g leaf) → new.counts ≡ mid.counts → ComputesAll old new (g ∷ []) 0
computes_one old mid new g leaf segment is same =
    let made = is.made.made in
    let size : length is.array.cells ≡ elements_of g = made_size old mid g leaf segment is in
    let all = made.counts.all in
    let applied : new.counts.applied ≡ made.between.counts.applied = ap (λ c. c.applied) same ∙ ap (λ c. c.applied) made.makes.counts in
    let fetched : new.counts.fetched ≡ made.between.counts.fetched = ap (λ c. c.fetched) same ∙ ap (λ c. c.fetched) made.makes.counts in
    let makes : new.counts.made ≡ counted made.between.counts.made (length is.array.cells) = ap (λ c. c.made) same ∙ ap (λ c. c.made) made.makes.counts in
    record {
      applied = applied ∙ made.counts.exact ∙ ap (counted old.counts.applied) (sym (one_sum applications g));
      made = makes ∙ ap (λ (n : ℕ). counted n (length is.array.cells)) all.made ∙ ap (counted old.counts.made) (omega (arith, size, one_sum elements_of g));
      fetched = record { low = omega (arith, all.fetched.low, fetched); high = omega (arith, all.fetched.high, fetched, one_sum fetches g) };
    }

owner_came : (old mid new : StoreView) (g : SegmentView) (leaf : Leaf) → IsSegment g → (is : IsComputed old mid g leaf) → Follows mid new (named_by g) none → OwnersCame old new (elements_of g ∷ [])
owner_came old mid new g leaf segment is follows =
    let made = is.made.made in
    let key : ℕ = is.made.key in
    let size : length is.array.cells ≡ elements_of g = made_size old mid g leaf segment is in
    let one : Came = record { key = key; cells = length is.array.cells } in
    let first : Renews old mid ([] ++ one ∷ []) =
    renews_then old made.between mid [] (one ∷ []) (renews_counted old made.between made.counts.all.only) (renews_made made.between mid key (new_owner is.array.cells is.array.kind) made.makes) in
    record {
      came = (one ∷ []) ++ [];
      renews = renews_then old mid new (one ∷ []) [] first (renews_gone mid new (named_by g) follows);
      cells = ap (λ (n : ℕ). n ∷ []) size;
    }

-- ---- together

pub moves_entry : (old mid new : StoreView) (before after : List SegmentView) (at : ℕ) (g : SegmentView) (leaf : Leaf) → slice_get before at ≡ Some g → IsSegment g → Holds old (named_by g) → IsComputed old mid g leaf → Follows old mid none (named_by_leaf leaf) → PutsLeaf mid new before after at leaf → new.counts ≡ mid.counts → MovesEntry old new before after at
moves_entry old mid new before after at g leaf there segment holds is follows puts same =
    let fresh = fresh_leaf old mid g leaf is in
    let same_gone : puts.gone ≡ g = (let e : Some puts.gone ≡ Some g = sym puts.there ∙ there in cc) in
    let let_go : Follows mid new (named_by g) none = subst (λ (x : SegmentView). Follows mid new (named_by x) none) same_gone puts.follows in
    let left = left old mid new (named_by g) is.array leaf fresh holds let_go in
    let shape : leaf_shape leaf ≡ is.array.shape = view_shape fresh.key is.array.shape is.array.kind leaf fresh.view in
    let came : SegmentView = leaf_segment leaf puts.range in
    record {
      gone = g;
      came = came;
      there = there;
      put = puts.put;
      own = own_entry old mid new is.array leaf puts.range fresh left puts.known;
      lawful = IsLawful-leaf new leaf puts.range (leaf_kept mid new leaf left.same is.stands.lawful).0 (within_left mid new leaf puts.range left.same is.stands.lawful puts.within);
      means = comes_meaning mid new is.array leaf puts.range shape left.same is.stands ∙ sym is.means;
      follows = come_and_go old mid new g leaf puts.range holds follows let_go;
      free = λ key named. free_key old mid is.array leaf fresh key (omega (arith, named));
      computes = computes_one old mid new g leaf segment is same;
      owners = owner_came old mid new g leaf segment is let_go;
    }

-- ---- an entry whose leaf was let go again

-- a cost that is exact is at most that
pub computes_costs : (old new : StoreView) (all : List SegmentView) → AreCounts old.counts → ComputesAll old new all 0 → CostsAtMost old new all
computes_costs old new all small is = record {
  fetched_rose = record { low = is.fetched.low; high = omega (arith, is.fetched.high) };
  made_rose = record { low = omega (arith, is.made, small.made); high = omega (arith, is.made) };
  applied_rose = record { low = omega (arith, is.applied, small.applied); high = omega (arith, is.applied) };
}

-- the room that there was is there again
room_again : (old mid new : StoreView) (g : SegmentView) (leaf : Leaf) → IsSegment g → IsStore mid → (is : IsComputed old mid g leaf) → LetsGo mid new leaf → HasRoom new (elements_of g)
room_again old mid new g leaf segment store is goes =
    let made = is.made.made in
    let fresh = fresh_leaf old mid g leaf is in
    let size : length is.array.cells ≡ elements_of g = made_size old mid g leaf segment is in
    let named : 0 < named_by_leaf leaf fresh.key = omega (arith, fresh.named fresh.key, one_of-self fresh.key) in
    let cells : length (cells_of mid fresh.key) ≡ length is.array.cells = ap (λ (o : OwnerView). length o.cells) fresh.owner in
    omega (arith, goes.live fresh.key named, goes.follows.limit, made.makes.live, made.makes.limit, store.bound, cells, size)

pub refuses_put : (old mid new : StoreView) (stack : List SegmentView) (at : ℕ) (g : SegmentView) (leaf : Leaf) → slice_get stack at ≡ Some g → IsSegment g → AreCounts old.counts → IsStore mid → IsComputed old mid g leaf → Follows old mid none (named_by_leaf leaf) → LetsGo mid new leaf → new.counts ≡ mid.counts → RefusesEntry old new stack at force.NoMemory
refuses_put old mid new stack at g leaf there segment small store is came goes same = record {
  segment = g;
  there = there;
  refused = room_again old mid new g leaf segment store is goes;
  follows = follows_then old mid new none (named_by_leaf leaf) none came goes.follows;
  costs = computes_costs old new (g ∷ []) small (computes_one old mid new g leaf segment is same);
}

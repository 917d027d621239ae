-- Laws of `Follows` and `Holds`, for every crate whose values name owners.
use Rattle.std.proofs.Common.{◌≡◌, ℕ, ◌<◌, ℤ, List, [], Option, Some, None, unwrap_or, refl, sym, ap, ◌∙◌, arith}
use Rattle.std.specs.Option.{option_map}
use Rattle.apl_base.specs.declared.cells.Kind.{Kind}
use Rattle.apl_base.specs.declared.cells.Interval.{Interval}
use Rattle.array_store.specs.declared.ids.Counts.{Counts}
use Rattle.array_store.specs.Stores.{OwnerView, OwnerData, StoreView, owner_data, no_owner, owner_at, cells_of, kind_of, interval_of, data_at}
use Rattle.array_store.specs.Follows.{LeafCounts, Follows, Holds, none, both}

-- nothing changed, and the leaves are the same
pub follows_same : (s : StoreView) (leaves : LeafCounts) → Follows s s leaves leaves
follows_same s leaves = record { holders = λ key. refl; kept = λ key h. refl; limit = refl }

-- one change after another
pub follows_then : (a b c : StoreView) (x y z : LeafCounts) → Follows a b x y → Follows b c y z → Follows a c x z
follows_then a b c x y z p q =
    record {
      holders = λ key. omega (arith, p.holders key, q.holders key);
      kept = λ key h. q.kept key (omega (arith, p.holders key)) ∙ p.kept key h;
      limit = q.limit ∙ p.limit;
    }

-- other leaves stand beside, on the right and on the left
pub follows_beside : (a b : StoreView) (x y others : LeafCounts) → Follows a b x y → Follows a b (both x others) (both y others)
follows_beside a b x y others p =
    record {
      holders = λ key. omega (arith, p.holders key);
      kept = λ key h. p.kept key (omega arith);
      limit = p.limit;
    }

pub follows_after : (a b : StoreView) (x y others : LeafCounts) → Follows a b x y → Follows a b (both others x) (both others y)
follows_after a b x y others p =
    record {
      holders = λ key. omega (arith, p.holders key);
      kept = λ key h. p.kept key (omega arith);
      limit = p.limit;
    }

-- leaves that were counted in another way
pub follows_counted : (a b : StoreView) (x y v w : LeafCounts) → ((key : ℕ) → v key ≡ x key) → ((key : ℕ) → w key ≡ y key) → Follows a b x y → Follows a b v w
follows_counted a b x y v w e f p =
    record {
      holders = λ key. omega (arith, p.holders key, e key, f key);
      kept = λ key h. p.kept key (omega (arith, e key));
      limit = p.limit;
    }

-- a count of what was done moves no holder
pub follows_counts : (s : StoreView) (c : Counts) → Follows s (record s { counts = c }) none none
follows_counts s c = record { holders = λ key. refl; kept = λ key h. refl; limit = refl }

-- as many holders as leaves there are afterwards
pub holds_then : (a b : StoreView) (x y : LeafCounts) → Follows a b x y → Holds a x → Holds b y
holds_then a b x y p h = λ key. omega (arith, p.holders key, h key)

pub holds_beside : (a b : StoreView) (x y others : LeafCounts) → Follows a b x y → Holds a (both x others) → Holds b (both y others)
holds_beside a b x y others p h = λ key. omega (arith, p.holders key, h key)

-- an owner that a leaf beside the counted ones names keeps its cells, kind and interval
pub leaf_kept : (a b : StoreView) (x y others : LeafCounts) (key : ℕ) → Follows a b x y → Holds a (both x others) → 0 < others key → data_at b key ≡ data_at a key
leaf_kept a b x y others key p h named = p.kept key (omega (arith, h key))

-- ---- what a look-up of the data says of the words on an owner

cells_in_data : Option OwnerData → List ℤ
cells_in_data None = []
cells_in_data (Some d) = d.cells

kind_in_data : Option OwnerData → Kind
kind_in_data None = no_owner.kind
kind_in_data (Some d) = d.kind

interval_in_data : Option OwnerData → Interval
interval_in_data None = no_owner.interval
interval_in_data (Some d) = d.interval

cells_by_data : (o : Option OwnerView) → (unwrap_or o no_owner).cells ≡ cells_in_data (option_map owner_data o)
unfolding cells_in_data
cells_by_data None = refl
cells_by_data (Some o) = refl

kind_by_data : (o : Option OwnerView) → (unwrap_or o no_owner).kind ≡ kind_in_data (option_map owner_data o)
unfolding kind_in_data
kind_by_data None = refl
kind_by_data (Some o) = refl

interval_by_data : (o : Option OwnerView) → (unwrap_or o no_owner).interval ≡ interval_in_data (option_map owner_data o)
unfolding interval_in_data
interval_by_data None = refl
interval_by_data (Some o) = refl

pub cells_of-kept : (a b : StoreView) (key : ℕ) → data_at b key ≡ data_at a key → cells_of b key ≡ cells_of a key
cells_of-kept a b key same = cells_by_data (owner_at b key) ∙ ap cells_in_data same ∙ sym (cells_by_data (owner_at a key))

pub kind_of-kept : (a b : StoreView) (key : ℕ) → data_at b key ≡ data_at a key → kind_of b key ≡ kind_of a key
kind_of-kept a b key same = kind_by_data (owner_at b key) ∙ ap kind_in_data same ∙ sym (kind_by_data (owner_at a key))

pub interval_of-kept : (a b : StoreView) (key : ℕ) → data_at b key ≡ data_at a key → interval_of b key ≡ interval_of a key
interval_of-kept a b key same = interval_by_data (owner_at b key) ∙ ap interval_in_data same ∙ sym (interval_by_data (owner_at a key))

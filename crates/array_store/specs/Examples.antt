-- Worked examples: how holders follow leaves.
use Rattle.std.specs.Prelude.{◌≡◌, ◌≢◌, pos, [], ◌∷◌, Some}
use Rattle.apl_base.specs.declared.cells.Kind.TheVariants.{Num}
use Rattle.array_store.specs.Stores.{OwnerView, StoreView, Makes, new_owner, empty_store, with_holders, without_owner, data_at}
use Rattle.array_store.specs.Follows.{Follows, none, one_of, both}

-- the number 5, and the numbers 7 and 8, each with one holder
abbrev pub five : OwnerView
five = new_owner (pos 5 ∷ []) Num

abbrev pub seven_eight : OwnerView
seven_eight = new_owner (pos 7 ∷ pos 8 ∷ []) Num

-- stores of the one, of the other under the same key once the first is freed, and of both side by side
abbrev pub has_five : StoreView
has_five = record (empty_store 9) { owners = Some five ∷ []; live = 1 }

abbrev pub has_seven_eight : StoreView
has_seven_eight = record (empty_store 9) {
  owners = Some seven_eight ∷ [];
  live = 2;
  counts = record { fetched = 0; made = 2; applied = 0 };
}

abbrev pub has_both : StoreView
has_both = record (empty_store 9) { owners = Some five ∷ Some seven_eight ∷ []; live = 3 }

-- a second leaf names the owner at key 0: it has a holder more
abbrev pub HoldFollows : Type 0
HoldFollows = Follows has_five (with_holders has_five 0 2) none (one_of 0)

-- the only leaf that names it goes: the owner is freed
abbrev pub FreeingFollows : Type 0
FreeingFollows = Follows has_five (without_owner has_five 0) (one_of 0) none

-- and its key is used again. So a leaf that named 5 and goes, and one that names 7 8 and comes, are one change, in
-- which the owner at key 0 has a holder before and afterwards, and not the same cells
abbrev pub ReuseFollows : Type 0
ReuseFollows =
    Makes (without_owner has_five 0) has_seven_eight 0 seven_eight
    × Follows (without_owner has_five 0) has_seven_eight none (one_of 0)
    × Follows has_five has_seven_eight (one_of 0) (one_of 0)
    × (data_at has_seven_eight 0 ≢ data_at has_five 0)

-- with a leaf of key 1 beside, 5 is freed in the same way, and what that leaf names keeps its cells
abbrev pub BesideFollows : Type 0
BesideFollows =
    Follows has_both (without_owner has_both 0) (both (one_of 0) (one_of 1)) (both none (one_of 1))
    × (data_at (without_owner has_both 0) 1 ≡ data_at has_both 1)

-- a leaf that comes without a holder doesn't follow
abbrev pub UncountedFollowsNot : Type 0
UncountedFollowsNot = ¬ (Follows has_five has_five none (one_of 0))

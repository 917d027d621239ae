-- Lemmas on what contracts see of a store, for this crate and its callers.
use Rattle.std.proofs.Common.{◌≡◌, ◌≢◌, ℕ, suc, ◌+◌, ◌<◌, ◌≤◌, ℤ, pos, List, [], ◌∷◌, length, get_or, set, Option, Some, None, unwrap_or, refl, sym, ap, ◌∙◌, subst, inl, inr, arith, All, sum_by, length-set}
use Rattle.std.specs.Option.{option_map}
use Rattle.std.proofs.lemmas.Bool.{cases_eq}
use Rattle.std.proofs.lemmas.List.{get_or-set_same, get_or-set_other, get_or_past}
use Rattle.std.proofs.lemmas.List.Sums.{sum_by-cons, sum_by-set}
use Rattle.std.proofs.lemmas.List.Elements.{All-set, All-weaker}
use Rattle.apl_base.specs.declared.cells.Kind.{Kind}
use Rattle.apl_base.specs.declared.cells.Interval.{Interval}
use Rattle.apl_base.specs.Number.{IsCell}
use Rattle.apl_base.specs.Interval.{InInterval, IsInterval, hull, exact_interval}
use Rattle.array_store.specs.Stores.{OwnerView, StoreView, IsOwner, IsStore, AreCounts, WritesOnly, owner_data, owner_at, owner_of, holders_of, cells_of, cells_in, with_owner, without_owner, with_holders, with_cell, new_owner, no_owner}
use Rattle.array_store.specs.Counting.{OnlyCounted}
use Rattle.array_store.proofs.IntervalLemmas.{All-exact_interval, IsInterval-exact, IsInterval-hull, InInterval-hull_new, InInterval-hull_old, IsNumber-from_cell}

-- a key with an owner has a slot
pub owner_within : (s : StoreView) (key : ℕ) (o : OwnerView) → owner_at s key ≡ Some o → key < length s.owners
owner_within s key o found = grind (arith, get_or_past)

-- the cells of all owners depend on the look-ups alone
sum_by-none : (xs : List (Option OwnerView)) → ((k : ℕ) → get_or xs k None ≡ None) → sum_by cells_in xs ≡ 0
sum_by-none [] h = refl
sum_by-none (x ∷ xs) h =
    let here : x ≡ None = h 0 in
    omega (arith, sum_by-cons cells_in x xs, ap cells_in here, sum_by-none xs (λ k. h (suc k)))

sum_by-same : (xs ys : List (Option OwnerView)) → ((k : ℕ) → get_or ys k None ≡ get_or xs k None) → sum_by cells_in ys ≡ sum_by cells_in xs
sum_by-same [] ys h = sum_by-none ys h
sum_by-same (x ∷ xs) [] h = sym (sum_by-none (x ∷ xs) (λ k. sym (h k)))
sum_by-same (x ∷ xs) (y ∷ ys) h =
    let here : y ≡ x = h 0 in
    omega (arith, sum_by-cons cells_in x xs, sum_by-cons cells_in y ys, ap cells_in here, sum_by-same xs ys (λ k. h (suc k)))

-- a slot that was empty has an owner, and all others are as they were
sum_by-added : (xs ys : List (Option OwnerView)) (key : ℕ) (o : OwnerView) → get_or xs key None ≡ None → get_or ys key None ≡ Some o → ((k : ℕ) → k ≢ key → get_or ys k None ≡ get_or xs k None) → sum_by cells_in ys ≡ sum_by cells_in xs + length o.cells
sum_by-added xs ys key o was is others =
    let within : key < length ys = grind (arith, get_or_past) in
    let back : (k : ℕ) → get_or (set ys key None) k None ≡ get_or xs k None = λ k.
    elim (cases_eq k key) [
      | inl same ↦ ap (λ n. get_or (set ys key None) n None) same ∙ get_or-set_same ys key None None within ∙ sym was ∙ ap (λ n. get_or xs n None) (sym same)
      | inr differs ↦ get_or-set_other ys key k None None differs ∙ others k differs
    ] in
    omega (arith, sum_by-set cells_in ys key None None within, ap cells_in is, sum_by-same xs (set ys key None) back)

-- another owner in the place of one, with as many cells
pub IsStore-with_owner : (s : StoreView) (key : ℕ) (o p : OwnerView) → IsStore s → owner_at s key ≡ Some o → IsOwner p → length p.cells ≡ length o.cells → IsStore (with_owner s key p)
IsStore-with_owner s key o p store found owner size =
    let within = owner_within s key o found in
    record {
      owners = λ k q there. elim (cases_eq k key) [
        | inl same ↦
            let now : owner_at (with_owner s key p) k ≡ Some p = ap (owner_at (with_owner s key p)) same ∙ get_or-set_same s.owners key (Some p) None within in
            let e : p ≡ q = cc in
            subst IsOwner e owner
        | inr differs ↦ store.owners k q (sym (get_or-set_other s.owners key k (Some p) None differs) ∙ there)
      ];
      live = omega (arith, sum_by-set cells_in s.owners key (Some p) None within, ap cells_in found, store.live);
      bound = store.bound;
      counts = store.counts;
    }

-- one owner less
pub IsStore-without_owner : (s : StoreView) (key : ℕ) (o : OwnerView) → IsStore s → owner_at s key ≡ Some o → IsStore (without_owner s key)
IsStore-without_owner s key o store found =
    let within = owner_within s key o found in
    let same_cells : cells_of s key ≡ o.cells = ap (λ (x : Option OwnerView). (unwrap_or x no_owner).cells) found in
    let gone = sum_by-set cells_in s.owners key None None within in
    record {
      owners = λ k q there. elim (cases_eq k key) [
        | inl same ↦
            let now : owner_at (without_owner s key) k ≡ None = ap (owner_at (without_owner s key)) same ∙ get_or-set_same s.owners key None None within in
            absurd (cc)
        | inr differs ↦ store.owners k q (sym (get_or-set_other s.owners key k None None differs) ∙ there)
      ];
      live = omega (arith, gone, ap cells_in found, store.live, ap length same_cells);
      bound = omega (arith, store.bound);
      counts = store.counts;
    }

-- an owner more
pub IsStore-added : (s t : StoreView) (key : ℕ) (o : OwnerView) → IsStore s → IsOwner o → s.live + length o.cells ≤ s.limit → owner_at s key ≡ None → owner_at t key ≡ Some o → ((other : ℕ) → other ≢ key → owner_at t other ≡ owner_at s other) → t.live ≡ s.live + length o.cells → t.limit ≡ s.limit → AreCounts t.counts → IsStore t
IsStore-added s t key o store owner room was is others live limit counts =
    record {
      owners = λ k q there. elim (cases_eq k key) [
        | inl same ↦
            let now : owner_at t k ≡ Some o = ap (owner_at t) same ∙ is in
            let e : o ≡ q = cc in
            subst IsOwner e owner
        | inr differs ↦ store.owners k q (sym (others k differs) ∙ there)
      ];
      live = live ∙ ap (λ n. n + length o.cells) store.live ∙ sym (sum_by-added s.owners t.owners key o was is others);
      bound = omega arith;
      counts = counts;
    }

-- a store that only counted is one
pub IsStore-counted : (s t : StoreView) → OnlyCounted s t → AreCounts t.counts → IsStore s → IsStore t
IsStore-counted s t only counts store =
    let held : IsStore (record s { counts = t.counts }) = record { owners = store.owners; live = store.live; bound = store.bound; counts = counts } in
    subst IsStore (sym only) held

-- an owner of lawful cells with their exact interval is lawful
pub IsOwner-made : (cells : List ℤ) (kind : Kind) (i : Interval) → i ≡ exact_interval cells → All (IsCell kind) cells → IsOwner (record (new_owner cells kind) { interval = i })
IsOwner-made cells kind i exact lawful =
    record {
      lawful = lawful;
      within = subst (λ (x : Interval). All (InInterval x) cells) (sym exact) (All-exact_interval cells);
      interval = subst IsInterval (sym exact) (IsInterval-exact kind cells lawful);
      held = omega arith;
    }

-- other holders leave an owner lawful, where there is one
pub IsOwner-holders : (o : OwnerView) (n : ℕ) → 0 < n → IsOwner o → IsOwner (record o { holders = n })
IsOwner-holders o n h owner =
    record { lawful = owner.lawful; within = owner.within; interval = owner.interval; held = h }

-- a lawful cell in the place of one, and the hull with it, leave an owner lawful
pub IsOwner-written : (o : OwnerView) (place : ℕ) (c : ℤ) (i : Interval) → i ≡ hull o.interval c → IsCell o.kind c → IsOwner o → IsOwner (record o { cells = set o.cells place c; interval = i })
IsOwner-written o place c i widened lawful owner =
    let old : All (InInterval (hull o.interval c)) o.cells = All-weaker (InInterval o.interval) (InInterval (hull o.interval c)) (λ x h. InInterval-hull_old o.interval c x h) o.cells owner.within in
    record {
      lawful = All-set (IsCell o.kind) o.cells place c lawful owner.lawful;
      within = subst (λ (x : Interval). All (InInterval x) (set o.cells place c)) (sym widened) (All-set (InInterval (hull o.interval c)) o.cells place c (InInterval-hull_new o.interval c) old);
      interval = subst IsInterval (sym widened) (IsInterval-hull o.interval c owner.interval (IsNumber-from_cell o.kind c lawful));
      held = owner.held;
    }

-- an owner with a holder is there
pub owner_found : (s : StoreView) (key : ℕ) → 0 < holders_of s key → owner_at s key ≡ Some (owner_of s key)
owner_found s key held = found_or (owner_at s key) held
  where
    found_or : (o : Option OwnerView) → 0 < (unwrap_or o no_owner).holders → o ≡ Some (unwrap_or o no_owner)
    found_or None h = absurd (omega (arith, h))
    found_or (Some o) h = refl

-- and is lawful
pub IsOwner-held : (s : StoreView) (key : ℕ) → IsStore s → 0 < holders_of s key → IsOwner (owner_of s key)
IsOwner-held s key store held = store.owners key (owner_of s key) (owner_found s key held)

-- what a look-up found is there in an equal store at an equal key
pub owner_along : (s t : StoreView) (key other : ℕ) (o : OwnerView) → s ≡ t → key ≡ other → owner_at s key ≡ Some o → owner_at t other ≡ Some o
owner_along s t key other o same equal found =
    ap (λ (x : StoreView). owner_at x other) (sym same) ∙ ap (owner_at s) (sym equal) ∙ found

-- and what the words on an owner then say
pub owner_of-found : (s : StoreView) (key : ℕ) (o : OwnerView) → owner_at s key ≡ Some o → owner_of s key ≡ o
owner_of-found s key o found = ap (λ (x : Option OwnerView). unwrap_or x no_owner) found

-- ---- what a look-up finds after a change

pub owner_at-with_owner : (s : StoreView) (key : ℕ) (o p : OwnerView) → owner_at s key ≡ Some o → owner_at (with_owner s key p) key ≡ Some p
owner_at-with_owner s key o p found = get_or-set_same s.owners key (Some p) None (owner_within s key o found)

pub owner_at-with_owner_other : (s : StoreView) (key other : ℕ) (p : OwnerView) → other ≢ key → owner_at (with_owner s key p) other ≡ owner_at s other
owner_at-with_owner_other s key other p differs = get_or-set_other s.owners key other (Some p) None differs

pub owner_at-without_owner : (s : StoreView) (key : ℕ) (o : OwnerView) → owner_at s key ≡ Some o → owner_at (without_owner s key) key ≡ None
owner_at-without_owner s key o found = get_or-set_same s.owners key None None (owner_within s key o found)

pub owner_at-without_owner_other : (s : StoreView) (key other : ℕ) → other ≢ key → owner_at (without_owner s key) other ≡ owner_at s other
owner_at-without_owner_other s key other differs = get_or-set_other s.owners key other None None differs

pub owner_at-with_holders : (s : StoreView) (key n : ℕ) (o : OwnerView) → owner_at s key ≡ Some o → owner_at (with_holders s key n) key ≡ Some (record o { holders = n })
owner_at-with_holders s key n o found =
    owner_at-with_owner s key o _ found ∙ ap (λ (p : OwnerView). Some (record p { holders = n })) (owner_of-found s key o found)

pub owner_at-with_cell : (s : StoreView) (key place : ℕ) (c : ℤ) (o : OwnerView) → owner_at s key ≡ Some o → owner_at (with_cell s key place c) key ≡ Some (record o { cells = set o.cells place c; interval = hull o.interval c })
owner_at-with_cell s key place c o found =
    owner_at-with_owner s key o _ found ∙ ap (λ (p : OwnerView). Some (record p { cells = set p.cells place c; interval = hull p.interval c })) (owner_of-found s key o found)

-- a key without holders has no owner
pub nobody_holds_none : (s : StoreView) (key : ℕ) → IsStore s → holders_of s key ≡ 0 → owner_at s key ≡ None
nobody_holds_none s key store free = none_or (owner_at s key) (λ o found. store.owners key o found) free
  where
    none_or : (found : Option OwnerView) → ((o : OwnerView) → found ≡ Some o → IsOwner o) → (unwrap_or found no_owner).holders ≡ 0 → found ≡ None
    none_or None lawful free = refl
    none_or (Some o) lawful free = absurd (omega (arith, (lawful o refl).held, free))

-- what is as before after a cell was written
pub written_is_only : (s : StoreView) (key place : ℕ) (c : ℤ) → 0 < holders_of s key → place < length (cells_of s key) → WritesOnly s (with_cell s key place c) key place c
written_is_only s key place c held below =
    let now = owner_of-found (with_cell s key place c) key _ (owner_at-with_cell s key place c _ (owner_found s key held)) in
    let cells : cells_of (with_cell s key place c) key ≡ set (cells_of s key) place c = ap (λ (o : OwnerView). o.cells) now in
    record {
      written = ap (λ (xs : List ℤ). get_or xs place (pos 0)) cells ∙ get_or-set_same (cells_of s key) place c (pos 0) below;
      cells = λ other differs. ap (λ (xs : List ℤ). get_or xs other (pos 0)) cells ∙ get_or-set_other (cells_of s key) place other c (pos 0) differs;
      count = ap length cells ∙ length-set (cells_of s key) place c;
      kind = ap (λ (o : OwnerView). o.kind) now;
      holders = λ other. elim (cases_eq other key) [
        | inl same ↦ ap (holders_of (with_cell s key place c)) same ∙ ap (λ (o : OwnerView). o.holders) now ∙ sym (ap (holders_of s) same)
        | inr differs ↦ ap (λ (o : Option OwnerView). (unwrap_or o no_owner).holders) (owner_at-with_owner_other s key other _ differs)
      ];
      others = λ other differs. ap (option_map owner_data) (owner_at-with_owner_other s key other _ differs);
      live = refl;
      limit = refl;
      counts = refl;
    }

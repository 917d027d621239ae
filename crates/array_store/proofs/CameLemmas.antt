-- Which owners came, and what the live cells are charged to.
use Rattle.std.proofs.Common.{◌≡◌, ◌≢◌, ℕ, suc, ◌+◌, ◌<◌, ◌≤◌, ℤ, List, [], ◌∷◌, ◌++◌, length, get_or, set, Option, Some, None, unwrap_or, refl, sym, ap, ◌∙◌, subst, inl, inr, arith, sum_by, length-set}
use Rattle.std.specs.Prelude.{sum, ◌⊎◌}
use Rattle.std.specs.Option.{option_map}
use Rattle.std.proofs.lemmas.Bool.{cases_eq, cases_lt}
use Rattle.std.proofs.lemmas.List.{get_or-set_other, get_or_past}
use Rattle.std.proofs.lemmas.List.Sums.{sum_by-cons, sum_by-set}
use Rattle.std.proofs.lemmas.List.Elements.{Contains-append_left, Contains-append_right}
use Rattle.array_store.specs.Stores.{OwnerView, OwnerData, StoreView, IsStore, Makes, owner_at, owner_of, holders_of, cells_of, data_at, cells_in, no_owner, owner_data, with_owner, with_holders, with_cell, without_owner}
use Rattle.array_store.specs.Counting.{OnlyCounted}
use Rattle.array_store.specs.Came.{Came, IsAmong, Renews, IsCharged}
use Rattle.array_store.proofs.FollowsLemmas.{cells_of-kept}
use Rattle.array_store.proofs.StoreLemmas.{owner_found, owner_of-found, owner_at-with_owner, owner_at-with_cell, owner_at-with_owner_other, owner_at-without_owner, owner_at-without_owner_other}

pub renews_nothing : (s : StoreView) → Renews s s []
renews_nothing s = record { each = λ key live. inl (live, refl) }

-- an owner that came is among more too, and so where its data stayed
among_left : (s t : StoreView) (key : ℕ) (came more : List Came) → data_at t key ≡ data_at s key → IsAmong s key came → IsAmong t key (came ++ more)
among_left s t key came more same c =
    (c.0, Contains-append_left came more c.0 c.1, c.2, subst (λ (xs : List ℤ). length xs ≤ c.0.cells) (sym (cells_of-kept s t key same)) c.3)

among_right : (s : StoreView) (key : ℕ) (came more : List Came) → IsAmong s key more → IsAmong s key (came ++ more)
among_right s key came more c = (c.0, Contains-append_right came more c.0 c.1, c.2, c.3)

pub renews_then : (a b c : StoreView) (came more : List Came) → Renews a b came → Renews b c more → Renews a c (came ++ more)
renews_then a b c came more p q =
    record {
      each = λ key live. elim (q.each key live) [
        | inl stayed ↦ elim (p.each key stayed.0) [
          | inl old ↦ inl (old.0, stayed.1 ∙ old.1)
          | inr among ↦ inr (among_left b c key came more stayed.1 among)
        ]
        | inr among ↦ inr (among_right c key came more among)
      ];
    }

-- every other key is as it was, and at this one the owner is among those that came
renews_one : (a b : StoreView) (key : ℕ) (came : List Came) → ((other : ℕ) → other ≢ key → owner_at b other ≡ owner_at a other) → (0 < holders_of b key → ((0 < holders_of a key) × (data_at b key ≡ data_at a key)) ⊎ IsAmong b key came) → Renews a b came
renews_one a b key came others here =
    record {
      each = λ k live. elim (cases_eq k key) [
        | inl same ↦ subst (λ n. ((0 < holders_of a n) × (data_at b n ≡ data_at a n)) ⊎ IsAmong b n came) (sym same) (here (subst (λ n. 0 < holders_of b n) same live))
        | inr differs ↦
            let there = others k differs in
            inl (subst (λ (o : Option OwnerView). 0 < (unwrap_or o no_owner).holders) there live, ap (option_map owner_data) there)
      ];
    }

pub renews_made : (a b : StoreView) (key : ℕ) (o : OwnerView) → Makes a b key o → Renews a b (record { key = key; cells = length o.cells } ∷ [])
renews_made a b key o made =
    let came : Came = record { key = key; cells = length o.cells } in
    let cells = ap (λ (p : OwnerView). length p.cells) (owner_of-found b key o made.made) in
    renews_one a b key (came ∷ []) made.others (λ live. inr (came, (0, omega arith, refl), refl, omega (arith, cells)))

-- an owner in the place of one, with the same data
pub renews_kept : (s : StoreView) (key : ℕ) (o p : OwnerView) → owner_at s key ≡ Some o → 0 < o.holders → owner_data p ≡ owner_data o → Renews s (with_owner s key p) []
renews_kept s key o p found held same =
    let before = ap (λ (q : Option OwnerView). (unwrap_or q no_owner).holders) found in
    renews_one s (with_owner s key p) key [] (λ other differs. owner_at-with_owner_other s key other p differs)
    (λ live. inl (omega (arith, before, held), ap (option_map owner_data) (owner_at-with_owner s key o p found) ∙ ap (λ (d : OwnerData). Some d) same ∙ sym (ap (option_map owner_data) found)))

-- the same where the stores are equal to those
pub renews_kept_at : (a s t : StoreView) (key : ℕ) (o p : OwnerView) → s ≡ a → owner_at s key ≡ Some o → 0 < o.holders → owner_data p ≡ owner_data o → t ≡ with_owner s key p → Renews a t []
renews_kept_at a s t key o p same found held kept put =
    subst (λ (x : StoreView). Renews x t []) same (subst (λ (x : StoreView). Renews s x []) (sym put) (renews_kept s key o p found held kept))

pub renews_held : (s : StoreView) (key n : ℕ) → 0 < holders_of s key → Renews s (with_holders s key n) []
renews_held s key n held = renews_kept s key (owner_of s key) _ (owner_found s key held) held refl

pub renews_freed : (s : StoreView) (key : ℕ) → 0 < holders_of s key → Renews s (without_owner s key) []
renews_freed s key held =
    let gone = ap (λ (o : Option OwnerView). (unwrap_or o no_owner).holders) (owner_at-without_owner s key _ (owner_found s key held)) in
    renews_one s (without_owner s key) key [] (λ other differs. owner_at-without_owner_other s key other differs) (λ live. absurd (omega (arith, gone, live)))

pub renews_counted : (a b : StoreView) → OnlyCounted a b → Renews a b []
renews_counted a b only =
    let same : Renews a (record a { counts = b.counts }) [] = record { each = λ key live. inl (live, refl) } in
    subst (λ (s : StoreView). Renews a s []) (sym only) same

pub renews_written : (s : StoreView) (key place : ℕ) (c : ℤ) → 0 < holders_of s key → Renews s (with_cell s key place c) (record { key = key; cells = length (cells_of s key) } ∷ [])
renews_written s key place c held =
    let came : Came = record { key = key; cells = length (cells_of s key) } in
    let written = owner_at-with_cell s key place c _ (owner_found s key held) in
    let cells = ap (λ (o : OwnerView). length o.cells) (owner_of-found (with_cell s key place c) key _ written) in
    renews_one s (with_cell s key place c) key (came ∷ []) (λ other differs. owner_at-with_owner_other s key other _ differs)
    (λ live. inr (came, (0, omega arith, refl), refl, omega (arith, cells, length-set {A = ℤ})))

-- ---- charges

-- the cells of the owner in a slot
abbrev many : List (Option OwnerView) → ℕ → ℕ
many xs k = cells_in (get_or xs k None)

-- cells that are charged to sizes apart are at most these together
pub sum_charged : (xs : List (Option OwnerView)) (sizes : List ℕ) (charge : ℕ → ℕ) → ((k : ℕ) → many xs k ≤ get_or sizes (charge k) 0) → ((k l : ℕ) → 0 < many xs k → 0 < many xs l → charge k ≡ charge l → k ≡ l) → sum_by cells_in xs ≤ sum sizes
sum_charged [] sizes charge room apart = omega arith
sum_charged (x ∷ xs) sizes charge room apart = elim (cases_lt 0 (cells_in x)) [
  | inl some ↦
      let c = charge 0 in
      let fits : cells_in x ≤ get_or sizes c 0 = room 0 in
      let within : c < length sizes = grind (arith, get_or_past) in
      let less : sum (set sizes c 0) + get_or sizes c 0 ≡ sum sizes = omega (arith, sum_by-set (λ n. n) sizes c 0 0 within) in
      let rest : sum_by cells_in xs ≤ sum (set sizes c 0) = sum_charged xs (set sizes c 0) (λ k. charge (suc k))
      (λ k. elim (cases_lt 0 (many xs k)) [
        | inl here ↦
            let differs : charge (suc k) ≢ c = λ same. let e : suc k ≡ 0 = apart (suc k) 0 here some same in absurd (omega (arith, e)) in
            subst (λ n. many xs k ≤ n) (sym (get_or-set_other sizes c (charge (suc k)) 0 0 differs)) (room (suc k))
        | inr none ↦ omega (arith, none)
      ])
      (λ k l p q same. let e : suc k ≡ suc l = apart (suc k) (suc l) p q same in omega (arith, e)) in
      omega (arith, sum_by-cons cells_in x xs, fits, less, rest)
  | inr none ↦
      let rest : sum_by cells_in xs ≤ sum sizes = sum_charged xs sizes (λ k. charge (suc k)) (λ k. room (suc k))
      (λ k l p q same. let e : suc k ≡ suc l = apart (suc k) (suc l) p q same in omega (arith, e)) in
      omega (arith, sum_by-cons cells_in x xs, none, rest)
]

-- a slot's cells are those that a look-up finds
cells_in-is : (o : Option OwnerView) → cells_in o ≡ length (unwrap_or o no_owner).cells
cells_in-is None = refl
cells_in-is (Some o) = refl

pub live_at_most : (s : StoreView) (sizes : List ℕ) (charge : ℕ → ℕ) → IsStore s → IsCharged s sizes charge → s.live ≤ sum sizes
live_at_most s sizes charge store charged =
    let all : sum_by cells_in s.owners ≤ sum sizes = sum_charged s.owners sizes charge
    (λ k. omega (arith, cells_in-is (owner_at s k), charged.room k))
    (λ k l p q same. charged.apart k l (omega (arith, cells_in-is (owner_at s k), p)) (omega (arith, cells_in-is (owner_at s l), q)) same) in
    omega (arith, store.live, all)

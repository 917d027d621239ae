-- Each live owner charged to its place among those that came.
use Rattle.std.proofs.Common.{◌≡◌, ℕ, ◌<◌, ◌≤◌, List, length, map, get_or, Option, unwrap_or, sym, ap, ◌∙◌, subst, inl, inr, arith}
use Rattle.std.specs.Prelude.{sum}
use Rattle.std.proofs.lemmas.Bool.{cases_lt}
use Rattle.std.proofs.lemmas.List.{get_or_default, get_or-map}
use Rattle.array_store.specs.Stores.{OwnerView, StoreView, IsStore, empty_store, no_owner, holders_of, cells_of}
use Rattle.array_store.specs.Came.{Came, Renews, IsCharged}
use Rattle.array_store.proofs.StoreLemmas.{nobody_holds_none}
use Rattle.array_store.proofs.CameLemmas.{live_at_most}

-- one of those that came, at this place, is the owner at the key
record IsAt (new : StoreView) (came : List Came) (key place : ℕ) : Type 0 where
  one : Came
  below : place < length came
  there : get_or came place one ≡ one
  key_is : one.key ≡ key
  fits : length (cells_of new key) ≤ one.cells

-- a place for each key, which is the owner's where it is live
record Charge (new : StoreView) (came : List Came) (key : ℕ) : Type 0 where
  place : ℕ
  is_at : 0 < holders_of new key → IsAt new came key place

charge_of : (limit : ℕ) (new : StoreView) (came : List Came) → Renews (empty_store limit) new came → (key : ℕ) → Charge new came key
charge_of limit new came renews key = elim (cases_lt 0 (holders_of new key)) [
  | inl live ↦ elim (renews.each key live) [
    | inl stayed ↦ let none : 0 < 0 = stayed.0 in absurd (omega (arith, none))
    | inr among ↦ record {
      place = among.1.0;
      is_at = λ h. record { one = among.0; below = among.1.1; there = among.1.2; key_is = among.2; fits = among.3 };
    }
  ]
  | inr none ↦ record { place = 0; is_at = λ live. absurd (omega (arith, none, live)) }
]

-- an owner with cells is live
live_with_cells : (new : StoreView) (key : ℕ) → IsStore new → 0 < length (cells_of new key) → 0 < holders_of new key
live_with_cells new key store some = elim (cases_lt 0 (holders_of new key)) [
  | inl live ↦ live
  | inr none ↦
      let free = nobody_holds_none new key store (omega (arith, none)) in
      let cells = ap (λ (o : Option OwnerView). length (unwrap_or o no_owner).cells) free in
      absurd (omega (arith, cells, some))
]

sizes_of : List Came → List ℕ
sizes_of came = map (λ (c : Came). c.cells) came

-- the owner's size is at its place
room_at : (new : StoreView) (came : List Came) (key place : ℕ) → IsAt new came key place → length (cells_of new key) ≤ get_or (sizes_of came) place 0
unfolding sizes_of
room_at new came key place at =
    let f : Came → ℕ = λ c. c.cells in
    let size : get_or (map f came) place 0 ≡ at.one.cells = get_or-map f came place at.one 0 at.below ∙ ap f at.there in
    omega (arith, size, at.fits)

-- and two owners at one place are one
same_key : (new : StoreView) (came : List Came) (key other place : ℕ) → IsAt new came key place → IsAt new came other place → key ≡ other
same_key new came key other place at too =
    let one : at.one ≡ too.one = sym at.there ∙ get_or_default came place at.one too.one at.below ∙ too.there in
    sym at.key_is ∙ ap (λ (c : Came). c.key) one ∙ too.key_is

pub live_of_came : (limit : ℕ) (new : StoreView) (came : List Came) → IsStore new → Renews (empty_store limit) new came → new.live ≤ sum (map (λ (c : Came). c.cells) came)
unfolding sizes_of
live_of_came limit new came store renews =
    let charge : (key : ℕ) → Charge new came key = charge_of limit new came renews in
    let charged : IsCharged new (sizes_of came) (λ key. (charge key).place) = record {
      room = λ key. elim (cases_lt 0 (length (cells_of new key))) [
        | inl some ↦ room_at new came key (charge key).place ((charge key).is_at (live_with_cells new key store some))
        | inr none ↦ omega (arith, none)
      ];
      apart = λ key other some more same. same_key new came key other (charge other).place
          (subst (IsAt new came key) same ((charge key).is_at (live_with_cells new key store some)))
          ((charge other).is_at (live_with_cells new other store more));
    } in
    live_at_most new (sizes_of came) (λ key. (charge key).place) store charged

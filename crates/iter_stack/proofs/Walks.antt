-- Facts on the two walks over the indices of a shape.
use Rattle.std.proofs.Common.{◌≡◌, ℕ, ◌+◌, ◌-◌, ◌<◌, ◌≤◌, Bool, true, false, List, [], ◌∷◌, ◌++◌, map, length, get_or, drop, refl, sym, ap, ◌∙◌, inl, inr, arith, add-one}
use Rattle.std.proofs.Math.Seq.{drop-cons}
use Rattle.std.proofs.Math.ListN.{drop_of_length-le}
use Rattle.std.proofs.lemmas.Bool.{cases_lt}
use Rattle.std.proofs.lemmas.List.{length-map, length-drop, get_or-map}
use Rattle.std.specs.Iterator.{Yields, YieldsFirstBy}
use Rattle.apl_base.specs.Array.{IsIndex, size_of, index_at}
use Rattle.apl_base.specs.Elements.{indices}
use Rattle.apl_base.proofs.Elements.{length-indices, indices-at}
use Rattle.apl_base.proofs.Sizes.{IsIndex-length, IsIndex-index_at, IsIndex-below, IsIndex-set}
use Rattle.iter_stack.specs.Indices.{indices_back, from_the_end, walk, item}

-- as many items as elements
pub length-walk : (back : Bool) (ns : List ℕ) → length (walk back ns) ≡ size_of ns
length-walk true ns = length-map (indices ns) (from_the_end ns) ∙ length-indices ns
length-walk false ns = length-indices ns

-- the item at a place of the walk backwards
pub indices_back-item : (ns : List ℕ) (p : ℕ) (d : List ℕ) → p < size_of ns → get_or (indices_back ns) p d ≡ from_the_end ns (index_at ns p)
indices_back-item ns p d h =
    let below : p < length (indices ns) = rw (length-indices ns) h in
    get_or-map (from_the_end ns) (indices ns) p d d below ∙ ap (from_the_end ns) (indices-at ns p d h)

-- the item at a place
pub walk-item : (back : Bool) (ns : List ℕ) (p : ℕ) (d : List ℕ) → p < size_of ns → get_or (walk back ns) p d ≡ item back ns p
walk-item true ns p d h = indices_back-item ns p d h
walk-item false ns p d h = indices-at ns p d h

-- what is left of the walk at a place, and at its end
pub walk-step : (back : Bool) (ns : List ℕ) (p : ℕ) → p < size_of ns → drop p (walk back ns) ≡ item back ns p ∷ drop (p + 1) (walk back ns)
walk-step back ns p h =
    let below : p < length (walk back ns) = rw (length-walk back ns) h in
    rw (add-one p, drop-cons (walk back ns) p [] below, walk-item back ns p [] h) refl

-- after as many items as elements nothing is left
pub walk-end : (back : Bool) (ns : List ℕ) → drop (size_of ns) (walk back ns) ≡ []
walk-end back ns = drop_of_length-le (walk back ns) (omega (arith, length-walk back ns))

-- an index counted from the end of its last axis is an index
pub IsIndex-from_the_end : (ns is : List ℕ) → IsIndex ns is → IsIndex ns (from_the_end ns is)
IsIndex-from_the_end ns is h =
    IsIndex-set ns is (length ns - 1) (get_or ns (length ns - 1) 0 - 1 - get_or is (length ns - 1) 0) h
    (λ b. let i : get_or is (length ns - 1) 0 < get_or ns (length ns - 1) 0 = IsIndex-below ns is (length ns - 1) h b in omega arith)

-- the last axis of an index: there is a number, and it is below the length
pub record Last (ns numbers : List ℕ) (last : ℕ) : Type 0 where
  pub there : last < length numbers
  pub axis : last < length ns
  pub below : get_or numbers last 0 < get_or ns last 0

-- an index of a shape with axes has a last number
pub last_number : (ns is numbers : List ℕ) (rank last : ℕ) → IsIndex ns is → numbers ≡ is → rank ≡ length ns → 1 ≤ rank → last ≡ rank - 1 → Last ns numbers last
last_number ns is numbers rank last h same count some e =
    let axis : last < length ns = omega arith in
    let long : length is ≡ length ns = IsIndex-length ns is h in
    rw same record { there = omega arith; axis = omega arith; below = IsIndex-below ns is last h axis }

-- each item is an index of the shape
pub IsIndex-item : (back : Bool) (ns : List ℕ) (p : ℕ) → p < size_of ns → IsIndex ns (item back ns p)
IsIndex-item true ns p h = IsIndex-from_the_end ns (index_at ns p) (IsIndex-index_at ns p h)
IsIndex-item false ns p h = IsIndex-index_at ns p h

-- where an item comes from what is left after k items: it is the item number k, and then the items from k + 1 on are left
pub record Next (back : Bool) (ns : List ℕ) (k : ℕ) (i : List ℕ) (left : List (List ℕ)) : Type 0 where
  pub below : k < size_of ns
  pub is : i ≡ item back ns k
  pub lawful : IsIndex ns i
  pub rest : left ≡ drop (k + 1) (walk back ns)

next_below : (back : Bool) (ns : List ℕ) (k : ℕ) (i : List ℕ) (left : List (List ℕ)) → drop k (walk back ns) ≡ i ∷ left → k < size_of ns → Next back ns k i left
next_below back ns k i left e h =
    let step : drop k (walk back ns) ≡ item back ns k ∷ drop (k + 1) (walk back ns) = walk-step back ns k h in
    let same : i ≡ item back ns k = cc in
    record { below = h; is = same; lawful = rw same (IsIndex-item back ns k h); rest = cc }

no_more : (back : Bool) (ns : List ℕ) (k : ℕ) (i : List ℕ) (left : List (List ℕ)) → drop k (walk back ns) ≡ i ∷ left → size_of ns ≤ k → ⊥
no_more back ns k i left e h =
    let past : length (walk back ns) ≤ k = rw (length-walk back ns) h in
    let none : drop k (walk back ns) ≡ [] = drop_of_length-le (walk back ns) past in
    let apart : [] ≡ i ∷ left = sym none ∙ e in
    cc

-- what comes next of what is left
pub walk-next : (back : Bool) (ns : List ℕ) (k : ℕ) (i : List ℕ) (left : List (List ℕ)) → drop k (walk back ns) ≡ i ∷ left → Next back ns k i left
walk-next back ns k i left e =
    elim (cases_lt k (size_of ns)) [
      | inl h ↦ next_below back ns k i left e h
      | inr h ↦ absurd (no_more back ns k i left e h)
    ]

-- where no item is left after k items, these are all
pub walk-all : (back : Bool) (ns : List ℕ) (k : ℕ) → drop k (walk back ns) ≡ [] → size_of ns ≤ k
walk-all back ns k e =
    let count : length (walk back ns) ≡ size_of ns = length-walk back ns in
    let left : length (drop k (walk back ns)) ≡ length (walk back ns) - k = length-drop k (walk back ns) in
    let none : length (drop k (walk back ns)) ≡ 0 = ap length e in
    omega arith

-- what an iterator of this kind has given and has left, for a loop that reads the items so far
pub yielded-rest : {S A B : Type 0} (view : A → B) (rest : S → List B) (s : S) (xs : List A) (t : S) → Yields (YieldsFirstBy view rest) s xs t → rest s ≡ map view xs ++ rest t
yielded-rest view rest s [] t e = ap rest e
yielded-rest view rest s (x ∷ xs) t h = h.1 ∙ ap (λ ys. view x ∷ ys) (yielded-rest view rest h.0 xs t h.2)

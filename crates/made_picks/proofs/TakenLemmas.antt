-- What is taken of an array, by the tracks of its axes.
use Rattle.std.proofs.Common.{◌≡◌, ℕ, suc, ◌+◌, ◌-◌, ◌<◌, ◌≤◌, min, Bool, true, false, if◌then◌else◌, ℤ, pos, negsuc, ◌+ℤ◌, ◌*ℤ◌, List, [], ◌∷◌, ◌++◌, length, map, replicate, Option, Some, None, refl, sym, ap, ◌∙◌, arith}
use Rattle.std.specs.Prelude.{nat_lt, nat_le, int_lt, unsigned_abs}
use Rattle.std.specs.Option.{option_map}
use Rattle.std.proofs.lemmas.Bool.{ltb-true, lt-ltb, le-ltb, leb-true, le-leb, lt-leb}
use Rattle.std.proofs.lemmas.Int.{ints}
use Rattle.std.proofs.lemmas.List.Folds.{flat_map-map}
use Rattle.apl_base.specs.Array.{IsIndex, size_of}
use Rattle.apl_base.specs.Elements.{indices, all_defined}
use Rattle.apl_base.specs.Selection.{upward}
use Rattle.apl_base.proofs.Elements.{length-indices}
use Rattle.apl_base.proofs.Upward.{length-upward, length-map-upward, map-upward-same}
use Rattle.array_desc.specs.Desc.{dot}
use Rattle.apl_model.specs.Made.{taken_place, taken_places}
use Rattle.made_picks.specs.Picks.{picked, lengths_on, read_or}
use Rattle.made_picks.specs.Taken.{taken_on, taken_along}
use Rattle.made_picks.specs.Tracks.{stepped}
use Rattle.made_picks.proofs.JoinedLists.{flat_map-upward, map-each, map-constant, map-rows, map-three}

-- ---- one axis

-- what is taken lies on the axis
pub taken_place-below : (n : ℕ) (a : ℤ) (i v : ℕ) → i < unsigned_abs a → taken_place n a i ≡ Some v → v < n
taken_place-below n (pos a) i v h e = by (nat_lt i n) refl e
  where
    by : (t : Bool) → nat_lt i n ≡ t → (if t then Some i else None) ≡ Some v → v < n
    by true p q = let same : i ≡ v = cc in omega (arith, same, ltb-true i n p)
    by false p q = absurd cc
taken_place-below n (negsuc a) i v h e = by (nat_le (suc a) (n + i)) refl e
  where
    by : (t : Bool) → nat_le (suc a) (n + i) ≡ t → (if t then Some (n + i - suc a) else None) ≡ Some v → v < n
    by true p q = let same : n + i - suc a ≡ v = cc in omega (arith, same, h, leb-true (suc a) (n + i) p)
    by false p q = absurd cc

taken-within : (n a i : ℕ) → i < n → taken_place n (pos a) i ≡ Some i
taken-within n a i h = rw (lt-ltb i n h) refl

taken-beyond : (n a i : ℕ) → n ≤ i → taken_place n (pos a) i ≡ None
taken-beyond n a i h = rw (le-ltb i n h) refl

taken-behind : (n a i v : ℕ) → suc a + v ≡ n + i → taken_place n (negsuc a) i ≡ Some v
taken-behind n a i v h =
    let e : n + i - suc a ≡ v = omega (arith, h) in
    rw (le-leb (suc a) (n + i) (omega (arith, h))) (ap Some e)

taken-before : (n a i : ℕ) → n + i < suc a → taken_place n (negsuc a) i ≡ None
taken-before n a i h = rw (lt-leb (suc a) (n + i) h) refl

-- a window as three stretches: none, numbers that rise, none
pub window_is : (n before from count after : ℕ) (a : ℤ) → unsigned_abs a ≡ before + count + after
    → ((i : ℕ) → i < before → taken_place n a i ≡ None)
    → ((j : ℕ) → j < count → taken_place n a (before + j) ≡ Some (from + j))
    → ((k : ℕ) → k < after → taken_place n a (before + count + k) ≡ None)
    → replicate before None ++ map (λ j. Some (pos from +ℤ (pos 1 *ℤ pos j))) (upward 0 count) ++ replicate after None ≡ taken_on n a
window_is n before from count after a many first middle last =
    let f : ℕ → Option ℤ = λ i. option_map pos (taken_place n a i) in
    let nothing : (m : ℕ) (g : ℕ → Option ℤ) → ((i : ℕ) → i < m → g i ≡ None) → map g (upward 0 m) ≡ replicate m None = λ m g e.
    map-upward-same g (λ i. None) 0 m (λ p low high. e p (omega (arith, high))) ∙ map-constant None (upward 0 m) ∙ ap (λ (k : ℕ). replicate k None) (long m) in
    let one : map f (upward 0 before) ≡ replicate before None = nothing before f (λ i h. ap (option_map pos) (first i h)) in
    let two : map (λ j. f (before + j)) (upward 0 count) ≡ map (λ j. Some (pos from +ℤ (pos 1 *ℤ pos j))) (upward 0 count) =
    map-upward-same (λ j. f (before + j)) (λ j. Some (pos from +ℤ (pos 1 *ℤ pos j))) 0 count (λ j low high.
    let e : pos (from + j) ≡ pos from +ℤ (pos 1 *ℤ pos j) = omega (arith, ints) in
    ap (option_map pos) (middle j (omega (arith, high))) ∙ ap Some e) in
    let three : map (λ k. f (before + count + k)) (upward 0 after) ≡ replicate after None = nothing after (λ k. f (before + count + k)) (λ k h. ap (option_map pos) (last k h)) in
    sym (map-three f (unsigned_abs a) before count after many
    ∙ ap (λ (xs : List (Option ℤ)). xs ++ map (λ j. f (before + j)) (upward 0 count) ++ map (λ k. f (before + count + k)) (upward 0 after)) one
    ∙ ap (λ (xs : List (Option ℤ)). replicate before None ++ xs ++ map (λ k. f (before + count + k)) (upward 0 after)) two
    ∙ ap (λ (xs : List (Option ℤ)). replicate before None ++ map (λ j. Some (pos from +ℤ (pos 1 *ℤ pos j))) (upward 0 count) ++ xs) three)
  where
    long : (m : ℕ) → length (upward 0 m) ≡ m
    long m = length-upward 0 m

pub window_first : (n a kept : ℕ) → kept ≡ min a n → replicate 0 None ++ map (λ j. Some (pos 0 +ℤ (pos 1 *ℤ pos j))) (upward 0 kept) ++ replicate (a - kept) None ≡ taken_on n (pos a)
window_first n a kept is = window_is n 0 0 kept (a - kept) (pos a) (omega (arith, is)) (λ i h. absurd (omega (arith, h)))
    (λ j h. taken-within n a (0 + j) (omega (arith, h, is)))
    (λ k h. taken-beyond n a (0 + kept + k) (omega (arith, h, is)))

pub window_last : (n a kept : ℕ) → kept ≡ min (suc a) n → replicate (suc a - kept) None ++ map (λ j. Some (pos (n - kept) +ℤ (pos 1 *ℤ pos j))) (upward 0 kept) ++ replicate 0 None ≡ taken_on n (negsuc a)
window_last n a kept is = window_is n (suc a - kept) (n - kept) kept 0 (negsuc a) (omega (arith, is))
    (λ i h. taken-before n a i (omega (arith, h, is)))
    (λ j h. taken-behind n a (suc a - kept + j) (n - kept + j) (omega (arith, h, is)))
    (λ k h. absurd (omega (arith, h)))

-- ---- all axes

-- the cell at an index, or a blank
abbrev pub or_blank : ℤ → (List ℕ → ℤ) → Option (List ℕ) → ℤ
or_blank blank f None = blank
or_blank blank f (Some is) = f is

pub lengths_on-taken : (ns : List ℕ) (counts : List ℤ) → length ns ≡ length counts → lengths_on (taken_along ns counts) ≡ map unsigned_abs counts
lengths_on-taken [] [] h = refl
lengths_on-taken [] (a ∷ counts) h = absurd (omega (arith, h))
lengths_on-taken (n ∷ ns) [] h = absurd (omega (arith, h))
lengths_on-taken (n ∷ ns) (a ∷ counts) h =
    let here : length (taken_on n a) ≡ unsigned_abs a = length-map-upward (λ i. option_map pos (taken_place n a i)) 0 (unsigned_abs a) in
    let rest : lengths_on (taken_along ns counts) ≡ map unsigned_abs counts = lengths_on-taken ns counts (omega (arith, h)) in
    cc

-- one axis before others
picked-taken-axis : (cell : ℤ → ℤ) (blank : ℤ) (n : ℕ) (ns : List ℕ) (s : ℤ) (ss : List ℤ) (a : ℤ) (counts : List ℤ) (at : ℤ) (f : List ℕ → ℤ) → length ns ≡ length counts
    → ((v : ℕ) → v < n → picked cell blank ss (taken_along ns counts) (at +ℤ (s *ℤ pos v)) ≡ map (λ js. or_blank blank (λ is. f (v ∷ is)) (all_defined (taken_places ns counts js))) (indices (map unsigned_abs counts)))
    → picked cell blank (s ∷ ss) (taken_along (n ∷ ns) (a ∷ counts)) at ≡ map (λ js. or_blank blank f (all_defined (taken_places (n ∷ ns) (a ∷ counts) js))) (indices (map unsigned_abs (a ∷ counts)))
picked-taken-axis cell blank n ns s ss a counts at f q each =
    let ms : List ℕ = map unsigned_abs counts in
    let put : Option ℤ → List ℤ = read_or (replicate (size_of (lengths_on (taken_along ns counts))) blank) (λ z. picked cell blank ss (taken_along ns counts) (at +ℤ (s *ℤ z))) in
    let value : Option ℕ → List ℕ → ℤ = λ o js. or_blank blank f (all_defined (o ∷ taken_places ns counts js)) in
    flat_map-map put (λ i. option_map pos (taken_place n a i)) (upward 0 (unsigned_abs a))
    ∙ flat_map-upward (λ i. put (option_map pos (taken_place n a i))) (λ i. map (value (taken_place n a i)) (indices ms)) (unsigned_abs a) (λ i h. by i (taken_place n a i) h refl)
    ∙ sym (map-rows (unsigned_abs a) ms (λ js. or_blank blank f (all_defined (taken_places (n ∷ ns) (a ∷ counts) js))))
  where
    joined : (v : ℕ) (o : Option (List ℕ)) → or_blank blank (λ is. f (v ∷ is)) o ≡ or_blank blank f (option_map (λ is. v ∷ is) o)
    joined v None = refl
    joined v (Some is) = refl

    by : (i : ℕ) (o : Option ℕ) → i < unsigned_abs a → taken_place n a i ≡ o
        → read_or (replicate (size_of (lengths_on (taken_along ns counts))) blank) (λ z. picked cell blank ss (taken_along ns counts) (at +ℤ (s *ℤ z))) (option_map pos o)
        ≡ map (λ js. or_blank blank f (all_defined (o ∷ taken_places ns counts js))) (indices (map unsigned_abs counts))
    by i None h e =
        ap (λ (ks : List ℕ). replicate (size_of ks) blank) (lengths_on-taken ns counts q)
        ∙ ap (λ (k : ℕ). replicate k blank) (sym (length-indices (map unsigned_abs counts)))
        ∙ sym (map-constant blank (indices (map unsigned_abs counts)))
    by i (Some v) h e =
        each v (taken_place-below n a i v h e)
        ∙ map-each (λ js. or_blank blank (λ is. f (v ∷ is)) (all_defined (taken_places ns counts js))) (λ js. or_blank blank f (all_defined (Some v ∷ taken_places ns counts js))) (indices (map unsigned_abs counts))
        (λ js. joined v (all_defined (taken_places ns counts js)))

-- what the tracks pick is what is taken, where the numbers of the indices have these cells
pub picked-taken : (cell : ℤ → ℤ) (blank : ℤ) (ns : List ℕ) (ss counts : List ℤ) (at : ℤ) (f : List ℕ → ℤ) → length ss ≡ length ns → length ns ≡ length counts
    → ((is : List ℕ) → IsIndex ns is → cell (at +ℤ dot ss is) ≡ f is)
    → picked cell blank ss (taken_along ns counts) at ≡ map (λ js. or_blank blank f (all_defined (taken_places ns counts js))) (indices (map unsigned_abs counts))
picked-taken cell blank [] [] [] at f p q same =
    let e : at ≡ at +ℤ dot [] [] = omega (arith, ints) in
    let here : cell at ≡ f [] = ap cell e ∙ same [] tt in
    ap (λ (z : ℤ). z ∷ []) here
picked-taken cell blank [] (s ∷ ss) counts at f p q same = absurd (omega (arith, p))
picked-taken cell blank [] [] (a ∷ counts) at f p q same = absurd (omega (arith, q))
picked-taken cell blank (n ∷ ns) [] counts at f p q same = absurd (omega (arith, p))
picked-taken cell blank (n ∷ ns) (s ∷ ss) [] at f p q same = absurd (omega (arith, q))
picked-taken cell blank (n ∷ ns) (s ∷ ss) (a ∷ counts) at f p q same =
    picked-taken-axis cell blank n ns s ss a counts at f (omega (arith, q)) (λ v below.
    picked-taken cell blank ns ss counts (at +ℤ (s *ℤ pos v)) (λ is. f (v ∷ is)) (omega (arith, p)) (omega (arith, q)) (λ is index.
    let g : (at +ℤ (s *ℤ pos v)) +ℤ dot ss is ≡ at +ℤ ((s *ℤ pos v) +ℤ dot ss is) = omega (arith, ints) in
    ap cell g ∙ same (v ∷ is) (below, index)))

-- ---- windows

pub window_back : (n : ℕ) (z from : ℤ) (asked kept : ℕ) → asked ≡ unsigned_abs z → kept ≡ min asked n → from ≡ pos (n - kept) → int_lt z (pos 0) ≡ true
    → replicate (asked - kept) None ++ stepped from (pos 1) kept ++ replicate 0 None ≡ taken_on n z
window_back n (pos a) from asked kept many is at low = absurd (omega (arith, ints, low))
window_back n (negsuc a) from asked kept many is at low =
    let long : asked ≡ suc a = many in
    rw (at, long) (window_last n a kept (omega (arith, is, long)))

pub window_front : (n : ℕ) (z : ℤ) (asked kept : ℕ) → asked ≡ unsigned_abs z → kept ≡ min asked n → int_lt z (pos 0) ≡ false
    → replicate 0 None ++ stepped (pos 0) (pos 1) kept ++ replicate (asked - kept) None ≡ taken_on n z
window_front n (pos a) asked kept many is low =
    let long : asked ≡ a = many in
    rw long (window_first n a kept (omega (arith, is, long)))
window_front n (negsuc a) asked kept many is low = absurd (omega (arith, ints, low))

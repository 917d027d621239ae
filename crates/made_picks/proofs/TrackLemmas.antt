-- The places of tracks.
use mir.Syntax.{w128}
use Rattle.std.proofs.Common.{◌≡◌, ℕ, zero, suc, ◌+◌, ◌-◌, ◌*◌, ◌^◌, ◌<◌, ◌≤◌, ℤ, pos, ◌+ℤ◌, ◌*ℤ◌, List, [], ◌∷◌, ◌++◌, length, map, take, drop, get_or, replicate, Option, Some, None, refl, sym, ap, ◌∙◌, add-one, length-append, arith}
use Rattle.std.specs.Prelude.{unsigned_abs}
use Rattle.std.proofs.Common.{FitsSigned}
use Rattle.std.proofs.lemmas.Int.{ints, fits_signed_from_abs}
use Rattle.std.proofs.lemmas.List.{length-map, length-replicate, get_or_past, get_or-append_right, get_or-map, take-append-drop, take_all}
use Rattle.apl_base.specs.Array.{size_of}
use Rattle.apl_base.specs.Number.{IsNumber}
use Rattle.apl_base.proofs.Numbers.{magnitude-IsNumber}
use Rattle.apl_base.proofs.Sizes.{size_of-append, size_of-take-suc}
use Rattle.apl_base.proofs.Upward.{length-map-upward, get_or-map-places}
use Rattle.made_picks.specs.declared.tracks.Track.{Track}
use Rattle.made_picks.specs.Picks.{lengths_on}
use Rattle.made_picks.specs.Tracks.{stepped, places_on}

-- how many there are
pub length-line : (before after count : ℕ) (from step : ℤ) → length (replicate before None ++ stepped from step count ++ replicate after None) ≡ before + count + after
length-line before after count from step =
    let two = length-append (replicate before None ++ stepped from step count) (replicate after None) in
    let one = length-append {A = Option ℤ} (replicate before None) (stepped from step count) in
    omega (arith, two, one, length-replicate {A = Option ℤ} before None, length-replicate {A = Option ℤ} after None, length-map-upward (λ j. Some (from +ℤ (step *ℤ pos j))) 0 count)

-- ---- numbers of a machine

pub fits_number : (z : ℤ) → IsNumber z → FitsSigned w128 z
fits_number z h = fits_signed_from_abs w128 z (omega (arith, magnitude-IsNumber z h))

-- what lies between two numbers
pub between_few : (a p : ℤ) → IsNumber a → IsNumber (a +ℤ p) → unsigned_abs p ≤ 2 * 10 ^ 36
between_few a p h k = omega (arith, ints, h.least, h.most, k.least, k.most)

pub fits_between : (a p : ℤ) → IsNumber a → IsNumber (a +ℤ p) → FitsSigned w128 p
fits_between a p h k = fits_signed_from_abs w128 p (omega (arith, between_few a p h k))

-- ---- a line by its numbers

pub line-beyond : (before count j : ℕ) (from step : ℤ) → before ≤ j → count ≤ j - before → get_or (replicate before None ++ stepped from step count) j None ≡ None
line-beyond before count j from step low high =
    get_or_past (replicate before None ++ stepped from step count) j None
    (omega (arith, low, high, length-append {A = Option ℤ} (replicate before None) (stepped from step count), length-replicate {A = Option ℤ} before None, length-map-upward (λ j. Some (from +ℤ (step *ℤ pos j))) 0 count))

pub line-within : (before count j : ℕ) (from step : ℤ) → before ≤ j → j - before < count → get_or (replicate before None ++ stepped from step count) j None ≡ Some (from +ℤ (step *ℤ pos (j - before)))
line-within before count j from step low high =
    get_or-append_right (replicate before None) (stepped from step count) before j None (length-replicate {A = Option ℤ} before None) low
    ∙ get_or-map-places (λ i. Some (from +ℤ (step *ℤ pos i))) count (j - before) None high

none-at : (n j : ℕ) → (let o : Option ℤ = None in get_or (replicate n o) j o ≡ o)
none-at zero j = refl
none-at (suc n) zero = refl
none-at (suc n) (suc j) = none-at n j

-- what lies behind a list is none
pub none-behind : (xs : List (Option ℤ)) (n j : ℕ) → get_or (xs ++ replicate n None) j None ≡ get_or xs j None
none-behind [] n j = none-at n j
none-behind (x ∷ xs) n zero = refl
none-behind (x ∷ xs) n (suc j) = none-behind xs n j

-- ---- how many elements tracks pick

pub prefix_few : (ns : List ℕ) (k : ℕ) → 0 < size_of ns → size_of (take k ns) ≤ size_of ns
prefix_few ns k some =
    let e : size_of ns ≡ size_of (take k ns) * size_of (drop k ns) = ap size_of (sym (take-append-drop k ns)) ∙ size_of-append (take k ns) (drop k ns) in
    by (size_of (take k ns)) (size_of (drop k ns)) (size_of ns) e some
  where
    by : (a b s : ℕ) → s ≡ a * b → 0 < s → a ≤ s
    by a zero s e h = absurd (omega (arith, e, h))
    by a (suc b) s e h = omega (arith, e)

-- one track more
pub count_more : (tracks : List Track) (i count more : ℕ) (t : Track) → i < length tracks → t ≡ get_or tracks i t → more ≡ length (places_on t) → count ≡ size_of (take i (lengths_on (map places_on tracks))) → count * more ≡ size_of (take (i + 1) (lengths_on (map places_on tracks)))
count_more tracks i count more t below is long so_far =
    let many : length (map places_on tracks) ≡ length tracks = length-map tracks places_on in
    let longer : length (lengths_on (map places_on tracks)) ≡ length tracks = length-map (map places_on tracks) length ∙ many in
    let here : get_or (lengths_on (map places_on tracks)) i 0 ≡ length (places_on t) =
    get_or-map length (map places_on tracks) i [] 0 (omega (arith, below, many))
    ∙ ap length (get_or-map places_on tracks i t [] below ∙ ap places_on (sym is)) in
    sym (ap (λ (k : ℕ). size_of (take k (lengths_on (map places_on tracks)))) (add-one i)
    ∙ size_of-take-suc (lengths_on (map places_on tracks)) i (omega (arith, below, longer))
    ∙ ap (λ (k : ℕ). size_of (take i (lengths_on (map places_on tracks))) * k) (here ∙ sym long)
    ∙ ap (λ (k : ℕ). k * more) (sym so_far))

pub count_all : (tracks : List Track) (i : ℕ) → length tracks ≤ i → take i (lengths_on (map places_on tracks)) ≡ lengths_on (map places_on tracks)
count_all tracks i h = take_all i (lengths_on (map places_on tracks)) (omega (arith, h, length-map (map places_on tracks) length, length-map tracks places_on))

-- The number that digits in bases make, digit by digit.
use Rattle.std.proofs.Common.{◌≡◌, ◌==◌, ℕ, zero, suc, ◌+◌, ◌<◌, ◌≤◌, Bool, true, false, not, ◌&&◌, ◌||◌, ℤ, pos, ◌+ℤ◌, ◌*ℤ◌, List, [], ◌∷◌, ◌++◌, length, length-take, take, get_or, replicate, Option, Some, None, Ok, All, refl, sym, ap, ◌∙◌, subst, arith}
use Rattle.std.specs.Prelude.{if◌then◌else◌}
use Rattle.std.specs.Option.{option_and_then}
use Rattle.std.proofs.lemmas.List.{take_more}
use Rattle.std.proofs.Math.Seq.{take-length}
use Rattle.std.proofs.lemmas.Bool.Decides.{nat_tests}
use Rattle.apl_base.specs.Array.{Array}
use Rattle.apl_base.specs.Number.{IsNumber}
use Rattle.apl_base.specs.Scalar.{in_range}
use Rattle.apl_base.proofs.Numbers.{IsNumber-small}
use Rattle.array_store.specs.Stores.{StoreView}
use Rattle.array_store.specs.declared.ids.Counts.{Counts}
use Rattle.drag_along.specs.declared.leaves.Leaf.{Leaf}
use Rattle.drag_along.specs.declared.leaves.Leaf.TheVariants.{Stored, Gen}
use Rattle.drag_along.specs.Lawful.{IsLawfulLeaf}
use Rattle.leaf_names.specs.Variables.{array_of}
use Rattle.array_store.specs.Counting.{OnlyFetched}
use Rattle.array_store.proofs.CountingLemmas.{OnlyFetched-then, OnlyFetched-more}
use Rattle.apl_model.specs.Whole.{count, first, is_single, is_char, is_text, rank, error_if, or_domain, scalar}
use Rattle.apl_model.specs.Made.{decode, decoded, matched, is_above_one}
use Rattle.apl_base.specs.declared.cells.Kind.{Kind}
use Rattle.apl_base.specs.declared.cells.Kind.TheVariants.{Num}
use Rattle.apl_base.specs.declared.faults.ErrorKind.TheVariants as error
use Rattle.value_fns.proofs.Ends.{passes}
use Rattle.value_fns.specs.Decoded.{AreOfOneLength, decoded_of, only_of, spent, once_more}

-- one digit more
abbrev pub digit_on : ℤ → ℤ → Option ℤ → Option ℤ
digit_on a b r = option_and_then (λ n. option_and_then (λ m. in_range (m +ℤ b)) (in_range (n *ℤ a))) r

decoded-more : (r : Option ℤ) (xs ys : List ℤ) (a b : ℤ) → length xs ≡ length ys → decoded r (xs ++ a ∷ []) (ys ++ b ∷ []) ≡ digit_on a b (decoded r xs ys)
decoded-more r [] [] a b same = refl
decoded-more r [] (y ∷ ys) a b same = absurd (omega arith)
decoded-more r (x ∷ xs) [] a b same = absurd (omega arith)
decoded-more r (x ∷ xs) (y ∷ ys) a b same = decoded-more (digit_on x y r) xs ys a b (omega arith)

-- where there is no number there is none further on
decoded-none : (xs ys : List ℤ) → decoded None xs ys ≡ None
decoded-none [] ys = refl
decoded-none (x ∷ xs) [] = refl
decoded-none (x ∷ xs) (y ∷ ys) = decoded-none xs ys

decoded-stops : (r : Option ℤ) (xs ys : List ℤ) (k : ℕ) → decoded r (take k xs) (take k ys) ≡ None → decoded r xs ys ≡ None
decoded-stops r xs ys zero e = ap (λ (o : Option ℤ). decoded o xs ys) e ∙ decoded-none xs ys
decoded-stops r [] ys (suc k) e = e
decoded-stops r (x ∷ xs) [] (suc k) e = e
decoded-stops r (x ∷ xs) (y ∷ ys) (suc k) e = decoded-stops (digit_on x y r) xs ys k e

-- the numbers of one place more
decoded-next : (xs ys : List ℤ) (k : ℕ) (n base digit : ℤ) → k < length xs → k < length ys → Some n ≡ decoded (Some (pos 0)) (take k xs) (take k ys) → base ≡ get_or xs k (pos 0) → digit ≡ get_or ys k (pos 0) → digit_on base digit (Some n) ≡ decoded (Some (pos 0)) (take (k + 1) xs) (take (k + 1) ys)
decoded-next xs ys k n base digit left right so_far b d =
    let same : length (take k xs) ≡ length (take k ys) = omega (arith, length-take k xs, length-take k ys) in
    let more = decoded-more (Some (pos 0)) (take k xs) (take k ys) (get_or xs k (pos 0)) (get_or ys k (pos 0)) same in
    ap (digit_on base digit) so_far
    ∙ ap (λ (z : ℤ). digit_on z digit (decoded (Some (pos 0)) (take k xs) (take k ys))) b
    ∙ ap (λ (z : ℤ). digit_on (get_or xs k (pos 0)) z (decoded (Some (pos 0)) (take k xs) (take k ys))) d
    ∙ sym more
    ∙ ap (λ (zs : List ℤ). decoded (Some (pos 0)) zs (take k ys ++ get_or ys k (pos 0) ∷ [])) (sym (take_more xs k (pos 0) left))
    ∙ ap (λ (zs : List ℤ). decoded (Some (pos 0)) (take (k + 1) xs) zs) (sym (take_more ys k (pos 0) right))

pub decoded_step : (xs ys : List ℤ) (k : ℕ) (n base digit next : ℤ) → k < length xs → k < length ys → Some n ≡ decoded (Some (pos 0)) (take k xs) (take k ys) → base ≡ get_or xs k (pos 0) → digit ≡ get_or ys k (pos 0) → Some next ≡ option_and_then (λ m. in_range (m +ℤ digit)) (in_range (n *ℤ base)) → Some next ≡ decoded (Some (pos 0)) (take (k + 1) xs) (take (k + 1) ys)
decoded_step xs ys k n base digit next left right so_far b d e = e ∙ decoded-next xs ys k n base digit left right so_far b d

pub decoded_stop : (xs ys : List ℤ) (k : ℕ) (n base digit : ℤ) → k < length xs → k < length ys → Some n ≡ decoded (Some (pos 0)) (take k xs) (take k ys) → base ≡ get_or xs k (pos 0) → digit ≡ get_or ys k (pos 0) → None ≡ option_and_then (λ m. in_range (m +ℤ digit)) (in_range (n *ℤ base)) → None ≡ decoded (Some (pos 0)) xs ys
decoded_stop xs ys k n base digit left right so_far b d e =
    sym (decoded-stops (Some (pos 0)) xs ys (k + 1) (sym (e ∙ decoded-next xs ys k n base digit left right so_far b d)))

-- ---- matched arguments

-- how many places there are
abbrev pub places_of : Array → Array → ℕ
places_of a b = if is_single a then count b else count a

length-replicated : (n : ℕ) (z : ℤ) → length (replicate n z) ≡ n
length-replicated zero z = refl
length-replicated (suc n) z = ap suc (length-replicated n z)

matched-length : (a : Array) (n : ℕ) → length a.cells ≡ count a → (is_single a ≡ false → count a ≡ n) → length (matched a n) ≡ n
matched-length a n long many = by (is_single a) many
  where
    by : (t : Bool) → (t ≡ false → count a ≡ n) → length (if t then replicate n (first a) else a.cells) ≡ n
    by true h = length-replicated n (first a)
    by false h = long ∙ h refl

pub left_length : (a b : Array) → length a.cells ≡ count a → length (matched a (places_of a b)) ≡ places_of a b
left_length a b long = matched-length a (places_of a b) long (λ e. ap (λ (t : Bool). if t then count b else count a) (sym e))

right_places : (a b : Array) → AreOfOneLength a b → is_single b ≡ false → count b ≡ places_of a b
right_places a b h e = by (is_single a) (ap (λ (t : Bool). not (is_single a) && not t && not (count a == count b)) (sym e) ∙ h)
  where
    tested : (t : Bool) → (count a == count b) ≡ t → not t ≡ false → count b ≡ count a
    tested true f g = grind (arith, nat_tests)
    tested false f g = absurd cc

    by : (t : Bool) → (not t && true && not (count a == count b)) ≡ false → count b ≡ (if t then count b else count a)
    by true g = refl
    by false g = tested (count a == count b) refl g

pub right_length : (a b : Array) → length b.cells ≡ count b → AreOfOneLength a b → length (matched b (places_of a b)) ≡ places_of a b
right_length a b long h = matched-length b (places_of a b) long (right_places a b h)

-- a place that is read where there is no only cell lies in the array
not_single : (a : Array) → only_of a ≡ None → is_single a ≡ false
not_single a e = by (is_single a) e
  where
    by : (t : Bool) → (let o : Option ℤ = (if t then Some (first a) else None) in o) ≡ None → t ≡ false
    by true f = absurd cc
    by false f = refl

pub left_place : (a b : Array) (only : Option ℤ) (k : ℕ) → only ≡ only_of a → k < places_of a b → only ≡ None → k < count a
left_place a b only k is below none =
    let e : places_of a b ≡ count a = ap (λ (t : Bool). if t then count b else count a) (not_single a (sym is ∙ none)) in
    omega (arith, e, below)

pub right_place : (a b : Array) (only : Option ℤ) (k : ℕ) → AreOfOneLength a b → only ≡ only_of b → k < places_of a b → only ≡ None → k < count b
right_place a b only k h is below none = omega (arith, below, right_places a b h (not_single b (sym is ∙ none)))

-- each of the cells is a number
number_at : (xs : List ℤ) (k : ℕ) → All IsNumber xs → IsNumber (get_or xs k (pos 0))
number_at [] k h = IsNumber-small 0 (omega arith)
number_at (x ∷ xs) zero h = h 0 (pos 0) (omega arith)
number_at (x ∷ xs) (suc k) h = number_at xs k (λ j d below. h (suc j) d (omega arith))

replicated-number : (n k : ℕ) (z : ℤ) → IsNumber z → IsNumber (get_or (replicate n z) k (pos 0))
replicated-number zero k z h = IsNumber-small 0 (omega arith)
replicated-number (suc n) zero z h = h
replicated-number (suc n) (suc k) z h = replicated-number n k z h

pub matched_number : (a : Array) (n k : ℕ) → All IsNumber a.cells → IsNumber (get_or (matched a n) k (pos 0))
matched_number a n k h = by (is_single a)
  where
    by : (t : Bool) → IsNumber (get_or (if t then replicate n (first a) else a.cells) k (pos 0))
    by true = replicated-number n k (first a) (number_at a.cells 0 h)
    by false = number_at a.cells k h

-- ---- what is fetched

spent-on : (a : Array) (k : ℕ) → spent a k + once_more a ≡ spent a (k + 1)
spent-on a k = by (is_single a)
  where
    by : (t : Bool) → (if t then 1 else k) + (if t then 0 else 1) ≡ (if t then 1 else k + 1)
    by true = refl
    by false = refl

-- two cells more
pub fetched_on : (s t u v : StoreView) (a b : Array) (k : ℕ) → OnlyFetched s t (spent a k + spent b k) → OnlyFetched t u (once_more a) → OnlyFetched u v (once_more b) → OnlyFetched s v (spent a (k + 1) + spent b (k + 1))
fetched_on s t u v a b k f g h =
    OnlyFetched-more s v (spent a k + spent b k + once_more a + once_more b) (spent a (k + 1) + spent b (k + 1)) (omega (arith, spent-on a k, spent-on b k))
    (OnlyFetched-then s u v (spent a k + spent b k + once_more a) (once_more b) (OnlyFetched-then s t u (spent a k + spent b k) (once_more a) f g) h)

spent-most : (a : Array) (k n : ℕ) → k ≤ n → (is_single a ≡ false → n ≡ count a) → spent a k ≤ count a
spent-most a k n low h = by (is_single a) refl
  where
    by : (t : Bool) → is_single a ≡ t → (if t then 1 else k) ≤ count a
    by true e = grind (arith, nat_tests)
    by false e = omega (arith, h e, low)

pub fetched_all : (s t : StoreView) (a b : Array) (k : ℕ) → AreOfOneLength a b → k ≤ places_of a b → OnlyFetched s t (spent a k + spent b k) → OnlyFetched s t (count a + count b)
fetched_all s t a b k h low f =
    OnlyFetched-more s t (spent a k + spent b k) (count a + count b)
    (omega (arith, spent-most a k (places_of a b) low (λ e. ap (λ (t : Bool). if t then count b else count a) e), spent-most b k (places_of a b) low (λ e. sym (right_places a b h e)))) f

-- ---- as code has them

pub places_single : (a b : Array) (m n p : ℕ) → m ≡ count a → m ≡ 1 → p ≡ n → n ≡ count b → p ≡ places_of a b
places_single a b m n p is one e f =
    let t : is_single a ≡ true = grind (arith, nat_tests) in
    e ∙ f ∙ ap (λ (t : Bool). if t then count b else count a) (sym t)

pub places_other : (a b : Array) (m p : ℕ) → m ≡ count a → (m ≡ 1 → ⊥) → p ≡ m → p ≡ places_of a b
places_other a b m p is other e =
    let t : is_single a ≡ false = grind (arith, nat_tests) in
    e ∙ is ∙ ap (λ (t : Bool). if t then count b else count a) (sym t)

-- what was only fetched leaves the arrays
pub same_array : (s t : StoreView) (leaf : Leaf) (n : ℕ) → OnlyFetched s t n → array_of t leaf ≡ array_of s leaf
same_array s t leaf n f = ap (λ (u : StoreView). array_of u leaf) f.only

pub same_lawful : (s t : StoreView) (leaf : Leaf) (n : ℕ) → OnlyFetched s t n → IsLawfulLeaf s leaf → IsLawfulLeaf t leaf
same_lawful s t leaf n f h = subst (λ (u : StoreView). IsLawfulLeaf u leaf) (sym f.only) (counts_lawful s t.counts leaf h)
  where
    counts_lawful : (s : StoreView) (c : Counts) (leaf : Leaf) → IsLawfulLeaf s leaf → IsLawfulLeaf (record s { counts = c }) leaf
    counts_lawful s c (Stored owner desc kind) h = record { live = h.live; kind = h.kind; low = h.low; high = h.high }
    counts_lawful s c (Gen desc kind) h = h

-- the cell at a place of a matched argument
pub matched_at : (s t : StoreView) (leaf : Leaf) (n k places : ℕ) (cell : ℤ) → OnlyFetched s t n → ((m : ℕ) → k < m → cell ≡ get_or (matched (array_of t leaf) m) k (pos 0)) → k < places → cell ≡ get_or (matched (array_of s leaf) places) k (pos 0)
matched_at s t leaf n k places cell f h below = h places below ∙ ap (λ (x : Array). get_or (matched x places) k (pos 0)) (same_array s t leaf n f)

-- at the end all digits are taken
pub decoded_end : (xs ys : List ℤ) (k : ℕ) (o : Option ℤ) → length xs ≡ k → length ys ≡ k → o ≡ decoded (Some (pos 0)) (take k xs) (take k ys) → o ≡ decoded (Some (pos 0)) xs ys
decoded_end xs ys k o a b e =
    e ∙ ap (λ (zs : List ℤ). decoded (Some (pos 0)) zs (take k ys)) (take_whole xs k a) ∙ ap (λ (zs : List ℤ). decoded (Some (pos 0)) xs zs) (take_whole ys k b)
  where
    take_whole : (xs : List ℤ) (k : ℕ) → length xs ≡ k → take k xs ≡ xs
    take_whole xs k e = ap (λ (n : ℕ). take n xs) (sym e) ∙ take-length xs

-- ---- the answer

pub decode_answer : (a b : Array) (z : ℤ) → (is_above_one a || is_above_one b) ≡ false → AreOfOneLength a b → (is_text a || is_text b) ≡ false → Some z ≡ decoded_of a b → decode a b ≡ Ok (scalar Num z)
decode_answer a b z ranks lengths texts e =
    passes error.Rank (is_above_one a || is_above_one b) (error_if error.Length (not (is_single a) && not (is_single b) && not (count a == count b)) (error_if error.Domain (is_text a || is_text b) (or_domain (decoded_of a b) (scalar Num)))) ranks
    ∙ passes error.Length (not (is_single a) && not (is_single b) && not (count a == count b)) (error_if error.Domain (is_text a || is_text b) (or_domain (decoded_of a b) (scalar Num))) lengths
    ∙ passes error.Domain (is_text a || is_text b) (or_domain (decoded_of a b) (scalar Num)) texts
    ∙ ap (λ (o : Option ℤ). or_domain o (scalar Num)) (sym e)

-- ---- tests as code makes them

pub low_ranks : (a b : Array) (m n : ℕ) → m ≡ rank a → n ≡ rank b → m ≤ 1 → n ≤ 1 → (is_above_one a || is_above_one b) ≡ false
low_ranks a b m n e f g h =
    let left : is_above_one a ≡ false = grind (arith, nat_tests) in
    let right : is_above_one b ≡ false = grind (arith, nat_tests) in
    ap (λ (t : Bool). t || is_above_one b) left ∙ right

pub same_lengths : (a b : Array) (m n : ℕ) → m ≡ count a → n ≡ count b → m ≡ n → AreOfOneLength a b
same_lengths a b m n e f g =
    let t : (count a == count b) ≡ true = grind (arith, nat_tests) in
    ap (λ (t : Bool). not (is_single a) && not (is_single b) && not t) t ∙ falls (is_single a) (is_single b)
  where
    falls : (s t : Bool) → (not s && not t && false) ≡ false
    falls true t = refl
    falls false true = refl
    falls false false = refl

pub left_single : (a b : Array) (m : ℕ) → m ≡ count a → m ≡ 1 → AreOfOneLength a b
left_single a b m e f =
    let t : is_single a ≡ true = grind (arith, nat_tests) in
    ap (λ (t : Bool). not t && not (is_single b) && not (count a == count b)) t

pub right_single : (a b : Array) (n : ℕ) → n ≡ count b → n ≡ 1 → AreOfOneLength a b
right_single a b n e f =
    let t : is_single b ≡ true = grind (arith, nat_tests) in
    ap (λ (t : Bool). not (is_single a) && not t && not (count a == count b)) t ∙ falls (is_single a)
  where
    falls : (s : Bool) → (not s && false && not (count a == count b)) ≡ false
    falls true = refl
    falls false = refl

pub no_text : (k l : Kind) (m n : ℕ) (t : Bool) → t ≡ (is_char k && not (m == 0)) → t ≡ false → k ≡ l → m ≡ n → (is_char l && not (n == 0)) ≡ false
no_text k l m n t test fails e f =
    ap (λ (j : Kind). is_char j && not (n == 0)) (sym e) ∙ ap (λ (i : ℕ). is_char k && not (i == 0)) (sym f) ∙ sym test ∙ fails

pub no_texts : (a b : Array) → is_text a ≡ false → is_text b ≡ false → (is_text a || is_text b) ≡ false
no_texts a b left right = ap (λ (t : Bool). t || is_text b) left ∙ right

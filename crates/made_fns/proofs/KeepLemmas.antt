-- Elements along an axis that are kept where bits are 1.
use Rattle.std.proofs.Common.{◌≡◌, ℕ, zero, suc, ◌+◌, ◌*◌, ◌/◌, ◌%◌, ◌<◌, ◌≤◌, ◌==◌, ◌⊎◌, inl, inr, Bool, true, false, not, ◌&&◌, leb, if◌then◌else◌, ℤ, pos, negsuc, Ok, Err, Option, Some, None, IfSome, List, [], ◌∷◌, ◌++◌, length, map, take, get_or, set, replicate, refl, sym, ap, ◌∙◌, subst, arith, add-one}
use Rattle.std.specs.Prelude.{slice_index}
use Rattle.std.specs.List.{list_all}
use Rattle.std.specs.Ordering.{int_eq}
use Rattle.std.proofs.lemmas.Bool.{le-ltb, eq-eqb, eqb-true, false≢true, false_from_ne_true, leb-true}
use Rattle.std.proofs.lemmas.Bool.Decides.{Decides-int_eq}
use Rattle.std.proofs.lemmas.Int.{ints}
use Rattle.std.proofs.lemmas.List.{length-map, length-replicate, length-take, map-append, append-nil}
use Rattle.std.proofs.Math.Seq.{take-suc}
use Rattle.apl_base.specs.declared.faults.ErrorKind.TheVariants as error
use Rattle.apl_base.specs.Array.{Array, size_of, place_at, index_at, cell_at}
use Rattle.apl_base.specs.Selection.{upward}
use Rattle.apl_base.proofs.Booleans.{not-false, both_parts}
use Rattle.apl_base.proofs.Upward.{map-upward-same, length-map-upward}
use Rattle.apl_model.specs.declared.functions.Axis.{Axis}
use Rattle.apl_model.specs.Made.{is_above_one, is_bit, are_bits, ones_from, ones, extended_to, bits_along, compress}
use Rattle.apl_model.specs.Whole.{rank, count, is_single, is_text, is_extendable, first, vector}
use Rattle.made_fns.specs.Answers.{is_between, GoesAlong, CanKeep, kept_array}
use Rattle.made_fns.specs.Lines.{run_of, placed, spread_cell}
use Rattle.made_fns.proofs.AxisLemmas.{on_axis_of}
use Rattle.made_fns.proofs.ScanLemmas.{ones-cons}
use Rattle.made_fns.proofs.SpreadLemmas.{moved_across, spread_facts}
use Rattle.made_fns.proofs.Tests.{int_le-is, int_le-not, no_error, an_error}

-- ---- bits

pub other_number : (a b : ℤ) → (a ≡ b → ⊥) → int_eq a b ≡ false
other_number a b h = false_from_ne_true (int_eq a b) (λ e. h ((Decides-int_eq a b).0 e))

bit_between : (z : ℤ) → is_between (pos 0) (pos 1) z ≡ is_bit z
bit_between (pos zero) = refl
bit_between (pos (suc zero)) = refl
bit_between (pos (suc (suc n))) =
    rw (int_le-is (pos 0) (pos (suc (suc n))) (omega (arith, ints)), int_le-not (pos (suc (suc n))) (pos 1) (omega (arith, ints)), other_number (pos (suc (suc n))) (pos 0) (λ e. omega (arith, ints, e)), other_number (pos (suc (suc n))) (pos 1) (λ e. omega (arith, ints, e))) refl
bit_between (negsuc n) = rw (int_le-not (pos 0) (negsuc n) (omega (arith, ints)), other_number (negsuc n) (pos 0) (λ e. omega (arith, ints, e)), other_number (negsuc n) (pos 1) (λ e. omega (arith, ints, e))) refl

bits_between : (zs : List ℤ) → list_all (is_between (pos 0) (pos 1)) zs ≡ list_all is_bit zs
bits_between [] = refl
bits_between (z ∷ zs) = rw (bit_between z, bits_between zs) refl

pub bits_then : (a : Array) (t : Bool) → t ≡ list_all (is_between (pos 0) (pos 1)) a.cells → is_text a ≡ false → t ≡ are_bits a
bits_then a t is text = is ∙ bits_between a.cells ∙ sym (ap (λ (u : Bool). not u && list_all is_bit a.cells) text)

pub bits_else : (a : Array) (t : Bool) → t ≡ is_text a → t ≡ true → not t ≡ are_bits a
bits_else a t is text = ap not text ∙ sym (ap (λ (u : Bool). not u && list_all is_bit a.cells) (sym is ∙ text))

-- n times 1, or another number
all_ones : (n : ℕ) → ones (replicate n (pos 1)) ≡ n
all_ones zero = refl
all_ones (suc n) = ones-cons (pos 1) (replicate n (pos 1)) ∙ ap suc (all_ones n)

no_ones : (n : ℕ) (z : ℤ) → int_eq z (pos 1) ≡ false → ones (replicate n z) ≡ 0
no_ones zero z h = refl
no_ones (suc n) z h = ones-cons z (replicate n z) ∙ ap (λ (t : Bool). if t then suc (ones (replicate n z)) else ones (replicate n z)) h ∙ no_ones n z h

single_bits : (n : ℕ) (a : Array) → count a ≡ 1 → bits_along n a ≡ replicate n (first a)
single_bits n a one = ap (λ (t : Bool). if t then replicate n (first a) else a.cells) (eq-eqb (count a) 1 one)

pub ones_single : (n : ℕ) (a : Array) → count a ≡ 1 → first a ≡ pos 1 → n ≡ ones (bits_along n a)
ones_single n a one is = sym (ap ones (single_bits n a one ∙ ap (replicate n) is) ∙ all_ones n)

pub ones_none : (n : ℕ) (a : Array) → count a ≡ 1 → int_eq (first a) (pos 1) ≡ false → 0 ≡ ones (bits_along n a)
ones_none n a one is = sym (ap ones (single_bits n a one) ∙ no_ones n (first a) is)

-- ---- an argument that extends

pub extended_then : (n : ℕ) (b : Array) → is_extendable b ≡ true → extended_to n b ≡ vector b.kind (replicate n (first b))
extended_then n b h = ap (λ (t : Bool). if t then vector b.kind (replicate n (first b)) else b) h

pub extended_else : (n : ℕ) (b : Array) → is_extendable b ≡ false → extended_to n b ≡ b
extended_else n b h = ap (λ (t : Bool). if t then vector b.kind (replicate n (first b)) else b) h

pub extended_shape : (n : ℕ) (b : Array) → is_extendable b ≡ true → (extended_to n b).shape ≡ n ∷ []
extended_shape n b h = ap (λ (x : Array). x.shape) (extended_then n b h) ∙ ap (λ (m : ℕ). m ∷ []) (length-replicate n (first b))

pub extended_count : (n : ℕ) (b : Array) → length b.cells ≡ size_of b.shape → length (extended_to n b).cells ≡ size_of (extended_to n b).shape
extended_count n b many = by (is_extendable b)
  where
    by : (t : Bool) → length (if t then vector b.kind (replicate n (first b)) else b).cells ≡ size_of (if t then vector b.kind (replicate n (first b)) else b).shape
    by true = omega arith
    by false = many

-- an axis of B, where B doesn't extend
pub axis_there : (ns : List ℕ) (k : ℕ) → ((k < length ns) ⊎ ((length ns ≡ 0) × (k ≡ 0))) → (size_of ns == 1) && leb (length ns) 1 ≡ false → k < length ns
axis_there ns k (inl h) e = h
axis_there [] k (inr h) e = absurd (false≢true (sym e))
axis_there (n ∷ ns) k (inr h) e = absurd (omega (arith, h.0))

-- and where it does, of the vector
pub axis_first : (ns : List ℕ) (k : ℕ) → ((k < length ns) ⊎ ((length ns ≡ 0) × (k ≡ 0))) → (size_of ns == 1) && leb (length ns) 1 ≡ true → k ≡ 0
axis_first ns k h e =
    let l = leb-true (length ns) 1 (both_parts (size_of ns == 1) (leb (length ns) 1) e).1 in
    elim h [ inl p ↦ omega (arith, l, p) | inr q ↦ q.1 ]

pub axis_extended : (n : ℕ) (b : Array) (k : ℕ) → ((k < rank b) ⊎ ((rank b ≡ 0) × (k ≡ 0))) → k < length (extended_to n b).shape
axis_extended n b k within = by (is_extendable b) refl
  where
    by : (t : Bool) → is_extendable b ≡ t → k < length (extended_to n b).shape
    by true e = omega (arith, ap length (extended_shape n b e), axis_first b.shape k within e)
    by false e = subst (λ (x : Array). k < length x.shape) (sym (extended_else n b e)) (axis_there b.shape k within e)

-- ---- errors

pub fit_single : (x y z : Bool) → x ≡ true → true ≡ not (not x && not y && not z)
fit_single true y z h = refl
fit_single false y z h = absurd (false≢true h)

pub fit_extends : (x y z : Bool) → y ≡ true → true ≡ not (not x && not y && not z)
fit_extends true true z h = refl
fit_extends false true z h = refl
fit_extends x false z h = absurd (false≢true h)

pub fit_count : (x y z : Bool) → x ≡ false → y ≡ false → z ≡ not (not x && not y && not z)
fit_count false false true h g = refl
fit_count false false false h g = refl
fit_count true y z h g = absurd (false≢true (sym h))
fit_count false true z h g = absurd (false≢true (sym g))

abbrev pub unfit : ℕ → Array → Array → Bool
unfit k a b = not (is_single a) && not (is_extendable b) && not (count a == slice_index b.shape k)

not_true : (t : Bool) → not t ≡ true → t ≡ false
not_true true h = absurd (false≢true h)
not_true false h = refl

pub kept_length : (axis : Axis) (k : ℕ) (a b : Array) (t : Bool) → rank a ≤ 1 → GoesAlong axis (rank b) k → t ≡ not (unfit k a b) → t ≡ false → compress (pos 1) axis a b ≡ Err error.Length
kept_length axis k a b t one along is h =
    no_error error.Rank (is_above_one a) _ (le-ltb 1 (rank a) one) ∙ along _
    ∙ an_error error.Length (unfit k a b) _ (not-false (unfit k a b) (sym is ∙ h))

pub kept_domain : (axis : Axis) (k : ℕ) (a b : Array) (t u : Bool) → rank a ≤ 1 → GoesAlong axis (rank b) k → t ≡ not (unfit k a b) → t ≡ true → u ≡ are_bits a → u ≡ false → compress (pos 1) axis a b ≡ Err error.Domain
kept_domain axis k a b t u one along is h bits g =
    no_error error.Rank (is_above_one a) _ (le-ltb 1 (rank a) one) ∙ along _
    ∙ no_error error.Length (unfit k a b) _ (not_true (unfit k a b) (sym is ∙ h))
    ∙ an_error error.Domain (not (are_bits a)) _ (ap not (sym bits ∙ g))

pub kept_is : (axis : Axis) (k : ℕ) (a b : Array) (t u : Bool) → rank a ≤ 1 → GoesAlong axis (rank b) k → t ≡ not (unfit k a b) → t ≡ true → u ≡ are_bits a → u ≡ true → compress (pos 1) axis a b ≡ Ok (kept_array k a b)
kept_is axis k a b t u one along is h bits g =
    no_error error.Rank (is_above_one a) _ (le-ltb 1 (rank a) one) ∙ along _
    ∙ no_error error.Length (unfit k a b) _ (not_true (unfit k a b) (sym is ∙ h))
    ∙ no_error error.Domain (not (are_bits a)) _ (ap not (sym bits ∙ g))

unfit_count : (x y z : Bool) → x ≡ false → y ≡ false → not x && not y && not z ≡ false → not z ≡ false
unfit_count false false z p q h = h
unfit_count true y z p q h = absurd (false≢true (sym p))
unfit_count false true z p q h = absurd (false≢true (sym q))

pub can_keep : (k : ℕ) (a b : Array) (t : Bool) → length a.cells ≡ count a → ((k < rank b) ⊎ ((rank b ≡ 0) × (k ≡ 0))) → t ≡ not (unfit k a b) → t ≡ true → CanKeep k a b
can_keep k a b t many within is h = record {
  axis = axis_extended (count a) b k within;
  bits = by (is_single a) (is_extendable b) refl refl;
}
  where
    n : ℕ
    n = slice_index (extended_to (count a) b).shape k

    fits : unfit k a b ≡ false
    fits = not_true (unfit k a b) (sym is ∙ h)

    by : (s t : Bool) → is_single a ≡ s → is_extendable b ≡ t → length (bits_along n a) ≡ n
    by true t p q = ap length (single_bits n a (eqb-true (count a) 1 p)) ∙ length-replicate n (first a)
    by false true p q =
        let here : n ≡ count a = ap (λ (ns : List ℕ). get_or ns k 0) (extended_shape (count a) b q) ∙ ap (λ (i : ℕ). get_or (count a ∷ []) i 0) (axis_first b.shape k within q) in
        ap (λ (s : Bool). length (if s then replicate n (first a) else a.cells)) p ∙ many ∙ sym here
    by false false p q =
        let here : n ≡ slice_index b.shape k = ap (λ (x : Array). get_or x.shape k 0) (extended_else (count a) b q) in
        let same : not (count a == slice_index b.shape k) ≡ false = unfit_count (is_single a) (is_extendable b) (count a == slice_index b.shape k) p q fits in
        ap (λ (s : Bool). length (if s then replicate n (first a) else a.cells)) p ∙ many ∙ eqb-true (count a) (slice_index b.shape k) (not-false (count a == slice_index b.shape k) same) ∙ sym here

-- ---- the elements

-- the ones lie among the bits
pub ones_within : (p : ℕ) (bits : List ℤ) (j : ℕ) → j < length (ones_from p bits) → get_or (ones_from p bits) j 0 < p + length bits
ones_within p [] j h = absurd (omega (arith, h))
ones_within p (a ∷ bits) j h = by (int_eq a (pos 1)) j h (λ i less. ones_within (suc p) bits i less)
  where
    by : (t : Bool) (j : ℕ) → j < length (if t then p ∷ ones_from (suc p) bits else ones_from (suc p) bits) → ((i : ℕ) → i < length (ones_from (suc p) bits) → get_or (ones_from (suc p) bits) i 0 < suc p + length bits) → get_or (if t then p ∷ ones_from (suc p) bits else ones_from (suc p) bits) j 0 < p + suc (length bits)
    by true zero h f = omega arith
    by true (suc j) h f = omega (arith, f j (omega (arith, h)))
    by false j h f = omega (arith, f j h)

pub some_at : (ps : List ℕ) (j : ℕ) → j < length ps → get_or (map Some ps) j None ≡ Some (get_or ps j 0)
some_at [] j h = absurd (omega (arith, h))
some_at (p ∷ ps) zero h = refl
some_at (p ∷ ps) (suc j) h = some_at ps j (omega (arith, h))

pub set_back : (ns : List ℕ) (k m : ℕ) → set (set ns k m) k (get_or ns k 0) ≡ ns
set_back [] k m = refl
set_back (n ∷ ns) zero m = refl
set_back (n ∷ ns) (suc k) m = ap (λ (ms : List ℕ). n ∷ ms) (set_back ns k m)

pub set_long : (ns : List ℕ) (k m : ℕ) → length (set ns k m) ≡ length ns
set_long [] k m = refl
set_long (n ∷ ns) zero m = refl
set_long (n ∷ ns) (suc k) m = ap suc (set_long ns k m)

pub set_at : (ns : List ℕ) (k m : ℕ) → k < length ns → get_or (set ns k m) k 0 ≡ m
set_at [] k m h = absurd (omega (arith, h))
set_at (n ∷ ns) zero m h = refl
set_at (n ∷ ns) (suc k) m h = set_at ns k m (omega (arith, h))

pub record KeptFacts (k : ℕ) (a b : Array) (shape : List ℕ) (axis : ℕ) (sources : List (Option ℕ)) (items : List ℤ) : Type 0 where
  pub along : k < length shape
  pub long : length sources ≡ get_or shape k 0
  pub within : (j : ℕ) → j < length sources → IfSome (get_or sources j None) (λ v. v < axis)
  pub back : set shape k axis ≡ (extended_to (count a) b).shape
  pub many : length items ≡ size_of (set shape k axis)
  pub are : map (spread_cell shape k axis sources items (pos 0)) (upward 0 (size_of shape)) ≡ (kept_array k a b).cells

kept_here : (k : ℕ) (a b : Array) → CanKeep k a b → length b.cells ≡ size_of b.shape → (let c : Array = extended_to (count a) b in let n : ℕ = get_or c.shape k 0 in KeptFacts k a b (kept_array k a b).shape n (map Some (ones_from 0 (bits_along n a))) c.cells)
kept_here k a b can many =
    let c = extended_to (count a) b in
    let ns = c.shape in
    let n = get_or ns k 0 in
    let ps = ones_from 0 (bits_along n a) in
    let shape = set ns k (length ps) in
    let back : set shape k n ≡ ns = set_back ns k (length ps) in
    let along : k < length shape = omega (arith, can.axis, set_long ns k (length ps)) in
    let here : get_or shape k 0 ≡ length ps = set_at ns k (length ps) can.axis in
    record {
      along = along;
      long = length-map ps Some ∙ sym here;
      within = λ j below.
          let less : j < length ps = omega (arith, below, length-map ps Some) in
          subst (λ (o : Option ℕ). IfSome o (λ v. v < n)) (sym (some_at ps j less)) (omega (arith, ones_within 0 (bits_along n a) j less, can.bits));
      back = back;
      many = extended_count (count a) b many ∙ ap size_of (sym back);
      are = map-upward-same (spread_cell shape k n (map Some ps) c.cells (pos 0)) (λ p. cell_at c (set (index_at shape p) k (get_or ps (get_or (index_at shape p) k 0) 0))) 0 (size_of shape) (λ p low high.
          let less : p < size_of shape = omega (arith, high) in
          let on = on_axis_of shape k p along less in
          let f = spread_facts shape k (run_of shape k) n p refl along less in
          let j = p / run_of shape k % get_or shape k 0 in
          let base = p / (get_or shape k 0 * run_of shape k) * (n * run_of shape k) + p % run_of shape k in
          let v = get_or ps (get_or (index_at shape p) k 0) 0 in
          ap (placed c.cells (pos 0) base (run_of shape k)) (some_at ps j (omega (arith, f.number, here)))
          ∙ ap (λ (x : ℕ). get_or c.cells (base + get_or ps x 0 * run_of shape k) (pos 0)) (sym on.number)
          ∙ ap (λ (x : ℕ). get_or c.cells x (pos 0)) (sym (moved_across shape k n p v along less))
          ∙ ap (λ (ms : List ℕ). get_or c.cells (place_at ms (set (index_at shape p) k v)) (pos 0)) back);
    }

-- by what the code knows
pub kept_facts : (k : ℕ) (a b : Array) (whole shape : List ℕ) (axis : ℕ) (bits : List ℤ) (sources : List (Option ℕ)) (items : List ℤ) → CanKeep k a b → length b.cells ≡ size_of b.shape → whole ≡ (extended_to (count a) b).shape → axis ≡ get_or whole k 0 → bits ≡ bits_along axis a → sources ≡ map Some (ones_from 0 bits) → items ≡ (extended_to (count a) b).cells → shape ≡ (kept_array k a b).shape → KeptFacts k a b shape axis sources items
kept_facts k a b whole shape axis bits sources items can many w x y z i s =
    let n : axis ≡ get_or (extended_to (count a) b).shape k 0 = x ∙ ap (λ (ns : List ℕ). get_or ns k 0) w in
    let o : sources ≡ map Some (ones_from 0 (bits_along (get_or (extended_to (count a) b).shape k 0) a)) = z ∙ ap (λ (zs : List ℤ). map Some (ones_from 0 zs)) (y ∙ ap (λ (m : ℕ). bits_along m a) n) in
    subst (λ (ns : List ℕ). KeptFacts k a b ns axis sources items) (sym s)
    (subst (λ (m : ℕ). KeptFacts k a b (kept_array k a b).shape m sources items) (sym n)
    (subst (λ (os : List (Option ℕ)). KeptFacts k a b (kept_array k a b).shape (get_or (extended_to (count a) b).shape k 0) os items) (sym o)
    (subst (λ (zs : List ℤ). KeptFacts k a b (kept_array k a b).shape (get_or (extended_to (count a) b).shape k 0) (map Some (ones_from 0 (bits_along (get_or (extended_to (count a) b).shape k 0) a))) zs) (sym i)
    (kept_here k a b can many))))

-- one bit more
ones_from-append : (p : ℕ) (xs ys : List ℤ) → ones_from p (xs ++ ys) ≡ ones_from p xs ++ ones_from (p + length xs) ys
ones_from-append p [] ys = ap (λ (q : ℕ). ones_from q ys) (omega arith)
ones_from-append p (x ∷ xs) ys = by (int_eq x (pos 1)) (ones_from-append (suc p) xs ys ∙ ap (λ (q : ℕ). ones_from (suc p) xs ++ ones_from q ys) (omega arith))
  where
    by : (t : Bool) → ones_from (suc p) (xs ++ ys) ≡ ones_from (suc p) xs ++ ones_from (p + suc (length xs)) ys → (if t then p ∷ ones_from (suc p) (xs ++ ys) else ones_from (suc p) (xs ++ ys)) ≡ (if t then p ∷ ones_from (suc p) xs else ones_from (suc p) xs) ++ ones_from (p + suc (length xs)) ys
    by true h = ap (λ (ps : List ℕ). p ∷ ps) h
    by false h = h

pub ones_next : (bits : List ℤ) (k : ℕ) (z : ℤ) → k < length bits → z ≡ get_or bits k (pos 0) → ones_from 0 (take (k + 1) bits) ≡ ones_from 0 (take k bits) ++ (if int_eq z (pos 1) then k ∷ [] else [])
ones_next bits k z h is =
    let at : 0 + length (take k bits) ≡ k = omega (arith, length-take k bits, h) in
    ap (λ (n : ℕ). ones_from 0 (take n bits)) (add-one k) ∙ ap (ones_from 0) (take-suc bits k (pos 0) h)
    ∙ ones_from-append 0 (take k bits) (get_or bits k (pos 0) ∷ [])
    ∙ ap (λ (n : ℕ). ones_from 0 (take k bits) ++ ones_from n (get_or bits k (pos 0) ∷ [])) at
    ∙ ap (λ (y : ℤ). ones_from 0 (take k bits) ++ ones_from k (y ∷ [])) (sym is)

pub sources_next : (bits : List ℤ) (k : ℕ) (z : ℤ) (old new : List (Option ℕ)) → k < length bits → z ≡ get_or bits k (pos 0) → int_eq z (pos 1) ≡ true → old ≡ map Some (ones_from 0 (take k bits)) → new ≡ old ++ Some k ∷ [] → new ≡ map Some (ones_from 0 (take (k + 1) bits))
sources_next bits k z old new h is one before pushed =
    pushed ∙ ap (λ (os : List (Option ℕ)). os ++ Some k ∷ []) before ∙ sym (ap (map Some) (ones_next bits k z h is ∙ ap (λ (t : Bool). ones_from 0 (take k bits) ++ (if t then k ∷ [] else [])) one) ∙ map-append Some (ones_from 0 (take k bits)) (k ∷ []))

pub sources_same : (bits : List ℤ) (k : ℕ) (z : ℤ) (old : List (Option ℕ)) → k < length bits → z ≡ get_or bits k (pos 0) → int_eq z (pos 1) ≡ false → old ≡ map Some (ones_from 0 (take k bits)) → old ≡ map Some (ones_from 0 (take (k + 1) bits))
sources_same bits k z old h is none before =
    before ∙ sym (ap (map Some) (ones_next bits k z h is ∙ ap (λ (t : Bool). ones_from 0 (take k bits) ++ (if t then k ∷ [] else [])) none ∙ append-nil (ones_from 0 (take k bits))))

-- the shape by what the code knows
pub kept_shape_is : (k : ℕ) (a b : Array) (whole : List ℕ) (axis n : ℕ) → whole ≡ (extended_to (count a) b).shape → axis ≡ get_or whole k 0 → n ≡ ones (bits_along axis a) → set whole k n ≡ (kept_array k a b).shape
kept_shape_is k a b whole axis n w x y =
    let m : n ≡ ones (bits_along (get_or (extended_to (count a) b).shape k 0) a) = y ∙ ap (λ (i : ℕ). ones (bits_along i a)) (x ∙ ap (λ (ns : List ℕ). get_or ns k 0) w) in
    ap (λ (ns : List ℕ). set ns k n) w ∙ ap (set (extended_to (count a) b).shape k) m

-- ---- the end

pub length-kept : (k : ℕ) (a b : Array) → length (kept_array k a b).cells ≡ size_of (kept_array k a b).shape
length-kept k a b = length-map-upward (λ p. cell_at (extended_to (count a) b) (set (index_at (kept_array k a b).shape p) k (get_or (ones_from 0 (bits_along (get_or (extended_to (count a) b).shape k 0) a)) (get_or (index_at (kept_array k a b).shape p) k 0) 0))) 0 (size_of (kept_array k a b).shape)

pub kind-extended : (n : ℕ) (b : Array) → (extended_to n b).kind ≡ b.kind
kind-extended n b = by (is_extendable b)
  where
    by : (t : Bool) → (if t then vector b.kind (replicate n (first b)) else b).kind ≡ b.kind
    by true = refl
    by false = refl

pub kind-kept : (k : ℕ) (a b : Array) → (kept_array k a b).kind ≡ b.kind
kind-kept k a b = kind-extended (count a) b

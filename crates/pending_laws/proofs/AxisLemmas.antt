-- Reversals and transposes.
use Rattle.std.proofs.Common.{◌≡◌, ◌==◌, ◌⊎◌, ℕ, zero, suc, ◌+◌, ◌-◌, ◌<◌, ◌≤◌, Bool, true, false, not, ◌&&◌, ◌||◌, if◌then◌else◌, ℤ, pos, ◌+ℤ◌, ◌-ℤ◌, ◌≤ℤ◌, int_le, int_lt, unsigned_abs, List, [], ◌∷◌, ◌++◌, length, map, get_or, reverse, Ok, refl, sym, ap, subst, ◌∙◌, inl, inr, arith, zero-add}
use Rattle.std.specs.Prelude.{slice_index, slice_set}
use Rattle.std.specs.List.{AllByRecursion, Contains}
use Rattle.std.proofs.Math.ListN.{get_or-append}
use Rattle.std.proofs.Math.Seq.{get_or-append_seam}
use Rattle.std.proofs.lemmas.List.{length-map, map-append, reverse-append, length-reverse}
use Rattle.std.proofs.lemmas.Bool.{cases_lt, eqb-true}
use Rattle.std.proofs.lemmas.Int.{ints}
use Rattle.apl_base.specs.declared.faults.ErrorKind.TheVariants as error
use Rattle.apl_base.specs.Array.{Array}
use Rattle.apl_base.specs.Elements.{gathered}
use Rattle.apl_base.specs.Selection.{upward, reverse_index, AreAxes, axes_rank, least, lengths_at, transpose_shape, transpose_index}
use Rattle.apl_base.proofs.Booleans.{both_parts, neither_part, not-false, eqb-same, eqb-other, eqb-passed}
use Rattle.apl_base.proofs.Integers.{magnitude-is}
use Rattle.apl_base.proofs.Elements.{tabulated-back}
use Rattle.apl_base.proofs.Sizes.{IsIndex-length}
use Rattle.apl_base.proofs.Upward.{upward-append, list_by_places}
use Rattle.beating.specs.declared.selections.Selection.TheVariants as select
use Rattle.apl_model.specs.declared.functions.Axis.TheVariants.{Last, First, Numbered}
use Rattle.apl_model.specs.Whole.{Answer, rank, count, is_text, error_if, error_or}
use Rattle.apl_model.specs.Made.{is_above_one, less_origin, are_axes}
use Rattle.apl_model_laws.proofs.TestedAxes.{axes_are_tested}
use Rattle.pending_laws.specs.Joins.{IsComplete}
use Rattle.pending_laws.specs.Selections.{axes_named, ReversedIsSelected, ReversedHasAxis, ReversedScalarStays, FlippedIsSelected, TransposedIsSelected, TransposedHasAxes}
use Rattle.pending_laws.proofs.AnswerLemmas.{passed_if, passed_or, above_one-not, not-above_one, neither, le-test, lt-test, gathered-same}
use Rattle.apl_model_laws.proofs.Refusals.{passes_if, passes_or}

-- ---- reversals

-- an axis that is there is taken
numbered : (t u : Bool) (j k : ℕ) (make : ℕ → Answer) → t ≡ true → u ≡ true → j ≡ k → error_if error.Rank (not (t && u)) (make j) ≡ make k
numbered t u j k make e f g = rw (e, f, g) refl

abbrev turned : Array → ℕ → Answer
turned b k = Ok (gathered b.shape (reverse_index b.shape k) b)

pub reversed_is_selected : ReversedIsSelected
reversed_is_selected o Last b k e fits = let same : rank b - 1 ≡ k = omega (arith, e) in ap (turned b) same
reversed_is_selected o First b k e fits = ap (turned b) (sym e)
reversed_is_selected o (Numbered z) b k e fits =
    let low : o ≤ℤ z = omega (arith, ints, e) in
    let apart : (z -ℤ o) ≡ pos k = omega (arith, ints, e) in
    numbered (int_le o z) (int_lt z (o +ℤ pos (rank b))) (unsigned_abs (z -ℤ o)) k (turned b)
    (le-test o z low) (lt-test z (o +ℤ pos (rank b)) (omega (arith, ints, e, fits))) (ap unsigned_abs apart)

-- a number that is within the axes names one
numbered-axis : (o z : ℤ) (r : ℕ) → (int_le o z && int_lt z (o +ℤ pos r)) ≡ true → (k : ℕ) × (z ≡ o +ℤ pos k) × (k < r)
numbered-axis o z r h =
    let s = both_parts (int_le o z) (int_lt z (o +ℤ pos r)) h in
    let low : pos 0 ≤ℤ (z -ℤ o) = omega (arith, ints, s.0) in
    let e : pos (unsigned_abs (z -ℤ o)) ≡ z -ℤ o = magnitude-is (z -ℤ o) low in
    (unsigned_abs (z -ℤ o), omega (arith, ints, e), omega (arith, ints, e, s.1))

pub reversed_has_axis : ReversedHasAxis
reversed_has_axis o Last b c h =
    elim (cases_lt 0 (rank b)) [ inl l ↦ inr (rank b - 1, omega (arith, l), omega (arith, l)) | inr l ↦ inl (omega (arith, l)) ]
reversed_has_axis o First b c h =
    elim (cases_lt 0 (rank b)) [ inl l ↦ inr (0, refl, l) | inr l ↦ inl (omega (arith, l)) ]
reversed_has_axis o (Numbered z) b c h =
    let t : Bool = int_le o z && int_lt z (o +ℤ pos (rank b)) in
    inr (numbered-axis o z (rank b) (not-false t (passed_if error.Rank (not t) (turned b (unsigned_abs (z -ℤ o))) c h).0))

-- an index without numbers stays as it is
no_axis : (is : List ℕ) (k v : ℕ) → length is ≡ 0 → slice_set is k v ≡ is
no_axis [] k v h = refl
no_axis (i ∷ is) k v h = absurd (omega arith)

-- whichever axis is named
scalar_stays : (b : Array) (k : ℕ) → IsComplete b → rank b ≡ 0 → gathered b.shape (reverse_index b.shape k) b ≡ b
scalar_stays b k h r =
    gathered-same b.shape b.shape (reverse_index b.shape k) (λ is. is) b refl
    (λ is q. no_axis is k (slice_index b.shape k - 1 - slice_index is k) (IsIndex-length b.shape is q ∙ r))
    ∙ tabulated-back b h

pub reversed_scalar_stays : ReversedScalarStays
reversed_scalar_stays o b h r =
    let ok : Array → Answer = λ c. Ok c in
    (ap ok (scalar_stays b (rank b - 1) h r), ap ok (scalar_stays b 0 h r))

-- ---- the axes in reverse order

-- the numbers below n, the greatest first
abbrev pub downward : ℕ → List ℕ
downward zero = []
downward (suc n) = n ∷ downward n

-- the numbers in reverse order
reverse-upward : (n : ℕ) → reverse (upward 0 n) ≡ downward n
reverse-upward zero = refl
reverse-upward (suc n) =
    let more : n + 1 ≡ suc n = omega arith in
    let last : upward 0 (suc n) ≡ upward 0 n ++ (0 + n) ∷ [] = ap (upward 0) (sym more) ∙ upward-append 0 n 1 in
    ap reverse last ∙ reverse-append (upward 0 n) ((0 + n) ∷ [])
    ∙ ap (λ (m : ℕ). m ∷ reverse (upward 0 n)) (zero-add n) ∙ ap (λ (ns : List ℕ). n ∷ ns) (reverse-upward n)

length-downward : (n : ℕ) → length (downward n) ≡ n
length-downward zero = refl
length-downward (suc n) = ap suc (length-downward n)

downward-rank : (n : ℕ) → axes_rank (downward n) ≡ n
downward-rank zero = refl
downward-rank (suc n) = omega (arith, downward-rank n)

downward-below : (n k : ℕ) → n ≤ k → AllByRecursion (λ a. a < k) (downward n)
downward-below zero k h = tt
downward-below (suc n) k h = (omega arith, downward-below n k (omega arith))

downward-each : (n r : ℕ) → r < n → Contains (downward n) r
downward-each zero r h = absurd (omega arith)
downward-each (suc n) r h =
    elim (cases_lt r n) [
      | inl l ↦ let c = downward-each n r l in (suc c.0, omega (arith, c.1), c.2)
      | inr l ↦ (0, omega arith, omega (arith, h, l))
    ]

-- they are axes
downward-axes : (n : ℕ) → AreAxes (axes_rank (downward n)) (downward n)
downward-axes n =
    subst (λ (k : ℕ). AreAxes k (downward n)) (sym (downward-rank n)) (record { below = downward-below n n (omega arith); each = downward-each n })

-- no length is sent to an axis that is not among them
none-sent : (n r : ℕ) (ns : List ℕ) → n ≤ r → lengths_at r (downward n) ns ≡ []
none-sent zero r ns h = refl
none-sent (suc n) r [] h = refl
none-sent (suc n) r (m ∷ ns) h =
    ap (λ (t : Bool). if t then m ∷ lengths_at r (downward n) ns else lengths_at r (downward n) ns) (eqb-passed n r (omega arith))
    ∙ none-sent n r ns (omega arith)

-- the length that is sent to axis r is the one as far from the end
sent : (ns : List ℕ) (r : ℕ) → r < length ns → least (lengths_at r (downward (length ns)) ns) ≡ get_or (reverse ns) r 0
sent [] r h = absurd (omega arith)
sent (n ∷ ns) r h = by (sent ns r) (cases_lt r (length ns))
  where
    back : get_or (reverse (n ∷ ns)) r 0 ≡ get_or (reverse ns ++ n ∷ []) r 0
    back = ap (λ (xs : List ℕ). get_or xs r 0) (reverse-append (n ∷ []) ns)

    by : (r < length ns → least (lengths_at r (downward (length ns)) ns) ≡ get_or (reverse ns) r 0) → (r < length ns) ⊎ (length ns ≤ r) →
        least (lengths_at r (downward (length (n ∷ ns))) (n ∷ ns)) ≡ get_or (reverse (n ∷ ns)) r 0
    by rest (inl l) =
        let test : (length ns == r) ≡ false = eqb-other (length ns) r (length ns - suc r) (omega (arith, l)) in
        ap (λ (t : Bool). least (if t then n ∷ lengths_at r (downward (length ns)) ns else lengths_at r (downward (length ns)) ns)) test
        ∙ rest l ∙ sym (back ∙ get_or-append (reverse ns) (n ∷ []) 0 r (omega (arith, l, length-reverse ns)))
    by rest (inr l) =
        let same : r ≡ length ns = omega (arith, l, h) in
        let test : (length ns == r) ≡ true = eqb-same (length ns) r (sym same) in
        ap (λ (t : Bool). least (if t then n ∷ lengths_at r (downward (length ns)) ns else lengths_at r (downward (length ns)) ns)) test
        ∙ ap (λ (xs : List ℕ). least (n ∷ xs)) (none-sent (length ns) r ns l)
        ∙ sym (back ∙ ap (λ (k : ℕ). get_or (reverse ns ++ n ∷ []) k 0) (same ∙ sym (length-reverse ns)) ∙ get_or-append_seam (reverse ns) n [] 0)

-- so the lengths are in reverse order
flipped-shape : (ns : List ℕ) → transpose_shape (downward (length ns)) ns ≡ reverse ns
flipped-shape ns =
    let f : ℕ → ℕ = λ r. least (lengths_at r (downward (length ns)) ns) in
    ap (λ (k : ℕ). map f (upward 0 k)) (downward-rank (length ns))
    ∙ list_by_places f (reverse ns) (length ns) 0 (length-reverse ns) (λ r below. sent ns r below)

map-reverse : (f : ℕ → ℕ) (xs : List ℕ) → map f (reverse xs) ≡ reverse (map f xs)
map-reverse f [] = refl
map-reverse f (x ∷ xs) =
    ap (map f) (reverse-append (x ∷ []) xs) ∙ map-append f (reverse xs) (x ∷ [])
    ∙ ap (λ (ys : List ℕ). ys ++ f x ∷ []) (map-reverse f xs) ∙ sym (reverse-append (f x ∷ []) (map f xs))

-- and so is the index that is read
flipped-index : (is : List ℕ) (n : ℕ) → length is ≡ n → transpose_index (downward n) is ≡ reverse is
flipped-index is n h =
    ap (map (λ (a : ℕ). slice_index is a)) (sym (reverse-upward n)) ∙ map-reverse (λ (a : ℕ). slice_index is a) (upward 0 n)
    ∙ ap reverse (list_by_places (λ (a : ℕ). slice_index is a) is n 0 h (λ a below. refl))

pub flipped_is_selected : FlippedIsSelected
flipped_is_selected b (select.Transpose given) e =
    let r : ℕ = length b.shape in
    let down : given.items ≡ downward r = e ∙ reverse-upward r in
    let fits : (length given.items ≡ r) × AreAxes (axes_rank given.items) given.items =
    subst (λ (axes : List ℕ). (length axes ≡ r) × AreAxes (axes_rank axes) axes) (sym down) (length-downward r, downward-axes r) in
    let same : gathered (transpose_shape (downward r) b.shape) (transpose_index (downward r)) b ≡ gathered (reverse b.shape) reverse b =
    gathered-same (transpose_shape (downward r) b.shape) (reverse b.shape) (transpose_index (downward r)) reverse b (flipped-shape b.shape)
    (λ is q. flipped-index is r (IsIndex-length (reverse b.shape) is q ∙ length-reverse b.shape)) in
    let made : List ℕ → Answer = λ axes. Ok (gathered (transpose_shape axes b.shape) (transpose_index axes) b) in
    let ok : Array → Answer = λ c. Ok c in
    (fits, ap ok (sym same) ∙ ap made (sym down))
flipped_is_selected b other e = absurd e

-- ---- axes that are named

-- as many axes as numbers
named-length : (o : ℤ) (a : Array) → length (axes_named o a) ≡ length a.cells
named-length o a = length-map (less_origin o a) unsigned_abs ∙ length-map a.cells (λ z. z -ℤ o)

pub transposed_is_selected : TransposedIsSelected
transposed_is_selected o a b (select.Transpose given) h e =
    let zs : List ℤ = less_origin o a in
    let fits : (length given.items ≡ rank b) × AreAxes (axes_rank given.items) given.items =
    subst (λ (ks : List ℕ). (length ks ≡ rank b) × AreAxes (axes_rank ks) ks) (sym e) (named-length o a ∙ h.count, h.axes) in
    let are : are_axes zs ≡ true = (axes_are_tested zs).1 (h.least, h.axes) in
    let made : List ℕ → Answer = λ ks. Ok (gathered (transpose_shape ks b.shape) (transpose_index ks) b) in (
      fits,
      passes_if error.Rank (is_above_one a) _ (not-above_one a h.list.axes)
          ∙ passes_if error.Length (not (count a == rank b)) _ (ap not (eqb-same (count a) (rank b) (sym h.list.complete ∙ h.count)))
          ∙ passes_or error.Domain (is_text a || not (are_axes zs)) (λ _. made (axes_named o a)) (neither (is_text a) (are_axes zs) h.list.numbers are)
          ∙ ap made (sym e),
    )
transposed_is_selected o a b other h e = absurd e

pub transposed_has_axes : TransposedHasAxes
transposed_has_axes o a b c h e =
    let zs : List ℤ = less_origin o a in
    let rest : Unit {0} → Answer = λ _. Ok (gathered (transpose_shape (axes_named o a) b.shape) (transpose_index (axes_named o a)) b) in
    let second : Answer = error_or error.Domain (is_text a || not (are_axes zs)) rest in
    let first : Answer = error_if error.Length (not (count a == rank b)) second in
    let p = passed_if error.Rank (is_above_one a) first c e in
    let q = passed_if error.Length (not (count a == rank b)) second c p.1 in
    let r = passed_or error.Domain (is_text a || not (are_axes zs)) rest c q.1 in
    let s = neither_part (is_text a) (not (are_axes zs)) r.0 in
    let are = (axes_are_tested zs).0 (not-false (are_axes zs) s.1) in
    record {
      list = record { axes = above_one-not a p.0; complete = h; numbers = s.0 };
      count = h ∙ eqb-true (count a) (rank b) (not-false (count a == rank b) q.0);
      least = are.0;
      axes = are.1;
    }

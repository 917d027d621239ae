-- What is taken and dropped.
use Rattle.std.proofs.Common.{◌≡◌, ◌==◌, ℕ, zero, suc, ◌+◌, ◌-◌, ◌^◌, ◌<◌, ◌≤◌, min, Bool, false, not, if◌then◌else◌, ℤ, pos, negsuc, neg_ℤ, unsigned_abs, List, [], ◌∷◌, length, replicate, Some, None, Ok, refl, sym, ap, subst, ◌∙◌, arith}
use Rattle.std.specs.List.{AllByRecursion}
use Rattle.std.proofs.Math.Nat.{mul-le-mul}
use Rattle.std.proofs.lemmas.Bool.{eqb-true, lt-ltb, le-leb}
use Rattle.apl_base.specs.declared.faults.ErrorKind.TheVariants as error
use Rattle.apl_base.specs.Array.{Array, IsShape, IsIndex, size_of, cell_at}
use Rattle.apl_base.specs.Elements.{all_defined, tabulated, gathered}
use Rattle.apl_base.specs.Selection.{CountsFit, take_shape, taken, take_index, drop_shape, dropped, drop_index}
use Rattle.apl_base.proofs.Booleans.{not-false, eqb-same, eqb-other}
use Rattle.apl_base.proofs.Elements.{all_defined-cons, tabulated-same}
use Rattle.beating.specs.declared.selections.Selection.TheVariants as select
use Rattle.apl_model.specs.Whole.{Answer, rank, count, is_text, error_if}
use Rattle.apl_model.specs.Made.{is_above_one, taken_shape, taken_place, taken_places, read_or_fill, with_shape}
use Rattle.pending_laws.specs.Joins.{IsComplete}
use Rattle.pending_laws.specs.Selections.{capped, capped_counts, ListsCounts, TakenScalarExtends, TakenFromItself, TakenIsSelected, DroppedIsSelected, TakenHasCounts, DroppedHasCounts}
use Rattle.pending_laws.proofs.AnswerLemmas.{passed_if, above_one-not, not-above_one, gathered-same}
use Rattle.pending_laws.proofs.ExtensionLemmas.{extension_to_one_element}
use Rattle.apl_model_laws.proofs.Refusals.{passes_if, passes_limit}

-- ---- lengths that become shorter

-- each at most the length beside it
abbrev AreAtMost : List ℕ → List ℕ → Type 0
AreAtMost [] [] = Unit {0}
AreAtMost (m ∷ ms) (n ∷ ns) = (m ≤ n) × AreAtMost ms ns
AreAtMost [] (n ∷ ns) = ⊥
AreAtMost (m ∷ ms) [] = ⊥

within-length : (ms ns : List ℕ) → AreAtMost ms ns → length ms ≡ length ns
within-length [] [] h = refl
within-length (m ∷ ms) (n ∷ ns) h = ap suc (within-length ms ns h.1)
within-length [] (n ∷ ns) h = absurd h
within-length (m ∷ ms) [] h = absurd h

within-size : (ms ns : List ℕ) → AreAtMost ms ns → size_of ms ≤ size_of ns
within-size [] [] h = omega arith
within-size (m ∷ ms) (n ∷ ns) h = mul-le-mul h.0 (within-size ms ns h.1)
within-size [] (n ∷ ns) h = absurd h
within-size (m ∷ ms) [] h = absurd h

within-each : (b : ℕ) (ms ns : List ℕ) → AreAtMost ms ns → AllByRecursion (λ n. n ≤ b) ns → AllByRecursion (λ n. n ≤ b) ms
within-each b [] [] h a = tt
within-each b (m ∷ ms) (n ∷ ns) h a = (omega (arith, h.0, a.0), within-each b ms ns h.1 a.1)
within-each b [] (n ∷ ns) h a = absurd h
within-each b (m ∷ ms) [] h a = absurd h

-- so they make a shape where the longer ones do
shorter-shape : (ms ns : List ℕ) → AreAtMost ms ns → IsShape ns → IsShape ms
shorter-shape ms ns h s = record {
  rank = omega (arith, within-length ms ns h, s.rank);
  each = within-each (2 ^ 40) ms ns h s.each;
  product = omega (arith, within-size ms ns h, s.product);
}

-- ---- what is taken from

-- one element
ones : (n : ℕ) → size_of (replicate n 1) ≡ 1
ones zero = refl
ones (suc n) = omega (arith, ones n)

pub taken_scalar_extends : TakenScalarExtends
taken_scalar_extends a b h r =
    let ns : taken_shape a b ≡ replicate (count a) 1 = ap (λ (t : Bool). if t then replicate (count a) 1 else b.shape) (eqb-same (rank b) 0 r) in
    sym (extension_to_one_element b (taken_shape a b) h (none b.shape r) (ap size_of ns ∙ ones (count a)))
  where
    none : (ms : List ℕ) → length ms ≡ 0 → size_of ms ≡ 1
    none [] e = refl
    none (m ∷ ms) e = absurd (omega arith)

pub taken_from_itself : TakenFromItself
taken_from_itself a b h =
    let test : (rank b == 0) ≡ false = eqb-other (rank b) 0 (rank b - 1) (omega (arith, h)) in
    ap (λ (t : Bool). with_shape b (if t then replicate (count a) 1 else b.shape)) test

-- ---- counts that fit

-- what is taken is no longer
taken-within : (ns : List ℕ) (counts : List ℤ) → CountsFit ns counts → AreAtMost (take_shape counts) ns
taken-within [] [] h = tt
taken-within (n ∷ ns) (a ∷ counts) h = (h.0, taken-within ns counts h.1)
taken-within [] (a ∷ counts) h = absurd h
taken-within (n ∷ ns) [] h = absurd h

-- each element that is taken is there
place-taken : (n : ℕ) (a : ℤ) (i : ℕ) → unsigned_abs a ≤ n → i < unsigned_abs a → taken_place n a i ≡ Some (taken n a i)
place-taken n (pos a) i fits below = ap (λ (t : Bool). if t then Some i else None) (lt-ltb i n (omega arith))
place-taken n (negsuc a) i fits below =
    let far : n + i - suc a ≡ n - suc a + i = omega (arith, fits) in
    ap (λ (t : Bool). if t then Some (n + i - suc a) else None) (le-leb (suc a) (n + i) (omega (arith, fits))) ∙ ap Some far

-- and so for each axis
places-taken : (ns : List ℕ) (counts : List ℤ) (is : List ℕ) → CountsFit ns counts → IsIndex (take_shape counts) is →
    all_defined (taken_places ns counts is) ≡ Some (take_index ns counts is)
places-taken [] [] [] f h = refl
places-taken (n ∷ ns) (a ∷ counts) (i ∷ is) f h =
    all_defined-cons (taken_place n a i) (taken_places ns counts is) (taken n a i) (take_index ns counts is) (place-taken n a i f.0 h.0) (places-taken ns counts is f.1 h.1)
places-taken [] [] (i ∷ is) f h = absurd h
places-taken [] (a ∷ counts) is f h = absurd f
places-taken (n ∷ ns) [] is f h = absurd f
places-taken (n ∷ ns) (a ∷ counts) [] f h = absurd h

-- as many counts as axes
same-count : (a : Array) (ns : List ℕ) → IsComplete a → length a.cells ≡ length ns → not (count a == length ns) ≡ false
same-count a ns h m = ap not (eqb-same (count a) (length ns) (sym h ∙ m))

pub taken_is_selected : TakenIsSelected
taken_is_selected a b (select.Take given) h shape e fits =
    let ns : List ℕ = taken_shape a b in
    let c : Array = with_shape b ns in
    let fit : CountsFit ns a.cells = subst (CountsFit ns) e fits in
    let ok : Array → Answer = λ x. Ok x in
    let made : List ℤ → Array = λ counts. gathered (take_shape counts) (take_index ns counts) c in
    let cells : tabulated b.kind (take_shape a.cells) (λ is. read_or_fill c (all_defined (taken_places ns a.cells is))) ≡ made a.cells =
    tabulated-same b.kind (take_shape a.cells) (λ is. read_or_fill c (all_defined (taken_places ns a.cells is))) (λ is. cell_at c (take_index ns a.cells is))
    (λ is q. ap (read_or_fill c) (places-taken ns a.cells is fit q)) in
    passes_if error.Rank (is_above_one a) _ (not-above_one a h.list.axes)
    ∙ passes_if error.Length (not (count a == length ns)) _ (same-count a ns h.list.complete h.count)
    ∙ passes_if error.Domain (is_text a) _ h.list.numbers
    ∙ passes_limit (take_shape a.cells) _ (shorter-shape (take_shape a.cells) ns (taken-within ns a.cells fit) shape)
    ∙ ap ok cells ∙ ap (λ (counts : List ℤ). ok (made counts)) (sym e)
taken_is_selected a b other h shape e fits = absurd e

-- ---- counts that are capped

abs-neg : (m : ℕ) → unsigned_abs (neg_ℤ (pos m)) ≡ m
abs-neg zero = refl
abs-neg (suc m) = refl

-- the magnitude is at most the length
capped-abs : (n : ℕ) (a : ℤ) → unsigned_abs (capped n a) ≡ min (unsigned_abs a) n
capped-abs n (pos a) = refl
capped-abs n (negsuc a) = abs-neg (min (suc a) n)

-- so capped counts fit
capped-fit : (ns : List ℕ) (counts : List ℤ) → length counts ≡ length ns → CountsFit ns (capped_counts ns counts)
capped-fit [] [] h = tt
capped-fit (n ∷ ns) (a ∷ counts) h = (omega (arith, capped-abs n a), capped-fit ns counts (omega (arith, h)))
capped-fit [] (a ∷ counts) h = absurd (omega (arith, h))
capped-fit (n ∷ ns) [] h = absurd (omega (arith, h))

-- what is left is no longer
dropped-within : (ns : List ℕ) (counts : List ℤ) → length counts ≡ length ns → AreAtMost (drop_shape ns counts) ns
dropped-within [] [] h = tt
dropped-within (n ∷ ns) (a ∷ counts) h = (omega arith, dropped-within ns counts (omega (arith, h)))
dropped-within [] (a ∷ counts) h = absurd (omega (arith, h))
dropped-within (n ∷ ns) [] h = absurd (omega (arith, h))

-- as many elements are left
capped-shape : (ns : List ℕ) (counts : List ℤ) → drop_shape ns (capped_counts ns counts) ≡ drop_shape ns counts
capped-shape [] counts = refl
capped-shape (n ∷ ns) [] = refl
capped-shape (n ∷ ns) (a ∷ counts) =
    let here : n - unsigned_abs (capped n a) ≡ n - unsigned_abs a = omega (arith, capped-abs n a) in
    ap (λ (k : ℕ). k ∷ drop_shape ns (capped_counts ns counts)) here ∙ ap (λ (ks : List ℕ). (n - unsigned_abs a) ∷ ks) (capped-shape ns counts)

-- without the last ones each place stays
dropped-back : (n m i : ℕ) → dropped n (neg_ℤ (pos m)) i ≡ i
dropped-back n zero i = omega arith
dropped-back n (suc m) i = refl

-- the same place is read
capped-place : (n : ℕ) (a : ℤ) (i : ℕ) → dropped n (capped n a) i ≡ dropped n a i
capped-place n (pos a) i = omega arith
capped-place n (negsuc a) i = dropped-back n (min (suc a) n) i

-- and so for each axis
capped-index : (ns : List ℕ) (counts : List ℤ) (is : List ℕ) → drop_index ns (capped_counts ns counts) is ≡ drop_index ns counts is
capped-index [] counts is = refl
capped-index (n ∷ ns) [] is = refl
capped-index (n ∷ ns) (a ∷ counts) [] = refl
capped-index (n ∷ ns) (a ∷ counts) (i ∷ is) =
    ap (λ (k : ℕ). k ∷ drop_index ns (capped_counts ns counts) is) (capped-place n a i) ∙ ap (λ (ks : List ℕ). dropped n a i ∷ ks) (capped-index ns counts is)

pub dropped_is_selected : DroppedIsSelected
dropped_is_selected a b (select.Skip given) h shape e =
    let ns : List ℕ = taken_shape a b in
    let c : Array = with_shape b ns in
    let ok : Array → Answer = λ x. Ok x in
    let made : List ℤ → Array = λ counts. gathered (drop_shape ns counts) (drop_index ns counts) c in
    let same : made (capped_counts ns a.cells) ≡ made a.cells =
    gathered-same (drop_shape ns (capped_counts ns a.cells)) (drop_shape ns a.cells) (drop_index ns (capped_counts ns a.cells)) (drop_index ns a.cells) c
    (capped-shape ns a.cells) (λ is q. capped-index ns a.cells is) in
    let fits : CountsFit ns given.items = subst (CountsFit ns) (sym e) (capped-fit ns a.cells h.count) in (
      fits,
      passes_if error.Rank (is_above_one a) _ (not-above_one a h.list.axes)
          ∙ passes_if error.Length (not (count a == length ns)) _ (same-count a ns h.list.complete h.count)
          ∙ passes_if error.Domain (is_text a) _ h.list.numbers
          ∙ passes_limit (drop_shape ns a.cells) _ (shorter-shape (drop_shape ns a.cells) ns (dropped-within ns a.cells h.count) shape)
          ∙ ap ok (sym same) ∙ ap (λ (counts : List ℤ). ok (made counts)) (sym e),
    )
dropped_is_selected a b other h shape e = absurd e

-- ---- where there is an answer

-- three tests that are passed
counts-named : (a b c : Array) (next : Answer) → IsComplete a →
    error_if error.Rank (is_above_one a) (error_if error.Length (not (count a == length (taken_shape a b))) (error_if error.Domain (is_text a) next)) ≡ Ok c → ListsCounts a b
counts-named a b c next h e =
    let many : Bool = count a == length (taken_shape a b) in
    let second : Answer = error_if error.Domain (is_text a) next in
    let p = passed_if error.Rank (is_above_one a) (error_if error.Length (not many) second) c e in
    let q = passed_if error.Length (not many) second c p.1 in
    record {
      list = record { axes = above_one-not a p.0; complete = h; numbers = (passed_if error.Domain (is_text a) next c q.1).0 };
      count = h ∙ eqb-true (count a) (length (taken_shape a b)) (not-false many q.0);
    }

pub taken_has_counts : TakenHasCounts
taken_has_counts a b c h e = counts-named a b c _ h e

pub dropped_has_counts : DroppedHasCounts
dropped_has_counts a b c h e = counts-named a b c _ h e

-- Numbers that name axes.
use Rattle.std.proofs.Common.{◌≡◌, ◌==◌, ℕ, zero, suc, ◌+◌, ◌<◌, ◌≤◌, Bool, true, false, not, ◌&&◌, ◌||◌, ℤ, pos, ◌-ℤ◌, ◌≤ℤ◌, ◌<ℤ◌, int_le, unsigned_abs, List, [], ◌∷◌, ◌++◌, length, map, take, get_or, Err, refl, sym, ap, subst, ◌∙◌, arith}
use Rattle.std.specs.List.{AllByRecursion, list_all, list_any}
use Rattle.std.specs.Ordering.{int_eq}
use Rattle.std.proofs.lemmas.Bool.{false≢true}
use Rattle.std.proofs.lemmas.Bool.Decides.{Decides-int_eq}
use Rattle.std.proofs.lemmas.List.{length-map, map-append, take_more}
use Rattle.std.proofs.lemmas.Int.{ints}
use Rattle.apl_base.specs.declared.cells.Kind.TheVariants.{Num}
use Rattle.apl_base.specs.declared.faults.ErrorKind.{ErrorKind}
use Rattle.apl_base.specs.declared.faults.ErrorKind.TheVariants as error
use Rattle.apl_base.specs.Array.{Array}
use Rattle.apl_base.specs.Selection.{axes_rank}
use Rattle.apl_base.proofs.Booleans.{eqb-same}
use Rattle.apl_base.proofs.Integers.{magnitude-is}
use Rattle.apl_base.proofs.Transposes.{few_axes}
use Rattle.beating.specs.declared.selections.Selection.{Selection}
use Rattle.apl_model.specs.Whole.{Answer, rank, count, is_text, error_or}
use Rattle.apl_model.specs.Made.{is_above_one, less_origin, is_axis_among, are_axes, transposed}
use Rattle.apl_model_laws.proofs.TestedAxes.{axes_are_tested}
use Rattle.pending_laws.specs.Selections.{SendsAxes, ListsAxes}
use Rattle.pending_laws.proofs.AnswerLemmas.{not-above_one, le-test}
use Rattle.pending_laws.proofs.AxisLemmas.{transposed_is_selected}
use Rattle.selection_choices.specs.declared.choices.Choice.TheVariants as choice
use Rattle.selection_choices.specs.Choices.{Chooses, Errs}
use Rattle.selection_choices.specs.Left.{Lists}
use Rattle.apl_model_laws.proofs.Refusals.{passes_if}

-- the numbers counted from 0
abbrev pub less : ℤ → List ℤ → List ℤ
less o numbers = map (λ z. z -ℤ o) numbers

-- ---- the test of one

same_test : (a b c d : ℤ) → (a ≡ b → c ≡ d) → (c ≡ d → a ≡ b) → int_eq a b ≡ int_eq c d
same_test a b c d f g = by (int_eq a b) (int_eq c d) refl refl
  where
    by : (t u : Bool) → int_eq a b ≡ t → int_eq c d ≡ u → t ≡ u
    by true true e h = refl
    by false false e h = refl
    by true false e h = absurd (false≢true (sym h ∙ (Decides-int_eq c d).1 (f ((Decides-int_eq a b).0 e))))
    by false true e h = absurd (false≢true (sym e ∙ (Decides-int_eq a b).1 (g ((Decides-int_eq c d).0 h))))

-- the number before it is among the numbers
any_same : (o n m : ℤ) (numbers : List ℤ) → m ≡ n -ℤ pos 1 → list_any (int_eq ((n -ℤ o) -ℤ pos 1)) (less o numbers) ≡ list_any (λ y. int_eq y m) numbers
any_same o n m [] e = refl
any_same o n m (w ∷ numbers) e =
    ap (λ (t : Bool). t || list_any (int_eq ((n -ℤ o) -ℤ pos 1)) (less o numbers)) (same_test ((n -ℤ o) -ℤ pos 1) (w -ℤ o) w m (λ h. omega (arith, ints, h, e)) (λ h. omega (arith, ints, h, e)))
    ∙ ap (λ (t : Bool). int_eq w m || t) (any_same o n m numbers e)

-- at the origin, above it, and below it
pub at_origin : (o n : ℤ) (numbers : List ℤ) → n ≡ o → is_axis_among (less o numbers) (n -ℤ o) ≡ true
at_origin o n numbers h =
    let z : n -ℤ o ≡ pos 0 = omega (arith, ints, h) in
    ap (is_axis_among (less o numbers)) z

pub above_origin : (o n m : ℤ) (numbers : List ℤ) → o <ℤ n → m ≡ n -ℤ pos 1 → is_axis_among (less o numbers) (n -ℤ o) ≡ list_any (λ y. int_eq y m) numbers
above_origin o n m numbers h e =
    let some : int_eq (n -ℤ o) (pos 0) || list_any (int_eq ((n -ℤ o) -ℤ pos 1)) (less o numbers) ≡ list_any (int_eq ((n -ℤ o) -ℤ pos 1)) (less o numbers) =
    ap (λ (t : Bool). t || list_any (int_eq ((n -ℤ o) -ℤ pos 1)) (less o numbers)) (apart (int_eq (n -ℤ o) (pos 0)) (λ t. let z : n -ℤ o ≡ pos 0 = (Decides-int_eq (n -ℤ o) (pos 0)).0 t in absurd (omega (arith, ints, z, h)))) in
    ap (λ (t : Bool). t && (int_eq (n -ℤ o) (pos 0) || list_any (int_eq ((n -ℤ o) -ℤ pos 1)) (less o numbers))) (le-test (pos 0) (n -ℤ o) (omega (arith, ints, h)))
    ∙ some ∙ any_same o n m numbers e
  where
    apart : (t : Bool) → (t ≡ true → ⊥) → t ≡ false
    apart true f = absurd (f refl)
    apart false f = refl

pub below_origin : (o n : ℤ) (numbers : List ℤ) → n <ℤ o → is_axis_among (less o numbers) (n -ℤ o) ≡ false
below_origin o n numbers h =
    ap (λ (t : Bool). t && (int_eq (n -ℤ o) (pos 0) || list_any (int_eq ((n -ℤ o) -ℤ pos 1)) (less o numbers))) (by (int_le (pos 0) (n -ℤ o)) refl)
  where
    by : (t : Bool) → int_le (pos 0) (n -ℤ o) ≡ t → t ≡ false
    by true e = absurd (omega (arith, ints, e, h))
    by false e = refl

-- ---- the test of all

pub all_pass : (p : ℤ → Bool) (o : ℤ) (numbers : List ℤ) → ((j : ℕ) → j < length numbers → p (get_or numbers j (pos 0) -ℤ o) ≡ true) → list_all p (less o numbers) ≡ true
all_pass p o [] each = refl
all_pass p o (z ∷ numbers) each =
    ap (λ (t : Bool). t && list_all p (less o numbers)) (each 0 (omega arith)) ∙ all_pass p o numbers (λ j w. each (suc j) (omega (arith, w)))

pub one_fails : (p : ℤ → Bool) (o : ℤ) (numbers : List ℤ) (j : ℕ) → j < length numbers → p (get_or numbers j (pos 0) -ℤ o) ≡ false → list_all p (less o numbers) ≡ false
one_fails p o [] j w f = absurd (omega (arith, w))
one_fails p o (z ∷ numbers) zero w f = ap (λ (t : Bool). t && list_all p (less o numbers)) f
one_fails p o (z ∷ numbers) (suc j) w f = ap (λ (t : Bool). p (z -ℤ o) && t) (one_fails p o numbers j (omega (arith, w)) f) ∙ none (p (z -ℤ o))
  where
    none : (t : Bool) → t && false ≡ false
    none true = refl
    none false = refl

-- ---- numbers that name axes are small

least_at : (o : ℤ) (numbers : List ℤ) (k : ℕ) → k < length numbers → AllByRecursion (λ z. pos 0 ≤ℤ z) (less o numbers) → pos 0 ≤ℤ (get_or numbers k (pos 0) -ℤ o)
least_at o [] k w h = absurd (omega (arith, w))
least_at o (z ∷ numbers) zero w h = h.0
least_at o (z ∷ numbers) (suc k) w h = least_at o numbers k (omega (arith, w)) h.1

below_at : (o : ℤ) (numbers : List ℤ) (k n : ℕ) → k < length numbers → AllByRecursion (λ a. a < n) (map unsigned_abs (less o numbers)) → unsigned_abs (get_or numbers k (pos 0) -ℤ o) < n
below_at o [] k n w h = absurd (omega (arith, w))
below_at o (z ∷ numbers) zero n w h = h.0
below_at o (z ∷ numbers) (suc k) n w h = below_at o numbers k n (omega (arith, w)) h.1

pub record IsAxisAt (o : ℤ) (numbers : List ℤ) (k : ℕ) : Type 0 where
  pub least : pos 0 ≤ℤ (get_or numbers k (pos 0) -ℤ o)
  pub most : (get_or numbers k (pos 0) -ℤ o) ≤ℤ pos 8

pub axis_at : (o : ℤ) (numbers : List ℤ) (k : ℕ) → are_axes (less o numbers) ≡ true → length numbers ≤ 8 → k < length numbers → IsAxisAt o numbers k
axis_at o numbers k test short w =
    let ks : List ℕ = map unsigned_abs (less o numbers) in
    let are = (axes_are_tested (less o numbers)).0 test in
    let few : axes_rank ks ≤ length ks = few_axes ks ks are.1 refl in
    let long : length ks ≡ length numbers = length-map (less o numbers) unsigned_abs ∙ length-map numbers (λ z. z -ℤ o) in
    let low : pos 0 ≤ℤ (get_or numbers k (pos 0) -ℤ o) = least_at o numbers k w are.0 in
    record {
      least = low;
      most = omega (arith, ints, below_at o numbers k (axes_rank ks) w are.1.below, few, long, short, magnitude-is (get_or numbers k (pos 0) -ℤ o) low);
    }

-- one axis more
pub one_axis_more : (o : ℤ) (numbers : List ℤ) (k : ℕ) (axes : List ℕ) (a : ℕ) → k < length numbers → axes ≡ map unsigned_abs (less o (take k numbers)) → a ≡ unsigned_abs (get_or numbers k (pos 0) -ℤ o) → axes ++ a ∷ [] ≡ map unsigned_abs (less o (take (k + 1) numbers))
one_axis_more o numbers k axes a w is e =
    ap (λ (ks : List ℕ). ks ++ a ∷ []) is
    ∙ ap (λ (n : ℕ). map unsigned_abs (less o (take k numbers)) ++ n ∷ []) e
    ∙ sym (map-append unsigned_abs (less o (take k numbers)) ((get_or numbers k (pos 0) -ℤ o) ∷ []))
    ∙ ap (map unsigned_abs) (sym (map-append (λ z. z -ℤ o) (take k numbers) (get_or numbers k (pos 0) ∷ [])))
    ∙ ap (λ (zs : List ℤ). map unsigned_abs (less o zs)) (sym (take_more numbers k (pos 0) w))

-- ---- the choice

module _ (o : ℤ) (numbers : List ℤ) (ns : List ℕ) (a : Array) (lists : Lists numbers a) (asked : length numbers ≡ length ns) where
  many : (b : Array) → b.shape ≡ ns → length a.cells ≡ rank b
  many b e = ap (λ (zs : List ℤ). length zs) lists.cells ∙ asked ∙ ap (λ (ms : List ℕ). length ms) (sym e)

  lists_axes : are_axes (less o numbers) ≡ true → (b : Array) → b.shape ≡ ns → ListsAxes o a b
  lists_axes test b e =
      let are = (axes_are_tested (less_origin o a)).0 (ap (λ (zs : List ℤ). are_axes (less o zs)) lists.cells ∙ test) in
      record { list = lists.list; count = many b e; least = are.0; axes = are.1 }

  pub axes_choose : (by : Selection) → are_axes (less o numbers) ≡ true → SendsAxes (map unsigned_abs (less o numbers)) by → Chooses (transposed o a) ns (choice.Select by)
  axes_choose by test sends =
      let sent : SendsAxes (map unsigned_abs (less_origin o a)) by = subst (λ (zs : List ℤ). SendsAxes (map unsigned_abs (less o zs)) by) (sym lists.cells) sends in
      let any : Array = record { kind = Num; shape = ns; cells = [] } in
      record {
        fits = (transposed_is_selected o a any by (lists_axes test any refl) sent).0;
        answer = λ b is. (transposed_is_selected o a b by (lists_axes test b is.shape) sent).1;
      }

  pub axes_refuse : are_axes (less o numbers) ≡ false → Errs (transposed o a) ns error.Domain
  axes_refuse test b is =
      let none : are_axes (less_origin o a) ≡ false = ap (λ (zs : List ℤ). are_axes (less o zs)) lists.cells ∙ test in
      passes_if error.Rank (is_above_one a) _ (not-above_one a lists.list.axes)
      ∙ passes_if error.Length (not (count a == rank b)) _ (ap not (eqb-same (count a) (rank b) (sym lists.list.complete ∙ many b is.shape)))
      ∙ refused_or error.Domain (is_text a || not (are_axes (less_origin o a))) _ (or_not (is_text a) (are_axes (less_origin o a)) none)
    where
      refused_or : (e : ErrorKind) (t : Bool) (make : Unit {0} → Answer) → t ≡ true → error_or e t make ≡ Err e
      refused_or e t make h = ap (λ (b : Bool). error_or e b make) h

      or_not : (t u : Bool) → u ≡ false → t || not u ≡ true
      or_not true u h = refl
      or_not false u h = ap not h

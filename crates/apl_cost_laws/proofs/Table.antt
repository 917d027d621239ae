-- The table of intervals: what each source gives lies in the interval beside it, and in the one that is kept.
use Rattle.std.proofs.Common.{◌≡◌, ◌==◌, ℕ, Bool, true, false, not, ◌&&◌, ◌||◌, if◌then◌else◌, ℤ, pos, List, [], ◌∷◌, length, fold, set, Option, Some, None, Ok, refl, sym, ap, subst, ◌∙◌, arith}
use Rattle.std.specs.List.{AllByRecursion, list_all, list_any}
use Rattle.std.specs.Option.{option_map}
use Rattle.std.specs.Cmp.Lexicographic.{pointwise}
use Rattle.std.specs.Prelude.{nat_eq, slice_index_or}
use Rattle.std.proofs.lemmas.Bool.Decides.{nat_tests}
use Rattle.apl_base.specs.declared.cells.Interval.{Interval}
use Rattle.apl_base.specs.declared.faults.ErrorKind.TheVariants as error
use Rattle.apl_base.specs.declared.rows.Dya.{Dya}
use Rattle.apl_base.specs.Array.{Array, IsArray, IsIndex, size_of, place_at}
use Rattle.apl_base.specs.Elements.{indices}
use Rattle.apl_base.specs.Interval.{InInterval, hull}
use Rattle.apl_base.proofs.Booleans.{both_parts, not-false}
use Rattle.apl_base.proofs.Elements.{indices-each}
use Rattle.apl_base.proofs.Lists.{all_imp, all_set}
use Rattle.apl_base.proofs.Sizes.{IsIndex-positive}
use Rattle.apl_model.specs.declared.functions.DyaFn.{DyaFn}
use Rattle.apl_model.specs.declared.functions.DyaFn.TheVariants as two
use Rattle.apl_model.specs.declared.functions.MonFn.{MonFn}
use Rattle.apl_model.specs.declared.functions.MonFn.TheVariants as one
use Rattle.apl_model.specs.Evaluation.{monadic_value, dyadic_value, replace_in}
use Rattle.apl_model.specs.Made.{taken_shape, kinds_differ}
use Rattle.apl_model.specs.Product.{outer}
use Rattle.apl_model.specs.Subscript.{subscript, replacement, replaced, value_at, positions_shape, positions_index, in_axes, is_text_position}
use Rattle.apl_model.specs.Whole.{Answer, rank, count, is_single}
use Rattle.apl_model_laws.specs.Lawful.{IsOrigin, IsAnswer, IsOptional}
use Rattle.apl_model_laws.proofs.Safe.{monadic_values_are_lawful, dyadic_values_are_lawful, outer_products_are_lawful, subscripts_are_lawful, replacements_are_lawful}
use Rattle.apl_cost.specs.Laws.{LiesIn}
use Rattle.apl_cost.specs.Ranges.{RangedArray, array_of, ranged, literal_source, selection_source, scalar2_source, written_source, write_source, other_source, source1, source2, subscript_source, is_run, counts_fit, selects_nothing, written, bound}
use Rattle.apl_cost.specs.RangedEvaluation.{of_variable, arrays_of}
use Rattle.apl_cost_laws.specs.Inside.{IsInside, IsOptionalInside}
use Rattle.apl_cost_laws.proofs.Cells.{Makes, makes-ok, makes-if, makes-within, take-each, drop-each, reverse-each, flip-each, transpose-each, subscript-each, cell-each}
use Rattle.apl_cost_laws.proofs.Hulls.{lies-exactly, cells-numbers, hulls-keep, hulls-have, hulls-interval}
use Rattle.apl_cost_laws.proofs.Rules.{one-inside, two-inside, outer-inside, one-interval, two-interval}

-- ---- sources

-- an answer that is lawful, and gives an array
pub answer-array : (answer : Answer) (a : Array) → IsAnswer answer → answer ≡ Ok a → IsArray a
answer-array answer a h e = subst IsAnswer e h

-- literals, labels, and other functions
pub exact-inside : (a : Array) → IsArray a → IsInside (ranged other_source a)
exact-inside a h = record { array = h; interval = lies-exactly a h; kept = lies-exactly a h }

pub literal-inside : (a : Array) → IsArray a → IsInside (ranged literal_source a)
literal-inside a h = record { array = h; interval = lies-exactly a h; kept = lies-exactly a h }

-- names and results of calls
pub variable-inside : (v : RangedArray) → IsInside v → IsInside (of_variable v)
variable-inside v h = record { array = h.array; interval = h.kept; kept = h.kept }

-- what is bound
pub bound-inside : (v : RangedArray) → IsInside v → IsInside (bound v)
bound-inside v h = record { array = h.array; interval = h.kept; kept = h.kept }

-- a selection has cells of the array selected from
selection-inside : (b : RangedArray) (a : Array) → IsInside b → IsArray a →
    ((i : Interval) → AllByRecursion (InInterval i) b.array.cells → AllByRecursion (InInterval i) a.cells) → IsInside (ranged (selection_source b) a)
selection-inside b a h g each = record {
  array = g;
  interval = record { lawful = h.interval.lawful; count = g.count; cells = each b.interval h.interval.cells };
  kept = record { lawful = h.kept.lawful; count = g.count; cells = each b.kept h.kept.cells };
}

-- ---- functions of one argument and of two

pub value1-inside : (o : ℤ) → IsOrigin o → (f : MonFn) (b : RangedArray) (a : Array) → IsInside b → monadic_value o f b.array ≡ Ok a →
    IsInside (ranged (source1 f b) a)
value1-inside o p f b a h e = by f (answer-array (monadic_value o f b.array) a (monadic_values_are_lawful o p f b.array h.array) e) e
  where
    by : (f : MonFn) → IsArray a → monadic_value o f b.array ≡ Ok a → IsInside (ranged (source1 f b) a)
    by (one.Scalar f) g e = record {
      array = g;
      interval = record {
        lawful = one-interval f b.array.kind b.interval h.interval.lawful;
        count = g.count;
        cells = one-inside f b.array a b.interval h.interval g e;
      };
      kept = lies-exactly a g;
    }
    by (one.Reverse axis) g e = selection-inside b a h g (λ i all. (reverse-each (InInterval i) o axis b.array h.array.count all).makes a e)
    by one.Transpose g e = selection-inside b a h g (λ i all. (flip-each (InInterval i) b.array h.array.count all).makes a e)
    by one.Iota g e = exact-inside a g
    by one.Shape g e = exact-inside a g
    by one.Ravel g e = exact-inside a g
    by one.GradeUp g e = exact-inside a g
    by one.GradeDown g e = exact-inside a g

-- `A↑B`, where the counts fit and where they don't
take-inside : (a b : RangedArray) (c : Array) → IsInside b → IsArray c → dyadic_value (pos 0) two.Take a.array b.array ≡ Ok c →
    IsInside (ranged (source2 two.Take a b) c)
take-inside a b c h g e = by (counts_fit (taken_shape a.array b.array) a.array.cells) refl
  where
    by : (t : Bool) → counts_fit (taken_shape a.array b.array) a.array.cells ≡ t → IsInside (ranged (if t then selection_source b else other_source) c)
    by true fits = selection-inside b c h g (λ i all. (take-each (InInterval i) a.array b.array h.array.count fits all).makes c e)
    by false fits = exact-inside c g

pub value2-inside : (o : ℤ) → IsOrigin o → (f : DyaFn) (a b : RangedArray) (c : Array) → IsInside a → IsInside b → dyadic_value o f a.array b.array ≡ Ok c →
    IsInside (ranged (source2 f a b) c)
value2-inside o p f a b c k h e = by f (answer-array (dyadic_value o f a.array b.array) c (dyadic_values_are_lawful o p f a.array b.array k.array h.array) e) e
  where
    by : (f : DyaFn) → IsArray c → dyadic_value o f a.array b.array ≡ Ok c → IsInside (ranged (source2 f a b) c)
    by (two.Scalar f) g e = record {
      array = g;
      interval = record {
        lawful = two-interval f a.array.kind b.array.kind a.interval b.interval k.interval.lawful h.interval.lawful;
        count = g.count;
        cells = two-inside f a.array b.array c a.interval b.interval k.interval h.interval g e;
      };
      kept = lies-exactly c g;
    }
    by two.Take g e = take-inside a b c h g e
    by two.Skip g e = selection-inside b c h g (λ i all. (drop-each (InInterval i) a.array b.array k.array.count h.array.count all).makes c e)
    by two.Transpose g e = selection-inside b c h g (λ i all. (transpose-each (InInterval i) o a.array b.array k.array.count h.array.count all).makes c e)
    by two.Reshape g e = exact-inside c g
    by two.Catenate g e = exact-inside c g
    by (two.Rotate axis) g e = exact-inside c g
    by (two.Compress axis) g e = exact-inside c g
    by (two.Expand axis) g e = exact-inside c g
    by two.IndexOf g e = exact-inside c g
    by two.Member g e = exact-inside c g
    by two.Encode g e = exact-inside c g
    by two.Decode g e = exact-inside c g

pub outer-value-inside : (f : Dya) (a b : RangedArray) (c : Array) → IsInside a → IsInside b → outer f a.array b.array ≡ Ok c →
    IsInside (ranged (scalar2_source f a b) c)
outer-value-inside f a b c k h e =
    let g = answer-array (outer f a.array b.array) c (outer_products_are_lawful f a.array b.array k.array h.array) e in
    record {
      array = g;
      interval = record {
        lawful = two-interval f a.array.kind b.array.kind a.interval b.interval k.interval.lawful h.interval.lawful;
        count = g.count;
        cells = outer-inside f a.array b.array c a.interval b.interval k.interval h.interval g e;
      };
      kept = lies-exactly c g;
    }

-- ---- subscripts

-- positions without their intervals
pub lawful-positions : (ps : List (Option RangedArray)) → AllByRecursion IsOptionalInside ps → AllByRecursion IsOptional (arrays_of ps)
lawful-positions [] h = tt
lawful-positions (None ∷ ps) h = (tt, lawful-positions ps h.1)
lawful-positions (Some v ∷ ps) h = (h.0.array, lawful-positions ps h.1)

pub index-inside : (o : ℤ) (b : RangedArray) (ps : List (Option RangedArray)) (a : Array) → IsInside b → AllByRecursion IsOptionalInside ps →
    subscript o b.array (arrays_of ps) ≡ Ok a → IsInside (ranged (subscript_source b (arrays_of ps)) a)
index-inside o b ps a h k e = by (list_all is_run (arrays_of ps))
  where
    g : IsArray a
    g = answer-array (subscript o b.array (arrays_of ps)) a (subscripts_are_lawful o b.array (arrays_of ps) h.array) e

    by : (t : Bool) → IsInside (ranged (if t then selection_source b else other_source) a)
    by true = selection-inside b a h g (λ i all. (subscript-each (InInterval i) o b.array (arrays_of ps) h.array.count (lawful-positions ps k) all).makes a e)
    by false = exact-inside a g

-- ---- indexed assignments

-- lengths that a test finds alike
same-lengths : (ms ns : List ℕ) → pointwise nat_eq ms ns ≡ true → ms ≡ ns
same-lengths [] [] e = refl
same-lengths [] (n ∷ ns) e = absurd cc
same-lengths (m ∷ ms) [] e = absurd cc
same-lengths (m ∷ ms) (n ∷ ns) e =
    let s = both_parts (nat_eq m n) (pointwise nat_eq ms ns) e in
    let f : m ≡ n = grind (arith, nat_tests, s.0) in
    ap (λ k. k ∷ ms) f ∙ ap (λ ks. n ∷ ks) (same-lengths ms ns s.1)

-- the value that goes to an index of the positions is one of B's cells
value-each : (P : ℤ → Type 0) (b : Array) (ns is : List ℕ) (t : Bool) → is_single b ≡ t → length b.cells ≡ size_of b.shape → (t ≡ false → b.shape ≡ ns) →
    AllByRecursion P b.cells →
    IsIndex ns is → P (value_at b is)
value-each P b ns is true e count h all q = rw e (only b.cells (count ∙ (let f : size_of b.shape ≡ 1 = grind (arith, nat_tests, e) in f)) all)
  where
    only : (cells : List ℤ) → length cells ≡ 1 → AllByRecursion P cells → P (slice_index_or cells 0 (pos 0))
    only [] l a = absurd (cc)
    only (z ∷ zs) l a = a.0
value-each P b ns is false e count h all q = rw e (cell-each P b is count all (subst (λ (ms : List ℕ). IsIndex ms is) (sym (h refl)) q))

-- each cell afterwards is an old one or one of B's
replaced-each : (P : ℤ → Type 0) (o : ℤ) (a : Array) (ps : List (Option Array)) (b : Array) (iss : List (List ℕ)) (cells : List ℤ) →
    AllByRecursion (λ is. P (value_at b is)) iss → AllByRecursion P cells → AllByRecursion P (replaced o a ps b iss cells)
replaced-each P o a ps b [] cells v h = h
replaced-each P o a ps b (is ∷ more) cells v h =
    replaced-each P o a ps b more (set cells (place_at a.shape (positions_index o a.shape ps is)) (value_at b is)) v.1
    (all_set P cells (place_at a.shape (positions_index o a.shape ps is)) (value_at b is) h v.0)

-- where both are so, so are all cells of the new array
replacement-each : (P : ℤ → Type 0) (o : ℤ) (a : Array) (ps : List (Option Array)) (b : Array) → length b.cells ≡ size_of b.shape →
    AllByRecursion P a.cells → AllByRecursion P b.cells →
    Makes (λ c. AllByRecursion P c.cells) (replacement o a ps b)
replacement-each P o a ps b count_b olds news =
    let ns = positions_shape a.shape ps in
    let Q : Array → Type 0 = λ c. AllByRecursion P c.cells in
    makes-if Q error.Rank (not (length ps == rank a) || (not (is_single b) && not (rank b == length ns))) _ (λ _.
    makes-if Q error.Length (not (is_single b) && not (pointwise nat_eq b.shape ns)) _ (λ e.
    makes-if Q error.Domain (list_any is_text_position ps || kinds_differ a b) _ (λ _.
    makes-if Q error.Index (not (in_axes o a.shape ps)) _ (λ _.
    makes-within Q ns _
    (makes-ok Q _ (replaced-each P o a ps b (indices ns) a.cells
    (all_imp (IsIndex ns) (λ is. P (value_at b is)) (indices ns)
    (λ is q. value-each P b ns is (is_single b) refl count_b (shapes b ns (is_single b) refl e) news q) (indices-each ns)) olds))))))
  where
    shapes : (b : Array) (ns : List ℕ) (t : Bool) → is_single b ≡ t → not t && not (pointwise nat_eq b.shape ns) ≡ false → t ≡ false → b.shape ≡ ns
    shapes b ns true q e f = absurd cc
    shapes b ns false q e f = same-lengths b.shape ns (not-false (pointwise nat_eq b.shape ns) e)

-- where nothing is selected the cells are the old ones
nothing-replaced : (P : ℤ → Type 0) (o : ℤ) (a : Array) (ps : List (Option Array)) (b : Array) → (size_of (positions_shape a.shape ps) == 0) ≡ true →
    AllByRecursion P a.cells →
    Makes (λ c. AllByRecursion P c.cells) (replacement o a ps b)
nothing-replaced P o a ps b none olds =
    let ns = positions_shape a.shape ps in
    let Q : Array → Type 0 = λ c. AllByRecursion P c.cells in
    let zero : size_of ns ≡ 0 = grind (arith, nat_tests, none) in
    makes-if Q error.Rank (not (length ps == rank a) || (not (is_single b) && not (rank b == length ns))) _ (λ _.
    makes-if Q error.Length (not (is_single b) && not (pointwise nat_eq b.shape ns)) _ (λ _.
    makes-if Q error.Domain (list_any is_text_position ps || kinds_differ a b) _ (λ _.
    makes-if Q error.Index (not (in_axes o a.shape ps)) _ (λ _.
    makes-within Q ns _ (makes-ok Q _ (replaced-each P o a ps b (indices ns) a.cells
    (all_imp (IsIndex ns) (λ is. P (value_at b is)) (indices ns) (λ is q. absurd (no-index ns is zero q)) (indices-each ns)) olds))))))
  where
    no-index : (ns is : List ℕ) → size_of ns ≡ 0 → IsIndex ns is → ⊥
    no-index ns is z q = let p = IsIndex-positive ns is q in omega (arith, z, p)

-- the variable of an indexed assignment
pub written-inside : (o : ℤ) → IsOrigin o → (old : Option RangedArray) (ps : List (Option Array)) (b : RangedArray) (a : Array) → IsOptionalInside old →
    IsInside b →
    replace_in o (option_map array_of old) ps b.array ≡ Ok a → IsInside (written old ps b a)
written-inside o p None ps b a k h e = absurd cc
written-inside o p (Some old) ps b a k h e = by (selects_nothing old.array ps) refl
  where
    g : IsArray a
    g = answer-array (replacement o old.array ps b.array) a (replacements_are_lawful o old.array ps b.array k.array h.array) e

    by : (t : Bool) → selects_nothing old.array ps ≡ t → IsInside (ranged (written_source t old.kept b) a)
    by true f =
        let lies : LiesIn old.kept a = record {
          lawful = k.kept.lawful;
          count = g.count;
          cells = (nothing-replaced (InInterval old.kept) o old.array ps b.array f k.kept.cells).makes a e;
        } in
        record { array = g; interval = lies; kept = lies }
    by false f =
        let lies : LiesIn (fold hull old.kept b.array.cells) a = record {
          lawful = hulls-interval b.array.cells old.kept k.kept.lawful (cells-numbers b.array h.array);
          count = g.count;
          cells = (replacement-each (InInterval (fold hull old.kept b.array.cells)) o old.array ps b.array h.array.count
              (all_imp (InInterval old.kept) (InInterval (fold hull old.kept b.array.cells)) old.array.cells
              (λ z m. hulls-keep b.array.cells old.kept z m) k.kept.cells)
              (hulls-have b.array.cells old.kept)).makes a e;
        } in
        record { array = g; interval = lies; kept = lies }

-- and its value
pub write-inside : (b : RangedArray) → IsInside b → IsInside (ranged (write_source b) b.array)
write-inside b h = record { array = h.array; interval = h.interval; kept = h.interval }

-- The cells of a selection are cells of the array selected from: where a selection gives an array, what is so of each
-- cell of the argument is so of each of its cells.
use Rattle.std.proofs.Common.{◌≡◌, ◌==◌, ◌≤◌, ◌<◌, ℕ, zero, suc, ◌+◌, ◌-◌, leb, Bool, true, false, not, ◌&&◌, ◌||◌, if◌then◌else◌, ℤ, pos, negsuc, ◌-ℤ◌, ◌+ℤ◌, int_le, int_lt, unsigned_abs, List, [], ◌∷◌, ◌++◌, map, length, take, drop, reverse, replicate, Option, Some, None, Ok, Err, refl, sym, ap, ◌∙◌, subst, arith}
use Rattle.std.specs.Prelude.{slice_index}
use Rattle.std.specs.List.{AllByRecursion, list_any}
use Rattle.std.proofs.lemmas.Bool.{leb-true}
use Rattle.std.proofs.lemmas.Bool.Decides.{nat_tests}
use Rattle.std.proofs.lemmas.Int.{ints}
use Rattle.std.proofs.lemmas.List.{reverse-append, length-map}
use Rattle.apl_base.specs.declared.faults.ErrorKind.{ErrorKind}
use Rattle.apl_base.specs.declared.faults.ErrorKind.TheVariants as error
use Rattle.apl_base.specs.Array.{Array, IsIndex, size_of, cell_at, place_at}
use Rattle.apl_base.specs.Elements.{gathered, all_defined}
use Rattle.apl_base.specs.Selection.{drop_shape, drop_index, dropped, reverse_index, transpose_shape, transpose_index, AreAxes, axes_rank}
use Rattle.apl_base.proofs.Booleans.{both_parts, not-false, neither_part, list_all-each}
use Rattle.apl_base.proofs.Elements.{tabulated-each, all_defined-cons}
use Rattle.apl_base.proofs.Lists.{all_place}
use Rattle.apl_base.proofs.Sizes.{place_at-below, IsIndex-set, IsIndex-below}
use Rattle.array_desc.proofs.Transposition.{transposed_index}
use Rattle.apl_model.specs.declared.functions.Axis.{Axis}
use Rattle.apl_model.specs.declared.functions.Axis.TheVariants.{Last, First, Numbered}
use Rattle.apl_model.specs.Made.{taken_shape, taken_place, taken_places, read_or_fill, take_or_pad, drop_from, reversed, flipped, transposed, less_origin, are_axes, with_shape, is_above_one}
use Rattle.apl_model.specs.Subscript.{subscript, positions_shape, positions_index, axes_of, place_of, in_axis, in_axes, is_place, is_text_position}
use Rattle.apl_model.specs.Whole.{Answer, rank, count, is_text, is_shape, error_if, error_or, within_limit}
use Rattle.apl_model_laws.specs.Lawful.{IsOptional}
use Rattle.apl_model_laws.proofs.TestedAxes.{axes_are_tested}
use Rattle.apl_cost.specs.Ranges.{counts_fit}
use Rattle.apl_base.proofs.ShapeLemmas.{index_parts}

-- ---- answers

-- the array of the answer, if it gives one, is so
pub record Makes (Q : Array → Type 0) (answer : Answer) : Type 0 where
  pub makes : (a : Array) → answer ≡ Ok a → Q a

pub makes-ok : (Q : Array → Type 0) (v : Array) → Q v → Makes Q (Ok v)
makes-ok Q v h = record { makes = λ a e. let f : v ≡ a = cc in subst Q f h }

pub makes-error : (Q : Array → Type 0) (e : ErrorKind) → Makes Q (Err e)
makes-error Q e = record { makes = λ a f. absurd cc }

pub makes-if : (Q : Array → Type 0) (e : ErrorKind) (b : Bool) (next : Answer) → (b ≡ false → Makes Q next) → Makes Q (error_if e b next)
makes-if Q e true next h = makes-error Q e
makes-if Q e false next h = h refl

pub makes-or : (Q : Array → Type 0) (e : ErrorKind) (b : Bool) (make : Unit {0} → Answer) → (b ≡ false → Makes Q (make tt)) → Makes Q (error_or e b make)
makes-or Q e true make h = makes-error Q e
makes-or Q e false make h = h refl

pub makes-within : (Q : Array → Type 0) (ns : List ℕ) (make : Unit {0} → Answer) → Makes Q (make tt) → Makes Q (within_limit ns make)
makes-within Q ns make h = makes-or Q error.Limit (not (is_shape ns)) make (λ e. h)

-- ---- what is read

-- the cell at an index
pub cell-each : (P : ℤ → Type 0) (b : Array) (is : List ℕ) → length b.cells ≡ size_of b.shape → AllByRecursion P b.cells → IsIndex b.shape is → P (cell_at b is)
cell-each P b is count all q = all_place P b.cells (place_at b.shape is) (pos 0) all (omega (arith, place_at-below b.shape is q, count))

-- an array that is gathered by indices of the other
pub gathered-each : (P : ℤ → Type 0) (ns : List ℕ) (read : List ℕ → List ℕ) (b : Array) → length b.cells ≡ size_of b.shape → AllByRecursion P b.cells →
    ((is : List ℕ) → IsIndex ns is → IsIndex b.shape (read is)) → AllByRecursion P (gathered ns read b).cells
gathered-each P ns read b count all h = tabulated-each P b.kind ns (λ is. cell_at b (read is)) (λ is q. cell-each P b (read is) count all (h is q))

-- ---- take and drop

ones-size : (k : ℕ) → size_of (replicate k 1) ≡ 1
ones-size zero = refl
ones-size (suc k) = omega (arith, ones-size k)

-- a scalar with axes of length 1 has as many elements
pub taken-size : (a b : Array) → size_of (taken_shape a b) ≡ size_of b.shape
taken-size a b = by b.shape (rank b == 0) refl
  where
    by : (ns : List ℕ) (t : Bool) → (length ns == 0) ≡ t → size_of (if t then replicate (count a) 1 else ns) ≡ size_of ns
    by [] true e = ones-size (count a)
    by (n ∷ ns) true e = absurd (grind (arith, nat_tests, e))
    by ns false e = refl

-- the places that a taken index reads
pub record Read (ns : List ℕ) (found : Option (List ℕ)) : Type 0 where
  pub places : List ℕ
  pub finds : found ≡ Some places
  pub index : IsIndex ns places

place-taken : (n i : ℕ) (a : ℤ) → unsigned_abs a ≤ n → i < unsigned_abs a → (j : ℕ) × (taken_place n a i ≡ Some j) × (j < n)
place-taken n i (pos a) h p = (i, (let e : leb (suc i) n ≡ true = grind (arith, nat_tests, h, p) in rw e refl), omega (arith, h, p))
place-taken n i (negsuc a) h p = (n + i - suc a, (let e : leb (suc a) (n + i) ≡ true = grind (arith, nat_tests, h, p) in rw e refl), omega (arith, h, p))

places-taken : (ns : List ℕ) (counts : List ℤ) (is : List ℕ) → counts_fit ns counts ≡ true → IsIndex (map unsigned_abs counts) is →
    Read ns (all_defined (taken_places ns counts is))
places-taken [] [] [] h q = record { places = []; finds = refl; index = tt }
places-taken [] [] (i ∷ is) h q = absurd q
places-taken [] (a ∷ counts) is h q = absurd cc
places-taken (n ∷ ns) [] is h q = absurd cc
places-taken (n ∷ ns) (a ∷ counts) [] h q = absurd q
places-taken (n ∷ ns) (a ∷ counts) (i ∷ is) h q =
    let s = both_parts (leb (unsigned_abs a) n) (counts_fit ns counts) h in
    let first = place-taken n i a (leb-true (unsigned_abs a) n s.0) q.0 in
    let rest = places-taken ns counts is s.1 q.1 in
    record {
      places = first.0 ∷ rest.places;
      finds = all_defined-cons (taken_place n a i) (taken_places ns counts is) first.0 rest.places first.1 rest.finds;
      index = (first.2, rest.index);
    }

pub take-each : (P : ℤ → Type 0) (a b : Array) → length b.cells ≡ size_of b.shape → counts_fit (taken_shape a b) a.cells ≡ true → AllByRecursion P b.cells →
    Makes (λ c. AllByRecursion P c.cells) (take_or_pad a b)
take-each P a b count_is fits all =
    let ns = taken_shape a b in
    let Q : Array → Type 0 = λ c. AllByRecursion P c.cells in
    let read : (is : List ℕ) → IsIndex (map unsigned_abs a.cells) is → P (read_or_fill (with_shape b ns) (all_defined (taken_places ns a.cells is))) =
    λ is q. let r = places-taken ns a.cells is fits q in
    subst (λ (o : Option (List ℕ)). P (read_or_fill (with_shape b ns) o)) (sym r.finds)
    (cell-each P (with_shape b ns) r.places (count_is ∙ sym (taken-size a b)) all r.index) in
    makes-if Q error.Rank (is_above_one a) _ (λ _.
    makes-if Q error.Length (not (count a == length ns)) _ (λ _.
    makes-if Q error.Domain (is_text a) _ (λ _.
    makes-within Q (map unsigned_abs a.cells) _
    (makes-ok Q _ (tabulated-each P b.kind (map unsigned_abs a.cells)
    (λ is. read_or_fill (with_shape b ns) (all_defined (taken_places ns a.cells is))) read)))))

place-left : (n i : ℕ) (a : ℤ) → i < n - unsigned_abs a → dropped n a i < n
place-left n i (pos a) p = omega (arith, p)
place-left n i (negsuc a) p = omega (arith, p)

drop-index : (ns : List ℕ) (counts : List ℤ) (is : List ℕ) → length counts ≡ length ns → IsIndex (drop_shape ns counts) is →
    IsIndex ns (drop_index ns counts is)
drop-index [] [] [] l q = tt
drop-index [] [] (i ∷ is) l q = absurd q
drop-index [] (a ∷ counts) is l q = absurd (omega (arith, l))
drop-index (n ∷ ns) [] is l q = absurd (omega (arith, l))
drop-index (n ∷ ns) (a ∷ counts) [] l q = absurd q
drop-index (n ∷ ns) (a ∷ counts) (i ∷ is) l q = (place-left n i a q.0, drop-index ns counts is (omega (arith, l)) q.1)

-- two numbers that a test finds alike
same : (m n : ℕ) → not (m == n) ≡ false → m ≡ n
same m n e = grind (arith, nat_tests, not-false (m == n) e)

pub drop-each : (P : ℤ → Type 0) (a b : Array) → length a.cells ≡ size_of a.shape → length b.cells ≡ size_of b.shape → AllByRecursion P b.cells →
    Makes (λ c. AllByRecursion P c.cells) (drop_from a b)
drop-each P a b count_a count_b all =
    let ns = taken_shape a b in
    let Q : Array → Type 0 = λ c. AllByRecursion P c.cells in
    makes-if Q error.Rank (is_above_one a) _ (λ _.
    makes-if Q error.Length (not (count a == length ns)) _ (λ e.
    makes-if Q error.Domain (is_text a) _ (λ _.
    makes-within Q (drop_shape ns a.cells) _
    (makes-ok Q _ (gathered-each P (drop_shape ns a.cells) (drop_index ns a.cells) (with_shape b ns) (count_b ∙ sym (taken-size a b)) all
    (λ is q. drop-index ns a.cells is (count_a ∙ same (count a) (length ns) e) q))))))

-- ---- reversal and transposition

reverse-index : (ns : List ℕ) (k : ℕ) (is : List ℕ) → IsIndex ns is → IsIndex ns (reverse_index ns k is)
reverse-index ns k is q = IsIndex-set ns is k (slice_index ns k - 1 - slice_index is k) q (λ l. omega (arith, IsIndex-below ns is k q l))

pub reverse-each : (P : ℤ → Type 0) (o : ℤ) (axis : Axis) (b : Array) → length b.cells ≡ size_of b.shape → AllByRecursion P b.cells →
    Makes (λ c. AllByRecursion P c.cells) (reversed o axis b)
reverse-each P o Last b count all = makes-ok _ _ (gathered-each P b.shape (reverse_index b.shape (rank b - 1)) b count all (reverse-index b.shape (rank b - 1)))
reverse-each P o First b count all = makes-ok _ _ (gathered-each P b.shape (reverse_index b.shape 0) b count all (reverse-index b.shape 0))
reverse-each P o (Numbered k) b count all =
    let at = unsigned_abs (k -ℤ o) in
    makes-if _ error.Rank (not (int_le o k && int_lt k (o +ℤ pos (rank b)))) _
    (λ _. makes-ok _ _ (gathered-each P b.shape (reverse_index b.shape at) b count all (reverse-index b.shape at)))

-- indices of lengths in a row
pub index-append : (ms ns is js : List ℕ) → IsIndex ms is → IsIndex ns js → IsIndex (ms ++ ns) (is ++ js)
index-append [] ns [] js p q = q
index-append [] ns (i ∷ is) js p q = absurd p
index-append (m ∷ ms) ns [] js p q = absurd p
index-append (m ∷ ms) ns (i ∷ is) js p q = (p.0, index-append ms ns is js p.1 q)

index-back : (ns is : List ℕ) → IsIndex ns is → IsIndex (reverse ns) (reverse is)
index-back [] [] q = tt
index-back [] (i ∷ is) q = absurd q
index-back (n ∷ ns) [] q = absurd q
index-back (n ∷ ns) (i ∷ is) q =
    let e = reverse-append (n ∷ []) ns in
    let f = reverse-append (i ∷ []) is in
    subst (λ (ms : List ℕ). IsIndex ms (reverse (i ∷ is))) (sym e) (subst (λ (js : List ℕ). IsIndex (reverse ns ++ (n ∷ [])) js) (sym f)
    (index-append (reverse ns) (n ∷ []) (reverse is) (i ∷ []) (index-back ns is q.1) (q.0, tt)))

twice-back : (ns : List ℕ) → reverse (reverse ns) ≡ ns
twice-back [] = refl
twice-back (n ∷ ns) = ap reverse (reverse-append (n ∷ []) ns) ∙ reverse-append (reverse ns) (n ∷ []) ∙ ap (λ ms. n ∷ ms) (twice-back ns)

flip-index : (ns is : List ℕ) → IsIndex (reverse ns) is → IsIndex ns (reverse is)
flip-index ns is q = subst (λ (ms : List ℕ). IsIndex ms (reverse is)) (twice-back ns) (index-back (reverse ns) is q)

pub flip-each : (P : ℤ → Type 0) (b : Array) → length b.cells ≡ size_of b.shape → AllByRecursion P b.cells → Makes (λ c. AllByRecursion P c.cells) (flipped b)
flip-each P b count all = makes-ok _ _ (gathered-each P (reverse b.shape) reverse b count all (flip-index b.shape))

pub transpose-each : (P : ℤ → Type 0) (o : ℤ) (a b : Array) → length a.cells ≡ size_of a.shape → length b.cells ≡ size_of b.shape → AllByRecursion P b.cells →
    Makes (λ c. AllByRecursion P c.cells) (transposed o a b)
transpose-each P o a b count_a count_b all =
    let zs = less_origin o a in
    let axes = map unsigned_abs zs in
    let Q : Array → Type 0 = λ c. AllByRecursion P c.cells in
    makes-if Q error.Rank (is_above_one a) _ (λ _.
    makes-if Q error.Length (not (count a == rank b)) _ (λ e.
    makes-or Q error.Domain (is_text a || not (are_axes zs)) _ (λ f.
    let are : AreAxes (axes_rank axes) axes = ((axes_are_tested zs).0 (not-false (are_axes zs) (neither_part (is_text a) (not (are_axes zs)) f).1)).1 in
    let l : length axes ≡ length b.shape = omega (arith, length-map zs unsigned_abs, length-map a.cells (λ z. z -ℤ o), count_a, same (count a) (rank b) e) in
    makes-ok Q _ (gathered-each P (transpose_shape axes b.shape) (transpose_index axes) b count_b all (λ is q. transposed_index axes b.shape is are l q)))))

-- ---- subscripts

-- a value that names a place of an axis
place-named : (o : ℤ) (n : ℕ) (v : ℤ) → is_place o n v ≡ true → unsigned_abs (v -ℤ o) < n
place-named o n v h =
    let s = both_parts (int_le o v) (int_lt v (o +ℤ pos n)) h in
    let low : int_le o v ≡ true = s.0 in
    let high : int_lt v (o +ℤ pos n) ≡ true = s.1 in
    omega (arith, ints)

-- the place that a position names at its part of the index
position-index : (o : ℤ) (n : ℕ) (p : Option Array) (is : List ℕ) → IsOptional p → in_axis o n p ≡ true → IsIndex (axes_of n p) is →
    IsIndex (n ∷ []) (place_of o p is)
position-index o n None is lawful h q = q
position-index o n (Some p) is lawful h q =
    (place-named o n (cell_at p is) (cell-each (λ v. is_place o n v ≡ true) p is lawful.count (list_all-each (is_place o n) p.cells h) q), tt)

positions-index : (o : ℤ) (ns : List ℕ) (ps : List (Option Array)) (is : List ℕ) → AllByRecursion IsOptional ps → length ps ≡ length ns →
    in_axes o ns ps ≡ true →
    IsIndex (positions_shape ns ps) is → IsIndex ns (positions_index o ns ps is)
positions-index o [] [] [] lawful l h q = tt
positions-index o [] [] (i ∷ is) lawful l h q = absurd q
positions-index o [] (p ∷ ps) is lawful l h q = absurd (omega (arith, l))
positions-index o (n ∷ ns) [] is lawful l h q = absurd (omega (arith, l))
positions-index o (n ∷ ns) (p ∷ ps) is lawful l h q =
    let k = length (axes_of n p) in
    let s = both_parts (in_axis o n p) (in_axes o ns ps) h in
    let r = index_parts (axes_of n p) (positions_shape ns ps) is q in
    index-append (n ∷ []) ns (place_of o p (take k is)) (positions_index o ns ps (drop k is))
    (position-index o n p (take k is) lawful.0 s.0 r.0) (positions-index o ns ps (drop k is) lawful.1 (omega (arith, l)) s.1 r.1)

pub subscript-each : (P : ℤ → Type 0) (o : ℤ) (b : Array) (ps : List (Option Array)) → length b.cells ≡ size_of b.shape → AllByRecursion IsOptional ps →
    AllByRecursion P b.cells →
    Makes (λ c. AllByRecursion P c.cells) (subscript o b ps)
subscript-each P o b ps count lawful all =
    let ns = positions_shape b.shape ps in
    let Q : Array → Type 0 = λ c. AllByRecursion P c.cells in
    makes-if Q error.Rank (not (length ps == rank b)) _ (λ e.
    makes-if Q error.Domain (list_any is_text_position ps) _ (λ _.
    makes-if Q error.Index (not (in_axes o b.shape ps)) _ (λ f.
    makes-within Q ns _
    (makes-ok Q _ (gathered-each P ns (positions_index o b.shape ps) b count all
    (λ is q. positions-index o b.shape ps is lawful (same (length ps) (rank b) e) (not-false (in_axes o b.shape ps) f) q))))))

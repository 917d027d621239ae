-- What the functions that are no scalar functions give is lawful.
use Rattle.std.proofs.Common.{◌≡◌, ℕ, zero, suc, ◌+◌, ◌-◌, ◌%◌, ◌^◌, ◌<◌, ◌≤◌, Bool, true, false, not, ◌&&◌, ◌||◌, ◌==◌, if◌then◌else◌, ℤ, pos, ◌+ℤ◌, ◌-ℤ◌, ◌*ℤ◌, int_le, int_lt, unsigned_abs, List, [], ◌∷◌, ◌++◌, length, map, replicate, remove, Option, Some, None, IfSome, refl, ap, subst, ◌∙◌, ◌⊎◌, inl, inr, arith, length-append}
use Rattle.std.specs.Prelude.{slice_index_or, nat_eq}
use Rattle.std.specs.List.{AllByRecursion, list_any, position_or_len}
use Rattle.std.specs.Cmp.Lexicographic.{pointwise}
use Rattle.std.specs.Ordering.{int_eq}
use Rattle.std.specs.Option.{option_and_then}
use Rattle.std.proofs.lemmas.List.{length-map}
use Rattle.std.proofs.lemmas.List.Sums.{prefix_len-le-length}
use Rattle.std.proofs.lemmas.Bool.{eqb-true}
use Rattle.std.proofs.lemmas.Int.{ints}
use Rattle.apl_base.specs.declared.cells.Kind.{Kind}
use Rattle.apl_base.specs.declared.cells.Kind.TheVariants.{Num, Char}
use Rattle.apl_base.specs.declared.cells.Elem.{Elem}
use Rattle.apl_base.specs.declared.faults.ErrorKind.TheVariants as error
use Rattle.apl_base.specs.declared.rows.Dya.TheVariants as dya
use Rattle.apl_base.specs.Array.{Array, IsArray, size_of}
use Rattle.apl_base.specs.Elements.{element, elements, all_defined}
use Rattle.apl_base.specs.Number.{IsNumber, IsCell}
use Rattle.apl_base.specs.Scalar.{is_same, is_same_kind, truth, in_range}
use Rattle.apl_base.specs.Selection.{upward, reverse_index, drop_shape, drop_index}
use Rattle.apl_base.proofs.Integers.{magnitude-below}
use Rattle.apl_base.proofs.Lists.{all_imp, all_map, all_mapped, all_append, all_replicate, all_at}
use Rattle.apl_base.proofs.Numbers.{IsNumber-small}
use Rattle.apl_base.proofs.Booleans.{both_parts, neither_part, not-false}
use Rattle.apl_base.proofs.Upward.{length-upward, length-map-upward, all-upward}
use Rattle.scalar_table.specs.LawfulNumbers.{truth-lawful, of_numbers-lawful}
use Rattle.apl_model.specs.declared.functions.Axis.{Axis}
use Rattle.apl_model.specs.declared.functions.Axis.TheVariants.{Last, First, Numbered}
use Rattle.apl_model.specs.Made.{is_above_one, are_counts, counted_from, on_axis, interval, shape_of, reshape, ravel, joined_kind, kinds_differ, catenate, reversed, turn, turned_index, rotated, taken_shape, taken_places, read_or_fill, with_shape, take_or_pad, drop_from, index_of, member, comes_first, place_in, in_order, grade, decoded, matched, decode}
use Rattle.apl_model.specs.Whole.{Answer, rank, count, is_single, is_empty, is_text, is_char, first, vector}
use Rattle.apl_model_laws.specs.Lawful.{IsOrigin}
use Rattle.apl_model_laws.proofs.Arrays.{Gives, gives, error_if-gives, within-gives, domain-gives, zero_cell, fill_cell, cell_at-lawful, counted-number, tabulated-array, gathered-array, vector-array, scalar-array, count-small}

-- ---- tests

pub no_cells : (cells : List ℤ) (n : ℕ) → length cells ≡ n → (n == 0) ≡ true → cells ≡ []
no_cells [] n l e = refl
no_cells (z ∷ cells) n l e = absurd (omega (arith, l, eqb-true n 0 e))

pub empty-cells : (a : Array) → IsArray a → is_empty a ≡ true → a.cells ≡ []
empty-cells a h e = no_cells a.cells (count a) h.count e

-- an argument that is no text has numbers
pub numbers-of : (a : Array) → IsArray a → is_text a ≡ false → AllByRecursion IsNumber a.cells
numbers-of a h e = by a.kind (is_empty a) h.cells (empty-cells a h) e
  where
    by : (k : Kind) (b : Bool) → AllByRecursion (IsCell k) a.cells → (b ≡ true → a.cells ≡ []) → is_char k && not b ≡ false → AllByRecursion IsNumber a.cells
    by Num b c f e = c
    by Char true c f e = rw (f refl) tt
    by Char false c f e = absurd cc

-- ---- axes

-- an axis that is there, or the first one of a scalar
abbrev pub IsAxisOf : ℕ → ℕ → Type 0
IsAxisOf r k = (k < r) ⊎ ((r ≡ 0) × (k ≡ 0))

axis_first : (r : ℕ) → IsAxisOf r 0
axis_first zero = inr (refl, refl)
axis_first (suc r) = inl (omega arith)

axis_last : (r : ℕ) → IsAxisOf r (r - 1)
axis_last zero = inr (refl, refl)
axis_last (suc r) = inl (omega arith)

axis_numbered : (o k : ℤ) (r : ℕ) → int_le o k && int_lt k (o +ℤ pos r) ≡ true → unsigned_abs (k -ℤ o) < r
axis_numbered o k r h =
    let s = both_parts (int_le o k) (int_lt k (o +ℤ pos r)) h in
    let a : int_le o k ≡ true = s.0 in
    let b : int_lt k (o +ℤ pos r) ≡ true = s.1 in
    magnitude-below (k -ℤ o) r (omega (arith, ints)) (omega (arith, ints))

pub axis-gives : (o : ℤ) (axis : Axis) (r : ℕ) (make : ℕ → Answer) → ((k : ℕ) → IsAxisOf r k → Gives (make k)) → Gives (on_axis o axis r make)
axis-gives o Last r make h = h (r - 1) (axis_last r)
axis-gives o First r make h = h 0 (axis_first r)
axis-gives o (Numbered k) r make h =
    error_if-gives error.Rank (not (int_le o k && int_lt k (o +ℤ pos r))) (make (unsigned_abs (k -ℤ o)))
    (λ e. h (unsigned_abs (k -ℤ o)) (inl (axis_numbered o k r (not-false (int_le o k && int_lt k (o +ℤ pos r)) e))))

-- ---- intervals, shapes, reshaping

counted-vector : (o : ℤ) → IsOrigin o → (ps : List ℕ) → length ps ≤ 2 ^ 40 → AllByRecursion (λ p. p < 2 ^ 40) ps → IsArray (vector Num (map (counted_from o) ps))
counted-vector o h ps l a =
    vector-array Num (map (counted_from o) ps) (omega (arith, length-map ps (counted_from o), l))
    (all_map IsNumber (counted_from o) ps (all_imp (λ p. p < 2 ^ 40) (λ p. IsNumber (counted_from o p)) ps (λ p b. counted-number o h p (omega (arith, b))) a))

pub interval-gives : (o : ℤ) → IsOrigin o → (b : Array) → Gives (interval o b)
interval-gives o h b =
    error_if-gives error.Rank (is_above_one b) _ (λ _. error_if-gives error.Length (not (is_single b)) _ (λ _. error_if-gives error.Domain (not (are_counts b)) _ (λ _. within-gives (unsigned_abs (first b) ∷ []) _ (λ s.
    let n = unsigned_abs (first b) in
    let small : n ≤ 2 ^ 40 = s.each.0 in
    gives _ (counted-vector o h (upward 0 n) (omega (arith, length-upward 0 n, small)) (all-upward (λ p. p < 2 ^ 40) 0 n (λ p low high. omega (arith, high, small))))))))

pub shape-gives : (b : Array) → IsArray b → Gives (shape_of b)
shape-gives b h = gives _ (vector-array Num (map pos b.shape) (omega (arith, length-map b.shape pos, h.shape.rank))
    (all_map IsNumber pos b.shape (all_imp (λ n. n ≤ 2 ^ 40) (λ n. IsNumber (pos n)) b.shape (λ n p. IsNumber-small n (omega (arith, p))) h.shape.each)))

pub reshape-gives : (a b : Array) → IsArray b → Gives (reshape a b)
reshape-gives a b h =
    error_if-gives error.Rank (is_above_one a) _ (λ _. error_if-gives error.Length (is_empty b && are_counts a && not (list_any (int_eq (pos 0)) a.cells)) _ (λ _. error_if-gives error.Domain (not (are_counts a)) _ (λ _. within-gives (map unsigned_abs a.cells) _ (λ s. gives _ (record {
      shape = s;
      count = length-map-upward (λ p. slice_index_or b.cells (p % count b) (pos 0)) 0 (size_of (map unsigned_abs a.cells));
      cells = all_mapped (IsCell b.kind) (λ p. slice_index_or b.cells (p % count b) (pos 0)) (upward 0 (size_of (map unsigned_abs a.cells)))
          (λ p. all_at (IsCell b.kind) b.cells (p % count b) (pos 0) h.cells (zero_cell b.kind));
    })))))

pub ravel-gives : (b : Array) → IsArray b → Gives (ravel b)
ravel-gives b h = gives _ (vector-array b.kind b.cells (count-small b h) h.cells)

-- ---- catenation

joined-cells : (ea eb : Bool) (k l : Kind) (ls rs : List ℤ) → (ea ≡ true → ls ≡ []) → (eb ≡ true → rs ≡ []) →
    AllByRecursion (IsCell k) ls → AllByRecursion (IsCell l) rs → not ea && not eb && not (is_same_kind k l) ≡ false →
    AllByRecursion (IsCell (if ea && not eb then l else k)) (ls ++ rs)
joined-cells true true k l ls rs f g a b e = rw (f refl, g refl) tt
joined-cells true false k l ls rs f g a b e = rw (f refl) b
joined-cells false true k l ls rs f g a b e = all_append (IsCell k) ls rs a (rw (g refl) tt)
joined-cells false false Num Num ls rs f g a b e = all_append (IsCell Num) ls rs a b
joined-cells false false Char Char ls rs f g a b e = all_append (IsCell Char) ls rs a b
joined-cells false false Num Char ls rs f g a b e = absurd cc
joined-cells false false Char Num ls rs f g a b e = absurd cc

pub catenate-gives : (a b : Array) → IsArray a → IsArray b → Gives (catenate a b)
catenate-gives a b g h =
    error_if-gives error.Rank (is_above_one a || is_above_one b) _ (λ _. error_if-gives error.Domain (kinds_differ a b) _ (λ e. within-gives ((count a + count b) ∷ []) _ (λ s.
    let small : count a + count b ≤ 2 ^ 40 = s.each.0 in
    gives _ (vector-array (joined_kind a b) (a.cells ++ b.cells) (omega (arith, length-append a.cells b.cells, g.count, h.count, small))
    (joined-cells (is_empty a) (is_empty b) a.kind b.kind a.cells b.cells (empty-cells a g) (empty-cells b h) g.cells h.cells e)))))

-- ---- reversal, rotation, transposition

pub reversed-gives : (o : ℤ) (axis : Axis) (b : Array) → IsArray b → Gives (reversed o axis b)
reversed-gives o axis b h = axis-gives o axis (rank b) _ (λ k _. gives _ (gathered-array b.shape (reverse_index b.shape k) b h.shape h.cells))

pub rotated-gives : (o : ℤ) (axis : Axis) (a b : Array) → IsArray b → Gives (rotated o axis a b)
rotated-gives o axis a b h = axis-gives o axis (rank b) _ (λ k _.
    error_if-gives error.Rank (not (is_single a) && not (rank a + 1 == rank b)) _ (λ _. error_if-gives error.Length (not (is_single a) && not (pointwise nat_eq a.shape (remove b.shape k))) _ (λ _. error_if-gives error.Domain (is_text a) _ (λ _.
    gives _ (gathered-array b.shape (λ is. turned_index b.shape k (turn a k is) is) b h.shape h.cells)))))

-- ---- taking and dropping

pub read-lawful : (b : Array) → AllByRecursion (IsCell b.kind) b.cells → (i : Option (List ℕ)) → IsCell b.kind (read_or_fill b i)
read-lawful b h (Some i) = cell_at-lawful b h i
read-lawful b h None = fill_cell b.kind

pub take-gives : (a b : Array) → IsArray b → Gives (take_or_pad a b)
take-gives a b h =
    error_if-gives error.Rank (is_above_one a) _ (λ _. error_if-gives error.Length (not (count a == length (taken_shape a b))) _ (λ _. error_if-gives error.Domain (is_text a) _ (λ _. within-gives (map unsigned_abs a.cells) _ (λ s.
    gives _ (tabulated-array b.kind (map unsigned_abs a.cells) (λ is. read_or_fill (with_shape b (taken_shape a b)) (all_defined (taken_places (taken_shape a b) a.cells is))) s
    (λ is. read-lawful (with_shape b (taken_shape a b)) h.cells (all_defined (taken_places (taken_shape a b) a.cells is))))))))

pub drop-gives : (a b : Array) → IsArray b → Gives (drop_from a b)
drop-gives a b h =
    error_if-gives error.Rank (is_above_one a) _ (λ _. error_if-gives error.Length (not (count a == length (taken_shape a b))) _ (λ _. error_if-gives error.Domain (is_text a) _ (λ _. within-gives (drop_shape (taken_shape a b) a.cells) _ (λ s.
    gives _ (gathered-array (drop_shape (taken_shape a b) a.cells) (drop_index (taken_shape a b) a.cells) (with_shape b (taken_shape a b)) s h.cells)))))

-- ---- look-ups

pub index_of-gives : (o : ℤ) → IsOrigin o → (a b : Array) → IsArray a → IsArray b → Gives (index_of o a b)
index_of-gives o p a b g h =
    let place : Elem → ℕ = λ e. position_or_len (is_same e) (elements a) in
    error_if-gives error.Rank (not (rank a == 1)) _ (λ _. gives _ (record {
      shape = h.shape;
      count = length-map (elements b) (λ e. counted_from o (place e)) ∙ length-map b.cells (element b.kind) ∙ h.count;
      cells = all_mapped IsNumber (λ e. counted_from o (place e)) (elements b)
          (λ e. counted-number o p (place e) (omega (arith, prefix_len-le-length (λ x. not (is_same e x)) (elements a), length-map a.cells (element a.kind), count-small a g)));
    }))

pub member-gives : (a b : Array) → IsArray a → Gives (member a b)
member-gives a b h = gives _ (record {
  shape = h.shape;
  count = length-map (elements a) (λ e. truth (list_any (is_same e) (elements b))) ∙ length-map a.cells (element a.kind) ∙ h.count;
  cells = all_mapped IsNumber (λ e. truth (list_any (is_same e) (elements b))) (elements a) (λ e. truth-lawful (list_any (is_same e) (elements b)));
})

-- ---- grading

put-length : (t : Bool) (p q : ℕ) (qs rs : List ℕ) → length rs ≡ suc (length qs) → length (if t then q ∷ rs else p ∷ q ∷ qs) ≡ suc (suc (length qs))
put-length true p q qs rs h = ap suc h
put-length false p q qs rs h = refl

put-below : (n : ℕ) (t : Bool) (p q : ℕ) (qs rs : List ℕ) → p < n → q < n → AllByRecursion (λ p. p < n) qs → AllByRecursion (λ p. p < n) rs →
    AllByRecursion (λ p. p < n) (if t then q ∷ rs else p ∷ q ∷ qs)
put-below n true p q qs rs a b c d = (b, d)
put-below n false p q qs rs a b c d = (a, (b, c))

pub place_in-length : (down : Bool) (cells : List ℤ) (p : ℕ) (qs : List ℕ) → length (place_in down cells p qs) ≡ suc (length qs)
place_in-length down cells p [] = refl
place_in-length down cells p (q ∷ qs) =
    put-length (comes_first down (slice_index_or cells q (pos 0)) (slice_index_or cells p (pos 0))) p q qs (place_in down cells p qs) (place_in-length down cells p qs)

place_in-below : (n : ℕ) (down : Bool) (cells : List ℤ) (p : ℕ) (qs : List ℕ) → p < n → AllByRecursion (λ p. p < n) qs → AllByRecursion (λ p. p < n) (place_in down cells p qs)
place_in-below n down cells p [] h a = (h, tt)
place_in-below n down cells p (q ∷ qs) h a =
    put-below n (comes_first down (slice_index_or cells q (pos 0)) (slice_index_or cells p (pos 0))) p q qs (place_in down cells p qs) h a.0 a.1 (place_in-below n down cells p qs h a.1)

pub in_order-length : (down : Bool) (cells : List ℤ) (ps : List ℕ) → length (in_order down cells ps) ≡ length ps
in_order-length down cells [] = refl
in_order-length down cells (p ∷ ps) = place_in-length down cells p (in_order down cells ps) ∙ ap suc (in_order-length down cells ps)

in_order-below : (n : ℕ) (down : Bool) (cells : List ℤ) (ps : List ℕ) → AllByRecursion (λ p. p < n) ps → AllByRecursion (λ p. p < n) (in_order down cells ps)
in_order-below n down cells [] a = tt
in_order-below n down cells (p ∷ ps) a = place_in-below n down cells p (in_order down cells ps) a.0 (in_order-below n down cells ps a.1)

pub grade-gives : (down : Bool) (o : ℤ) → IsOrigin o → (b : Array) → IsArray b → Gives (grade down o b)
grade-gives down o p b h =
    error_if-gives error.Rank (not (rank b == 1)) _ (λ _. error_if-gives error.Domain (is_text b) _ (λ _.
    gives _ (counted-vector o p (in_order down b.cells (upward 0 (count b)))
    (omega (arith, in_order-length down b.cells (upward 0 (count b)), length-upward 0 (count b), h.shape.product))
    (in_order-below (2 ^ 40) down b.cells (upward 0 (count b)) (all-upward (λ p. p < 2 ^ 40) 0 (count b) (λ p low high. omega (arith, high, h.shape.product)))))))

-- ---- decoding

step-lawful : (o : Option ℤ) (a b : ℤ) → IfSome o IsNumber → IsNumber a → IsNumber b →
    IfSome (option_and_then (λ n. option_and_then (λ m. in_range (m +ℤ b)) (in_range (n *ℤ a))) o) IsNumber
step-lawful None a b h p q = tt
step-lawful (Some n) a b h p q = sum (in_range (n *ℤ a)) (of_numbers-lawful dya.Mul n a h p)
  where
    sum : (o : Option ℤ) → IfSome o IsNumber → IfSome (option_and_then (λ m. in_range (m +ℤ b)) o) IsNumber
    sum None h = tt
    sum (Some m) h = of_numbers-lawful dya.Add m b h q

decoded-lawful : (bases ds : List ℤ) (r : Option ℤ) → IfSome r IsNumber → AllByRecursion IsNumber bases → AllByRecursion IsNumber ds → IfSome (decoded r bases ds) IsNumber
decoded-lawful [] ds r h a b = h
decoded-lawful (z ∷ bases) [] r h a b = h
decoded-lawful (z ∷ bases) (y ∷ ds) r h a b =
    decoded-lawful bases ds (option_and_then (λ n. option_and_then (λ m. in_range (m +ℤ y)) (in_range (n *ℤ z))) r) (step-lawful r z y h a.0 b.0) a.1 b.1

matched-numbers : (a : Array) → IsArray a → is_text a ≡ false → (n : ℕ) → AllByRecursion IsNumber (matched a n)
matched-numbers a h e n = by (is_single a)
  where
    by : (t : Bool) → AllByRecursion IsNumber (if t then replicate n (first a) else a.cells)
    by true = all_replicate IsNumber n (first a) (all_at IsNumber a.cells 0 (pos 0) (numbers-of a h e) (zero_cell Num))
    by false = numbers-of a h e

if_some : (o : Option ℤ) (z : ℤ) → IfSome o IsNumber → o ≡ Some z → IsNumber z
if_some None z h e = absurd cc
if_some (Some y) z h e = let f : y ≡ z = cc in subst IsNumber f h

pub decode-gives : (a b : Array) → IsArray a → IsArray b → Gives (decode a b)
decode-gives a b g h =
    let n = if is_single a then count b else count a in
    error_if-gives error.Rank (is_above_one a || is_above_one b) _ (λ _. error_if-gives error.Length (not (is_single a) && not (is_single b) && not (count a == count b)) _ (λ _. error_if-gives error.Domain (is_text a || is_text b) _ (λ e.
    let t = neither_part (is_text a) (is_text b) e in
    domain-gives (decoded (Some (pos 0)) (matched a n) (matched b n)) _ (λ z f. scalar-array Num z
    (if_some (decoded (Some (pos 0)) (matched a n) (matched b n)) z
    (decoded-lawful (matched a n) (matched b n) (Some (pos 0)) (zero_cell Num) (matched-numbers a g t.0 n) (matched-numbers b h t.1 n)) f)))))

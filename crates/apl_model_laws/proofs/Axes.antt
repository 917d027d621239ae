-- What transposes, compressions, expansions and encodings give is lawful.
use Rattle.std.proofs.Common.{◌≡◌, ℕ, zero, suc, ◌*◌, ◌/◌, ◌^◌, ◌≤◌, Bool, true, false, not, ◌&&◌, ◌||◌, ◌==◌, if◌then◌else◌, leb, ℤ, pos, negsuc, ◌-ℤ◌, unsigned_abs, List, [], ◌∷◌, ◌++◌, length, map, get_or, set, replicate, reverse, Option, Some, None, IfSome, refl, sym, ap, subst, ◌∙◌, inl, inr, arith, length-append}
use Rattle.std.specs.Prelude.{slice_index_or, slice_index, slice_set}
use Rattle.std.specs.List.{AllByRecursion, flat_map}
use Rattle.std.specs.Option.{option_map}
use Rattle.std.specs.Ordering.{int_eq}
use Rattle.std.specs.Int.{int_div_euclid}
use Rattle.std.proofs.Math.Nat.{mul-le-mul_left, mul-le-mul_right, div-le_self}
use Rattle.std.proofs.lemmas.List.{length-map, length-replicate, length-reverse, length-set, reverse-append}
use Rattle.std.proofs.lemmas.Bool.{leb-true, eqb-true}
use Rattle.std.proofs.lemmas.Int.{ints}
use Rattle.apl_base.specs.declared.cells.Kind.TheVariants.{Num}
use Rattle.apl_base.specs.declared.faults.ErrorKind.TheVariants as error
use Rattle.apl_base.specs.declared.rows.Dya.TheVariants as dya
use Rattle.apl_base.specs.Array.{Array, IsArray, IsShape, size_of}
use Rattle.apl_base.specs.Number.{IsNumber, IsCell}
use Rattle.apl_base.specs.Scalar.{residue}
use Rattle.apl_base.specs.Selection.{upward, transpose_shape, transpose_index}
use Rattle.apl_base.proofs.Elements.{all_defined-each}
use Rattle.apl_base.proofs.Lists.{all_imp, all_map, all_append, all_replicate, all_at}
use Rattle.apl_base.proofs.Sizes.{size_of-append}
use Rattle.apl_base.proofs.Numbers.{IsNumber-small}
use Rattle.apl_base.proofs.Booleans.{both_parts, neither_part, not-false}
use Rattle.apl_base.proofs.Transposes.{transposed_shape}
use Rattle.apl_base.proofs.Upward.{length-upward}
use Rattle.scalar_table.specs.LawfulNumbers.{of_numbers-lawful}
use Rattle.apl_model.specs.declared.functions.Axis.{Axis}
use Rattle.apl_model.specs.Made.{is_above_one, are_bits, flipped, less_origin, are_axes, transposed, read_or_fill, ones_from, extended_to, bits_along, compress, ones, spaced, expand, carried, cons_digit, digits, digit_rows, columns_of, encode}
use Rattle.apl_model.specs.Whole.{rank, count, is_single, is_text, is_extendable, first, vector}
use Rattle.apl_model_laws.proofs.Arrays.{Gives, gives, error_if-gives, error_or-gives, within-gives, domain-gives, zero_cell, first-lawful, tabulated-array, gathered-array, one_axis}
use Rattle.apl_model_laws.proofs.TestedAxes.{axes-are}
use Rattle.apl_model_laws.proofs.Forms.{IsAxisOf, axis-gives, numbers-of, read-lawful}

-- ---- transposes

size_of-reverse : (ns : List ℕ) → size_of (reverse ns) ≡ size_of ns
size_of-reverse [] = refl
size_of-reverse (n ∷ ns) =
    let e : reverse (n ∷ ns) ≡ reverse ns ++ n ∷ [] = reverse-append (n ∷ []) ns in
    let f = ap size_of e ∙ size_of-append (reverse ns) (n ∷ []) in
    let g : size_of (n ∷ []) ≡ n = omega arith in
    let h = size_of-reverse ns in
    f ∙ rw (g, h) (omega arith)

all-reverse : (P : ℕ → Type 0) (ns : List ℕ) → AllByRecursion P ns → AllByRecursion P (reverse ns)
all-reverse P [] h = tt
all-reverse P (n ∷ ns) h =
    let e : reverse (n ∷ ns) ≡ reverse ns ++ n ∷ [] = reverse-append (n ∷ []) ns in
    subst (λ l. AllByRecursion P l) (sym e) (all_append P (reverse ns) (n ∷ []) (all-reverse P ns h.1) (h.0, tt))

pub flipped-gives : (b : Array) → IsArray b → Gives (flipped b)
flipped-gives b h = gives _ (gathered-array (reverse b.shape) reverse b (record {
  rank = omega (arith, length-reverse b.shape, h.shape.rank);
  each = all-reverse (λ n. n ≤ 2 ^ 40) b.shape h.shape.each;
  product = omega (arith, size_of-reverse b.shape, h.shape.product);
}) h.cells)

pub transposed-gives : (o : ℤ) (a b : Array) → IsArray a → IsArray b → Gives (transposed o a b)
transposed-gives o a b g h =
    let zs = less_origin o a in
    let axes = map unsigned_abs zs in
    error_if-gives error.Rank (is_above_one a) _ (λ _. error_if-gives error.Length (not (count a == rank b)) _ (λ e.
    error_or-gives error.Domain (is_text a || not (are_axes zs)) _ (λ f.
    let l : count a ≡ rank b = eqb-true (count a) (rank b) (not-false (count a == rank b) e) in
    let m : length axes ≡ length b.shape = length-map zs unsigned_abs ∙ length-map a.cells (λ z. z -ℤ o) ∙ g.count ∙ l in
    let t = not-false (are_axes zs) (neither_part (is_text a) (not (are_axes zs)) f).1 in
    gives _ (gathered-array (transpose_shape axes b.shape) (transpose_index axes) b (transposed_shape axes b.shape (axes-are zs t).1 m h.shape) h.cells))))

-- ---- compressions and expansions

ones_from-length : (p : ℕ) (bits : List ℤ) → length (ones_from p bits) ≤ length bits
ones_from-length p [] = omega arith
ones_from-length p (a ∷ bits) = by (int_eq a (pos 1)) (ones_from-length (suc p) bits)
  where
    by : (t : Bool) → length (ones_from (suc p) bits) ≤ length bits → length (if t then p ∷ ones_from (suc p) bits else ones_from (suc p) bits) ≤ suc (length bits)
    by true h = omega (arith, h)
    by false h = omega (arith, h)

set-size : (ns : List ℕ) (k m : ℕ) → m ≤ get_or ns k 0 → size_of (set ns k m) ≤ size_of ns
set-size [] k m h = omega arith
set-size (n ∷ ns) zero m h = mul-le-mul_right (size_of ns) h
set-size (n ∷ ns) (suc k) m h = mul-le-mul_left n (set-size ns k m h)

set-each : (b : ℕ) (ns : List ℕ) (k m : ℕ) → m ≤ get_or ns k 0 → AllByRecursion (λ n. n ≤ b) ns → AllByRecursion (λ n. n ≤ b) (set ns k m)
set-each b [] k m h a = tt
set-each b (n ∷ ns) zero m h a = (omega (arith, h, a.0), a.1)
set-each b (n ∷ ns) (suc k) m h a = (a.0, set-each b ns k m h a.1)

-- an axis that becomes shorter
shortened : (ns : List ℕ) (k m : ℕ) → m ≤ get_or ns k 0 → IsShape ns → IsShape (set ns k m)
shortened ns k m h s = record {
  rank = omega (arith, length-set ns k m, s.rank);
  each = set-each (2 ^ 40) ns k m h s.each;
  product = omega (arith, set-size ns k m h, s.product);
}

-- an argument that extends has no axis but the first
extendable-axis : (b : Array) (k : ℕ) → is_extendable b ≡ true → IsAxisOf (rank b) k → k ≡ 0
extendable-axis b k e h =
    let l = leb-true (rank b) 1 (both_parts (is_single b) (leb (rank b) 1) e).1 in
    elim h [ inl p ↦ omega (arith, l, p) | inr q ↦ q.1 ]

extended-shape : (n : ℕ) (b : Array) → n ≤ 2 ^ 40 → IsArray b → IsShape (extended_to n b).shape
extended-shape n b l h = by (is_extendable b)
  where
    by : (t : Bool) → IsShape (if t then vector b.kind (replicate n (first b)) else b).shape
    by true = one_axis (length (replicate n (first b))) (omega (arith, length-replicate n (first b), l))
    by false = h.shape

extended-cells : (n : ℕ) (b : Array) → IsArray b → AllByRecursion (IsCell (extended_to n b).kind) (extended_to n b).cells
extended-cells n b h = by (is_extendable b)
  where
    by : (t : Bool) → AllByRecursion (IsCell (if t then vector b.kind (replicate n (first b)) else b).kind) (if t then vector b.kind (replicate n (first b)) else b).cells
    by true = all_replicate (IsCell b.kind) n (first b) (first-lawful b h.cells)
    by false = h.cells

-- the bits are as many as the axis is long
bits-length : (k : ℕ) (a b : Array) → IsArray a → IsAxisOf (rank b) k →
    not (is_single a) && not (is_extendable b) && not (count a == slice_index b.shape k) ≡ false →
    length (bits_along (slice_index (extended_to (count a) b).shape k) a) ≡ slice_index (extended_to (count a) b).shape k
bits-length k a b g x e = by (is_single a) (is_extendable b) refl e
  where
    by : (s t : Bool) → is_extendable b ≡ t → not s && not t && not (count a == slice_index b.shape k) ≡ false →
        length (if s then replicate (slice_index (if t then vector b.kind (replicate (count a) (first b)) else b).shape k) (first a) else a.cells)
        ≡ slice_index (if t then vector b.kind (replicate (count a) (first b)) else b).shape k
    by true t f e = length-replicate _ (first a)
    by false true f e =
        let z : 0 ≡ k = sym (extendable-axis b k f x) in
        subst (λ k. length a.cells ≡ slice_index (length (replicate (count a) (first b)) ∷ []) k) z (g.count ∙ sym (length-replicate (count a) (first b)))
    by false false f e = g.count ∙ eqb-true (count a) (slice_index b.shape k) (not-false (count a == slice_index b.shape k) e)

pub compress-gives : (o : ℤ) (axis : Axis) (a b : Array) → IsArray a → IsArray b → Gives (compress o axis a b)
compress-gives o axis a b g h =
    error_if-gives error.Rank (is_above_one a) _ (λ _. axis-gives o axis (rank b) _ (λ k x.
    let c = extended_to (count a) b in
    error_if-gives error.Length (not (is_single a) && not (is_extendable b) && not (count a == slice_index b.shape k)) _ (λ e.
    error_if-gives error.Domain (not (are_bits a)) _ (λ _.
    let bits = bits_along (slice_index c.shape k) a in
    let places = ones_from 0 bits in
    let l : length places ≤ get_or c.shape k 0 = omega (arith, ones_from-length 0 bits, bits-length k a b g x e) in
    gives _ (gathered-array (slice_set c.shape k (length places)) (λ is. slice_set is k (slice_index places (slice_index is k))) c
    (shortened c.shape k (length places) l (extended-shape (count a) b (h-small) h)) (extended-cells (count a) b h))))))
  where
    h-small : count a ≤ 2 ^ 40
    h-small = g.shape.product

pub expand-gives : (o : ℤ) (axis : Axis) (a b : Array) → IsArray b → Gives (expand o axis a b)
expand-gives o axis a b h =
    error_if-gives error.Rank (is_above_one a) _ (λ _. axis-gives o axis (rank b) _ (λ k _.
    error_if-gives error.Length (are_bits a && not (is_extendable b) && not (ones a.cells == slice_index b.shape k)) _ (λ _.
    error_if-gives error.Domain (not (are_bits a)) _ (λ _.
    let c = extended_to (ones a.cells) b in
    let ns = slice_set c.shape k (length a.cells) in
    within-gives ns _ (λ s. gives _ (tabulated-array c.kind ns (λ is. read_or_fill c (spaced k a.cells is)) s
    (λ is. read-lawful c (extended-cells (ones a.cells) b h) (spaced k a.cells is))))))))

-- ---- encodings

int-zero : (t : Bool) (z : ℤ) → IsNumber z → IsNumber (if t then pos 0 else z)
int-zero true z h = IsNumber-small 0 (omega arith)
int-zero false z h = h

quotient-number : (b : ℤ) (n : ℕ) → IsNumber b → IsNumber (int_div_euclid b (pos n))
quotient-number (pos m) n h = let l : m / n ≤ m = div-le_self m n in
    record { least = omega (arith, ints, h.least, h.most, l); most = omega (arith, ints, h.least, h.most, l) }
quotient-number (negsuc m) n h = let l : m / n ≤ m = div-le_self m n in
    record { least = omega (arith, ints, h.least, h.most, l); most = omega (arith, ints, h.least, h.most, l) }

-- the digits of a number, and what is left, are numbers
pub record AreDigits (bases : List ℤ) (s : List ℤ × ℤ) : Type 0 where
  pub each : length s.0 ≡ length bases
  pub digits : AllByRecursion IsNumber s.0
  pub left : IsNumber s.1

digits-lawful : (bases : List ℤ) (b : ℤ) → AllByRecursion IsNumber bases → IsNumber b → IfSome (digits bases b) (AreDigits bases)
digits-lawful [] b h n = record { each = refl; digits = tt; left = n }
digits-lawful (a ∷ bases) b h n = by (digits bases b) (digits-lawful bases b h.1 n)
  where
    put : (r : Option ℤ) (s : List ℤ × ℤ) → IfSome r IsNumber → AreDigits bases s → IfSome (option_map (λ d. (d ∷ s.0, carried a s.1)) r) (AreDigits (a ∷ bases))
    put None s p q = tt
    put (Some d) s p q = record { each = ap suc q.each; digits = (p, q.digits); left = int-zero (int_eq a (pos 0)) _ (quotient-number s.1 (unsigned_abs a) q.left) }

    by : (o : Option (List ℤ × ℤ)) → IfSome o (AreDigits bases) → IfSome (cons_digit a o) (AreDigits (a ∷ bases))
    by None q = tt
    by (Some s) q = put (residue a s.1) s (of_numbers-lawful dya.Residue a s.1 h.0 q.left) q

column-lawful : (bases : List ℤ) (b : ℤ) → AllByRecursion IsNumber bases → IsNumber b → IfSome (option_map (λ (s : List ℤ × ℤ). s.0) (digits bases b)) (AllByRecursion IsNumber)
column-lawful bases b h n = by (digits bases b) (digits-lawful bases b h n)
  where
    by : (o : Option (List ℤ × ℤ)) → IfSome o (AreDigits bases) → IfSome (option_map (λ (s : List ℤ × ℤ). s.0) o) (AllByRecursion IsNumber)
    by None q = tt
    by (Some s) q = q.digits

flat-length : (bases : List ℤ) (columns : List (List ℤ)) (is : List ℕ) → length (flat_map (digit_rows bases columns) is) ≡ length is * length columns
flat-length bases columns [] = omega arith
flat-length bases columns (i ∷ is) =
    let row = digit_rows bases columns i in
    let rest = flat_map (digit_rows bases columns) is in
    let l = length-append row rest in
    let m : length row ≡ length columns = length-map columns (λ ds. slice_index_or ds i (pos 0)) in
    let n = flat-length bases columns is in
    l ∙ rw (m, n) (omega arith)

flat-lawful : (bases : List ℤ) (columns : List (List ℤ)) → AllByRecursion (AllByRecursion IsNumber) columns → (is : List ℕ) → AllByRecursion IsNumber (flat_map (digit_rows bases columns) is)
flat-lawful bases columns h [] = tt
flat-lawful bases columns h (i ∷ is) =
    all_append IsNumber (digit_rows bases columns i) (flat_map (digit_rows bases columns) is)
    (all_map IsNumber (λ ds. slice_index_or ds i (pos 0)) columns (all_imp (AllByRecursion IsNumber) (λ ds. IsNumber (slice_index_or ds i (pos 0))) columns (λ ds p. all_at IsNumber ds i (pos 0) p (zero_cell Num)) h))
    (flat-lawful bases columns h is)

pub encode-gives : (a b : Array) → IsArray a → IsArray b → Gives (encode a b)
encode-gives a b g h =
    let ns = a.shape ++ b.shape in
    error_if-gives error.Rank (is_above_one a || is_above_one b) _ (λ _. within-gives ns _ (λ s.
    error_if-gives error.Domain (is_text a || is_text b) _ (λ e.
    let t = neither_part (is_text a) (is_text b) e in
    let column : ℤ → Option (List ℤ) = λ z. option_map (λ (s : List ℤ × ℤ). s.0) (digits a.cells z) in
    domain-gives (columns_of a b) _ (λ columns f.
    let d = all_defined-each (AllByRecursion IsNumber) (map column b.cells) columns
    (all_map (λ o. IfSome o (AllByRecursion IsNumber)) column b.cells (all_imp IsNumber (λ z. IfSome (column z) (AllByRecursion IsNumber)) b.cells
    (λ z n. column-lawful a.cells z (numbers-of a g t.0) n) (numbers-of b h t.1))) f in
    let l : length columns ≡ count b = d.0 ∙ length-map b.cells column ∙ h.count in
    let m = flat-length a.cells columns (upward 0 (count a)) in
    let n = length-upward 0 (count a) in
    record {
      shape = s;
      count = m ∙ rw (n, l) (sym (size_of-append a.shape b.shape));
      cells = flat-lawful a.cells columns d.1 (upward 0 (count a));
    }))))

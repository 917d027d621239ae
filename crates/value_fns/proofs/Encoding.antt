-- The digits of numbers in bases: where there are some, and that they are those of the definition.
use Rattle.std.proofs.Common.{◌≡◌, ℕ, zero, suc, ◌+◌, ◌*◌, ◌<◌, ◌≤◌, Bool, true, false, ◌&&◌, ◌||◌, ℤ, pos, negsuc, ◌≤ℤ◌, ◌<ℤ◌, int_lt, int_le, unsigned_abs, List, [], ◌∷◌, ◌++◌, length, map, get_or, drop, drop-cons, ◌-◌, Option, Some, None, refl, sym, ap, ◌∙◌, subst, arith}
use Rattle.std.specs.Prelude.{if◌then◌else◌, slice_index_or, unwrap_or}
use Rattle.std.specs.Int.{int_div_euclid}
use Rattle.std.specs.Option.{option_map}
use Rattle.std.specs.List.{list_any, flat_map}
use Rattle.std.specs.Ordering.{int_eq}
use Rattle.std.proofs.lemmas.List.{drop_all}
use Rattle.std.proofs.lemmas.Int.{ints}
use Rattle.std.proofs.lemmas.Bool.Decides.{Decides-int_eq, nat_tests}
use Rattle.apl_base.specs.Array.{Array}
use Rattle.apl_base.specs.Elements.{all_defined}
use Rattle.apl_base.specs.Scalar.{residue}
use Rattle.apl_base.specs.Selection.{upward}
use Rattle.apl_model.specs.Made.{carried, cons_digit, digits, digit_rows, columns_of}
use Rattle.value_fns.specs.Digits.{digit_of, left_over, digit_table, is_undefined}

-- ---- what is carried

-- whether one of the bases is 0
abbrev has_zero : List ℤ → Bool
has_zero bases = list_any (int_eq (pos 0)) bases

quotient-negative : (z : ℤ) (n : ℕ) → z <ℤ pos 0 → int_div_euclid z (pos n) <ℤ pos 0
quotient-negative (pos m) n h = absurd (omega (arith, ints, h))
quotient-negative (negsuc m) n h = omega (arith, ints)

quotient-positive : (z : ℤ) (n : ℕ) → pos 0 ≤ℤ z → pos 0 ≤ℤ int_div_euclid z (pos n)
quotient-positive (pos m) n h = omega (arith, ints)
quotient-positive (negsuc m) n h = absurd (omega (arith, ints, h))

-- what is carried of a number that is not negative is not
carried-positive : (a z : ℤ) → pos 0 ≤ℤ z → pos 0 ≤ℤ carried a z
carried-positive a z h = by (int_eq a (pos 0))
  where
    by : (t : Bool) → pos 0 ≤ℤ (if t then pos 0 else int_div_euclid z (pos (unsigned_abs a)))
    by true = omega (arith, ints)
    by false = quotient-positive z (unsigned_abs a) h

left-positive : (bases : List ℤ) (z : ℤ) → pos 0 ≤ℤ z → pos 0 ≤ℤ left_over bases z
left-positive [] z h = h
left-positive (a ∷ bases) z h = carried-positive a (left_over bases z) (left-positive bases z h)

-- a test of equality, the other way round
zero-test : (a : ℤ) (t : Bool) → int_eq (pos 0) a ≡ t → int_eq a (pos 0) ≡ t
zero-test a true e = (Decides-int_eq a (pos 0)).1 (sym ((Decides-int_eq (pos 0) a).0 e))
zero-test a false e = by (int_eq a (pos 0)) refl
  where
    by : (t : Bool) → int_eq a (pos 0) ≡ t → t ≡ false
    by true f = let g = (Decides-int_eq (pos 0) a).1 (sym ((Decides-int_eq a (pos 0)).0 f)) in absurd cc
    by false f = refl

no_head : (s t : Bool) → (s || t) ≡ false → (s ≡ false) × (t ≡ false)
no_head true t e = absurd cc
no_head false t e = (refl, e)

-- with no base 0 a negative number stays negative
left-negative : (bases : List ℤ) (z : ℤ) → has_zero bases ≡ false → z <ℤ pos 0 → left_over bases z <ℤ pos 0
left-negative [] z none h = h
left-negative (a ∷ bases) z none h =
    let parts = no_head (int_eq (pos 0) a) (has_zero bases) none in
    let test : int_eq a (pos 0) ≡ false = zero-test a false parts.0 in
    let less = quotient-negative (left_over bases z) (unsigned_abs a) (left-negative bases z parts.1 h) in
    subst (λ (t : Bool). (if t then pos 0 else int_div_euclid (left_over bases z) (pos (unsigned_abs a))) <ℤ pos 0) (sym test) less

-- ---- a digit

residue-some : (a z : ℤ) → (int_eq (pos 0) a ≡ true → pos 0 ≤ℤ z) → residue a z ≡ Some (digit_of a z)
residue-some (pos zero) (pos n) h = both (int_le (pos 0) (pos n)) (grind (arith, nat_tests))
  where
    both : (t : Bool) → t ≡ true → (let o : Option ℤ = (if t then Some (pos n) else None) in o) ≡ Some (unwrap_or (if t then Some (pos n) else None) (pos 0))
    both true e = refl
    both false e = absurd cc
residue-some (pos zero) (negsuc n) h = let no : pos 0 ≤ℤ negsuc n = h refl in absurd (omega (arith, ints, no))
residue-some (pos (suc a)) z h = refl
residue-some (negsuc a) z h = refl

residue-none : (a z : ℤ) → int_eq (pos 0) a ≡ true → z <ℤ pos 0 → residue a z ≡ None
residue-none (pos zero) (pos n) e h = absurd (omega (arith, ints, h))
residue-none (pos zero) (negsuc n) e h = refl
residue-none (pos (suc a)) z e h = let f = (Decides-int_eq (pos 0) (pos (suc a))).0 e in absurd (omega (arith, ints, f))
residue-none (negsuc a) z e h = let f = (Decides-int_eq (pos 0) (negsuc a)).0 e in absurd (omega (arith, ints, f))

-- ---- all digits of a number

-- the digits, the first base's first
abbrev pub digits_of : List ℤ → ℤ → List ℤ
digits_of [] z = []
digits_of (a ∷ bases) z = digit_of a (left_over bases z) ∷ digits_of bases z

-- as the definition pairs them with what is left
abbrev with_left : List ℤ → ℤ → Option (List ℤ × ℤ)
with_left bases z = Some (digits_of bases z, left_over bases z)

cons-some : (a s : ℤ) (ds : List ℤ) → residue a s ≡ Some (digit_of a s) → cons_digit a (Some (ds, s)) ≡ Some (digit_of a s ∷ ds, carried a s)
cons-some a s ds e = ap (λ (o : Option ℤ). option_map (λ (d : ℤ). let p : List ℤ × ℤ = (d ∷ ds, carried a s) in p) o) e

-- of a number that is not negative
digits-positive : (bases : List ℤ) (z : ℤ) → pos 0 ≤ℤ z → digits bases z ≡ with_left bases z
digits-positive [] z h = refl
digits-positive (a ∷ bases) z h =
    ap (cons_digit a) (digits-positive bases z h)
    ∙ cons-some a (left_over bases z) (digits_of bases z) (residue-some a (left_over bases z) (λ e. left-positive bases z h))

-- with no base 0
digits-no_zero : (bases : List ℤ) (z : ℤ) → has_zero bases ≡ false → digits bases z ≡ with_left bases z
digits-no_zero [] z h = refl
digits-no_zero (a ∷ bases) z h =
    let parts = no_head (int_eq (pos 0) a) (has_zero bases) h in
    ap (cons_digit a) (digits-no_zero bases z parts.1)
    ∙ cons-some a (left_over bases z) (digits_of bases z) (residue-some a (left_over bases z) (λ e. absurd (let f = parts.0 in cc)))

-- of a negative number with a base 0
digits-none : (bases : List ℤ) (z : ℤ) → has_zero bases ≡ true → z <ℤ pos 0 → digits bases z ≡ None
digits-none [] z h n = absurd cc
digits-none (a ∷ bases) z h n = by (has_zero bases) refl (digits-none bases z)
  where
    head : (s t : Bool) → (s || t) ≡ true → t ≡ false → s ≡ true
    head true t e f = refl
    head false t e f = absurd cc

    by : (t : Bool) → has_zero bases ≡ t → (has_zero bases ≡ true → z <ℤ pos 0 → digits bases z ≡ None) → cons_digit a (digits bases z) ≡ None
    by true e rest = ap (cons_digit a) (rest e n)
    by false e rest =
        let here : int_eq (pos 0) a ≡ true = head (int_eq (pos 0) a) (has_zero bases) h e in
        ap (cons_digit a) (digits-no_zero bases z e)
        ∙ ap (λ (o : Option ℤ). option_map (λ (d : ℤ). let p : List ℤ × ℤ = (d ∷ digits_of bases z, carried a (left_over bases z)) in p) o) (residue-none a (left_over bases z) here (left-negative bases z e n))

-- ---- the columns

abbrev column : List ℤ → ℤ → Option (List ℤ)
column bases z = option_map (λ (s : List ℤ × ℤ). s.0) (digits bases z)

defined-cons : {X : Type 0} (x : X) (xs : List X) (os : List (Option X)) → all_defined os ≡ Some xs → all_defined (Some x ∷ os) ≡ Some (x ∷ xs)
defined-cons {X} x xs os e = ap (λ (o : Option (List X)). option_map (λ (vs : List X). x ∷ vs) o) e

columns-defined : (bases zs : List ℤ) → is_undefined bases zs ≡ false → all_defined (map (column bases) zs) ≡ Some (map (digits_of bases) zs)
columns-defined bases zs h = by (has_zero bases) refl h
  where
    none : (zs : List ℤ) → has_zero bases ≡ false → all_defined (map (column bases) zs) ≡ Some (map (digits_of bases) zs)
    none [] e = refl
    none (z ∷ zs) e =
        ap (λ (o : Option (List ℤ)). all_defined (o ∷ map (column bases) zs)) (ap (λ (o : Option (List ℤ × ℤ)). option_map (λ (s : List ℤ × ℤ). s.0) o) (digits-no_zero bases z e))
        ∙ defined-cons (digits_of bases z) (map (digits_of bases) zs) (map (column bases) zs) (none zs e)

    each : (zs : List ℤ) → list_any (λ z. int_lt z (pos 0)) zs ≡ false → all_defined (map (column bases) zs) ≡ Some (map (digits_of bases) zs)
    each [] e = refl
    each (z ∷ zs) e =
        let parts = no_head (int_lt z (pos 0)) (list_any (λ z. int_lt z (pos 0)) zs) e in
        let test = parts.0 in
        let up : pos 0 ≤ℤ z = omega (arith, ints) in
        ap (λ (o : Option (List ℤ)). all_defined (o ∷ map (column bases) zs)) (ap (λ (o : Option (List ℤ × ℤ)). option_map (λ (s : List ℤ × ℤ). s.0) o) (digits-positive bases z up))
        ∙ defined-cons (digits_of bases z) (map (digits_of bases) zs) (map (column bases) zs) (each zs parts.1)

    by : (t : Bool) → has_zero bases ≡ t → (t && list_any (λ z. int_lt z (pos 0)) zs) ≡ false → all_defined (map (column bases) zs) ≡ Some (map (digits_of bases) zs)
    by true e f = each zs f
    by false e f = none zs e

columns-none : (bases zs : List ℤ) → has_zero bases ≡ true → list_any (λ z. int_lt z (pos 0)) zs ≡ true → all_defined (map (column bases) zs) ≡ None
columns-none bases [] base h = absurd cc
columns-none bases (z ∷ zs) base h = by (int_lt z (pos 0)) refl h (columns-none bases zs base)
  where
    skipped : (o : Option (List ℤ)) → all_defined (map (column bases) zs) ≡ None → all_defined (o ∷ map (column bases) zs) ≡ None
    skipped None e = refl
    skipped (Some x) e = ap (λ (o : Option (List (List ℤ))). option_map (λ (vs : List (List ℤ)). x ∷ vs) o) e

    by : (t : Bool) → int_lt z (pos 0) ≡ t → (t || list_any (λ z. int_lt z (pos 0)) zs) ≡ true → (list_any (λ z. int_lt z (pos 0)) zs ≡ true → all_defined (map (column bases) zs) ≡ None) → all_defined (column bases z ∷ map (column bases) zs) ≡ None
    by true e f rest =
        let less : z <ℤ pos 0 = omega (arith, ints) in
        ap (λ (o : Option (List ℤ)). all_defined (o ∷ map (column bases) zs)) (ap (λ (o : Option (List ℤ × ℤ)). option_map (λ (s : List ℤ × ℤ). s.0) o) (digits-none bases z base less))
    by false e f rest = skipped (column bases z) (rest f)

-- ---- the rows

map_twice : {X Y Z : Type 0} (f : Y → Z) (g : X → Y) (xs : List X) → map f (map g xs) ≡ map (λ x. f (g x)) xs
map_twice f g [] = refl
map_twice f g (x ∷ xs) = let rest = map_twice f g xs in cc

flat-shift : (f : ℕ → List ℤ) (p n : ℕ) → flat_map f (upward (suc p) n) ≡ flat_map (λ i. f (suc i)) (upward p n)
flat-shift f p zero = refl
flat-shift f p (suc n) = ap (λ (xs : List ℤ). f (suc p) ++ xs) (flat-shift f (suc p) n)

rows-shift : (a : ℤ) (bases zs : List ℤ) (p n : ℕ) → flat_map (λ i. digit_rows (a ∷ bases) (map (digits_of (a ∷ bases)) zs) (suc i)) (upward p n) ≡ flat_map (digit_rows bases (map (digits_of bases) zs)) (upward p n)
rows-shift a bases zs p zero = refl
rows-shift a bases zs p (suc n) =
    let here : digit_rows (a ∷ bases) (map (digits_of (a ∷ bases)) zs) (suc p) ≡ digit_rows bases (map (digits_of bases) zs) p =
    map_twice (λ (ds : List ℤ). slice_index_or ds (suc p) (pos 0)) (digits_of (a ∷ bases)) zs ∙ sym (map_twice (λ (ds : List ℤ). slice_index_or ds p (pos 0)) (digits_of bases) zs) in
    let rest = rows-shift a bases zs (suc p) n in
    cc

table-rows : (bases zs : List ℤ) → flat_map (digit_rows bases (map (digits_of bases) zs)) (upward 0 (length bases)) ≡ digit_table bases zs
table-rows [] zs = refl
table-rows (a ∷ bases) zs =
    let here : digit_rows (a ∷ bases) (map (digits_of (a ∷ bases)) zs) 0 ≡ map (λ z. digit_of a (left_over bases z)) zs = map_twice (λ (ds : List ℤ). slice_index_or ds 0 (pos 0)) (digits_of (a ∷ bases)) zs in
    let rest = flat-shift (digit_rows (a ∷ bases) (map (digits_of (a ∷ bases)) zs)) 0 (length bases) ∙ rows-shift a bases zs 0 (length bases) ∙ table-rows bases zs in
    cc

-- ---- what is answered

pub undefined_columns : (a b : Array) → is_undefined a.cells b.cells ≡ true → columns_of a b ≡ None
undefined_columns a b h = by (has_zero a.cells) refl h
  where
    by : (t : Bool) → has_zero a.cells ≡ t → (t && list_any (λ z. int_lt z (pos 0)) b.cells) ≡ true → columns_of a b ≡ None
    by true e f = columns-none a.cells b.cells e f
    by false e f = absurd cc

pub defined_columns : (a b : Array) → is_undefined a.cells b.cells ≡ false → columns_of a b ≡ Some (map (digits_of a.cells) b.cells)
defined_columns a b h = columns-defined a.cells b.cells h

pub defined_rows : (a b : Array) (n : ℕ) → length a.cells ≡ n → flat_map (digit_rows a.cells (map (digits_of a.cells) b.cells)) (upward 0 n) ≡ digit_table a.cells b.cells
defined_rows a b n long = ap (λ (k : ℕ). flat_map (digit_rows a.cells (map (digits_of a.cells) b.cells)) (upward 0 k)) (sym long) ∙ table-rows a.cells b.cells

-- ---- the table, row by row

drop-next : (xs : List ℤ) (k : ℕ) → k < length xs → drop k xs ≡ get_or xs k (pos 0) ∷ drop (suc k) xs
drop-next xs k h = drop-cons xs k (pos 0) h

-- the bases from one place before on
pub bases_before : (bases : List ℤ) (place : ℕ) → 0 < place → place ≤ length bases → drop (place - 1) bases ≡ get_or bases (place - 1) (pos 0) ∷ drop place bases
bases_before bases place up low =
    let e : suc (place - 1) ≡ place = omega arith in
    drop-next bases (place - 1) (omega arith) ∙ ap (λ (k : ℕ). get_or bases (place - 1) (pos 0) ∷ drop k bases) e

-- one row more stands before the table so far
pub table_step : (bases zs values row table after : List ℤ) (place : ℕ) (base : ℤ) → 0 < place → place ≤ length bases → base ≡ get_or bases (place - 1) (pos 0) → values ≡ map (left_over (drop place bases)) zs → row ≡ map (digit_of base) values → table ≡ digit_table (drop place bases) zs → after ≡ row ++ table → after ≡ digit_table (drop (place - 1) bases) zs
table_step bases zs values row table after place base up low at left here so_far e =
    let rest = drop place bases in
    e ∙ ap (λ (xs : List ℤ). xs ++ table) here ∙ ap (λ (xs : List ℤ). map (digit_of base) xs ++ table) left
    ∙ ap (λ (xs : List ℤ). xs ++ table) (map_twice (digit_of base) (left_over rest) zs)
    ∙ ap (λ (xs : List ℤ). map (λ z. digit_of base (left_over rest z)) zs ++ xs) so_far
    ∙ ap (λ (b : ℤ). digit_table (b ∷ rest) zs) at
    ∙ ap (λ (xs : List ℤ). digit_table xs zs) (sym (bases_before bases place up low))

pub left_step : (bases zs values after : List ℤ) (place : ℕ) (base : ℤ) → 0 < place → place ≤ length bases → base ≡ get_or bases (place - 1) (pos 0) → values ≡ map (left_over (drop place bases)) zs → after ≡ map (carried base) values → after ≡ map (left_over (drop (place - 1) bases)) zs
left_step bases zs values after place base up low at left e =
    let rest = drop place bases in
    e ∙ ap (map (carried base)) left ∙ map_twice (carried base) (left_over rest) zs
    ∙ ap (λ (b : ℤ). map (left_over (b ∷ rest)) zs) at
    ∙ ap (λ (xs : List ℤ). map (left_over xs) zs) (sym (bases_before bases place up low))

-- at the beginning there is no base yet
pub table_none : (bases zs into : List ℤ) → drop (length into) into ≡ digit_table (drop (length bases) bases) zs
table_none bases zs into = drop_all (length into) into (omega arith) ∙ ap (λ (xs : List ℤ). digit_table xs zs) (sym (drop_all (length bases) bases (omega arith)))

pub left_none : (bases zs : List ℤ) → zs ≡ map (left_over (drop (length bases) bases)) zs
left_none bases zs = same zs ∙ ap (λ (xs : List ℤ). map (left_over xs) zs) (sym (drop_all (length bases) bases (omega arith)))
  where
    same : (zs : List ℤ) → zs ≡ map (left_over []) zs
    same [] = refl
    same (z ∷ zs) = ap (λ (xs : List ℤ). z ∷ xs) (same zs)

-- of so many rows one less
pub product_before : (p n : ℕ) → 0 < p → (p - 1) * n + n ≡ p * n
product_before zero n up = absurd (omega arith)
product_before (suc q) n up = let e : suc q - 1 ≡ q = omega arith in ap (λ (k : ℕ). k * n + n) e ∙ omega arith

-- What is answered for the digits of numbers in bases.
use Rattle.std.proofs.Common.{◌≡◌, ℕ, zero, suc, ◌*◌, ◌/◌, ◌<◌, ◌≤◌, Bool, true, false, not, ◌||◌, ℤ, pos, negsuc, unsigned_abs, List, [], ◌∷◌, ◌++◌, length, length-append, map, get_or, ◌-◌, Option, Some, None, Result, Ok, Err, refl, sym, ap, ◌∙◌, arith}
use Rattle.std.specs.Prelude.{if◌then◌else◌, unwrap_or}
use Rattle.std.specs.Int.{int_div_euclid}
use Rattle.std.specs.List.{list_any, flat_map}
use Rattle.std.specs.Ordering.{int_eq}
use Rattle.std.proofs.lemmas.List.{length-map}
use Rattle.std.proofs.lemmas.Int.{ints}
use Rattle.apl_base.specs.Array.{Array, IsShape, size_of}
use Rattle.apl_base.specs.Scalar.{residue}
use Rattle.apl_base.specs.Selection.{upward}
use Rattle.apl_model.specs.Made.{carried, encode, is_above_one, digit_rows}
use Rattle.value_fns.specs.Digits.{digit_of, left_over, digit_table, encoded, is_undefined, shaped}
use Rattle.apl_base.specs.declared.cells.Kind.TheVariants.{Num}
use Rattle.apl_base.specs.declared.faults.ErrorKind.TheVariants as error
use Rattle.apl_base.proofs.Sizes.{size_of-append}
use Rattle.array_store.specs.Stores.{StoreView, HasRoom}
use Rattle.apl_model.specs.Whole.{Answer, count, error_or, is_shape, within_limit, or_domain}
use Rattle.made_leaf.specs.Made.{AsksFor, Fetched, IsMadeBy, IsRoomFault}
use Rattle.made_leaf.specs.declared.faults.MadeFault.{MadeFault}
use Rattle.made_leaf.specs.declared.faults.MadeFault.TheVariants as made
use Rattle.made_leaf.proofs.MadeLemmas.{error_made, all_places}
use Rattle.std.proofs.Math.Nat.{div-le_self}
use Rattle.std.proofs.Common.{IfSome, All}
use Rattle.std.specs.List.{AllByRecursion}
use Rattle.apl_base.specs.Number.{IsNumber}
use Rattle.apl_base.proofs.Numbers.{IsNumber-small}
use Rattle.apl_base.proofs.Lists.{all_append, all_map, all_imp}
use Rattle.apl_base.specs.declared.rows.Dya.TheVariants as dya
use Rattle.scalar_table.specs.LawfulNumbers.{of_numbers-lawful}
use Rattle.array_store.specs.Counting.{OnlyFetched}
use Rattle.drag_along.specs.declared.leaves.Leaf.{Leaf}
use Rattle.std.specs.Result.{IsErrAnd}
use Rattle.value_fns.proofs.Ends.{err_exit, passes}
use Rattle.apl_model_laws.proofs.Arrays.{shapes_are_tested}
use Rattle.value_fns.proofs.Encoding.{undefined_columns, defined_columns, defined_rows}

-- ---- one element that passes a test

pub any_false : (p : ℤ → Bool) (xs : List ℤ) (n : ℕ) → length xs ≤ n → ((k : ℕ) → k < n → p (get_or xs k (pos 0)) ≡ false) → false ≡ list_any p xs
any_false p [] n h none = refl
any_false p (x ∷ xs) n h none =
    let here : p x ≡ false = none 0 (omega arith) in
    let rest : false ≡ list_any p xs = any_false p xs (n - 1) (omega arith) (λ k b. none (suc k) (omega arith)) in
    rest ∙ sym (ap (λ (t : Bool). t || list_any p xs) here)

pub any_true : (p : ℤ → Bool) (xs : List ℤ) (k : ℕ) → k < length xs → p (get_or xs k (pos 0)) ≡ true → true ≡ list_any p xs
any_true p [] k h e = absurd (omega arith)
any_true p (x ∷ xs) zero h e = sym (ap (λ (t : Bool). t || list_any p xs) e)
any_true p (x ∷ xs) (suc k) h e = any_true p xs k (omega arith) e ∙ or_true (p x) (list_any p xs) (sym (any_true p xs k (omega arith) e))
  where
    or_true : (s t : Bool) → t ≡ true → t ≡ (s || t)
    or_true true t e = e
    or_true false t e = refl

-- ---- the answer

-- the array of the digits
abbrev pub table_array : Array → Array → Array
table_array a b = record { kind = Num; shape = a.shape ++ b.shape; cells = digit_table a.cells b.cells }

pub encoded_ok : (a b : Array) → length a.cells ≡ count a → is_undefined a.cells b.cells ≡ false → encoded a b ≡ Ok (table_array a b)
encoded_ok a b long h =
    ap (λ (o : Option (List (List ℤ))). or_domain o (λ columns. record { kind = Num; shape = a.shape ++ b.shape; cells = flat_map (digit_rows a.cells columns) (upward 0 (count a)) })) (defined_columns a b h)
    ∙ ap (λ (cells : List ℤ). let r : Answer = Ok (record { kind = Num; shape = a.shape ++ b.shape; cells = cells }) in r) (defined_rows a b (count a) long)

pub encoded_domain : (a b : Array) → is_undefined a.cells b.cells ≡ true → encoded a b ≡ Err error.Domain
encoded_domain a b h = ap (λ (o : Option (List (List ℤ))). or_domain o (λ columns. record { kind = Num; shape = a.shape ++ b.shape; cells = flat_map (digit_rows a.cells columns) (upward 0 (count a)) })) (undefined_columns a b h)

table-length : (bases zs : List ℤ) → length (digit_table bases zs) ≡ length bases * length zs
table-length [] zs = omega arith
table-length (a ∷ bases) zs =
    length-append (map (λ z. digit_of a (left_over bases z)) zs) (digit_table bases zs)
    ∙ omega (arith, length-map zs (λ z. digit_of a (left_over bases z)), table-length bases zs)

pub table_count : (a b : Array) → length a.cells ≡ count a → length b.cells ≡ count b → length (digit_table a.cells b.cells) ≡ size_of (a.shape ++ b.shape)
table_count a b long many = table-length a.cells b.cells ∙ ap (λ (n : ℕ). n * length b.cells) long ∙ ap (λ (n : ℕ). count a * n) many ∙ sym (size_of-append a.shape b.shape)

-- so much is counted before the digits: room where there is an array
pub size_asked : (old : StoreView) (a b : Array) (n : ℕ) → length a.cells ≡ count a → length b.cells ≡ count b → n ≡ size_of (a.shape ++ b.shape) → HasRoom old n → (m : ℕ) → AsksFor (encoded a b) m → HasRoom old m
size_asked old a b n long many size room m asks = by (is_undefined a.cells b.cells) refl
  where
    one : (x y : Array) → (let r : Answer = Ok x in r) ≡ Ok y → x ≡ y
    one x y e = cc

    apart : (x : Array) → (let r : Answer = Ok x in r) ≡ Err error.Domain → ⊥
    apart x e = cc

    by : (t : Bool) → is_undefined a.cells b.cells ≡ t → HasRoom old m
    by true e = absurd (apart asks.0 (sym asks.1 ∙ encoded_domain a b e))
    by false e =
        let same = one asks.0 (table_array a b) (sym asks.1 ∙ encoded_ok a b long e) in
        omega (arith, room, size, asks.2, ap (λ (x : Array). length x.cells) same, table_count a b long many)

-- memory was wanting where there was room for the size
pub encoded_no_memory : (old new : StoreView) (a b : Array) (n most : ℕ) (r : Result Leaf MadeFault) → length a.cells ≡ count a → length b.cells ≡ count b → n ≡ size_of (a.shape ++ b.shape) → HasRoom old n → OnlyFetched old new most → IsErrAnd r (λ e. e ≡ made.NoMemory) → IsMadeBy (Fetched old most) old new (encoded a b) r
encoded_no_memory old new a b n most r long many size room counted h =
    err_exit (IsMadeBy (Fetched old most) old new (encoded a b)) r made.NoMemory h (record { room = size_asked old a b n long many size room; counted = counted })

-- a digit is undefined
pub encoded_error : (old new : StoreView) (a b : Array) (most : ℕ) → is_undefined a.cells b.cells ≡ true → OnlyFetched old new most → IsMadeBy (Fetched old most) old new (encoded a b) (Err (made.Error error.Domain))
encoded_error old new a b most h counted = error_made (Fetched old most) old new (encoded a b) error.Domain (encoded_domain a b h) counted

-- there was no room for the size
pub encoded_full : (old new : StoreView) (a b : Array) (n most : ℕ) (fault : MadeFault) → length a.cells ≡ count a → length b.cells ≡ count b → n ≡ size_of (a.shape ++ b.shape) → is_undefined a.cells b.cells ≡ false → IsRoomFault old n fault → OnlyFetched old new most → IsMadeBy (Fetched old most) old new (encoded a b) (Err fault)
encoded_full old new a b n most (made.Error kind) long many size h refused counted = absurd refused
encoded_full old new a b n most (made.WsFull live asked) long many size h refused counted = record {
  asks = (table_array a b, encoded_ok a b long h, refused.1 ∙ size ∙ sym (table_count a b long many));
  held = refused.0;
  full = omega (arith, refused.1, refused.2);
  counted = counted;
}
encoded_full old new a b n most made.NoMemory long many size h refused counted = record {
  room = size_asked old a b n long many size refused;
  counted = counted;
}

-- ---- each digit is a number

quotient-number : (z : ℤ) (n : ℕ) → IsNumber z → IsNumber (int_div_euclid z (pos n))
quotient-number (pos m) n h = let l : m / n ≤ m = div-le_self m n in record { least = omega (arith, ints, h.least, h.most, l); most = omega (arith, ints, h.least, h.most, l) }
quotient-number (negsuc m) n h = let l : m / n ≤ m = div-le_self m n in record { least = omega (arith, ints, h.least, h.most, l); most = omega (arith, ints, h.least, h.most, l) }

carried-number : (a z : ℤ) → IsNumber z → IsNumber (carried a z)
carried-number a z h = by (int_eq a (pos 0))
  where
    by : (t : Bool) → IsNumber (if t then pos 0 else int_div_euclid z (pos (unsigned_abs a)))
    by true = IsNumber-small 0 (omega arith)
    by false = quotient-number z (unsigned_abs a) h

left-number : (bases : List ℤ) (z : ℤ) → IsNumber z → IsNumber (left_over bases z)
left-number [] z h = h
left-number (a ∷ bases) z h = carried-number a (left_over bases z) (left-number bases z h)

digit-number : (a z : ℤ) → IsNumber a → IsNumber z → IsNumber (digit_of a z)
digit-number a z g h = by (residue a z) (of_numbers-lawful dya.Residue a z g h)
  where
    by : (o : Option ℤ) → IfSome o IsNumber → IsNumber (unwrap_or o (pos 0))
    by None k = IsNumber-small 0 (omega arith)
    by (Some d) k = k

each_of : (xs : List ℤ) → All IsNumber xs → AllByRecursion IsNumber xs
each_of [] h = tt
each_of (x ∷ xs) h = (h 0 (pos 0) (omega arith), each_of xs (λ k d below. h (suc k) d (omega arith)))

table-numbers : (bases zs : List ℤ) → AllByRecursion IsNumber bases → AllByRecursion IsNumber zs → AllByRecursion IsNumber (digit_table bases zs)
table-numbers [] zs g h = tt
table-numbers (a ∷ bases) zs g h =
    all_append IsNumber (map (λ z. digit_of a (left_over bases z)) zs) (digit_table bases zs)
    (all_map IsNumber (λ z. digit_of a (left_over bases z)) zs (all_imp IsNumber (λ z. IsNumber (digit_of a (left_over bases z))) zs (λ z n. digit-number a (left_over bases z) g.0 (left-number bases z n)) h))
    (table-numbers bases zs g.1 h)

pub table_numbers : (bases zs : List ℤ) → All IsNumber bases → All IsNumber zs → All IsNumber (digit_table bases zs)
table_numbers bases zs g h = all_places IsNumber (digit_table bases zs) (table-numbers bases zs (each_of bases g) (each_of zs h))

-- of ranks and a shape that are right, what is left is the digits
pub shaped_answer : (a b : Array) → (is_above_one a || is_above_one b) ≡ false → IsShape (a.shape ++ b.shape) → encode a b ≡ shaped a b
shaped_answer a b ranks shape =
    let test : not (is_shape (a.shape ++ b.shape)) ≡ false = ap not ((shapes_are_tested (a.shape ++ b.shape)).1 shape) in
    passes error.Rank (is_above_one a || is_above_one b) (within_limit (a.shape ++ b.shape) (λ _. shaped a b)) ranks
    ∙ ap (λ (t : Bool). error_or error.Limit t (λ _. shaped a b)) test

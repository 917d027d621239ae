-- What `⍋B` and `⍒B` answer.
use Rattle.std.proofs.Common.{◌≡◌, ◌==◌, ℕ, suc, Bool, true, false, not, ◌&&◌, ℤ, pos, unsigned_abs, to_z, of_z, List, [], ◌∷◌, ◌++◌, take, drop, map, length, All, Ok, refl, sym, ap, ◌∙◌, arith}
use Rattle.std.specs.Prelude.{slice_index_or, if◌then◌else◌}
use Rattle.std.specs.Int.{w128}
use Rattle.std.proofs.lemmas.Bool.Decides.{nat_tests}
use Rattle.apl_base.specs.declared.cells.Kind.{Kind}
use Rattle.apl_base.specs.declared.cells.Kind.TheVariants.{Num, Char}
use Rattle.apl_base.specs.declared.faults.ErrorKind.TheVariants as error
use Rattle.apl_base.specs.Array.{Array, IsArray, size_of}
use Rattle.apl_base.specs.Number.{IsNumber, IsCell}
use Rattle.apl_base.specs.Selection.{upward}
use Rattle.apl_base.proofs.Upward.{length-upward}
use Rattle.std.proofs.lemmas.List.{length-map}
use Rattle.apl_model.specs.Whole.{rank, count, is_char, is_text, vector, error_if}
use Rattle.apl_model.specs.Made.{comes_first, counted_from, place_in, in_order, grade}
use Rattle.apl_model_laws.specs.Lawful.{IsOrigin}
use Rattle.apl_model_laws.proofs.Forms.{grade-gives}
use Rattle.value_fns.proofs.Ends.{passes, lawful_array}
use Rattle.value_fns.proofs.Looked.{origin_back}
use Rattle.value_fns.proofs.Mapped.{whole_back}

-- the places in order
abbrev pub graded_cells : Bool → ℤ → Array → List ℤ
graded_cells down o b = map (counted_from o) (in_order down b.cells (upward 0 (count b)))

abbrev pub graded : Bool → ℤ → Array → Array
graded down o b = vector Num (graded_cells down o b)

pub graded_answer : (down : Bool) (o : ℤ) (b : Array) → rank b ≡ 1 → is_text b ≡ false → grade down o b ≡ Ok (graded down o b)
graded_answer down o b one numbers =
    let e : (rank b == 1) ≡ true = grind (arith, nat_tests) in
    passes error.Rank (not (rank b == 1)) (error_if error.Domain (is_text b) (Ok (graded down o b))) (ap not e)
    ∙ passes error.Domain (is_text b) (Ok (graded down o b)) numbers

pub graded_lawful : (down : Bool) (o : ℤ) (b : Array) → IsOrigin o → IsArray b → rank b ≡ 1 → is_text b ≡ false → IsArray (graded down o b)
graded_lawful down o b origin h one numbers = lawful_array (grade down o b) (graded down o b) (graded_answer down o b one numbers) (grade-gives down o origin b h).answer

-- as many places as were put
put_length : (down : Bool) (cells : List ℤ) (p : ℕ) (qs : List ℕ) → length (place_in down cells p qs) ≡ suc (length qs)
put_length down cells p [] = refl
put_length down cells p (q ∷ qs) = by (comes_first down (slice_index_or cells q (pos 0)) (slice_index_or cells p (pos 0))) (put_length down cells p qs)
  where
    by : (t : Bool) → length (place_in down cells p qs) ≡ suc (length qs) → length (if t then q ∷ place_in down cells p qs else p ∷ q ∷ qs) ≡ suc (suc (length qs))
    by true h = ap suc h
    by false h = refl

order_length : (down : Bool) (cells : List ℤ) (ps : List ℕ) → length (in_order down cells ps) ≡ length ps
order_length down cells [] = refl
order_length down cells (p ∷ ps) = put_length down cells p (in_order down cells ps) ∙ ap suc (order_length down cells ps)

-- as many places as elements
pub graded_count : (down : Bool) (o : ℤ) (b : Array) → length (graded_cells down o b) ≡ count b
graded_count down o b = length-map (in_order down b.cells (upward 0 (count b))) (counted_from o) ∙ order_length down b.cells (upward 0 (count b)) ∙ length-upward 0 (count b)

-- one length is the number of elements
one_length : (s : List ℕ) (n : ℕ) → length s ≡ 1 → size_of s ≡ n → s ≡ n ∷ []
one_length [] n e f = absurd (omega arith)
one_length (m ∷ []) n e f = let g : m ≡ n = omega arith in ap (λ (k : ℕ). k ∷ []) g
one_length (m ∷ l ∷ s) n e f = absurd (omega arith)

-- a vector has the shape of its places in order
pub graded_shape : (down : Bool) (o : ℤ) (b : Array) (s : List ℕ) → s ≡ b.shape → rank b ≡ 1 → s ≡ (graded down o b).shape
graded_shape down o b s e one = e ∙ one_length b.shape (length (graded_cells down o b)) one (sym (graded_count down o b))

-- the cells that code put in order, as a vector has them afterwards
pub graded_back : (down : Bool) (o : ℤ) (b : Array) (n : ℕ) (slice items empty after : List ℤ) → IsOrigin o → IsArray b → empty ≡ [] → items ≡ empty ++ b.cells → slice ≡ items
    → after ≡ map (counted_from (pos (unsigned_abs (to_z w128 (of_z w128 o))))) (in_order down slice (upward 0 (length slice))) → n ≡ length items
    → take n (after ++ drop (length after) items) ≡ graded_cells down o b
graded_back down o b n slice items empty after origin h none gained whole made long =
    let all : slice ≡ b.cells = whole ∙ gained ∙ ap (λ (xs : List ℤ). xs ++ b.cells) none in
    let cells : after ≡ graded_cells down o b =
    made ∙ ap (λ (z : ℤ). map (counted_from z) (in_order down slice (upward 0 (length slice)))) (origin_back o origin)
    ∙ ap (λ (xs : List ℤ). map (counted_from o) (in_order down xs (upward 0 (length xs)))) all
    ∙ ap (λ (k : ℕ). map (counted_from o) (in_order down b.cells (upward 0 k))) h.count in
    let many : length after ≡ length items = ap length cells ∙ graded_count down o b ∙ sym h.count ∙ sym (ap length (gained ∙ ap (λ (xs : List ℤ). xs ++ b.cells) none)) in
    whole_back n after items (long ∙ sym many) ∙ cells

-- what is no text has numbers alone
pub numbers_only : (k : Kind) (n : ℕ) (cells : List ℤ) → (is_char k && not (n == 0)) ≡ false → length cells ≡ n → All (IsCell k) cells → All IsNumber cells
numbers_only Num n cells e long h = h
numbers_only Char n cells e long h = λ i d below. absurd (omega (arith, below, long, none (n == 0) refl e))
  where
    none : (t : Bool) → (n == 0) ≡ t → not t ≡ false → n ≡ 0
    none true f g = grind (arith, nat_tests)
    none false f g = absurd cc

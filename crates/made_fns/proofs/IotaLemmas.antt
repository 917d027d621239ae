-- The numbers from the origin up, as the numbers of a descriptor.
use Rattle.std.proofs.Common.{◌≡◌, ℕ, ◌+◌, ◌/◌, ◌^◌, ◌<◌, ◌≤◌, Bool, true, false, not, ◌&&◌, ℤ, pos, negsuc, ◌+ℤ◌, ◌≤ℤ◌, ◌<ℤ◌, Ok, Err, List, [], ◌∷◌, length, map, get_or, refl, sym, ap, ◌∙◌, subst, arith}
use Rattle.std.specs.Prelude.{int_le, unsigned_abs}
use Rattle.std.specs.List.{list_all}
use Rattle.std.proofs.lemmas.Bool.{le-ltb, eq-eqb, and_right}
use Rattle.std.proofs.lemmas.Int.{ints}
use Rattle.apl_base.specs.declared.faults.ErrorKind.TheVariants as error
use Rattle.apl_base.proofs.Integers.{magnitude-below}
use Rattle.apl_base.specs.declared.cells.Kind.TheVariants.{Num}
use Rattle.apl_base.specs.Array.{Array, size_of, index_at}
use Rattle.apl_base.specs.Selection.{upward}
use Rattle.apl_base.proofs.Upward.{length-map-upward, map-upward-same}
use Rattle.array_desc.specs.Desc.{DescView, IsDesc, number}
use Rattle.array_store.specs.Stores.{StoreView}
use Rattle.drag_along.specs.declared.leaves.Leaf.TheVariants.{Gen}
use Rattle.drag_along.specs.Views.{StandsForArray}
use Rattle.apl_model.specs.Made.{is_above_one, are_counts, counted_from, interval}
use Rattle.apl_model.specs.Whole.{Answer, is_single, is_text, first, vector}
use Rattle.apl_model_laws.proofs.Arrays.{one_axis}
use Rattle.made_fns.proofs.Tests.{int_le-is, int_le-not, no_error, an_error, within_shape, over_limit}

one_index : (n p : ℕ) → index_at (n ∷ []) p ≡ p ∷ []
one_index n p = let e : p / 1 ≡ p = omega arith in ap (λ (q : ℕ). q ∷ []) e

-- it stands for them over every store
pub interval_stands : (store : StoreView) (o : ℤ) (n : ℕ) (desc : DescView) → IsDesc desc → desc.shape ≡ n ∷ [] → ((j : ℕ) → j < n → number desc (j ∷ []) ≡ o +ℤ pos j) → StandsForArray store (Gen desc Num) (vector Num (map (counted_from o) (upward 0 n)))
interval_stands store o n desc is shape numbers =
    let many : length (map (counted_from o) (upward 0 n)) ≡ n = length-map-upward (counted_from o) 0 n in
    let size : size_of (length (map (counted_from o) (upward 0 n)) ∷ []) ≡ n = omega (arith, many) in
    let each : (p : ℕ) → 0 ≤ p → p < 0 + n → number desc (index_at (length (map (counted_from o) (upward 0 n)) ∷ []) p) ≡ counted_from o p =
    λ p low high. ap (number desc) (one_index (length (map (counted_from o) (upward 0 n))) p) ∙ numbers p (omega (arith, high)) in
    record {
      lawful = tt;
      shape = record { desc = is; same = shape ∙ ap (λ (k : ℕ). k ∷ []) (sym many) };
      kind = refl;
      array = ap (λ (cs : List ℤ). let a : Array = record { kind = Num; shape = length (map (counted_from o) (upward 0 n)) ∷ []; cells = cs } in a)
          (ap (λ (k : ℕ). map (λ p. number desc (index_at (length (map (counted_from o) (upward 0 n)) ∷ []) p)) (upward 0 k)) size
          ∙ map-upward-same (λ p. number desc (index_at (length (map (counted_from o) (upward 0 n)) ∷ []) p)) (counted_from o) 0 n each);
    }

-- ---- the answer

-- the cells of a single array
one_cell : (cells : List ℤ) → length cells ≡ 1 → cells ≡ get_or cells 0 (pos 0) ∷ []
one_cell [] h = absurd (omega arith)
one_cell (z ∷ []) h = refl
one_cell (z ∷ y ∷ cells) h = absurd (omega arith)

pub interval_is : (o : ℤ) (b : Array) (z : ℤ) → length b.shape ≤ 1 → size_of b.shape ≡ 1 → length b.cells ≡ 1 → is_text b ≡ false → z ≡ first b → pos 0 ≤ℤ z → z ≤ℤ pos (2 ^ 40) → interval o b ≡ Ok (vector Num (map (counted_from o) (upward 0 (unsigned_abs z))))
interval_is o b z rank size count text is low high =
    let r : is_above_one b ≡ false = le-ltb 1 (length b.shape) rank in
    let l : not (is_single b) ≡ false = ap not (eq-eqb (size_of b.shape) 1 size) in
    let test = int_le-is (pos 0) z low in
    let cells : b.cells ≡ z ∷ [] = one_cell b.cells count ∙ ap (λ (y : ℤ). y ∷ []) (sym is) in
    let each : list_all (int_le (pos 0)) b.cells ≡ true = ap (list_all (int_le (pos 0))) cells ∙ ap (λ (t : Bool). t && true) test in
    let counts : are_counts b ≡ true = rw (text, each) refl in
    let d : not (are_counts b) ≡ false = ap not counts in
    let few : unsigned_abs (first b) ≤ 2 ^ 40 = omega (arith, magnitude-below (first b) (2 ^ 40 + 1) (subst (λ (y : ℤ). pos 0 ≤ℤ y) is low) (omega (arith, ints, is, high))) in
    no_error error.Rank (is_above_one b) _ r ∙ no_error error.Length (not (is_single b)) _ l ∙ no_error error.Domain (not (are_counts b)) _ d
    ∙ within_shape (unsigned_abs (first b) ∷ []) _ (one_axis (unsigned_abs (first b)) few)
    ∙ ap (λ (y : ℤ). let r : Answer = Ok (vector Num (map (counted_from o) (upward 0 (unsigned_abs y)))) in r) (sym is)

-- a single array that is text, or has a number below 0
pub interval_domain : (o : ℤ) (b : Array) → length b.shape ≤ 1 → size_of b.shape ≡ 1 → are_counts b ≡ false → interval o b ≡ Err error.Domain
interval_domain o b rank size not_counts =
    let r : is_above_one b ≡ false = le-ltb 1 (length b.shape) rank in
    let l : not (is_single b) ≡ false = ap not (eq-eqb (size_of b.shape) 1 size) in
    no_error error.Rank (is_above_one b) _ r ∙ no_error error.Length (not (is_single b)) _ l ∙ an_error error.Domain (not (are_counts b)) _ (ap not not_counts)

pub text_domain : (o : ℤ) (b : Array) → length b.shape ≤ 1 → size_of b.shape ≡ 1 → is_text b ≡ true → interval o b ≡ Err error.Domain
text_domain o b rank size text = interval_domain o b rank size (ap (λ (t : Bool). not t && list_all (int_le (pos 0)) b.cells) text)

pub negative_domain : (o : ℤ) (b : Array) (z : ℤ) → length b.shape ≤ 1 → size_of b.shape ≡ 1 → length b.cells ≡ 1 → z ≡ first b → z <ℤ pos 0 → interval o b ≡ Err error.Domain
negative_domain o b z rank size count is low =
    let cells : b.cells ≡ z ∷ [] = one_cell b.cells count ∙ ap (λ (y : ℤ). y ∷ []) (sym is) in
    let each : list_all (int_le (pos 0)) b.cells ≡ false = ap (list_all (int_le (pos 0))) cells ∙ ap (λ (t : Bool). t && true) (int_le-not (pos 0) z low) in
    interval_domain o b rank size (and_right (not (is_text b)) (list_all (int_le (pos 0)) b.cells) each)

-- and one above the limit
pub interval_limit : (o : ℤ) (b : Array) (z : ℤ) → length b.shape ≤ 1 → size_of b.shape ≡ 1 → length b.cells ≡ 1 → is_text b ≡ false → z ≡ first b → pos (2 ^ 40) <ℤ z → interval o b ≡ Err error.Limit
interval_limit o b z rank size count text is high =
    let r : is_above_one b ≡ false = le-ltb 1 (length b.shape) rank in
    let l : not (is_single b) ≡ false = ap not (eq-eqb (size_of b.shape) 1 size) in
    let cells : b.cells ≡ z ∷ [] = one_cell b.cells count ∙ ap (λ (y : ℤ). y ∷ []) (sym is) in
    let each : list_all (int_le (pos 0)) b.cells ≡ true = ap (list_all (int_le (pos 0))) cells ∙ ap (λ (t : Bool). t && true) (int_le-is (pos 0) z (omega (arith, ints, high))) in
    let counts : are_counts b ≡ true = rw (text, each) refl in
    let d : not (are_counts b) ≡ false = ap not counts in
    no_error error.Rank (is_above_one b) _ r ∙ no_error error.Length (not (is_single b)) _ l ∙ no_error error.Domain (not (are_counts b)) _ d
    ∙ over_limit (unsigned_abs (first b) ∷ []) _ (λ shape. above z (first b) is high shape.each.0)
  where
    above : (z y : ℤ) → z ≡ y → pos (2 ^ 40) <ℤ z → unsigned_abs y ≤ 2 ^ 40 → ⊥
    above z (pos n) is high few = omega (arith, ints, is, high, few)
    above z (negsuc n) is high few = omega (arith, ints, is, high, few)

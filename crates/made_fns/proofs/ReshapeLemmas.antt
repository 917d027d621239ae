-- The lengths that numbers name, and elements that are repeated.
use Rattle.std.proofs.Common.{◌≡◌, ℕ, zero, suc, ◌+◌, ◌-◌, ◌*◌, ◌%◌, ◌^◌, ◌<◌, ◌≤◌, ◌==◌, ◌⊎◌, inl, inr, min, Bool, true, false, not, ◌&&◌, ◌||◌, ℤ, pos, negsuc, Ok, Err, List, [], ◌∷◌, ◌++◌, length, map, take, get_or, refl, sym, ap, ◌∙◌, subst, arith}
use Rattle.std.specs.Prelude.{int_le, unsigned_abs}
use Rattle.std.specs.List.{AllByRecursion, list_all, list_any}
use Rattle.std.specs.Ordering.{int_eq}
use Rattle.std.proofs.Math.Nat.{mod-add-mod, mod-eq_of_lt, mod_self, zero-add}
use Rattle.std.proofs.Math.Seq.{take-append_seam}
use Rattle.std.proofs.lemmas.Bool.{le-ltb, eq-eqb, ne_eqb, eqb-true, eqb-false, cases_lt, false≢true, and_left, and_right, and_cases, and_parts}
use Rattle.std.proofs.lemmas.Bool.Decides.{Decides-int_eq}
use Rattle.std.proofs.lemmas.Int.{ints}
use Rattle.std.proofs.lemmas.List.{length-map, map-append}
use Rattle.apl_base.specs.declared.cells.TheConstants.{M}
use Rattle.apl_base.specs.declared.faults.ErrorKind.TheVariants as error
use Rattle.apl_base.specs.Array.{Array, IsArray, IsShape, size_of}
use Rattle.apl_base.specs.Number.{IsNumber}
use Rattle.apl_base.specs.Selection.{upward}
use Rattle.apl_base.proofs.Upward.{upward-append, length-map-upward, get_or-map-places, map-upward-same}
use Rattle.array_store.specs.Stores.{StoreView}
use Rattle.array_store.specs.Counting.{OnlyCounted}
use Rattle.drag_along.specs.declared.leaves.Leaf.{Leaf}
use Rattle.drag_along.specs.Nodes.{leaf_shape}
use Rattle.leaf_names.specs.Variables.{array_of}
use Rattle.apl_model.specs.Made.{is_above_one, are_counts, reshape}
use Rattle.apl_model.specs.Whole.{is_text, is_empty, count}
use Rattle.apl_model_laws.proofs.Forms.{numbers-of}
use Rattle.made_fns.specs.Answers.{elements_in, is_between, lengths_named, reshaped_array}
use Rattle.made_fns.proofs.Lengths.{array_of-counted}
use Rattle.made_fns.proofs.Tests.{int_le-is, int_le-not, no_error, an_error, within_shape, over_limit}

-- ---- lengths

abbrev pub capped : ℤ → ℕ
capped z = min (unsigned_abs z) (2 ^ 40 + 1)

-- lengths within the limit are not capped
capped_same : (zs : List ℤ) → AllByRecursion (λ n. n ≤ 2 ^ 40) (map capped zs) → map capped zs ≡ map unsigned_abs zs
capped_same [] h = refl
capped_same (z ∷ zs) h =
    let here : capped z ≡ unsigned_abs z = omega (arith, h.0) in
    let rest = capped_same zs h.1 in
    cc

named_same : (zs : List ℤ) → AllByRecursion (λ n. n ≤ 2 ^ 40) (map unsigned_abs zs) → map capped zs ≡ map unsigned_abs zs
named_same [] h = refl
named_same (z ∷ zs) h =
    let here : capped z ≡ unsigned_abs z = omega (arith, h.0) in
    let rest = named_same zs h.1 in
    cc

pub capped_shape : (shape : List ℕ) (zs : List ℤ) → shape ≡ map capped zs → IsShape shape → (shape ≡ map unsigned_abs zs) × IsShape shape
capped_shape shape zs is lawful =
    let here : IsShape (map capped zs) = subst IsShape is lawful in
    (is ∙ capped_same zs here.each, lawful)

pub capped_none : (zs : List ℤ) → (IsShape (map capped zs) → ⊥) → IsShape (map unsigned_abs zs) → ⊥
capped_none zs none lawful = none (subst IsShape (sym (named_same zs lawful.each)) lawful)

-- more than eight lengths make no shape
pub too_many : (a : Array) → 8 < length a.cells → IsShape (lengths_named a) → ⊥
too_many a many lawful = omega (arith, many, lawful.rank, length-map a.cells unsigned_abs)

-- ---- tests

from_zero : (z : ℤ) → IsNumber z → is_between (pos 0) M z ≡ int_le (pos 0) z
from_zero z is = rw (int_le-is z M is.most) (by (int_le (pos 0) z))
  where
    by : (t : Bool) → t && true ≡ t
    by true = refl
    by false = refl

pub counts_between : (zs : List ℤ) → AllByRecursion IsNumber zs → list_all (is_between (pos 0) M) zs ≡ list_all (int_le (pos 0)) zs
counts_between [] h = refl
counts_between (z ∷ zs) h =
    let here = from_zero z h.0 in
    let rest = counts_between zs h.1 in
    rw (here, rest) refl

from_one : (z : ℤ) → IsNumber z → is_between (pos 1) M z ≡ int_le (pos 0) z && not (int_eq (pos 0) z)
from_one (pos zero) is = refl
from_one (pos (suc n)) is = rw (int_le-is (pos 1) (pos (suc n)) (omega (arith, ints)), int_le-is (pos (suc n)) M is.most, int_le-is (pos 0) (pos (suc n)) (omega (arith, ints))) refl
from_one (negsuc n) is = rw (int_le-not (pos 1) (negsuc n) (omega (arith, ints)), int_le-not (pos 0) (negsuc n) (omega (arith, ints))) refl

swap_not : (a b c d : Bool) → (a && not b) && (c && not d) ≡ (a && c) && not (b || d)
swap_not true true true true = refl
swap_not true true true false = refl
swap_not true true false d = refl
swap_not true false true d = refl
swap_not true false false d = refl
swap_not false b c d = refl

pub positive_between : (zs : List ℤ) → AllByRecursion IsNumber zs → list_all (is_between (pos 1) M) zs ≡ list_all (int_le (pos 0)) zs && not (list_any (int_eq (pos 0)) zs)
positive_between [] h = refl
positive_between (z ∷ zs) h =
    let here = from_one z h.0 in
    let rest = positive_between zs h.1 in
    rw (here, rest) (swap_not (int_le (pos 0) z) (int_eq (pos 0) z) (list_all (int_le (pos 0)) zs) (list_any (int_eq (pos 0)) zs))

-- ---- the answer

-- what is asked before the limit
pub record CanReshape (a b : Array) : Type 0 where
  pub rank : is_above_one a ≡ false
  pub length : is_empty b && are_counts a && not (list_any (int_eq (pos 0)) a.cells) ≡ false
  pub domain : are_counts a ≡ true

pub reshape_text : (a b : Array) → length a.shape ≤ 1 → is_text a ≡ true → reshape a b ≡ Err error.Domain
reshape_text a b rank text =
    let counts : are_counts a ≡ false = ap (λ (t : Bool). not t && list_all (int_le (pos 0)) a.cells) text in
    let l : is_empty b && are_counts a && not (list_any (int_eq (pos 0)) a.cells) ≡ false =
    and_left (is_empty b && are_counts a) (not (list_any (int_eq (pos 0)) a.cells)) (and_right (is_empty b) (are_counts a) counts) in
    no_error error.Rank (is_above_one a) _ (le-ltb 1 (length a.shape) rank)
    ∙ no_error error.Length (is_empty b && are_counts a && not (list_any (int_eq (pos 0)) a.cells)) _ l
    ∙ an_error error.Domain (not (are_counts a)) _ (ap not counts)

numbers_counts : (a : Array) → is_text a ≡ false → are_counts a ≡ list_all (int_le (pos 0)) a.cells
numbers_counts a text = ap (λ (t : Bool). not t && list_all (int_le (pos 0)) a.cells) text

three : (e c z : Bool) → e ≡ true → c && z ≡ true → (e && c) && z ≡ true
three true c z p q = q
three false c z p q = absurd cc

pub reshape_length : (a b : Array) → IsArray a → length a.shape ≤ 1 → is_text a ≡ false → count b ≡ 0 → list_all (is_between (pos 1) M) a.cells ≡ true → reshape a b ≡ Err error.Length
reshape_length a b lawful rank text empty positive =
    let each = sym (positive_between a.cells (numbers-of a lawful text)) ∙ positive in
    let e : is_empty b ≡ true = eq-eqb (count b) 0 empty in
    let c : are_counts a && not (list_any (int_eq (pos 0)) a.cells) ≡ true = ap (λ (t : Bool). t && not (list_any (int_eq (pos 0)) a.cells)) (numbers_counts a text) ∙ each in
    no_error error.Rank (is_above_one a) _ (le-ltb 1 (length a.shape) rank)
    ∙ an_error error.Length (is_empty b && are_counts a && not (list_any (int_eq (pos 0)) a.cells)) _ (three (is_empty b) (are_counts a) (not (list_any (int_eq (pos 0)) a.cells)) e c)

-- B has an element, or a number is not positive
pub either_fails : (n : ℕ) (t : Bool) → (n == 0) && t ≡ false → ((n ≡ 0 → ⊥) ⊎ (t ≡ false))
either_fails n t h = elim (and_cases (n == 0) t h) [ inl p ↦ inl (eqb-false n 0 p) | inr q ↦ inr q ]

pub both_hold : (n : ℕ) (t : Bool) → (n == 0) && t ≡ true → (n ≡ 0) × (t ≡ true)
both_hold n t h = let p = and_parts (n == 0) t h in (eqb-true n 0 p.0, p.1)

not_all : (e c z : Bool) → (e ≡ false) ⊎ (c && z ≡ false) → (e && c) && z ≡ false
not_all true c z (inl p) = absurd cc
not_all true c z (inr q) = q
not_all false c z h = refl

pub length_passes : (a b : Array) → IsArray a → is_text a ≡ false → ((count b ≡ 0 → ⊥) ⊎ (list_all (is_between (pos 1) M) a.cells ≡ false)) → is_empty b && are_counts a && not (list_any (int_eq (pos 0)) a.cells) ≡ false
length_passes a b lawful text h =
    not_all (is_empty b) (are_counts a) (not (list_any (int_eq (pos 0)) a.cells)) (elim h [
      | inl other ↦ inl (ne_eqb (count b) 0 other)
      | inr fails ↦ inr (ap (λ (t : Bool). t && not (list_any (int_eq (pos 0)) a.cells)) (numbers_counts a text) ∙ sym (positive_between a.cells (numbers-of a lawful text)) ∙ fails)
    ])

pub reshape_domain : (a b : Array) → IsArray a → length a.shape ≤ 1 → is_text a ≡ false → is_empty b && are_counts a && not (list_any (int_eq (pos 0)) a.cells) ≡ false → list_all (is_between (pos 0) M) a.cells ≡ false → reshape a b ≡ Err error.Domain
reshape_domain a b lawful rank text passes fails =
    let counts : are_counts a ≡ false = numbers_counts a text ∙ sym (counts_between a.cells (numbers-of a lawful text)) ∙ fails in
    no_error error.Rank (is_above_one a) _ (le-ltb 1 (length a.shape) rank)
    ∙ no_error error.Length (is_empty b && are_counts a && not (list_any (int_eq (pos 0)) a.cells)) _ passes
    ∙ an_error error.Domain (not (are_counts a)) _ (ap not counts)

pub can_reshape : (a b : Array) → IsArray a → length a.shape ≤ 1 → is_text a ≡ false → is_empty b && are_counts a && not (list_any (int_eq (pos 0)) a.cells) ≡ false → list_all (is_between (pos 0) M) a.cells ≡ true → CanReshape a b
can_reshape a b lawful rank text passes all = record {
  rank = le-ltb 1 (length a.shape) rank;
  length = passes;
  domain = numbers_counts a text ∙ sym (counts_between a.cells (numbers-of a lawful text)) ∙ all;
}

pub reshape_limit : (a b : Array) → CanReshape a b → (IsShape (lengths_named a) → ⊥) → reshape a b ≡ Err error.Limit
reshape_limit a b can none =
    no_error error.Rank (is_above_one a) _ can.rank
    ∙ no_error error.Length (is_empty b && are_counts a && not (list_any (int_eq (pos 0)) a.cells)) _ can.length
    ∙ no_error error.Domain (not (are_counts a)) _ (ap not can.domain) ∙ over_limit (lengths_named a) _ none

pub reshape_is : (a b : Array) → CanReshape a b → IsShape (lengths_named a) → reshape a b ≡ Ok (reshaped_array a b)
reshape_is a b can lawful =
    no_error error.Rank (is_above_one a) _ can.rank
    ∙ no_error error.Length (is_empty b && are_counts a && not (list_any (int_eq (pos 0)) a.cells)) _ can.length
    ∙ no_error error.Domain (not (are_counts a)) _ (ap not can.domain) ∙ within_shape (lengths_named a) _ lawful

-- where the lengths name an element B has one
zero_size : (zs : List ℤ) → list_any (int_eq (pos 0)) zs ≡ true → size_of (map unsigned_abs zs) ≡ 0
zero_size [] h = absurd (false≢true h)
zero_size (z ∷ zs) h = by (int_eq (pos 0) z) refl h (zero_size zs)
  where
    by : (u : Bool) → int_eq (pos 0) z ≡ u → u || list_any (int_eq (pos 0)) zs ≡ true → (list_any (int_eq (pos 0)) zs ≡ true → size_of (map unsigned_abs zs) ≡ 0) → unsigned_abs z * size_of (map unsigned_abs zs) ≡ 0
    by true e h f =
        let same : pos 0 ≡ z = (Decides-int_eq (pos 0) z).0 e in
        let none : unsigned_abs z ≡ 0 = ap unsigned_abs (sym same) in
        rw none (omega arith)
    by false e h f = rw (f h) (omega arith)

zeros : (e c z : Bool) → (e && c) && not z ≡ false → c ≡ true → e ≡ true → z ≡ true
zeros true true true h p q = refl
zeros true true false h p q = absurd cc
zeros true false z h p q = absurd cc
zeros false c z h p q = absurd cc

pub some_elements : (a b : Array) → CanReshape a b → 0 < size_of (lengths_named a) → 0 < count b
some_elements a b can some = by (count b) refl
  where
    by : (n : ℕ) → count b ≡ n → 0 < n
    by zero e =
        let z = zeros (is_empty b) (are_counts a) (list_any (int_eq (pos 0)) a.cells) can.length can.domain (eq-eqb (count b) 0 e) in
        absurd (omega (arith, some, zero_size a.cells z))
    by (suc n) e = omega arith

-- ---- repetition

map_shifted : {X : Type 0} (f : ℕ → X) (a b n : ℕ) → ((j : ℕ) → j < n → f (a + j) ≡ f (b + j)) → map f (upward a n) ≡ map f (upward b n)
map_shifted f a b zero h = refl
map_shifted f a b (suc n) h =
    let p : a + 0 ≡ a = omega arith in
    let q : b + 0 ≡ b = omega arith in
    let here : f a ≡ f b = ap f (sym p) ∙ h 0 (omega arith) ∙ ap f q in
    let next : (j : ℕ) → j < n → f (suc a + j) ≡ f (suc b + j) = λ j below.
    let r : suc a + j ≡ a + suc j = omega arith in
    let s : suc b + j ≡ b + suc j = omega arith in
    ap f r ∙ h (suc j) (omega (arith, below)) ∙ ap f (sym s) in
    let rest = map_shifted f (suc a) (suc b) n next in
    cc

pub repeated_more : (g : ℕ → ℤ) (m done more : ℕ) (items : List ℤ) → items ≡ map (λ p. g (p % m)) (upward 0 done) → done % m ≡ 0 → more ≤ done → items ++ take more items ≡ map (λ p. g (p % m)) (upward 0 (done + more))
repeated_more g m done more items is whole few =
    let f : ℕ → ℤ = λ p. g (p % m) in
    let split : done ≡ more + (done - more) = omega (arith, few) in
    let first : take more items ≡ map f (upward 0 more) =
    ap (take more) (is ∙ ap (λ (n : ℕ). map f (upward 0 n)) split ∙ ap (map f) (upward-append 0 more (done - more)) ∙ map-append f (upward 0 more) (upward (0 + more) (done - more)))
    ∙ ap (λ (n : ℕ). take n (map f (upward 0 more) ++ map f (upward (0 + more) (done - more)))) (sym (length-map-upward f 0 more))
    ∙ take-append_seam (map f (upward 0 more)) (map f (upward (0 + more) (done - more))) in
    let each : (j : ℕ) → j < more → f (0 + j) ≡ f ((0 + done) + j) = λ j below.
    let e : 0 + j ≡ done % m + j = omega (arith, whole) in
    let h : (0 + done) + j ≡ done + j = omega arith in
    ap g (ap (λ (n : ℕ). n % m) e ∙ mod-add-mod done m j ∙ ap (λ (n : ℕ). n % m) (sym h)) in
    ap (λ (xs : List ℤ). items ++ xs) (first ∙ map_shifted f 0 (0 + done) more each)
    ∙ ap (λ (xs : List ℤ). xs ++ map f (upward (0 + done) more)) is
    ∙ sym (ap (map f) (upward-append 0 done more) ∙ map-append f (upward 0 done) (upward (0 + done) more))

pub whole_more : (m done more size : ℕ) → more ≡ min done (size - done) → done % m ≡ 0 → 0 < done → done < size → ((done + more ≡ size) ⊎ (((done + more) % m ≡ 0) × (0 < done + more)))
whole_more m done more size is whole some below = elim (cases_lt done (size - done)) [
  | inl h ↦
      let same : more ≡ done = omega (arith, is, h) in
      let e : (done + done) % m ≡ 0 = sym (mod-add-mod done m done) ∙ ap (λ (n : ℕ). (n + done) % m) whole ∙ ap (λ (n : ℕ). n % m) (zero-add done) ∙ whole in
      inr (ap (λ (n : ℕ). (done + n) % m) same ∙ e, omega (arith, some))
  | inr h ↦ inl (omega (arith, is, h, below))
]

-- the first elements of B
pub first_elements : (cells read : List ℤ) (f : ℕ → ℤ) (m n : ℕ) → cells ≡ map f (upward 0 m) → read ≡ map f (upward 0 n) → n ≤ m → read ≡ map (λ p. get_or cells (p % m) (pos 0)) (upward 0 n)
first_elements cells read f m n all first few =
    first ∙ map-upward-same f (λ p. get_or cells (p % m) (pos 0)) 0 n (λ p low high.
    let below : p < m = omega (arith, high, few) in
    sym (ap (λ (k : ℕ). get_or cells k (pos 0)) (mod-eq_of_lt below) ∙ ap (λ (xs : List ℤ). get_or xs p (pos 0)) all ∙ get_or-map-places f m p (pos 0) below))

pub whole_first : (m first size : ℕ) → first ≡ min size m → (0 < size → 0 < m) → ((first ≡ size) ⊎ ((first % m ≡ 0) × (0 < first)))
whole_first m first size is some = elim (cases_lt m size) [
  | inl h ↦
      let same : first ≡ m = omega (arith, is, h) in
      inr (ap (λ (n : ℕ). n % m) same ∙ mod_self m, omega (arith, same, some (omega (arith, h))))
  | inr h ↦ inl (omega (arith, is, h))
]

pub repeated_many : (g : ℕ → ℤ) (m done : ℕ) (items : List ℤ) → items ≡ map (λ p. g (p % m)) (upward 0 done) → length items ≡ done
repeated_many g m done items is = ap length is ∙ length-map-upward (λ p. g (p % m)) 0 done

-- ---- the shape

-- what is so of B and of A before the lengths are named
pub shape_can : (s now : StoreView) (a b : Leaf) → IsArray (array_of s a) → length (leaf_shape a) ≤ 1 → is_text (array_of s a) ≡ false → (elements_in b == 0) && list_all (is_between (pos 1) M) (array_of s a).cells ≡ false → OnlyCounted s now → list_all (is_between (pos 0) M) (array_of now a).cells ≡ true → CanReshape (array_of s a) (array_of s b)
shape_can s now a b lawful rank text some only all =
    can_reshape (array_of s a) (array_of s b) lawful rank text (length_passes (array_of s a) (array_of s b) lawful text (either_fails (elements_in b) _ some))
    (ap (λ (x : Array). list_all (is_between (pos 0) M) x.cells) (sym (array_of-counted s now a only)) ∙ all)

pub shape_domain : (s now : StoreView) (a b : Leaf) → IsArray (array_of s a) → length (leaf_shape a) ≤ 1 → is_text (array_of s a) ≡ false → (elements_in b == 0) && list_all (is_between (pos 1) M) (array_of s a).cells ≡ false → OnlyCounted s now → list_all (is_between (pos 0) M) (array_of now a).cells ≡ false → reshape (array_of s a) (array_of s b) ≡ Err error.Domain
shape_domain s now a b lawful rank text some only fails =
    reshape_domain (array_of s a) (array_of s b) lawful rank text (length_passes (array_of s a) (array_of s b) lawful text (either_fails (elements_in b) _ some))
    (ap (λ (x : Array). list_all (is_between (pos 0) M) x.cells) (sym (array_of-counted s now a only)) ∙ fails)

-- ---- the end

pub length-reshaped : (a b : Array) (shape : List ℕ) → shape ≡ lengths_named a → length (reshaped_array a b).cells ≡ size_of shape
length-reshaped a b shape is =
    length-map-upward (λ p. get_or b.cells (p % count b) (pos 0)) 0 (size_of (lengths_named a)) ∙ ap size_of (sym is)

-- what was repeated over a store that only counted
pub repeated_are : (s t : StoreView) (a b : Leaf) (size : ℕ) (shape : List ℕ) (cells : List ℤ) → OnlyCounted s t → size ≡ size_of shape → shape ≡ lengths_named (array_of s a) → cells ≡ map (λ p. get_or (array_of t b).cells (p % elements_in b) (pos 0)) (upward 0 size) → cells ≡ (reshaped_array (array_of s a) (array_of s b)).cells
repeated_are s t a b size shape cells only big is are =
    are ∙ ap (λ (x : Array). map (λ p. get_or x.cells (p % elements_in b) (pos 0)) (upward 0 size)) (array_of-counted s t b only)
    ∙ ap (λ (n : ℕ). map (λ p. get_or (array_of s b).cells (p % elements_in b) (pos 0)) (upward 0 n)) (big ∙ ap size_of is)

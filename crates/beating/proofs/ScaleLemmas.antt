-- Descriptors with something added to each number, or each number multiplied.
use Rattle.std.proofs.Common.{◌≡◌, ℕ, zero, suc, ℤ, pos, ◌+ℤ◌, ◌*ℤ◌, List, [], ◌∷◌, length, map, refl, sym, ap, subst, ◌∙◌, arith, inr}
use Rattle.std.specs.Int.{int_wrap}
use Rattle.std.specs.Int.RustNames.{FitsSigned}
use Rattle.std.proofs.lemmas.Int.{ints, to_z-of_z}
use Rattle.std.proofs.Math.IntN.{*ℤ_comm}
use mir.Syntax.{w128}
use mir.Val.{to_z, of_z}
use Rattle.apl_base.specs.Array.{IsIndex, size_of}
use Rattle.apl_base.specs.Number.{IsNumber}
use Rattle.array_desc.proofs.Canon.{parts_same}
use Rattle.array_desc.specs.Desc.{DescView, IsDesc, ShortAxesRest, dot, number}
use Rattle.apl_base.proofs.Integers.{add_mul, mul_assoc}
use Rattle.array_desc.proofs.Indices.{index_with_size}
use Rattle.array_desc.proofs.Sums.{Numbers, Near, near-dot, number_at_first, number_fits}
use Rattle.beating.specs.Folds.{AllRest}
use Rattle.apl_base.proofs.Fitting.{number_in_cell}

is_number_zero : IsNumber (pos 0)
is_number_zero = record { least = omega (arith, ints); most = omega (arith, ints) }

-- ---- each number multiplied

-- the factors of a product of three may change places
swapped : (s i by : ℤ) → (s *ℤ by) *ℤ i ≡ (s *ℤ i) *ℤ by
swapped s i by = mul_assoc s by i ∙ ap (λ (x : ℤ). s *ℤ x) (*ℤ_comm by i) ∙ sym (mul_assoc s i by)

zero_times : (by : ℤ) → pos 0 *ℤ by ≡ pos 0
zero_times by = omega (arith, ints)

abbrev pub times : ℤ → List ℤ → List ℤ
times by ss = map (λ s. s *ℤ by) ss

abbrev pub wrapped_times : ℤ → List ℤ → List ℤ
wrapped_times by ss = map (λ s. int_wrap w128 (s *ℤ by)) ss

dot-times : (by : ℤ) (ss : List ℤ) (is : List ℕ) → dot (times by ss) is ≡ dot ss is *ℤ by
dot-times by [] is = sym (zero_times by)
dot-times by (s ∷ ss) [] = sym (zero_times by)
dot-times by (s ∷ ss) (i ∷ is) =
    ap (λ (x : ℤ). x +ℤ dot (times by ss) is) (swapped s (pos i) by)
    ∙ ap (λ (x : ℤ). ((s *ℤ pos i) *ℤ by) +ℤ x) (dot-times by ss is)
    ∙ sym (add_mul (s *ℤ pos i) (dot ss is) by)

number-times : (b by : ℤ) (ss : List ℤ) (is : List ℕ) → (b *ℤ by) +ℤ dot (times by ss) is ≡ (b +ℤ dot ss is) *ℤ by
number-times b by ss is = ap (λ (x : ℤ). (b *ℤ by) +ℤ x) (dot-times by ss is) ∙ sym (add_mul b (dot ss is) by)

near-times : (by : ℤ) (ss : List ℤ) → Near (times by ss) (wrapped_times by ss)
near-times by [] = tt
near-times by (s ∷ ss) = (inr refl, near-times by ss)

length-times : (by : ℤ) (ss : List ℤ) → length (times by ss) ≡ length ss
length-times by [] = refl
length-times by (s ∷ ss) = ap suc (length-times by ss)

length-wrapped_times : (by : ℤ) (ss : List ℤ) → length (wrapped_times by ss) ≡ length ss
length-wrapped_times by [] = refl
length-wrapped_times by (s ∷ ss) = ap suc (length-wrapped_times by ss)

-- each number of a descriptor, multiplied, is a number
pub record Scales (d : DescView) (by : ℤ) : Type 0 where
  pub each : (i : List ℕ) → IsIndex d.shape i → IsNumber (number d i *ℤ by)

-- the descriptor of the products, as 128 bits keep them
abbrev pub scaled_desc : DescView → ℤ → DescView
scaled_desc d by = record { base = int_wrap w128 (d.base *ℤ by); strides = wrapped_times by d.strides; shape = d.shape }

scales-numbers : (d : DescView) (by : ℤ) → Scales d by → Numbers (d.base *ℤ by) (times by d.strides) d.shape
scales-numbers d by h = record { each = λ i q. subst IsNumber (sym (number-times d.base by d.strides i)) (h.each i q) }

-- its numbers are the products
pub number-scaled : (d : DescView) (by : ℤ) → IsDesc d → Scales d by → (i : List ℕ) → IsIndex d.shape i → number (scaled_desc d by) i ≡ number d i *ℤ by
number-scaled d by lawful h i q =
    let numbers = scales-numbers d by h in
    let first = number_at_first (d.base *ℤ by) (times by d.strides) d.shape i numbers q in
    let same = near-dot (d.base *ℤ by) (times by d.strides) (wrapped_times by d.strides) d.shape i numbers (near-times by d.strides) (length-times by d.strides ∙ lawful.strides) q in
    ap (λ (x : ℤ). x +ℤ dot (wrapped_times by d.strides) i) (number_fits (d.base *ℤ by) first)
    ∙ ap (λ (x : ℤ). (d.base *ℤ by) +ℤ x) same
    ∙ number-times d.base by d.strides i

wrapped_zero : (s by : ℤ) → s ≡ pos 0 → int_wrap w128 (s *ℤ by) ≡ pos 0
wrapped_zero s by e =
    ap (λ (x : ℤ). int_wrap w128 (x *ℤ by)) e ∙ ap (int_wrap w128) (zero_times by) ∙ number_fits (pos 0) is_number_zero

short-scaled : (by : ℤ) (ss : List ℤ) (ns : List ℕ) → ShortAxesRest ss ns → ShortAxesRest (wrapped_times by ss) ns
short-scaled by [] ns h = tt
short-scaled by (s ∷ ss) [] h = tt
short-scaled by (s ∷ ss) (n ∷ ns) h = (λ few. wrapped_zero s by (h.0 few), short-scaled by ss ns h.1)

-- where all strides are 0, so are their products
pub rest-scaled : (by : ℤ) (ss : List ℤ) → AllRest ss → AllRest (wrapped_times by ss)
rest-scaled by [] h = tt
rest-scaled by (s ∷ ss) h = (wrapped_zero s by h.0, rest-scaled by ss h.1)

-- and it is a descriptor
pub scaled-lawful : (d : DescView) (by : ℤ) → IsDesc d → Scales d by → IsDesc (scaled_desc d by)
scaled-lawful d by lawful h = record {
  shape = lawful.shape;
  strides = length-wrapped_times by d.strides ∙ lawful.strides;
  numbers = λ i q. subst IsNumber (sym (number-scaled d by lawful h i q)) (h.each i q);
  short = short-scaled by d.strides d.shape lawful.short;
  empty = λ none.
      let zeros = lawful.empty none in
      record { base = wrapped_zero d.base by zeros.base; strides = rest-scaled by d.strides zeros.strides };
}

-- ---- something added to each number

-- each number of a descriptor, with something added, is a number; where there is none, nothing is added
pub record Shifts (d : DescView) (by : ℤ) : Type 0 where
  pub each : (i : List ℕ) → IsIndex d.shape i → IsNumber (number d i +ℤ by)
  pub empty : size_of d.shape ≡ 0 → by ≡ pos 0

abbrev pub shifted_desc : DescView → ℤ → DescView
shifted_desc d by = record { base = d.base +ℤ by; strides = d.strides; shape = d.shape }

regroup : (b x by : ℤ) → (b +ℤ by) +ℤ x ≡ (b +ℤ x) +ℤ by
regroup b x by = omega (arith, ints)

pub number-shifted : (d : DescView) (by : ℤ) (i : List ℕ) → number (shifted_desc d by) i ≡ number d i +ℤ by
number-shifted d by i = regroup d.base (dot d.strides i) by

shifts-numbers : (d : DescView) (by : ℤ) → Shifts d by → Numbers (d.base +ℤ by) d.strides d.shape
shifts-numbers d by h = record { each = λ i q. subst IsNumber (sym (number-shifted d by i)) (h.each i q) }

zero_plus_zero : (b by : ℤ) → b ≡ pos 0 → by ≡ pos 0 → b +ℤ by ≡ pos 0
zero_plus_zero b by e f = omega (arith, ints)

-- the base is a number
base_of_size : (d : DescView) (by : ℤ) (n : ℕ) → n ≡ size_of d.shape → IsDesc d → Shifts d by → IsNumber (d.base +ℤ by)
base_of_size d by zero e lawful h =
    subst IsNumber (sym (zero_plus_zero d.base by (lawful.empty (sym e)).base (h.empty (sym e)))) is_number_zero
base_of_size d by (suc n) e lawful h =
    number_at_first (d.base +ℤ by) d.strides d.shape _ (shifts-numbers d by h) (index_with_size d.shape (omega (arith, e)))

pub shifted-base : (d : DescView) (by : ℤ) → IsDesc d → Shifts d by → IsNumber (d.base +ℤ by)
shifted-base d by lawful h = base_of_size d by (size_of d.shape) refl lawful h

pub shifted-lawful : (d : DescView) (by : ℤ) → IsDesc d → Shifts d by → IsDesc (shifted_desc d by)
shifted-lawful d by lawful h = record {
  shape = lawful.shape;
  strides = lawful.strides;
  numbers = (shifts-numbers d by h).each;
  short = lawful.short;
  empty = λ none.
      let zeros = lawful.empty none in
      record { base = zero_plus_zero d.base by zeros.base (h.empty none); strides = zeros.strides };
}

-- the parts of a descriptor with something added to its base, as the bits give them back
pub shifted_parts : (d : DescView) (by base : ℤ) (ss : List ℤ) (ns : List ℕ) → IsDesc d → Shifts d by → FitsSigned w128 base → FitsSigned w128 by → record { base = base; strides = ss; shape = ns } ≡ d → record { base = to_z w128 (of_z w128 (to_z w128 (of_z w128 base) +ℤ to_z w128 (of_z w128 by))); strides = ss; shape = ns } ≡ shifted_desc d by
shifted_parts d by base ss ns lawful h f g same =
    let b : base ≡ d.base = ap (λ (x : DescView). x.base) same in
    let sum : to_z w128 (of_z w128 base) +ℤ to_z w128 (of_z w128 by) ≡ d.base +ℤ by =
    ap (λ (x : ℤ). x +ℤ to_z w128 (of_z w128 by)) (to_z-of_z w128 base f ∙ b) ∙ ap (λ (x : ℤ). d.base +ℤ x) (to_z-of_z w128 by g) in
    parts_same _ (shifted_desc d by)
    (ap (λ (x : ℤ). to_z w128 (of_z w128 x)) sum ∙ to_z-of_z w128 (d.base +ℤ by) (number_in_cell (d.base +ℤ by) (shifted-base d by lawful h)))
    (ap (λ (x : DescView). x.strides) same) (ap (λ (x : DescView). x.shape) same)

pub shifted_fits : (d : DescView) (by base : ℤ) (ss : List ℤ) (ns : List ℕ) → IsDesc d → Shifts d by → FitsSigned w128 base → FitsSigned w128 by → record { base = base; strides = ss; shape = ns } ≡ d → FitsSigned w128 (to_z w128 (of_z w128 base) +ℤ to_z w128 (of_z w128 by))
shifted_fits d by base ss ns lawful h f g same =
    let b : base ≡ d.base = ap (λ (x : DescView). x.base) same in
    let sum : to_z w128 (of_z w128 base) +ℤ to_z w128 (of_z w128 by) ≡ d.base +ℤ by =
    ap (λ (x : ℤ). x +ℤ to_z w128 (of_z w128 by)) (to_z-of_z w128 base f ∙ b) ∙ ap (λ (x : ℤ). d.base +ℤ x) (to_z-of_z w128 by g) in
    subst (FitsSigned w128) (sym sum) (number_in_cell (d.base +ℤ by) (shifted-base d by lawful h))

-- the parts of a descriptor of products, as the bits give them back
pub scaled_parts : (d : DescView) (by base : ℤ) (ss : List ℤ) (ns : List ℕ) (product : ℤ) (products : List ℤ) (shape : List ℕ) → FitsSigned w128 base → FitsSigned w128 by → FitsSigned w128 product → record { base = base; strides = ss; shape = ns } ≡ d → product ≡ int_wrap w128 (to_z w128 (of_z w128 base) *ℤ to_z w128 (of_z w128 by)) → products ≡ wrapped_times by d.strides → shape ≡ ns → record { base = to_z w128 (of_z w128 product); strides = products; shape = shape } ≡ scaled_desc d by
scaled_parts d by base ss ns product products shape f g h same e p q =
    let b : base ≡ d.base = ap (λ (x : DescView). x.base) same in
    parts_same _ (scaled_desc d by)
    (to_z-of_z w128 product h ∙ e
    ∙ ap (λ (x : ℤ). int_wrap w128 (x *ℤ to_z w128 (of_z w128 by))) (to_z-of_z w128 base f ∙ b)
    ∙ ap (λ (x : ℤ). int_wrap w128 (d.base *ℤ x)) (to_z-of_z w128 by g))
    p (q ∙ ap (λ (x : DescView). x.shape) same)

-- The strides that a descriptor keeps: 0 where no index leads.
use Rattle.std.proofs.Common.{◌≡◌, ◌==◌, ℕ, zero, suc, ◌<◌, Bool, true, false, ℤ, pos, ◌+ℤ◌, ◌*ℤ◌, List, [], ◌∷◌, length, nat_le, if◌then◌else◌, refl, ap, sym, subst, ◌∙◌, arith}
use Rattle.std.specs.List.{AllByRecursion}
use Rattle.std.proofs.lemmas.Int.{ints}
use Rattle.std.proofs.lemmas.Bool.Decides.{nat_tests}
use Rattle.apl_base.specs.Array.{IsShape, IsIndex, size_of}
use Rattle.apl_base.specs.Number.{IsNumber}
use Rattle.array_desc.specs.Desc.{DescView, IsDesc, IsZero, ShortAxesRest, dot, number}
use Rattle.array_desc.specs.Steps.{paired, stride_kept}
use Rattle.apl_base.proofs.Sizes.{IsIndex-positive}
use Rattle.array_desc.proofs.Sums.{Numbers}

-- the descriptor kept of a base and strides
abbrev pub kept : Bool → ℤ → List ℤ → List ℕ → DescView
kept empty b ss ns = record { base = if empty then pos 0 else b; strides = paired (stride_kept empty) ss ns; shape = ns }

pub length-kept : (empty : Bool) (ss : List ℤ) (ns : List ℕ) → length ss ≡ length ns → length (paired (stride_kept empty) ss ns) ≡ length ns
length-kept empty [] [] l = refl
length-kept empty (s ∷ ss) (n ∷ ns) l = ap suc (length-kept empty ss ns (omega (arith, l)))
length-kept empty [] (n ∷ ns) l = absurd (omega (arith, l))
length-kept empty (s ∷ ss) [] l = absurd (omega (arith, l))

above_one : (n : ℕ) → 1 < n → nat_le n 1 ≡ false
above_one n p = grind (arith, nat_tests)

kept_term : (s : ℤ) (n i : ℕ) → i < n → stride_kept false s n *ℤ pos i ≡ s *ℤ pos i
kept_term s zero i p = absurd (omega (arith, p))
kept_term s (suc zero) zero p = omega (arith, ints)
kept_term s (suc zero) (suc i) p = absurd (omega (arith, p))
kept_term s (suc (suc n)) i p = rw (above_one (suc (suc n)) (omega arith)) refl

pub dot-kept : (ss : List ℤ) (ns is : List ℕ) → IsIndex ns is → dot (paired (stride_kept false) ss ns) is ≡ dot ss is
dot-kept [] ns is q = refl
dot-kept (s ∷ ss) (n ∷ ns) (i ∷ is) q = rw (kept_term s n i q.0, dot-kept ss ns is q.1) refl
dot-kept (s ∷ ss) [] [] q = refl
dot-kept (s ∷ ss) [] (i ∷ is) q = absurd q
dot-kept (s ∷ ss) (n ∷ ns) [] q = absurd q

not_empty : (n : ℕ) → 0 < n → (n == 0) ≡ false
not_empty n p = grind (arith, nat_tests)

pub number-kept : (empty : Bool) (b : ℤ) (ss : List ℤ) (ns i : List ℕ) → empty ≡ (size_of ns == 0) → IsIndex ns i → number (kept empty b ss ns) i ≡ b +ℤ dot ss i
number-kept empty b ss ns i e q =
    let f : empty ≡ false = e ∙ not_empty (size_of ns) (IsIndex-positive ns i q) in
    rw (f, dot-kept ss ns i q) refl

pub short-kept : (empty : Bool) (ss : List ℤ) (ns : List ℕ) → ShortAxesRest (paired (stride_kept empty) ss ns) ns
short-kept empty [] ns = tt
short-kept empty (s ∷ ss) [] = tt
short-kept true (s ∷ ss) (n ∷ ns) = (λ h. refl, short-kept true ss ns)
short-kept false (s ∷ ss) (zero ∷ ns) = (λ h. refl, short-kept false ss ns)
short-kept false (s ∷ ss) (suc zero ∷ ns) = (λ h. refl, short-kept false ss ns)
short-kept false (s ∷ ss) (suc (suc n) ∷ ns) = (λ h. absurd (omega (arith, h)), short-kept false ss ns)

zero-kept : (ss : List ℤ) (ns : List ℕ) → AllByRecursion (λ s. s ≡ pos 0) (paired (stride_kept true) ss ns)
zero-kept [] ns = tt
zero-kept (s ∷ ss) [] = tt
zero-kept (s ∷ ss) (n ∷ ns) = (refl, zero-kept ss ns)

zero_desc : (b : ℤ) (ss : List ℤ) (ns : List ℕ) → IsZero (kept true b ss ns)
zero_desc b ss ns = record { base = refl; strides = zero-kept ss ns }

is_zero : (n : ℕ) → n ≡ 0 → (n == 0) ≡ true
is_zero n p = grind (arith, nat_tests)

empty-kept : (empty : Bool) (b : ℤ) (ss : List ℤ) (ns : List ℕ) → empty ≡ (size_of ns == 0) → size_of ns ≡ 0 → IsZero (kept empty b ss ns)
empty-kept empty b ss ns e z =
    let P : Bool → Type 0 = λ v. IsZero (kept v b ss ns) in
    subst P (sym (e ∙ is_zero (size_of ns) z)) (zero_desc b ss ns)

pub kept-lawful : (empty : Bool) (b : ℤ) (ss : List ℤ) (ns : List ℕ) → empty ≡ (size_of ns == 0) → IsShape ns → length ss ≡ length ns → Numbers b ss ns → IsDesc (kept empty b ss ns)
kept-lawful empty b ss ns e s l h = record {
  shape = s;
  strides = length-kept empty ss ns l;
  numbers = λ i q. subst IsNumber (sym (number-kept empty b ss ns i e q)) (h.each i q);
  short = short-kept empty ss ns;
  empty = λ z. empty-kept empty b ss ns e z;
}

-- a descriptor with these parts is the one kept
pub kept_is : (empty : Bool) (b : ℤ) (ss : List ℤ) (ns : List ℕ) (d : DescView) → d.base ≡ (if empty then pos 0 else b) → d.strides ≡ paired (stride_kept empty) ss ns → d.shape ≡ ns → d ≡ kept empty b ss ns
kept_is empty b ss ns d p q r = λ i. record { base = p i; strides = q i; shape = r i }

-- The interval of `⍳` by its ends is the exact one.
use Rattle.std.proofs.Common.{◌≡◌, ℕ, zero, suc, ◌+◌, ℤ, pos, ◌+ℤ◌, map, fold, refl, ap, ◌∙◌, arith}
use Rattle.std.proofs.lemmas.Int.{ints, int_min_is, int_max_is}
use Rattle.std.specs.Int.{int_min, int_max}
use Rattle.apl_base.specs.declared.cells.Interval.TheVariants.{Span}
use Rattle.apl_base.specs.Interval.{hull}
use Rattle.apl_base.specs.Selection.{upward}
use Rattle.apl_model.specs.Made.{counted_from}
use Rattle.apl_cost.specs.Laws.{NumbersFromAreExact}

least-stays : (o : ℤ) (k : ℕ) → int_min o (o +ℤ pos k) ≡ o
least-stays o k = omega (arith, ints, int_min_is)

most-grows : (o : ℤ) (k : ℕ) → int_max (o +ℤ pos k) (o +ℤ pos (suc k)) ≡ o +ℤ pos (suc k)
most-grows o k = omega (arith, ints, int_max_is)

-- one number more
hull-next : (o : ℤ) (k : ℕ) → hull (Span o (o +ℤ pos k)) (counted_from o (suc k)) ≡ Span o (o +ℤ pos (suc k))
hull-next o k = ap (λ lo. Span lo (int_max (o +ℤ pos k) (o +ℤ pos (suc k)))) (least-stays o (suc k)) ∙ ap (λ hi. Span o hi) (most-grows o k)

-- m numbers more
hull-run : (o : ℤ) (k m : ℕ) → fold hull (Span o (o +ℤ pos k)) (map (counted_from o) (upward (suc k) m)) ≡ Span o (o +ℤ pos (k + m))
hull-run o k zero = ap (λ j. Span o (o +ℤ pos j)) (let e : k ≡ k + 0 = omega arith in e)
hull-run o k (suc m) =
    ap (λ i. fold hull i (map (counted_from o) (upward (suc (suc k)) m))) (hull-next o k)
    ∙ hull-run o (suc k) m
    ∙ ap (λ j. Span o (o +ℤ pos j)) (let e : suc k + m ≡ k + suc m = omega arith in e)

from-origin : (o : ℤ) → Span (counted_from o 0) (counted_from o 0) ≡ Span o (o +ℤ pos 0)
from-origin o = ap (λ lo. Span lo (o +ℤ pos 0)) (let e : o +ℤ pos 0 ≡ o = omega (arith, ints) in e)

pub numbers_from_are_exact : NumbersFromAreExact
numbers_from_are_exact o zero = refl
numbers_from_are_exact o (suc m) =
    ap (λ i. fold hull i (map (counted_from o) (upward 1 m))) (from-origin o)
    ∙ hull-run o 0 m
    ∙ ap (λ hi. Span o hi) (ap (λ j. o +ℤ pos j) (let e : 0 + m ≡ m = omega arith in e))

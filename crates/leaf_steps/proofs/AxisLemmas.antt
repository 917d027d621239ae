-- Axes that are counted from the origin, and from one.
use Rattle.std.proofs.Common.{◌≡◌, ◌⊎◌, inl, inr, ℕ, ◌≤◌, ℤ, pos, ◌+ℤ◌, ◌-ℤ◌, ◌≤ℤ◌, ◌<ℤ◌, Bool, true, false, refl, sym, ap, ◌∙◌, arith}
use Rattle.std.specs.Prelude.{int_le, int_lt, unsigned_abs, not, ◌&&◌, length}
use Rattle.std.proofs.lemmas.Int.{ints}
use Rattle.apl_base.specs.declared.faults.ErrorKind.TheVariants as error
use Rattle.apl_base.specs.declared.rows.Dya.{Dya}
use Rattle.apl_base.specs.Array.{Array}
use Rattle.apl_model.specs.declared.functions.Axis.{Axis}
use Rattle.apl_model.specs.declared.functions.Axis.TheVariants.{Numbered}
use Rattle.apl_model.specs.Made as made
use Rattle.apl_model.specs.Product as product
use Rattle.apl_model.specs.Whole.{Answer, error_if}
use Rattle.made_fns.proofs.Tests.{int_le-is, int_le-not, int_lt-is, int_lt-not}
use Rattle.apl_model_laws.proofs.Refusals.{fails_if}

-- one axis counts from 1 as another one from the origin
abbrev pub IsSameAxis : ℤ → Axis → Axis → Type 0
IsSameAxis origin axis one = (rank : ℕ) (make : ℕ → Answer) → rank ≤ 8 → made.on_axis (pos 1) one rank make ≡ made.on_axis origin axis rank make

-- ---- numbers

low_same : (j k o : ℤ) → j +ℤ o ≡ k +ℤ pos 1 → int_le (pos 1) j ≡ int_le o k
low_same j k o h = by (int_le o k) refl
  where
    by : (t : Bool) → int_le o k ≡ t → int_le (pos 1) j ≡ int_le o k
    by true e = int_le-is (pos 1) j (omega (arith, ints, h, e)) ∙ sym e
    by false e = int_le-not (pos 1) j (omega (arith, ints, h, e)) ∙ sym e

high_same : (j k o : ℤ) (r : ℕ) → j +ℤ o ≡ k +ℤ pos 1 → int_lt j (pos 1 +ℤ pos r) ≡ int_lt k (o +ℤ pos r)
high_same j k o r h = by (int_lt k (o +ℤ pos r)) refl
  where
    by : (t : Bool) → int_lt k (o +ℤ pos r) ≡ t → int_lt j (pos 1 +ℤ pos r) ≡ int_lt k (o +ℤ pos r)
    by true e = int_lt-is j (pos 1 +ℤ pos r) (omega (arith, ints, h, e)) ∙ sym e
    by false e = int_lt-not j (pos 1 +ℤ pos r) (omega (arith, ints, h, e)) ∙ sym e

number_same : (j k o : ℤ) → j +ℤ o ≡ k +ℤ pos 1 → j -ℤ pos 1 ≡ k -ℤ o
number_same j k o h = omega (arith, ints, h)

not_both : (s t : Bool) → t ≡ false → not (s && t) ≡ true
not_both true t e = ap not e
not_both false t e = refl

pub number_counted : (j k o : ℤ) → (o ≡ pos 0) ⊎ (o ≡ pos 1) → (j +ℤ o ≡ k +ℤ pos 1) ⊎ ((j ≡ k) × (pos 8 <ℤ k)) → IsSameAxis o (Numbered k) (Numbered j)
number_counted j k o origin (inl h) r make few =
    ap (λ (t : Bool). error_if error.Rank (not (t && int_lt j (pos 1 +ℤ pos r))) (make (unsigned_abs (j -ℤ pos 1)))) (low_same j k o h)
    ∙ ap (λ (t : Bool). error_if error.Rank (not (int_le o k && t)) (make (unsigned_abs (j -ℤ pos 1)))) (high_same j k o r h)
    ∙ ap (λ (z : ℤ). error_if error.Rank (not (int_le o k && int_lt k (o +ℤ pos r))) (make (unsigned_abs z))) (number_same j k o h)
number_counted j k o origin (inr h) r make few =
    fails_if error.Rank (not (int_le (pos 1) j && int_lt j (pos 1 +ℤ pos r))) (make (unsigned_abs (j -ℤ pos 1)))
    (not_both (int_le (pos 1) j) (int_lt j (pos 1 +ℤ pos r)) (int_lt-not j (pos 1 +ℤ pos r) (omega (arith, ints, h.0, h.1, few))))
    ∙ sym (fails_if error.Rank (not (int_le o k && int_lt k (o +ℤ pos r))) (make (unsigned_abs (k -ℤ o)))
    (not_both (int_le o k) (int_lt k (o +ℤ pos r)) (int_lt-not k (o +ℤ pos r) (by origin))))
  where
    by : (o ≡ pos 0) ⊎ (o ≡ pos 1) → (o +ℤ pos r) ≤ℤ k
    by (inl e) = omega (arith, ints, e, h.1, few)
    by (inr e) = omega (arith, ints, e, h.1, few)

-- ---- functions along an axis

pub rotated_along : (origin : ℤ) (axis one : Axis) (a b : Array) → IsSameAxis origin axis one → length b.shape ≤ 8 → made.rotated (pos 1) one a b ≡ made.rotated origin axis a b
rotated_along origin axis one a b same few = same (length b.shape) _ few

pub compressed_along : (origin : ℤ) (axis one : Axis) (a b : Array) → IsSameAxis origin axis one → length b.shape ≤ 8 → made.compress (pos 1) one a b ≡ made.compress origin axis a b
compressed_along origin axis one a b same few = ap (λ (r : Answer). error_if error.Rank (made.is_above_one a) r) (same (length b.shape) _ few)

pub expanded_along : (origin : ℤ) (axis one : Axis) (a b : Array) → IsSameAxis origin axis one → length b.shape ≤ 8 → made.expand (pos 1) one a b ≡ made.expand origin axis a b
expanded_along origin axis one a b same few = ap (λ (r : Answer). error_if error.Rank (made.is_above_one a) r) (same (length b.shape) _ few)

pub reduced_along : (origin : ℤ) (f : Dya) (axis one : Axis) (b : Array) → IsSameAxis origin axis one → length b.shape ≤ 8 → product.reduce (pos 1) f one b ≡ product.reduce origin f axis b
reduced_along origin f axis one b same few = same (length b.shape) _ few

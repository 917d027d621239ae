-- The rules of all functions: each range is an interval, sound where it is safe, and sharper over less.
use Rattle.std.proofs.Common.{◌≡◌, Bool, false, not, ◌&&◌, ◌||◌, ℤ, pos, Option, option_map, refl, ap, ◌∙◌, subst, int_lt, int_le}
use Rattle.std.specs.Ordering.{int_eq}
use Rattle.apl_base.specs.declared.cells.Kind.{Kind}
use Rattle.apl_base.specs.declared.cells.Kind.TheVariants.{Num, Char}
use Rattle.apl_base.specs.declared.cells.Interval.{Interval}
use Rattle.apl_base.specs.declared.cells.Interval.TheVariants.{Empty, Span}
use Rattle.apl_base.specs.declared.rows.Mon.{Mon}
use Rattle.apl_base.specs.declared.rows.Mon.TheVariants as mon
use Rattle.apl_base.specs.declared.rows.Dya.{Dya}
use Rattle.apl_base.specs.declared.rows.Dya.TheVariants as dya
use Rattle.apl_base.specs.Scalar.{of_number, of_numbers, on_number, number, on_numbers, scalar1, scalar2, is_same, truth}
use Rattle.value_range.specs.declared.sides.Side.{Side}
use Rattle.apl_base.specs.Interval.{IsInterval}
use Rattle.value_range.specs.Interval.{row1, row2, at_side, at_intervals, at_sides, takes_characters, ranged1, ranged2}
use Rattle.value_range.specs.Sound.{IsSound1, IsPart, IsSharper, IsIntervalRule, IsSoundRule, IsMonotoneRule}
use Rattle.value_range.specs.Laws.Whole.{IsRule, rule, LiftsTo, at_intervals-interval, at_intervals-sharper, at_intervals-sound, always-sound}
use Rattle.value_range.specs.Laws.Monadic as one
use Rattle.value_range.specs.Laws.Dyadic as two
use Rattle.value_range.specs.Laws.Dyadic.{truth_held}
use Rattle.value_range.specs.Laws.Shown.{OfEnds}
use Rattle.value_range.specs.declared.sides.Ranged.{Ranged}

pub rule1 : (f : Mon) → IsRule (λ a b c d. row1 f c d) (λ x y. of_number f y)
rule1 mon.Plus = rule _ _ _ _ one.plus
rule1 mon.Minus = rule _ _ _ _ one.minus
rule1 mon.Sign = rule _ _ _ _ one.sign
rule1 mon.Recip = rule _ _ _ _ one.recip
rule1 mon.Ceil = rule _ _ _ _ one.plus
rule1 mon.Floor = rule _ _ _ _ one.plus
rule1 mon.Abs = rule _ _ _ _ one.abs
rule1 mon.Not = rule _ _ _ _ one.not
rule1 mon.Fact = rule _ _ _ _ one.factorials

pub rule2 : (f : Dya) → IsRule (row2 f) (of_numbers f)
rule2 dya.Add = rule _ _ _ _ two.add
rule2 dya.Sub = rule _ _ _ _ two.sub
rule2 dya.Mul = rule _ _ _ _ two.mul
rule2 dya.Div = rule _ _ _ _ two.div
rule2 dya.Pow = rule _ _ _ _ two.pow
rule2 dya.Max = rule _ _ _ _ two.max
rule2 dya.Min = rule _ _ _ _ two.min
rule2 dya.Residue = rule _ _ _ _ two.rest
rule2 dya.And = rule _ _ _ _ (two.connective (λ p q. p && q))
rule2 dya.Or = rule _ _ _ _ (two.connective (λ p q. p || q))
rule2 dya.Nand = rule _ _ _ _ (two.connective (λ p q. not (p && q)))
rule2 dya.Nor = rule _ _ _ _ (two.connective (λ p q. not (p || q)))
rule2 dya.Lt = rule _ _ _ _ (two.comparison int_lt)
rule2 dya.Le = rule _ _ _ _ (two.comparison int_le)
rule2 dya.Eq = rule _ _ _ _ (two.comparison int_eq)
rule2 dya.Ge = rule _ _ _ _ (two.comparison (λ a b. int_le b a))
rule2 dya.Gt = rule _ _ _ _ (two.comparison (λ a b. int_lt b a))
rule2 dya.Ne = rule _ _ _ _ (two.comparison (λ a b. not (int_eq a b)))

lifts1 : (f : Mon) → LiftsTo (λ x y. of_number f y) (λ x y. scalar1 f y)
lifts1 f = record { at_numbers = λ x y h k. ap (λ (l : Kind). option_map number (on_number l (of_number f y.cell))) k }

lifts2 : (f : Dya) → LiftsTo (of_numbers f) (on_numbers f)
lifts2 f = record {
  at_numbers = λ x y h k.
      ap (λ (l : Kind). option_map number (on_number l (on_number y.kind (of_numbers f x.cell y.cell)))) h ∙ ap (λ (l : Kind). option_map number (on_number l (of_numbers f x.cell y.cell))) k;
}

parts : (t : Bool) (row : OfEnds Ranged) (value : ℤ → ℤ → Option ℤ) → IsRule row value → IsMonotoneRule (at_sides t row)
parts t row value w a b h k p q l m i j =
    let P : Kind → Type 0 = λ u. IsSharper (at_sides t row a b) (at_intervals t row u p.interval q.kind q.interval) in
    let Q : Kind → Type 0 = λ u. IsSharper (at_sides t row a b) (at_intervals t row a.kind p.interval u q.interval) in
    subst P i.kind (subst Q j.kind (at_intervals-sharper t row value w a.kind a.interval p.interval b.kind b.interval q.interval h k l m i.interval j.interval))

-- ---- functions of one argument, with a left side that is not read

pub two1-interval : (f : Mon) → IsIntervalRule (at_sides false (λ _ _. row1 f))
two1-interval f a b h k = at_intervals-interval false (λ _ _. row1 f) _ (rule1 f) a.kind a.interval b.kind b.interval h k

pub two1-sound : (f : Mon) → IsSoundRule (at_sides false (λ _ _. row1 f)) (λ x y. scalar1 f y)
two1-sound f a b h k t x y p q = at_intervals-sound (λ _ _. row1 f) _ (λ x y. scalar1 f y) (rule1 f) (lifts1 f) a.kind a.interval b.kind b.interval h k t x y p.kind p.cell q.kind q.cell

pub two1-sharper : (f : Mon) → IsMonotoneRule (at_sides false (λ _ _. row1 f))
two1-sharper f = parts false (λ _ _. row1 f) _ (rule1 f)

-- ---- the rules

-- with the same side on both, as with the side alone
pub alone : (row : ℤ → ℤ → Ranged) (k : Kind) (p : Interval) → at_intervals false (λ _ _. row) k p k p ≡ at_side row k p
alone row k Empty = refl
alone row Num (Span a b) = refl
alone row Char (Span a b) = refl

pub ranged1-interval : (f : Mon) (b : Side) → IsInterval b.interval → IsInterval (ranged1 f b).range
ranged1-interval f b h =
    let P : Ranged → Type 0 = λ r. IsInterval r.range in
    subst P (alone (row1 f) b.kind b.interval) (two1-interval f b b h h)

pub ranged1-sound : (f : Mon) (b : Side) → IsInterval b.interval → IsSound1 (scalar1 f) b (ranged1 f b)
ranged1-sound f b h =
    let P : Ranged → Type 0 = λ r. IsSound1 (scalar1 f) b r in
    subst P (alone (row1 f) b.kind b.interval) (λ t y q. two1-sound f b b h h t y y q q)

pub ranged1-sharper : (f : Mon) (b q : Side) → IsInterval b.interval → IsInterval q.interval → IsPart b q → IsSharper (ranged1 f b) (ranged1 f q)
ranged1-sharper f b q h k j =
    let P : Ranged → Type 0 = λ r. IsSharper r (ranged1 f q) in
    let Q : Ranged → Type 0 = λ r. IsSharper (at_sides false (λ _ _. row1 f) b b) r in
    subst P (alone (row1 f) b.kind b.interval) (subst Q (alone (row1 f) q.kind q.interval) (two1-sharper f b b h h q q k k j j))

pub ranged2-interval : (f : Dya) → IsIntervalRule (ranged2 f)
ranged2-interval f a b h k = at_intervals-interval (takes_characters f) (row2 f) _ (rule2 f) a.kind a.interval b.kind b.interval h k

pub ranged2-sharper : (f : Dya) → IsMonotoneRule (ranged2 f)
ranged2-sharper f = parts (takes_characters f) (row2 f) _ (rule2 f)

numbers_sound : (f : Dya) → IsSoundRule (at_sides false (row2 f)) (on_numbers f)
numbers_sound f a b h k t x y p q = at_intervals-sound (row2 f) _ (on_numbers f) (rule2 f) (lifts2 f) a.kind a.interval b.kind b.interval h k t x y p.kind p.cell q.kind q.cell

pub ranged2-sound : (f : Dya) → IsSoundRule (ranged2 f) (scalar2 f)
ranged2-sound dya.Add a b h k = numbers_sound dya.Add a b h k
ranged2-sound dya.Sub a b h k = numbers_sound dya.Sub a b h k
ranged2-sound dya.Mul a b h k = numbers_sound dya.Mul a b h k
ranged2-sound dya.Div a b h k = numbers_sound dya.Div a b h k
ranged2-sound dya.Pow a b h k = numbers_sound dya.Pow a b h k
ranged2-sound dya.Max a b h k = numbers_sound dya.Max a b h k
ranged2-sound dya.Min a b h k = numbers_sound dya.Min a b h k
ranged2-sound dya.Residue a b h k = numbers_sound dya.Residue a b h k
ranged2-sound dya.And a b h k = numbers_sound dya.And a b h k
ranged2-sound dya.Or a b h k = numbers_sound dya.Or a b h k
ranged2-sound dya.Nand a b h k = numbers_sound dya.Nand a b h k
ranged2-sound dya.Nor a b h k = numbers_sound dya.Nor a b h k
ranged2-sound dya.Lt a b h k = numbers_sound dya.Lt a b h k
ranged2-sound dya.Le a b h k = numbers_sound dya.Le a b h k
ranged2-sound dya.Eq a b h k = λ t x y p q. always-sound (pos 0) (pos 1) (λ x y. truth (is_same x y)) (λ x y. truth_held (is_same x y)) a.kind a.interval b.kind b.interval x y p.cell q.cell
ranged2-sound dya.Ge a b h k = numbers_sound dya.Ge a b h k
ranged2-sound dya.Gt a b h k = numbers_sound dya.Gt a b h k
ranged2-sound dya.Ne a b h k = λ t x y p q. always-sound (pos 0) (pos 1) (λ x y. truth (not (is_same x y))) (λ x y. truth_held (not (is_same x y))) a.kind a.interval b.kind b.interval x y p.cell q.cell

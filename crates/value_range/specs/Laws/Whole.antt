-- A row at two sides: what is shown of it at numbers holds at sides.
use Rattle.std.proofs.Common.{◌≡◌, Bool, true, false, IsTrue, ℤ, Option, Some, option_map, refl, ap, ◌∙◌, arith}
use Rattle.std.proofs.lemmas.Int.{ints}
use Rattle.apl_base.specs.declared.cells.Kind.{Kind}
use Rattle.apl_base.specs.declared.cells.Kind.TheVariants.{Num, Char}
use Rattle.apl_base.specs.declared.cells.Elem.{Elem}
use Rattle.apl_base.specs.declared.cells.Interval.{Interval}
use Rattle.apl_base.specs.declared.cells.Interval.TheVariants.{Empty, Span}
use Rattle.apl_base.specs.Scalar.{number}
use Rattle.value_range.specs.declared.sides.Ranged.{Ranged}
use Rattle.apl_base.specs.Interval.{IsSpan, IsInterval, InInterval, IsWithin}
use Rattle.value_range.specs.Interval.{nothing, safe_where, at_kinds, at_intervals}
use Rattle.value_range.specs.Sound.{GivesWithin, IsSharper}
use Rattle.value_range.specs.Laws.Shown.{OfEnds, IsRow, Holds, Inside, all_numbers, where_interval, where_sound, where_sharper}

-- what is shown of a row at numbers
pub record IsRule (row : OfEnds Ranged) (value : ℤ → ℤ → Option ℤ) : Type 0 where
  pub interval : (a b c d : ℤ) → IsSpan a b → IsSpan c d → IsInterval (row a b c d).range
  pub sound : (a b c d x y : ℤ) → IsSpan a b → IsSpan c d → Holds a b x → Holds c d y → IsTrue (row a b c d).safe → (z : ℤ) × (value x y ≡ Some z) × InInterval (row a b c d).range z
  pub sharper : (a b c d p q r s : ℤ) → IsSpan a b → IsSpan c d → IsSpan p q → IsSpan r s → Inside a b p q → Inside c d r s → IsSharper (row a b c d) (row p q r s)

pub rule : (test : OfEnds Bool) (lo hi : OfEnds ℤ) (value : ℤ → ℤ → Option ℤ) → IsRow test lo hi value → IsRule (λ a b c d. safe_where (test a b c d) (lo a b c d) (hi a b c d)) value
rule test lo hi value w = record {
  interval = λ a b c d h k. where_interval (test a b c d) (lo a b c d) (hi a b c d) (w.span a b c d h k);
  sound = λ a b c d x y h k p q t. where_sound (test a b c d) (lo a b c d) (hi a b c d) (value x y) t (w.sound a b c d x y h k p q);
  sharper = λ a b c d p q r s h k l m i j. where_sharper (test a b c d) (test p q r s) (lo a b c d) (hi a b c d) (lo p q r s) (hi p q r s) (w.span a b c d h k) (w.smaller a b c d p q r s h k l m i j);
}

-- ---- an interval again

kinds_interval : (t : Bool) (k l : Kind) (r : Ranged) → IsInterval r.range → IsInterval (at_kinds t k l r).range
kinds_interval true k l r h = h
kinds_interval false Num Num r h = h
kinds_interval false Num Char r h = all_numbers
kinds_interval false Char l r h = all_numbers

pub at_intervals-interval : (t : Bool) (row : OfEnds Ranged) (value : ℤ → ℤ → Option ℤ) → IsRule row value → (k : Kind) (p : Interval) (l : Kind) (q : Interval) → IsInterval p → IsInterval q → IsInterval (at_intervals t row k p l q).range
at_intervals-interval t row value w k Empty l q h i = tt
at_intervals-interval t row value w k (Span a b) l Empty h i = tt
at_intervals-interval t row value w k (Span a b) l (Span c d) h i = kinds_interval t k l (row a b c d) (w.interval a b c d h i)

-- ---- sharper over less

nothing_sharper : (r : Ranged) → IsSharper nothing r
nothing_sharper r = record { range = tt; safe = λ e. refl }

kinds_sharper : (t : Bool) (k l : Kind) (r s : Ranged) → IsSharper r s → IsSharper (at_kinds t k l r) (at_kinds t k l s)
kinds_sharper true k l r s h = h
kinds_sharper false Num Num r s h = h
kinds_sharper false Num Char r s h = record { range = (omega (arith, ints), omega (arith, ints)); safe = λ e. e }
kinds_sharper false Char l r s h = record { range = (omega (arith, ints), omega (arith, ints)); safe = λ e. e }

pub at_intervals-sharper : (t : Bool) (row : OfEnds Ranged) (value : ℤ → ℤ → Option ℤ) → IsRule row value → (k : Kind) (p pp : Interval) (l : Kind) (q qq : Interval) → IsInterval p → IsInterval q → IsInterval pp → IsInterval qq → IsWithin p pp → IsWithin q qq → IsSharper (at_intervals t row k p l q) (at_intervals t row k pp l qq)
at_intervals-sharper t row value w k Empty pp l q qq h i j m n o = nothing_sharper (at_intervals t row k pp l qq)
at_intervals-sharper t row value w k (Span a b) pp l Empty qq h i j m n o = nothing_sharper (at_intervals t row k pp l qq)
at_intervals-sharper t row value w k (Span a b) Empty l (Span c d) qq h i j m n o = absurd n
at_intervals-sharper t row value w k (Span a b) (Span e f) l (Span c d) Empty h i j m n o = absurd o
at_intervals-sharper t row value w k (Span a b) (Span e f) l (Span c d) (Span r s) h i j m n o =
    kinds_sharper t k l (row a b c d) (row e f r s) (w.sharper a b c d e f r s h i j m (record { least = n.0; most = n.1 }) (record { least = o.0; most = o.1 }))

-- ---- sound

-- a function of elements that is this function of numbers where both are numbers
pub record LiftsTo (value : ℤ → ℤ → Option ℤ) (f : Elem → Elem → Option Elem) : Type 0 where
  pub at_numbers : (x y : Elem) → x.kind ≡ Num → y.kind ≡ Num → f x y ≡ option_map number (value x.cell y.cell)

given : (range : Interval) (v : Option Elem) (z : ℤ) → v ≡ Some (number z) → InInterval range z → GivesWithin range v
given range v z e h = (number z, e, record { kind = refl; cell = h })

pub at_intervals-sound : (row : OfEnds Ranged) (value : ℤ → ℤ → Option ℤ) (f : Elem → Elem → Option Elem) → IsRule row value → LiftsTo value f → (k : Kind) (p : Interval) (l : Kind) (q : Interval) → IsInterval p → IsInterval q → IsTrue (at_intervals false row k p l q).safe → (x y : Elem) → x.kind ≡ k → InInterval p x.cell → y.kind ≡ l → InInterval q y.cell → GivesWithin (at_intervals false row k p l q).range (f x y)
at_intervals-sound row value f w m k Empty l q h i t x y ek ix el iy = absurd ix
at_intervals-sound row value f w m k (Span a b) l Empty h i t x y ek ix el iy = absurd iy
at_intervals-sound row value f w m Num (Span a b) Num (Span c d) h i t x y ek ix el iy =
    let s = w.sound a b c d x.cell y.cell h i (record { least = ix.0; most = ix.1 }) (record { least = iy.0; most = iy.1 }) t in
    given (row a b c d).range (f x y) s.0 (m.at_numbers x y ek el ∙ ap (option_map number) s.1) s.2
at_intervals-sound row value f w m Num (Span a b) Char (Span c d) h i t x y ek ix el iy = let e : false ≡ true = t in cc
at_intervals-sound row value f w m Char (Span a b) l (Span c d) h i t x y ek ix el iy = let e : false ≡ true = t in cc

-- a row that is always safe, with the same range, over a function that always gives a number of it
pub always-sound : (lo hi : ℤ) (g : Elem → Elem → ℤ) → ((x y : Elem) → Holds lo hi (g x y)) → (k : Kind) (p : Interval) (l : Kind) (q : Interval) (x y : Elem) → InInterval p x.cell → InInterval q y.cell → GivesWithin (at_intervals true (λ a b c d. safe_where true lo hi) k p l q).range (Some (number (g x y)))
always-sound lo hi g h k Empty l q x y ix iy = absurd ix
always-sound lo hi g h k (Span a b) l Empty x y ix iy = absurd iy
always-sound lo hi g h k (Span a b) l (Span c d) x y ix iy = given (Span lo hi) (Some (number (g x y))) (g x y) refl (let r = h x y in (r.least, r.most))

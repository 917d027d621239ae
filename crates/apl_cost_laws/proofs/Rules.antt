-- The range of a scalar function has its values, also where the interval rules don't call it safe: then it has all
-- numbers.
use Rattle.std.proofs.Common.{◌≡◌, ℕ, Bool, true, false, IsTrue, ℤ, neg_ℤ, List, map, ◌++◌, take, drop, Option, Some, None, Result, Ok, Err, refl, sym, subst, IfSome}
use Rattle.std.specs.List.{AllByRecursion}
use Rattle.apl_base.specs.declared.cells.Elem.{Elem}
use Rattle.apl_base.specs.declared.cells.Interval.{Interval}
use Rattle.apl_base.specs.declared.cells.Interval.TheVariants.{Empty, Span}
use Rattle.apl_base.specs.declared.cells.Kind.{Kind}
use Rattle.apl_base.specs.declared.cells.Kind.TheVariants.{Num, Char}
use Rattle.apl_base.specs.declared.cells.TheConstants.{M}
use Rattle.apl_base.specs.declared.faults.ErrorKind.{ErrorKind}
use Rattle.apl_base.specs.declared.rows.Mon.{Mon}
use Rattle.apl_base.specs.declared.rows.Mon.TheVariants as mon
use Rattle.apl_base.specs.declared.rows.Dya.{Dya}
use Rattle.apl_base.specs.declared.rows.Dya.TheVariants as dya
use Rattle.apl_base.specs.Array.{Array, IsArray, IsIndex}
use Rattle.apl_base.specs.Elements.{numbers, all_defined, indices}
use Rattle.apl_base.specs.Interval.{IsInterval, InInterval}
use Rattle.apl_base.specs.Number.{IsNumber}
use Rattle.apl_base.specs.Scalar.{scalar2}
use Rattle.apl_base.proofs.Elements.{all_defined-each, indices-each}
use Rattle.apl_base.proofs.Lists.{all_imp, all_map}
use Rattle.apl_model.specs.Lift.{lift1, lift2, lift_over, fitting_shape}
use Rattle.apl_model.specs.Product.{outer, elem_at}
use Rattle.apl_model.specs.Whole.{Answer, rank, or_domain}
use Rattle.value_range.specs.declared.sides.Ranged.{Ranged}
use Rattle.value_range.specs.declared.sides.Side.{Side}
use Rattle.value_range.specs.Interval.{ranged1, ranged2, row1, row2, at_side, at_kinds, at_intervals, takes_characters, always, safe_where}
use Rattle.value_range.specs.Sound.{IsMember, GivesWithin}
use Rattle.value_range.specs.Laws.Functions.{ranged1-interval, ranged2-interval, ranged2-sound}
use Rattle.apl_cost.specs.Laws.{LiesIn, HasValueIn}
use Rattle.apl_cost.proofs.Safe.{safe_functions_of_one, safe_functions_of_two}
use Rattle.apl_cost_laws.proofs.Cells.{Makes, makes-ok, makes-error, makes-within, cell-each}
use Rattle.apl_cost_laws.proofs.Hulls.{cells-numbers}
use Rattle.apl_base.proofs.ShapeLemmas.{index_parts}

-- ---- not safe

-- an answer that is not safe has the range of all numbers
record Guards (r : Ranged) : Type 0 where
  guards : r.safe ≡ false → r.range ≡ Span (neg_ℤ M) M

safe-guards : (lo hi : ℤ) → Guards (always lo hi)
safe-guards lo hi = record { guards = λ e. absurd cc }

where-guards : (test : Bool) (lo hi : ℤ) → Guards (safe_where test lo hi)
where-guards true lo hi = safe-guards lo hi
where-guards false lo hi = record { guards = λ e. refl }

row1-guards : (f : Mon) (a b : ℤ) → Guards (row1 f a b)
row1-guards mon.Plus a b = safe-guards _ _
row1-guards mon.Minus a b = safe-guards _ _
row1-guards mon.Sign a b = safe-guards _ _
row1-guards mon.Recip a b = where-guards _ _ _
row1-guards mon.Ceil a b = safe-guards _ _
row1-guards mon.Floor a b = safe-guards _ _
row1-guards mon.Abs a b = safe-guards _ _
row1-guards mon.Not a b = where-guards _ _ _
row1-guards mon.Fact a b = where-guards _ _ _

row2-guards : (f : Dya) (a b c d : ℤ) → Guards (row2 f a b c d)
row2-guards dya.Add a b c d = where-guards _ _ _
row2-guards dya.Sub a b c d = where-guards _ _ _
row2-guards dya.Mul a b c d = where-guards _ _ _
row2-guards dya.Div a b c d = where-guards _ _ _
row2-guards dya.Pow a b c d = where-guards _ _ _
row2-guards dya.Max a b c d = safe-guards _ _
row2-guards dya.Min a b c d = safe-guards _ _
row2-guards dya.Residue a b c d = where-guards _ _ _
row2-guards dya.And a b c d = where-guards _ _ _
row2-guards dya.Or a b c d = where-guards _ _ _
row2-guards dya.Nand a b c d = where-guards _ _ _
row2-guards dya.Nor a b c d = where-guards _ _ _
row2-guards dya.Lt a b c d = safe-guards _ _
row2-guards dya.Le a b c d = safe-guards _ _
row2-guards dya.Eq a b c d = safe-guards _ _
row2-guards dya.Ge a b c d = safe-guards _ _
row2-guards dya.Gt a b c d = safe-guards _ _
row2-guards dya.Ne a b c d = safe-guards _ _

kinds-guards : (t : Bool) (k l : Kind) (r : Ranged) → Guards r → Guards (at_kinds t k l r)
kinds-guards true k l r h = h
kinds-guards false Num Num r h = h
kinds-guards false Num Char r h = record { guards = λ e. refl }
kinds-guards false Char l r h = record { guards = λ e. refl }

guards1 : (f : Mon) (k : Kind) (i : Interval) → Guards (at_side (row1 f) k i)
guards1 f k Empty = record { guards = λ e. absurd cc }
guards1 f Num (Span a b) = row1-guards f a b
guards1 f Char (Span a b) = record { guards = λ e. refl }

guards2 : (f : Dya) (k : Kind) (i : Interval) (l : Kind) (j : Interval) → Guards (at_intervals (takes_characters f) (row2 f) k i l j)
guards2 f k Empty l j = record { guards = λ e. absurd cc }
guards2 f k (Span a b) l Empty = record { guards = λ e. absurd cc }
guards2 f k (Span a b) l (Span c d) = kinds-guards (takes_characters f) k l (row2 f a b c d) (row2-guards f a b c d)

-- numbers lie in the range of all numbers
among-all : (z : ℤ) → IsNumber z → InInterval (Span (neg_ℤ M) M) z
among-all z h = (h.least, h.most)

-- where an answer is safe its range has these cells by one reason, and where it is not since they are numbers
in-range : (r : Ranged) (a : Array) → Guards r → IsArray a → (IsTrue r.safe → AllByRecursion (InInterval r.range) a.cells) →
    AllByRecursion (InInterval r.range) a.cells
in-range r a g h s = by r.safe refl
  where
    by : (t : Bool) → r.safe ≡ t → AllByRecursion (InInterval r.range) a.cells
    by true e = s e
    by false e = subst (λ (i : Interval). AllByRecursion (InInterval i) a.cells) (sym (g.guards e))
        (all_imp IsNumber (InInterval (Span (neg_ℤ M) M)) a.cells among-all (cells-numbers a h))

-- ---- scalar functions of one argument and of two

-- the cells of the value that there is
value-cells : (answer : Answer) (ns : List ℕ) (range : Interval) (a : Array) → HasValueIn answer ns range → answer ≡ Ok a →
    AllByRecursion (InInterval range) a.cells
value-cells answer ns range a h e = let f : h.array ≡ a = (let m = h.made in cc) in subst (λ (v : Array). AllByRecursion (InInterval range) v.cells) f h.cells

pub one-inside : (f : Mon) (b a : Array) (i : Interval) → LiesIn i b → IsArray a → lift1 f b ≡ Ok a →
    AllByRecursion (InInterval (ranged1 f (record { kind = b.kind; interval = i })).range) a.cells
one-inside f b a i lies h e =
    let r = ranged1 f (record { kind = b.kind; interval = i }) in
    in-range r a (guards1 f b.kind i) h (λ s. value-cells (lift1 f b) b.shape r.range a (safe_functions_of_one f b i lies s) e)

-- an answer over the shape that both fit comes where they fit
fitted : (f : Dya) (a b c : Array) (r : Result (List ℕ) ErrorKind) → lift_over f a b r ≡ Ok c → (ns : List ℕ) × (r ≡ Ok ns)
fitted f a b c (Ok ns) e = (ns, refl)
fitted f a b c (Err k) e = absurd cc

pub two-inside : (f : Dya) (a b c : Array) (i j : Interval) → LiesIn i a → LiesIn j b → IsArray c → lift2 f a b ≡ Ok c →
    AllByRecursion (InInterval (ranged2 f (record { kind = a.kind; interval = i }) (record { kind = b.kind; interval = j })).range) c.cells
two-inside f a b c i j left right h e =
    let r = ranged2 f (record { kind = a.kind; interval = i }) (record { kind = b.kind; interval = j }) in
    let fits = fitted f a b c (fitting_shape a.shape b.shape) e in
    in-range r c (guards2 f a.kind i b.kind j) h (λ s. value-cells (lift2 f a b) fits.0 r.range c
    (safe_functions_of_two f a b i j fits.0 left right fits.1 s) e)

-- ---- outer products

-- a value that is given lies in the range
given-within : (range : Interval) (o : Option Elem) → GivesWithin range o → IfSome o (λ e. InInterval range e.cell)
given-within range None h = tt
given-within range (Some v) h = let e : h.0 ≡ v = (let m = h.1 in cc) in subst (λ (x : Elem). InInterval range x.cell) e h.2.cell

-- an element of an array in an interval
element-member : (a : Array) (i : Interval) (is : List ℕ) → LiesIn i a → IsIndex a.shape is → IsMember (record { kind = a.kind; interval = i }) (elem_at a is)
element-member a i is lies q = record { kind = refl; cell = cell-each (InInterval i) a is lies.count lies.cells q }

-- the cells of values that are all defined
defined-cells : (range : Interval) (ns : List ℕ) (os : List (Option Elem)) → AllByRecursion (λ o. IfSome o (λ e. InInterval range e.cell)) os →
    Makes (λ a. AllByRecursion (InInterval range) a.cells) (or_domain (all_defined os) (numbers ns))
defined-cells range ns os h = by (all_defined os) refl
  where
    by : (found : Option (List Elem)) → all_defined os ≡ found → Makes (λ a. AllByRecursion (InInterval range) a.cells) (or_domain found (numbers ns))
    by None e = makes-error _ _
    by (Some es) e = makes-ok _ _ (all_map (InInterval range) (λ x. x.cell) es (all_defined-each (λ x. InInterval range x.cell) os es h e).1)

pub outer-inside : (f : Dya) (a b c : Array) (i j : Interval) → LiesIn i a → LiesIn j b → IsArray c → outer f a b ≡ Ok c →
    AllByRecursion (InInterval (ranged2 f (record { kind = a.kind; interval = i }) (record { kind = b.kind; interval = j })).range) c.cells
outer-inside f a b c i j left right h e =
    let p : Side = record { kind = a.kind; interval = i } in
    let q : Side = record { kind = b.kind; interval = j } in
    let r = ranged2 f p q in
    let ns = a.shape ++ b.shape in
    let g : List ℕ → Option Elem = λ is. scalar2 f (elem_at a (take (rank a) is)) (elem_at b (drop (rank a) is)) in
    in-range r c (guards2 f a.kind i b.kind j) h (λ s.
    let at : (is : List ℕ) → IsIndex ns is → IfSome (g is) (λ x. InInterval r.range x.cell) =
    λ is k. let parts = index_parts a.shape b.shape is k in
    given-within r.range (g is) (ranged2-sound f p q left.lawful right.lawful s _ _ (element-member a i (take (rank a) is) left parts.0)
    (element-member b j (drop (rank a) is) right parts.1)) in
    (makes-within (λ v. AllByRecursion (InInterval r.range) v.cells) ns _
    (defined-cells r.range ns (map g (indices ns)) (all_map (λ o. IfSome o (λ x. InInterval r.range x.cell)) g (indices ns)
    (all_imp (IsIndex ns) (λ is. IfSome (g is) (λ x. InInterval r.range x.cell)) (indices ns) at (indices-each ns))))).makes c e)

-- ---- the ranges are intervals

pub one-interval : (f : Mon) (k : Kind) (i : Interval) → IsInterval i → IsInterval (ranged1 f (record { kind = k; interval = i })).range
one-interval f k i h = ranged1-interval f (record { kind = k; interval = i }) h

pub two-interval : (f : Dya) (k l : Kind) (i j : Interval) → IsInterval i → IsInterval j →
    IsInterval (ranged2 f (record { kind = k; interval = i }) (record { kind = l; interval = j })).range
two-interval f k l i j g h = ranged2-interval f (record { kind = k; interval = i }) (record { kind = l; interval = j }) g h

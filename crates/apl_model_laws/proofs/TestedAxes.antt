-- The test of axes: with each number but 0 there is the number before it, so there are all up to the greatest.
use Rattle.std.proofs.Common.{◌≡◌, ℕ, zero, suc, ◌+◌, ◌-◌, ◌<◌, ◌≤◌, Bool, true, false, ◌||◌, ℤ, pos, negsuc, ◌-ℤ◌, ◌≤ℤ◌, int_le, unsigned_abs, List, [], ◌∷◌, length, map, get_or, refl, sym, ap, subst, ◌∙◌, inl, inr, arith}
use Rattle.std.specs.List.{AllByRecursion, Contains, list_any}
use Rattle.std.specs.Ordering.{int_eq}
use Rattle.std.proofs.Math.Bool.{or-true}
use Rattle.std.proofs.lemmas.Bool.{cases_lt}
use Rattle.std.proofs.lemmas.Bool.Decides.{Decides-int_eq}
use Rattle.std.proofs.lemmas.Int.{ints}
use Rattle.apl_base.specs.Selection.{AreAxes, axes_rank}
use Rattle.apl_base.proofs.Integers.{magnitude-is}
use Rattle.apl_base.proofs.Lists.{all_imp}
use Rattle.apl_base.proofs.Booleans.{both_parts, list_all-each, each-list_all}
use Rattle.apl_model.specs.Made.{is_axis_among, are_axes}
use Rattle.apl_model_laws.specs.Lawful.{AxesAreTested}

-- the magnitudes of integers
abbrev axes_of : List ℤ → List ℕ
axes_of zs = map unsigned_abs zs

-- ---- what the test says of each number

-- an integer that a test finds is among them
found : (w : ℤ) (zs : List ℤ) → list_any (int_eq w) zs ≡ true → Contains (axes_of zs) (unsigned_abs w)
found w [] h = absurd cc
found w (z ∷ zs) h = by (found w zs) (int_eq w z) refl h
  where
    by : (list_any (int_eq w) zs ≡ true → Contains (axes_of zs) (unsigned_abs w)) → (t : Bool) → int_eq w z ≡ t → t || list_any (int_eq w) zs ≡ true →
        Contains (axes_of (z ∷ zs)) (unsigned_abs w)
    by more true e h = (0, omega arith, ap unsigned_abs (sym ((Decides-int_eq w z).0 e)))
    by more false e h = let c = more h in (suc c.0, omega (arith, c.1), c.2)

not_below : (all : List ℤ) (z : ℤ) → is_axis_among all z ≡ true → pos 0 ≤ℤ z
not_below all z h =
    let s : int_le (pos 0) z ≡ true = (both_parts (int_le (pos 0) z) (int_eq z (pos 0) || list_any (int_eq (z -ℤ pos 1)) all) h).0 in
    omega (arith, ints, s)

before : (all : List ℤ) (z : ℤ) (a : ℕ) → is_axis_among all z ≡ true → unsigned_abs z ≡ suc a → Contains (axes_of all) a
before all (negsuc n) a h e = absurd (omega (arith, ints, not_below all (negsuc n) h))
before all (pos n) a h e = subst (Contains (axes_of all)) (ap unsigned_abs less) (found (pos n -ℤ pos 1) all (by (int_eq (pos n) (pos 0)) refl rest))
  where
    less : (pos n -ℤ pos 1) ≡ pos a
    less = omega (arith, ints, e)

    rest : int_eq (pos n) (pos 0) || list_any (int_eq (pos n -ℤ pos 1)) all ≡ true
    rest = (both_parts (int_le (pos 0) (pos n)) (int_eq (pos n) (pos 0) || list_any (int_eq (pos n -ℤ pos 1)) all) h).1

    by : (t : Bool) → int_eq (pos n) (pos 0) ≡ t → t || list_any (int_eq (pos n -ℤ pos 1)) all ≡ true → list_any (int_eq (pos n -ℤ pos 1)) all ≡ true
    by true f g = let z : pos n ≡ pos 0 = (Decides-int_eq (pos n) (pos 0)).0 f in absurd (omega (arith, ints, z, e))
    by false f g = g

-- the number before each one but 0
each_before : (all zs : List ℤ) (a : ℕ) → AllByRecursion (λ z. is_axis_among all z ≡ true) zs →
    (k : ℕ) → k < length (axes_of zs) → get_or (axes_of zs) k (suc a) ≡ suc a → Contains (axes_of all) a
each_before all [] a h k l e = absurd (omega (arith, l))
each_before all (z ∷ zs) a h zero l e = before all z a h.0 e
each_before all (z ∷ zs) a h (suc k) l e = each_before all zs a h.1 k (omega (arith, l)) e

-- ---- so all are there

down : (axes : List ℕ) → ((a : ℕ) → Contains axes (suc a) → Contains axes a) → (d a : ℕ) → Contains axes (d + a) → Contains axes a
down axes h zero a c = let e : 0 + a ≡ a = omega arith in subst (Contains axes) e c
down axes h (suc d) a c = let e : suc d + a ≡ suc (d + a) = omega arith in down axes h d a (h (d + a) (subst (Contains axes) e c))

-- the greatest is among them
top : (axes : List ℕ) (m : ℕ) → axes_rank axes ≡ suc m → Contains axes m
top [] m e = absurd (omega (arith, e))
top (a ∷ axes) m e =
    elim (cases_lt a m) [
      | inl l ↦ let c = top axes m (omega (arith, e, l)) in (suc c.0, omega (arith, c.1), c.2)
      | inr l ↦ (0, omega arith, omega (arith, e, l))
    ]

axes-below : (axes : List ℕ) (k : ℕ) → axes_rank axes ≤ k → AllByRecursion (λ a. a < k) axes
axes-below [] k h = tt
axes-below (a ∷ axes) k h = (omega (arith, h), axes-below axes k (omega (arith, h)))

pub axes-are : (zs : List ℤ) → are_axes zs ≡ true → AllByRecursion (λ z. pos 0 ≤ℤ z) zs × AreAxes (axes_rank (axes_of zs)) (axes_of zs)
axes-are zs h =
    let each = list_all-each (is_axis_among zs) zs h in
    let k = axes_rank (axes_of zs) in (
      all_imp (λ z. is_axis_among zs z ≡ true) (λ z. pos 0 ≤ℤ z) zs (not_below zs) each,
      record {
        below = axes-below (axes_of zs) k (omega arith);
        each = λ r p.
            let last : Contains (axes_of zs) (k - 1) = top (axes_of zs) (k - 1) (omega (arith, p)) in
            let far : k - 1 ≡ (k - 1 - r) + r = omega (arith, p) in
            down (axes_of zs) (λ a c. each_before zs zs a each c.0 c.1 c.2) (k - 1 - r) r (subst (Contains (axes_of zs)) far last);
      },
    )

-- ---- and the other way round

finds : (zs : List ℤ) (a : ℕ) → AllByRecursion (λ z. pos 0 ≤ℤ z) zs → (k : ℕ) → k < length (axes_of zs) → get_or (axes_of zs) k a ≡ a → list_any (int_eq (pos a)) zs ≡ true
finds [] a h k l e = absurd (omega (arith, l))
finds (z ∷ zs) a h zero l e =
    let same : pos a ≡ z = ap pos (sym e) ∙ magnitude-is z h.0 in
    let test : int_eq (pos a) z ≡ true = (Decides-int_eq (pos a) z).1 same in
    rw test refl
finds (z ∷ zs) a h (suc k) l e = rw (finds zs a h.1 k (omega (arith, l)) e) (or-true (int_eq (pos a) z))

counts : (n : ℕ) → int_le (pos 0) (pos n) ≡ true
counts n = by (int_le (pos 0) (pos n)) refl
  where
    by : (t : Bool) → int_le (pos 0) (pos n) ≡ t → t ≡ true
    by true e = refl
    by false e = absurd (omega (arith, ints, e))

is_one : (zs : List ℤ) → AllByRecursion (λ z. pos 0 ≤ℤ z) zs → AreAxes (axes_rank (axes_of zs)) (axes_of zs) →
    (z : ℤ) → pos 0 ≤ℤ z → unsigned_abs z < axes_rank (axes_of zs) → is_axis_among zs z ≡ true
is_one zs h x (pos zero) n l = refl
is_one zs h x (pos (suc a)) n l =
    let less : (pos (suc a) -ℤ pos 1) ≡ pos a = omega (arith, ints) in
    let c = x.each a (omega (arith, l)) in
    let e : int_le (pos 0) (pos (suc a)) ≡ true = counts (suc a) in
    rw (e, less, finds zs a h c.0 c.1 c.2) (or-true (int_eq (pos (suc a)) (pos 0)))
is_one zs h x (negsuc a) n l = absurd (omega (arith, ints, n))

each_one : (k : ℕ) (Q : ℤ → Type 0) → ((z : ℤ) → pos 0 ≤ℤ z → unsigned_abs z < k → Q z) → (zs : List ℤ) → AllByRecursion (λ z. pos 0 ≤ℤ z) zs →
    AllByRecursion (λ a. a < k) (axes_of zs) → AllByRecursion Q zs
each_one k Q q [] h b = tt
each_one k Q q (z ∷ zs) h b = (q z h.0 b.0, each_one k Q q zs h.1 b.1)

pub axes_are_tested : AxesAreTested
axes_are_tested zs = (
  axes-are zs,
  λ h. each-list_all (is_axis_among zs) zs
      (each_one (axes_rank (axes_of zs)) (λ z. is_axis_among zs z ≡ true) (is_one zs h.0 h.1) zs h.0 h.1.below),
)

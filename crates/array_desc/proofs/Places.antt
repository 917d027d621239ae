-- Row-major order: the strides, and the place that they give.
use Rattle.std.proofs.Common.{◌≡◌, ℕ, suc, ℤ, pos, ◌+ℤ◌, List, [], ◌∷◌, length, map, refl, ap, sym, subst, ◌∙◌, arith}
use Rattle.std.specs.Int.{int_wrap}
use Rattle.std.proofs.lemmas.Int.{ints}
use mir.Syntax.{w128}
use Rattle.apl_base.specs.Array.{IsShape, IsIndex, place_at}
use Rattle.apl_base.specs.Number.{IsNumber}
use Rattle.apl_base.proofs.Sizes.{place_at-below}
use Rattle.array_desc.specs.Desc.{DescView, dot, number}
use Rattle.array_desc.specs.Steps.{IsSound, row_strides}
use Rattle.array_desc.proofs.Sums.{Numbers, near-wraps, near-dot}

pub length-row_strides : (ns : List ℕ) → length (row_strides ns) ≡ length ns
length-row_strides [] = refl
length-row_strides (n ∷ ns) = ap suc (length-row_strides ns)

pub length-wrapped : (ns : List ℕ) → length (map (int_wrap w128) (row_strides ns)) ≡ length ns
length-wrapped [] = refl
length-wrapped (n ∷ ns) = ap suc (length-wrapped ns)

pub dot-row_strides : (ns is : List ℕ) → IsIndex ns is → dot (row_strides ns) is ≡ pos (place_at ns is)
dot-row_strides [] [] q = refl
dot-row_strides (n ∷ ns) (i ∷ is) q = let e = dot-row_strides ns is q.1 in omega (arith, ints, e)
dot-row_strides [] (i ∷ is) q = absurd q
dot-row_strides (n ∷ ns) [] q = absurd q

small_place : (ns is : List ℕ) → IsShape ns → IsIndex ns is → IsNumber (pos (place_at ns is))
small_place ns is s q =
    let b = place_at-below ns is q in
    let m = s.product in
    record { least = omega (arith, ints); most = omega (arith, ints) }

row_numbers : (ns : List ℕ) → IsShape ns → Numbers (pos 0) (row_strides ns) ns
row_numbers ns s = record {
  each = λ i q.
      let e : (pos 0 +ℤ dot (row_strides ns) i) ≡ pos (place_at ns i) = omega (arith, ints, dot-row_strides ns i q) in
      subst IsNumber (sym e) (small_place ns i s q);
}

pub places_are : (ns : List ℕ) → IsShape ns → (i : List ℕ) → IsIndex ns i → (pos 0 +ℤ dot (map (int_wrap w128) (row_strides ns)) i) ≡ pos (place_at ns i)
places_are ns s i q =
    let e = near-dot (pos 0) (row_strides ns) (map (int_wrap w128) (row_strides ns)) ns i (row_numbers ns s) (near-wraps (row_strides ns)) (length-row_strides ns) q in
    let f = dot-row_strides ns i q in
    omega (arith, ints)

pub places_fit : (ns : List ℕ) → IsShape ns → (i : List ℕ) → IsIndex ns i → IsNumber (pos 0 +ℤ dot (map (int_wrap w128) (row_strides ns)) i)
places_fit ns s i q = subst IsNumber (sym (places_are ns s i q)) (small_place ns i s q)

-- row-major strides with these lengths make a descriptor
pub row_sound : (ns lengths : List ℕ) (ss : List ℤ) → IsShape ns → ss ≡ map (int_wrap w128) (row_strides ns) → lengths ≡ ns → IsSound (pos 0) ss lengths
row_sound ns lengths ss s e f = rw (e, f) (record { shape = s; axes = length-wrapped ns; numbers = places_fit ns s })

-- its numbers are the places
pub row_places : (ns lengths : List ℕ) (ss : List ℤ) → IsShape ns → ss ≡ map (int_wrap w128) (row_strides ns) → lengths ≡ ns → (d : DescView) → ((i : List ℕ) → IsIndex lengths i → number d i ≡ pos 0 +ℤ dot ss i) → (i : List ℕ) → IsIndex ns i → number d i ≡ pos (place_at ns i)
row_places ns lengths ss s e f d h i q =
    let Q : List ℕ → Type 0 = λ l. IsIndex l i in
    h i (subst Q (sym f) q) ∙ ap (λ x. pos 0 +ℤ dot x i) e ∙ places_are ns s i q

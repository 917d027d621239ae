-- Numbers taken row by row are all numbers in row-major order.
use Rattle.std.proofs.Common.{◌≡◌, ℕ, zero, suc, ◌+◌, ◌-◌, ◌<◌, ◌≤◌, ℤ, pos, ◌+ℤ◌, ◌*ℤ◌, List, [], ◌∷◌, ◌++◌, map, refl, ap, sym, subst, ◌∙◌, append_assoc, arith}
use Rattle.std.specs.Int.RustNames.{FitsSigned}
use Rattle.std.proofs.lemmas.Int.{ints}
use Rattle.std.proofs.lemmas.List.{map-append}
use Rattle.std.proofs.Math.IntN.{*ℤ-zero}
use mir.Syntax.{w128}
use Rattle.apl_base.specs.Number.{IsNumber}
use Rattle.apl_base.specs.Array.{size_of}
use Rattle.apl_base.specs.Selection.{upward}
use Rattle.apl_base.proofs.Upward.{upward-append}
use Rattle.array_desc.specs.Desc.{DescView}
use Rattle.array_desc.specs.Rows.{WalkView, number_on}

-- the numbers of a row
abbrev pub along : ℤ → ℤ → ℕ → List ℤ
along from step count = map (λ j. from +ℤ (step *ℤ pos j)) (upward 0 count)

pub along-more : (from step : ℤ) (n : ℕ) → along from step (n + 1) ≡ along from step n ++ (from +ℤ (step *ℤ pos n)) ∷ []
along-more from step n =
    let e : upward 0 (n + 1) ≡ upward 0 n ++ upward (0 + n) 1 = upward-append 0 n 1 in
    let f : 0 + n ≡ n = omega arith in
    ap (map (λ j. from +ℤ (step *ℤ pos j))) (e ∙ ap (λ m. upward 0 n ++ upward m 1) f)
    ∙ map-append (λ j. from +ℤ (step *ℤ pos j)) (upward 0 n) (n ∷ [])

-- one step of a row
pub along_turn : (before after old : List ℤ) (x from step : ℤ) (n : ℕ) → before ≡ old ++ along from step n → after ≡ before ++ x ∷ [] → x ≡ from +ℤ (step *ℤ pos n) → after ≡ old ++ along from step (n + 1)
along_turn before after old x from step n h e f =
    rw (e, h, f, along-more from step n) (append_assoc old (along from step n) ((from +ℤ (step *ℤ pos n)) ∷ []))

-- what a row adds to a number is the difference of two numbers
pub product_fits : (from p : ℤ) → IsNumber from → IsNumber (from +ℤ p) → FitsSigned w128 p
product_fits from p h k = omega (arith, ints, h.least, h.most, k.least, k.most)

pub first_is : (from step : ℤ) → IsNumber (from +ℤ (step *ℤ pos 0)) → IsNumber from
first_is from step h = let e : from +ℤ (step *ℤ pos 0) ≡ from = omega (arith, ints, *ℤ-zero step) in subst IsNumber e h

here_of : (f g : ℕ → ℤ) (a b : ℕ) → f (a + 0) ≡ g (b + 0) → f a ≡ g b
here_of f g a b e =
    let p : a ≡ a + 0 = omega arith in
    let q : b + 0 ≡ b = omega arith in
    ap f p ∙ e ∙ ap g q

next_of : (f g : ℕ → ℤ) (a b j : ℕ) → f (a + suc j) ≡ g (b + suc j) → f (suc a + j) ≡ g (suc b + j)
next_of f g a b j e =
    let p : suc a + j ≡ a + suc j = omega arith in
    let q : b + suc j ≡ suc b + j = omega arith in
    ap f p ∙ e ∙ ap g q

shifted : (f g : ℕ → ℤ) (a b n : ℕ) → ((j : ℕ) → j < n → f (a + j) ≡ g (b + j)) → map f (upward a n) ≡ map g (upward b n)
shifted f g a b zero h = refl
shifted f g a b (suc n) h =
    let here : f a ≡ g b = here_of f g a b (h 0 (omega arith)) in
    let rest = shifted f g (suc a) (suc b) n (λ j p. next_of f g a b j (h (suc j) (omega (arith, p)))) in
    ap (λ x. x ∷ map f (upward (suc a) n)) here ∙ ap (λ xs. g b ∷ xs) rest

-- the numbers at the places from the first one to where the walk stands
pub record Taken (d : DescView) (walk : WalkView) (first place size : ℕ) (numbers : List ℤ) : Type 0 where
  pub desc : walk.desc ≡ d
  pub here : walk.place ≡ place
  pub low : first ≤ place
  pub high : place - first ≤ size - first
  pub are : numbers ≡ map (number_on d) (upward first (place - first))

start_of : (from step : ℤ) (j : ℕ) {z : ℤ} → from +ℤ (step *ℤ pos j) ≡ z → from +ℤ (step *ℤ pos (0 + j)) ≡ z
start_of from step j h = let e : 0 + j ≡ j = omega arith in ap (λ v. from +ℤ (step *ℤ pos v)) e ∙ h

pub taken_round : (d : DescView) (walk new : WalkView) (first place size count : ℕ) (from step : ℤ) (before after : List ℤ) → size ≡ size_of d.shape → Taken d walk first place size before → ((j : ℕ) → j < count → from +ℤ (step *ℤ pos j) ≡ number_on walk.desc (walk.place + j)) → walk.place + count ≤ size_of walk.desc.shape → new ≡ record walk { place = walk.place + count } → after ≡ before ++ along from step count → Taken d new first (place + count) size after
taken_round d walk new first place size count from step before after s t n w m a =
    let e : place + count ≡ first + ((place - first) + count) = omega (arith, t.low) in
    let k : (place + count) - first ≡ (place - first) + count = omega (arith, t.low) in
    let z : first + (place - first) ≡ place = omega (arith, t.low) in
    let numbers = shifted (number_on d) (λ j. from +ℤ (step *ℤ pos j)) place 0 count (λ j p. sym (start_of from step j (n j p) ∙ ap (λ v. number_on v (walk.place + j)) t.desc ∙ ap (λ v. number_on d (v + j)) t.here)) in
    record {
      desc = ap (λ (v : WalkView). v.desc) m ∙ t.desc;
      here = ap (λ (v : WalkView). v.place) m ∙ ap (λ v. v + count) t.here;
      low = omega (arith, t.low);
      high = omega (arith, w, s, t.here, ap (λ (v : DescView). size_of v.shape) t.desc);
      are = a ∙ ap (λ v. v ++ along from step count) t.are ∙ ap (λ v. map (number_on d) (upward first (place - first)) ++ v) (sym numbers)
          ∙ ap (λ v. map (number_on d) (upward first (place - first)) ++ map (number_on d) (upward v count)) (sym z)
          ∙ sym (map-append (number_on d) (upward first (place - first)) (upward (first + (place - first)) count))
          ∙ ap (map (number_on d)) (sym (upward-append first (place - first) count))
          ∙ ap (λ v. map (number_on d) (upward first v)) (sym k);
    }

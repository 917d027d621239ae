-- How a script's lines come from the first LF, and from a CR at the end.
use Rattle.std.proofs.Common.{◌≡◌, ◌≢◌, ℕ, ◌+◌, ◌-◌, ◌<◌, ◌≤◌, ◌==◌, true, false, not, List, [], ◌∷◌, length, take, drop, get_or, cond, refl, ap, sym, ◌∙◌, arith, Some, None, nat_lt, suc}
use Rattle.std.specs.Prelude.{if◌then◌else◌}
use Rattle.std.proofs.lemmas.Bool.{ltb-true, ltb-false, eqb-true, eq-eqb}
use Rattle.std.proofs.lemmas.Grind.{common_steps}
use Rattle.std.specs.List.{before_first, after_first, position_or_len, position}
use Rattle.std.specs.Prelude.{Bool}
use Rattle.apl_model.specs.Lines.{cut, onto_first, without_return}

abbrev is_end : ℕ → Bool
is_end c = c == 10

-- a character before a text, and the text cut behind one character more
shift : (c n : ℕ) (cs : List ℕ) → take (1 + n) (c ∷ cs) ∷ cut (drop ((1 + n) + 1) (c ∷ cs)) ≡ (c ∷ take n cs) ∷ cut (drop (n + 1) cs)
shift c n cs =
    let e : (1 + n) + 1 ≡ suc (n + 1) = omega arith in
    let f : 1 + n ≡ suc n = omega arith in
    rw (e, f) refl

-- the first line is what stands before the first LF, and the others are those of what stands after it
cut-cons : (c : ℕ) (cs : List ℕ) → cut (c ∷ cs) ≡ before_first is_end (c ∷ cs) ∷ cut (after_first is_end (c ∷ cs))
cut-cons c [] =
    elim (is_end c) as (λ t. (cond t ([] ∷ []) ((c ∷ []) ∷ [])) ≡ take (cond (not t) 1 0) (c ∷ []) ∷ cut (drop (cond (not t) 1 0 + 1) (c ∷ []))) [ true ↦ refl | false ↦ refl ]
cut-cons c (next ∷ cs) =
    let all : List ℕ = next ∷ cs in
    let n : ℕ = position_or_len is_end all in
    elim (is_end c) as (λ t. (cond t ([] ∷ cut all) (onto_first c (cut all))) ≡ take (cond (not t) (1 + n) 0) (c ∷ all) ∷ cut (drop (cond (not t) (1 + n) 0 + 1) (c ∷ all))) [
      | true ↦ refl
      | false ↦ ap (onto_first c) (cut-cons next cs) ∙ sym (shift c n all)
    ]

-- a place that was found is the first one, and it is one
pub place-found : (n l at : ℕ) → Some at ≡ cond (nat_lt n l) (Some n) None → (at ≡ n) × (n < l)
place-found n l at h = elim (nat_lt n l) as (λ t. (nat_lt n l ≡ t) → Some at ≡ cond t (Some n) None → (at ≡ n) × (n < l)) [
  | true ↦ λ lt e. (let same : at ≡ n = cc in same, ltb-true n l lt)
  | false ↦ λ _ e. cc
] refl h

-- where none was found the first one would be at the end
pub place-absent : (n l : ℕ) → None ≡ cond (nat_lt n l) (Some n) None → l ≤ n
place-absent n l h = elim (nat_lt n l) as (λ t. (nat_lt n l ≡ t) → None ≡ cond t (Some n) None → l ≤ n) [
  | true ↦ λ _ e. absurd (cc)
  | false ↦ λ ge e. ltb-false n l ge
] refl h

-- the lines round an LF that was found
pub cut-at : (cs : List ℕ) (at : ℕ) → cs ≢ [] → Some at ≡ position is_end cs → cut cs ≡ take at cs ∷ cut (take (length cs - (at + 1)) (drop (at + 1) cs))
cut-at [] at some h = absurd (some refl)
cut-at (c ∷ cs) at some h =
    let found = place-found (position_or_len is_end (c ∷ cs)) (length (c ∷ cs)) at h in
    let rest : take (length (c ∷ cs) - (at + 1)) (drop (at + 1) (c ∷ cs)) ≡ drop (at + 1) (c ∷ cs) = grind (arith, common_steps) in
    rw rest (rw (found.0) (cut-cons c cs))

-- the last line
pub cut-last : (cs : List ℕ) → cs ≢ [] → None ≡ position is_end cs → cut cs ≡ cs ∷ []
cut-last [] some h = absurd (some refl)
cut-last (c ∷ cs) some h =
    let all : List ℕ = c ∷ cs in
    let n : ℕ = position_or_len is_end all in
    let far : length all ≤ n = place-absent n (length all) h in
    let front : take n all ≡ all = grind (arith, common_steps) in
    let back : drop (n + 1) all ≡ [] = grind (arith, common_steps) in
    cut-cons c cs ∙ (rw (front, back) refl)

-- a line that ends with CR, and one that doesn't
pub returned : (cs : List ℕ) → cs ≢ [] → get_or cs (length cs - 1) 0 ≡ 13 → take (length cs - 1) cs ≡ without_return cs
returned [] some h = absurd (some refl)
returned (c ∷ []) some h = sym (ap (λ b. let r : List ℕ = if b then [] else (c ∷ []) in r) (eq-eqb c 13 h))
returned (c ∷ d ∷ cs) some h =
    let n : ℕ = length (d ∷ cs) - 1 in
    let e : length (c ∷ d ∷ cs) - 1 ≡ suc n = omega arith in
    let k : get_or (d ∷ cs) n 0 ≡ 13 = ap (λ m. get_or (c ∷ d ∷ cs) m 0) (sym e) ∙ h in
    let r : take n (d ∷ cs) ≡ without_return (d ∷ cs) = returned (d ∷ cs) (λ x. cc) k in
    ap (λ m. take m (c ∷ d ∷ cs)) e ∙ ap (λ l. c ∷ l) r

pub not_returned : (cs : List ℕ) → (get_or cs (length cs - 1) 0 ≡ 13 → ⊥) → cs ≡ without_return cs
not_returned [] h = refl
not_returned (c ∷ []) h =
    let no : (c == 13) ≡ false = (elim (c == 13) as (λ t. (c == 13) ≡ t → t ≡ false) [ true ↦ λ e. absurd (h (eqb-true c 13 e)) | false ↦ λ e. refl ]) refl in
    sym (ap (λ b. let r : List ℕ = if b then [] else (c ∷ []) in r) no)
not_returned (c ∷ d ∷ cs) h =
    let n : ℕ = length (d ∷ cs) - 1 in
    let e : length (c ∷ d ∷ cs) - 1 ≡ suc n = omega arith in
    let k : get_or (d ∷ cs) n 0 ≡ 13 → ⊥ = λ f. h (ap (λ m. get_or (c ∷ d ∷ cs) m 0) e ∙ f) in
    ap (λ l. c ∷ l) (not_returned (d ∷ cs) k)

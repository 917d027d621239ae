-- A text in quotes, as it is read from the left.
use Rattle.std.proofs.Common.{◌≡◌, ℕ, ◌+◌, ◌<◌, ◌≤◌, ◌==◌, true, false, List, [], ◌∷◌, ◌++◌, length, drop, get_or, refl, ap, sym, ◌∙◌, arith, Option, Some, None, drop-cons, add-one, append_assoc, eq-eqb, Bool}
use Rattle.std.specs.Prelude.{if◌then◌else◌}
use Rattle.std.proofs.lemmas.Bool.{eqb-true}
use Rattle.std.specs.Option.{option_map}
use Rattle.apl_model.specs.Tokens.{Quoted, quoted, with_character}

-- characters before those of a text, which cover n characters of the line
abbrev pub with_front : List ℕ → ℕ → Option Quoted → Option Quoted
with_front cs n q = option_map (λ r. record { characters = cs ++ r.characters; covers = n + r.covers }) q

one_more : (cs : List ℕ) (n c m : ℕ) (q : Option Quoted) → with_front cs n (with_character c m q) ≡ with_front (cs ++ c ∷ []) (n + m) q
one_more cs n c m None = refl
one_more cs n c m (Some r) =
    let e : cs ++ (c ∷ r.characters) ≡ (cs ++ c ∷ []) ++ r.characters = sym (append_assoc cs (c ∷ []) r.characters) in
    let f : n + (m + r.covers) ≡ (n + m) + r.covers = omega arith in
    λ i. Some (record { characters = e i; covers = f i })

abbrev pair : Bool → Bool → ℕ → ℕ → List ℕ → Option Quoted
pair a b c d cs = elim a [
  | true ↦ elim b [
    | true ↦ with_character c 2 (quoted cs)
    | false ↦ Some (record { characters = []; covers = 1 })
  ]
  | false ↦ with_character c 1 (quoted (d ∷ cs))
]

plain : (c : ℕ) (cs : List ℕ) → (c == 39) ≡ false → quoted (c ∷ cs) ≡ with_character c 1 (quoted cs)
plain c [] h = ap (λ b. let o : Option Quoted = if b then Some (record { characters = []; covers = 1 }) else None in o) h
plain c (d ∷ cs) h = ap (λ a. pair a (d == 39) c d cs) h

doubled : (c d : ℕ) (cs : List ℕ) → (c == 39) ≡ true → (d == 39) ≡ true → quoted (c ∷ d ∷ cs) ≡ with_character c 2 (quoted cs)
doubled c d cs h k = ap (λ a. pair a (d == 39) c d cs) h ∙ ap (λ b. pair true b c d cs) k

different : (a b : ℕ) → (a ≡ b → ⊥) → (a == b) ≡ false
different a b ne = elim (a == b) as (λ t. (a == b) ≡ t → t ≡ false) [ true ↦ λ e. absurd (ne (eqb-true a b e)) | false ↦ λ e. refl ] refl

-- the characters so far, and the others decide the rest
pub record IsQuotedSoFar (rest : List ℕ) (at : ℕ) (cs : List ℕ) : Type 0 where
  pub within : at ≤ length rest
  pub same : quoted rest ≡ with_front cs at (quoted (drop at rest))

pub none_yet : (rest : List ℕ) → IsQuotedSoFar rest 0 []
none_yet rest = record { within = omega arith; same = elim (quoted rest) as (λ q. q ≡ with_front [] 0 q) [ None ↦ refl | Some r ↦ (let f : r.covers ≡ 0 + r.covers = omega arith in λ i. Some (record { characters = r.characters; covers = f i })) ] }

module _ (rest : List ℕ) (at : ℕ) (cs : List ℕ) (r : IsQuotedSoFar rest at cs) (lt : at < length rest) where
  cut : drop at rest ≡ get_or rest at 0 ∷ drop (at + 1) rest
  cut = rw (add-one, drop-cons rest at 0)

  pub by_plain : (get_or rest at 0 ≡ 39 → ⊥) → IsQuotedSoFar rest (at + 1) (cs ++ get_or rest at 0 ∷ [])
  by_plain ne = record {
    within = omega arith;
    same = r.same ∙ ap (λ l. with_front cs at (quoted l)) cut ∙ ap (with_front cs at) (plain (get_or rest at 0) (drop (at + 1) rest) (different (get_or rest at 0) 39 ne))
        ∙ one_more cs at (get_or rest at 0) 1 (quoted (drop (at + 1) rest));
  }

  pub by_doubled : get_or rest at 0 ≡ 39 → at + 1 < length rest → get_or rest (at + 1) 0 ≡ 39 → IsQuotedSoFar rest (at + 2) (cs ++ get_or rest at 0 ∷ [])
  by_doubled h lt2 k =
      let e : drop (at + 1) rest ≡ get_or rest (at + 1) 0 ∷ drop (at + 1 + 1) rest = rw (add-one (at + 1), drop-cons rest (at + 1) 0) refl in
      let two : at + 1 + 1 ≡ at + 2 = omega arith in
      record {
        within = omega arith;
        same = r.same ∙ ap (λ l. with_front cs at (quoted l)) (cut ∙ ap (λ l. get_or rest at 0 ∷ l) e)
            ∙ ap (with_front cs at) (doubled (get_or rest at 0) (get_or rest (at + 1) 0) (drop (at + 1 + 1) rest) (eq-eqb (get_or rest at 0) 39 h) (eq-eqb (get_or rest (at + 1) 0) 39 k))
            ∙ one_more cs at (get_or rest at 0) 2 (quoted (drop (at + 1 + 1) rest)) ∙ ap (λ n. with_front (cs ++ get_or rest at 0 ∷ []) (at + 2) (quoted (drop n rest))) two;
      }

-- How the parts of a script come one after another.
use Rattle.std.proofs.Common.{◌≡◌, ℕ, zero, suc, ◌+◌, ◌-◌, ◌<◌, ◌≤◌, Bool, true, false, not, cond, List, [], ◌∷◌, length, take, drop, get_or, None, Some, refl, sym, ap, ◌∙◌, arith}
use Rattle.std.specs.List.{position, position_or_len}
use Rattle.std.proofs.lemmas.Grind.{common_steps}
use Rattle.apl_model.specs.Script.{opens, closes, is_empty, Part, alone, defined, Inside, parts, inside}
use Rattle.apl_model.specs.declared.tokens.Line.{Line}
use Rattle.apl_read.proofs.LineLemmas.{place-found, place-absent}

abbrev closing : Line → Bool
closing l = closes l.tokens

-- the parts of lines, by what the first of them is
abbrev chosen : Line → List Line → Bool → Bool → List Part
chosen l ls e o = elim e as (λ _. List Part) [
  | true ↦ parts ls
  | false ↦ elim o as (λ _. List Part) [
    | true ↦ defined l (inside ls).body (inside ls).last ∷ (inside ls).after
    | false ↦ alone l ∷ parts ls
  ]
]

-- a line that opens no definition is a part by itself
pub parts-alone : (l : Line) (ls : List Line) → is_empty l.tokens ≡ false → opens l.tokens ≡ false → parts (l ∷ ls) ≡ alone l ∷ parts ls
parts-alone l ls e o = ap (λ b. chosen l ls b (opens l.tokens)) e ∙ ap (chosen l ls false) o

pub parts-defined : (l : Line) (ls : List Line) → is_empty l.tokens ≡ false → opens l.tokens ≡ true →
    parts (l ∷ ls) ≡ defined l (inside ls).body (inside ls).last ∷ (inside ls).after
parts-defined l ls e o = ap (λ b. chosen l ls b (opens l.tokens)) e ∙ ap (chosen l ls false) o

-- a line without tokens is no part
pub parts-empty : (l : Line) (ls : List Line) → is_empty l.tokens ≡ true → parts (l ∷ ls) ≡ parts ls
parts-empty l ls e = ap (λ b. chosen l ls b (opens l.tokens)) e

abbrev closed : Line → List Line → Bool → Inside
closed l ls c = elim c as (λ _. Inside) [
  | true ↦ record { body = []; last = Some l; after = parts ls }
  | false ↦ record { body = l ∷ (inside ls).body; last = (inside ls).last; after = (inside ls).after }
]

abbrev place : Line → List Line → Bool → ℕ
place l ls c = cond (not c) (1 + position_or_len closing ls) 0

-- where none of the lines closes a definition, they are all its body
pub inside-open : (ls : List Line) → length ls ≤ position_or_len closing ls → inside ls ≡ record { body = ls; last = None; after = [] }
inside-open [] h = refl
inside-open (l ∷ ls) h = elim (closes l.tokens) as (λ b. length (l ∷ ls) ≤ place l ls b → closed l ls b ≡ record { body = l ∷ ls; last = None; after = [] }) [
  | true ↦ λ far. absurd (omega arith)
  | false ↦ λ far. ap (λ (i : Inside). record { body = l ∷ i.body; last = i.last; after = i.after }) (inside-open ls (omega arith))
] h

-- the body ends before the first line that closes
pub inside-at : (ls : List Line) (at : ℕ) (l : Line) → at ≡ position_or_len closing ls → at < length ls → l ≡ get_or ls at l →
    inside ls ≡ record { body = take at ls; last = Some l; after = parts (drop (at + 1) ls) }
inside-at [] at l p h e = absurd (omega arith)
inside-at (k ∷ ls) zero l p h e = elim (closes k.tokens) as (λ b. zero ≡ place k ls b → closed k ls b ≡ record { body = []; last = Some l; after = parts (drop (0 + 1) (k ∷ ls)) }) [
  | true ↦ λ q. ap (λ m. record { body = []; last = Some m; after = parts ls }) (sym e)
  | false ↦ λ q. absurd (omega arith)
] p
inside-at (k ∷ ls) (suc at) l p h e = elim (closes k.tokens) as (λ b. suc at ≡ place k ls b →
    closed k ls b ≡ record { body = k ∷ take at ls; last = Some l; after = parts (drop (suc at + 1) (k ∷ ls)) }) [
      | true ↦ λ q. absurd (omega arith)
      | false ↦ λ q.
          let n : suc at + 1 ≡ suc (at + 1) = omega arith in
          rw n (ap (λ (i : Inside). record { body = k ∷ i.body; last = i.last; after = i.after }) (inside-at ls at l (omega arith) (omega arith) e))
    ] p

-- a definition that a line closes
pub parts-closed : (l : Line) (ls : List Line) (at : ℕ) (m : Line) → is_empty l.tokens ≡ false → opens l.tokens ≡ true →
    Some at ≡ position closing ls → m ≡ get_or ls at m →
    parts (l ∷ ls) ≡ defined l (take at ls) (Some m) ∷ parts (take (length ls - (at + 1)) (drop (at + 1) ls))
parts-closed l ls at m e o p i =
    let found = place-found (position_or_len closing ls) (length ls) at p in
    let rest : take (length ls - (at + 1)) (drop (at + 1) ls) ≡ drop (at + 1) ls = grind (arith, common_steps) in
    parts-defined l ls e o ∙ ap (λ (v : Inside). defined l v.body v.last ∷ v.after) (inside-at ls at m found.0 (rw found.0 found.1) i) ∙
    ap (λ v. defined l (take at ls) (Some m) ∷ parts v) (sym rest)

-- a definition that none closes
pub parts-open : (l : Line) (ls : List Line) → is_empty l.tokens ≡ false → opens l.tokens ≡ true → None ≡ position closing ls →
    parts (l ∷ ls) ≡ defined l ls None ∷ []
parts-open l ls e o p =
    parts-defined l ls e o ∙ ap (λ (v : Inside). defined l v.body v.last ∷ v.after) (inside-open ls (place-absent (position_or_len closing ls) (length ls) p))

-- The tokens of a line stand in order.
use Rattle.std.proofs.Common.{◌≡◌, ℕ, zero, suc, ◌+◌, ◌<◌, ◌≤◌, ◌==◌, true, false, List, [], ◌∷◌, ℤ, subst, arith}
use Rattle.apl_model.specs.Characters.{code, is_blank}
use Rattle.apl_model.specs.Laws.{StandInOrder, TokensInOrder}
use Rattle.apl_model.specs.Tokens.{Found, number, text, name, glyph, fault, beginning, Piece, pieces_after, number_before, tokens_of_pieces}
use Rattle.apl_model.specs.declared.tokens.Token.{Token}
use Rattle.apl_model.specs.declared.tokens.Word.{Word}
use Rattle.apl_model.specs.declared.tokens.Word.TheVariants as word

-- the same of pieces
abbrev pub InOrder : ℕ → List Piece → Type 0
InOrder column [] = Unit {0}
InOrder column (p ∷ ps) = (column ≤ p.from) × (p.from < p.past) × InOrder p.past ps

later : (j k : ℕ) (ps : List Piece) → j ≤ k → InOrder k ps → InOrder j ps
later j k [] h i = tt
later j k (p ∷ ps) h i = let l = i.0 in (omega arith, i.1, i.2)

pub pieces_in_order : (n k : ℕ) (cs : List ℕ) → InOrder (k + n) (pieces_after n k cs)
pieces_in_order zero k [] = tt
pieces_in_order (suc n) k [] = tt
pieces_in_order (suc n) k (c ∷ cs) =
    let e : (k + 1) + n ≡ k + suc n = omega arith in
    subst (λ m. InOrder m (pieces_after n (k + 1) cs)) e (pieces_in_order n (k + 1) cs)
pieces_in_order zero k (c ∷ cs) = elim (is_blank c) as (λ b. InOrder (k + 0) (elim b [
  | true ↦ pieces_after zero (k + 1) cs
  | false ↦ elim (c == code "⍝") [
    | true ↦ []
    | false ↦ let b = beginning c cs in record { from = k; past = k + 1 + b.more; found = b.found } ∷ pieces_after b.more (k + 1) cs
  ]
])) [
  | true ↦ later (k + 0) ((k + 1) + 0) (pieces_after zero (k + 1) cs) (omega arith) (pieces_in_order zero (k + 1) cs)
  | false ↦ elim (c == code "⍝") as (λ b. InOrder (k + 0) (elim b [
    | true ↦ []
    | false ↦ let b = beginning c cs in record { from = k; past = k + 1 + b.more; found = b.found } ∷ pieces_after b.more (k + 1) cs
  ])) [
    | true ↦ tt
    | false ↦ (omega arith, omega arith, pieces_in_order (beginning c cs).more (k + 1) cs)
  ]
]

tokens_later : (j k : ℕ) (ts : List Token) → j ≤ k → StandInOrder k ts → StandInOrder j ts
tokens_later j k [] h i = tt
tokens_later j k (t ∷ ts) h i = let l = i.0 in (omega arith, i.1, i.2)

-- a number before tokens
number_in_order : (j from past : ℕ) (z : ℤ) (ts : List Token) → j ≤ from → from < past → StandInOrder past ts → StandInOrder j (number_before from past z ts)
number_in_order j from past z [] h l i = (h, l, tt)
number_in_order j from past z (t ∷ ts) h l i = by t.word
  where
    by : (w : Word) → StandInOrder j (let all : List Token = elim w [
      | word.Numbers zs ↦ record { from = from; past = t.past; word = word.Numbers (z ∷ zs) } ∷ ts
      | _ ↦ record { from = from; past = past; word = word.Numbers (z ∷ []) } ∷ t ∷ ts
    ] in all)
    by (word.Numbers zs) = let a = i.0 in let b = i.1 in (h, omega arith, i.2)
    by (word.Chars zs) = (h, l, i)
    by (word.Name n) = (h, l, i)
    by (word.Glyph c) = (h, l, i)

-- a piece before others
piece_in_order : (j a b : ℕ) (ps : List Piece) (v : Found) → j ≤ a → a < b → StandInOrder b (tokens_of_pieces ps) →
    StandInOrder j (tokens_of_pieces (record { from = a; past = b; found = v } ∷ ps))
piece_in_order j a b ps (number z) h l i = number_in_order j a b z (tokens_of_pieces ps) h l i
piece_in_order j a b ps (text cs) h l i = (h, l, i)
piece_in_order j a b ps (name n) h l i = (h, l, i)
piece_in_order j a b ps (glyph g) h l i = (h, l, i)
piece_in_order j a b ps (fault c) h l i = tokens_later j b (tokens_of_pieces ps) (omega arith) i

pub tokens_in_order : (j : ℕ) (ps : List Piece) → InOrder j ps → StandInOrder j (tokens_of_pieces ps)
tokens_in_order j [] i = tt
tokens_in_order j (p ∷ ps) i = piece_in_order j p.from p.past ps p.found i.0 i.1 (tokens_in_order p.past ps i.2)

pub line_in_order : TokensInOrder
line_in_order line ts r = subst (λ v. StandInOrder 1 v) r.same (tokens_in_order 1 (pieces_after 0 1 line) (pieces_in_order 0 1 line))

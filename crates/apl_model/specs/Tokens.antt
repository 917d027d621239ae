-- The tokens of a line.
use Rattle.std.specs.Prelude.{◌≡◌, ℕ, zero, suc, ◌+◌, ◌==◌, true, false, if◌then◌else◌, List, [], ◌∷◌, length, take, Option, Some, None, ℤ, pos}
use Rattle.std.specs.List.{prefix_len}
use Rattle.std.specs.Option.{unwrap_or, option_map}
use Rattle.apl_base.specs.declared.faults.Cause.{Cause}
use Rattle.apl_base.specs.declared.faults.Cause.TheVariants as cause
use Rattle.apl_model.specs.Characters.{code, is_blank, is_letter, is_name_part, begins_number, is_number_part, is_glyph, read_as, number_of}
use Rattle.apl_model.specs.declared.tokens.Token.{Token}
use Rattle.apl_model.specs.declared.tokens.Word.TheVariants as word

-- what a piece of a line is: a number, a text, a name, a glyph, or a fault
pub data Found : Type 0 where
  number : ℤ → Found
  text : List ℕ → Found
  name : List ℕ → Found
  glyph : ℕ → Found
  fault : Cause → Found

-- what begins at a character, and how many more characters belong to it
pub record Beginning : Type 0 where
  pub found : Found
  pub more : ℕ

-- the characters of a text in quotes, and how many characters of the line they cover with the closing quote
pub record Quoted : Type 0 where
  pub characters : List ℕ
  pub covers : ℕ

-- with one more character in front, which covers n characters of the line
abbrev pub with_character : ℕ → ℕ → Option Quoted → Option Quoted
with_character c n q = option_map (λ r. record { characters = c ∷ r.characters; covers = n + r.covers }) q

-- a text after its opening quote: it goes on to the first quote that is not doubled, and a doubled one is one quote
abbrev pub quoted : List ℕ → Option Quoted
quoted [] = None
quoted (c ∷ []) = if c == code "'" then Some (record { characters = []; covers = 1 }) else None
quoted (c ∷ d ∷ cs) = elim (c == code "'") [
  | true ↦ elim (d == code "'") [
    | true ↦ with_character c 2 (quoted cs)
    | false ↦ Some (record { characters = []; covers = 1 })
  ]
  | false ↦ with_character c 1 (quoted (d ∷ cs))
]

-- a name, as long as possible
abbrev pub name_at : ℕ → List ℕ → Beginning
name_at c cs = let n = prefix_len is_name_part cs in record { found = name (c ∷ take n cs); more = n }

-- a numeric word, as long as possible
abbrev pub number_at : ℕ → List ℕ → Beginning
number_at c cs = let n = prefix_len is_number_part cs in
    record { found = unwrap_or (option_map number (number_of (c ∷ take n cs))) (fault cause.Number); more = n }

-- a text in quotes. One that doesn't end takes the rest of the line
abbrev pub text_at : List ℕ → Beginning
text_at cs = elim (quoted cs) [
  | None ↦ record { found = fault cause.OpenText; more = length cs }
  | Some q ↦ record { found = text q.characters; more = q.covers }
]

-- what begins with the character c, before the characters cs
abbrev pub beginning : ℕ → List ℕ → Beginning
beginning c cs =
    if is_letter c then name_at c cs else (
    if begins_number c then number_at c cs else (
    if c == code "'" then text_at cs else (
    if is_glyph (read_as c) then record { found = glyph (read_as c); more = 0 } else
    record { found = fault cause.Character; more = 0 })))

-- a piece of a line: it covers the columns from `from` to the one before `past`
pub record Piece : Type 0 where
  pub from : ℕ
  pub past : ℕ
  pub found : Found

-- the pieces of a line from column k on, the first n characters there belonging to a piece before.
-- Blanks are none, and a comment runs to the end
abbrev pub pieces_after : ℕ → ℕ → List ℕ → List Piece
pieces_after n k [] = []
pieces_after (suc n) k (c ∷ cs) = pieces_after n (k + 1) cs
pieces_after zero k (c ∷ cs) = elim (is_blank c) [
  | true ↦ pieces_after zero (k + 1) cs
  | false ↦ elim (c == code "⍝") [
    | true ↦ []
    | false ↦ let b = beginning c cs in
        record { from = k; past = k + 1 + b.more; found = b.found } ∷ pieces_after b.more (k + 1) cs
  ]
]

abbrev pub pieces : List ℕ → List Piece
pieces line = pieces_after 0 1 line

-- a number before tokens: numbers that follow each other are one literal
abbrev pub number_before : ℕ → ℕ → ℤ → List Token → List Token
number_before from past z [] = record { from = from; past = past; word = word.Numbers (z ∷ []) } ∷ []
number_before from past z (t ∷ ts) = elim (t.word) [
  | word.Numbers zs ↦ record { from = from; past = t.past; word = word.Numbers (z ∷ zs) } ∷ ts
  | _ ↦ record { from = from; past = past; word = word.Numbers (z ∷ []) } ∷ t ∷ ts
]

-- the tokens of pieces. The characters of a text are cells
abbrev pub tokens_of_pieces : List Piece → List Token
tokens_of_pieces [] = []
tokens_of_pieces (p ∷ ps) = let ts = tokens_of_pieces ps in elim (p.found) [
  | number z ↦ number_before p.from p.past z ts
  | text cs ↦ record { from = p.from; past = p.past; word = word.Chars (characters cs) } ∷ ts
  | name n ↦ record { from = p.from; past = p.past; word = word.Name n } ∷ ts
  | glyph g ↦ record { from = p.from; past = p.past; word = word.Glyph g } ∷ ts
  | fault c ↦ ts
]
  where
    characters : List ℕ → List ℤ
    characters [] = []
    characters (c ∷ cs) = pos c ∷ characters cs

-- the tokens of a line
abbrev pub tokens : List ℕ → List Token
tokens line = tokens_of_pieces (pieces line)

-- whether a piece is no fault, and no piece is
abbrev pub IsSound : Piece → Type 0
IsSound p = elim (p.found) [ fault c ↦ ⊥ | _ ↦ Unit {0} ]

abbrev pub AreSound : List Piece → Type 0
AreSound [] = Unit {0}
AreSound (p ∷ ps) = IsSound p × AreSound ps

-- a line is read as these tokens: no piece of it is a fault
pub record IsRead (line : List ℕ) (ts : List Token) : Type 0 where
  pub sound : AreSound (pieces line)
  pub same : tokens line ≡ ts

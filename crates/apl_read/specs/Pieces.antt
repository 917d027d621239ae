-- What the reader's own types stand for.
use Rattle.std.specs.Prelude.{ℕ, ◌+◌, List, [], ◌∷◌, ◌++◌, drop, if◌then◌else◌, ℤ}
use Rattle.std.specs.Option.{option_map, unwrap_or}
use Rattle.apl_base.specs.declared.faults.Cause.TheVariants as cause
use Rattle.apl_model.specs.Characters.{is_glyph, read_as, number_of}
use Rattle.apl_model.specs.Tokens.{Piece, Beginning, pieces, pieces_after, tokens, tokens_of_pieces}
use Rattle.apl_model.specs.Tokens as model
use Rattle.apl_model.specs.declared.tokens.Token.{Token}
use Rattle.apl_model.specs.declared.tokens.Word.TheVariants as word
use Rattle.apl_read.specs.declared.pieces.Begun.{Begun}
use Rattle.apl_read.specs.declared.pieces.Found.{Found}
use Rattle.apl_read.specs.declared.pieces.Found.TheVariants.{Number, Text, Name, Glyph, Fault}
use Rattle.apl_read.specs.declared.quotes.Quoted.{Quoted}
use Rattle.apl_read.specs.declared.made.Made.{Made}

-- a text in quotes
abbrev pub quoted_of : Quoted → model.Quoted
quoted_of q = record { characters = q.characters.items; covers = q.covers }

-- what a piece is
abbrev pub found_of : Found → model.Found
found_of (Number z) = model.number z
found_of (Text cs) = model.text cs.items
found_of (Name n) = model.name n
found_of (Glyph g) = model.glyph g
found_of (Fault c) = model.fault c

-- what begins at a character
abbrev pub beginning_of : Begun → Beginning
beginning_of b = record { found = found_of b.found; more = b.more }

-- the number of a numeric word, or a fault
abbrev pub number_found : List ℕ → model.Found
number_found w = unwrap_or (option_map model.number (number_of w)) (model.fault cause.Number)

-- a glyph, or a character that is none of the language
abbrev pub beginning_of_glyph : ℕ → Beginning
beginning_of_glyph c =
    if is_glyph (read_as c) then record { found = model.glyph (read_as c); more = 0 } else
    record { found = model.fault cause.Character; more = 0 }

-- numbers of one literal before tokens: with numbers that follow they are still one literal
abbrev pub numbers_before : ℕ → ℕ → List ℤ → List Token → List Token
numbers_before from past [] ts = ts
numbers_before from past (z ∷ zs) [] = record { from = from; past = past; word = word.Numbers (z ∷ zs) } ∷ []
numbers_before from past (z ∷ zs) (t ∷ ts) = elim (t.word) [
  | word.Numbers ys ↦ record { from = from; past = t.past; word = word.Numbers ((z ∷ zs) ++ ys) } ∷ ts
  | _ ↦ record { from = from; past = past; word = word.Numbers (z ∷ zs) } ∷ t ∷ ts
]

-- the tokens that were made, before those of what follows
abbrev pub made_before : Made → List Token → List Token
made_before m ts = m.tokens.items ++ numbers_before m.from m.past m.numbers.items ts

-- the pieces of a line from an index on, where no piece before reaches over it
abbrev pub pieces_from : ℕ → List ℕ → List Piece
pieces_from at text = pieces_after 0 (at + 1) (drop at text)

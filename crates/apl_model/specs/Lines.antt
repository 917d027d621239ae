-- The lines of a script of bytes.
use Rattle.std.specs.Prelude.{ℕ, ◌+◌, ◌==◌, if◌then◌else◌, List, [], ◌∷◌, take, map}
use Rattle.std.specs.Str.{chars}
use Rattle.std.specs.Str.Lossy.{utf8_valid_len}
use Rattle.apl_model.specs.Tokens.{tokens}
use Rattle.apl_model.specs.declared.tokens.Line.{Line}

-- the characters of the bytes: of their longest front that is UTF-8. Nothing is read from the first ill-formed byte on
abbrev pub readable : List ℕ → List ℕ
readable bytes = chars (take (utf8_valid_len bytes) bytes)

-- without U+FEFF at the very start
abbrev pub without_mark : List ℕ → List ℕ
without_mark [] = []
without_mark (c ∷ cs) = if c == 0xFEFF then cs else (c ∷ cs)

-- one character more at the front of the first line
abbrev pub onto_first : ℕ → List (List ℕ) → List (List ℕ)
onto_first c [] = (c ∷ []) ∷ []
onto_first c (l ∷ ls) = (c ∷ l) ∷ ls

-- the text cut at each LF. After a final LF there is no further line
abbrev pub cut : List ℕ → List (List ℕ)
cut [] = []
cut (c ∷ cs) = let ls = cut cs in if c == 10 then [] ∷ ls else onto_first c ls

-- without a CR at the end
abbrev pub without_return : List ℕ → List ℕ
without_return [] = []
without_return (c ∷ []) = if c == 13 then [] else (c ∷ [])
without_return (c ∷ d ∷ cs) = c ∷ without_return (d ∷ cs)

-- the texts of the lines
abbrev pub texts_of : List ℕ → List (List ℕ)
texts_of bytes = map without_return (cut (without_mark (readable bytes)))

-- lines with these texts, numbered from n on, each with its tokens
abbrev pub numbered : ℕ → List (List ℕ) → List Line
numbered n [] = []
numbered n (t ∷ ts) = record { number = n; text = t; tokens = tokens t } ∷ numbered (n + 1) ts

-- the lines of a script
abbrev pub lines_of : List ℕ → List Line
lines_of bytes = numbered 1 (texts_of bytes)

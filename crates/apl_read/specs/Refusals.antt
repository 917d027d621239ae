-- The first refusal of a script's bytes and characters.
use Rattle.std.specs.Prelude.{ℕ, ◌+◌, nat_lt, nat_le, List, [], ◌∷◌, length, if◌then◌else◌, Option, Some, None}
use Rattle.std.specs.Option.{option_or, option_map}
use Rattle.std.specs.Str.Lossy.{utf8_valid_len}
use Rattle.apl_base.specs.declared.faults.Cause.{Cause}
use Rattle.apl_base.specs.declared.faults.Cause.TheVariants as cause
use Rattle.apl_base.specs.declared.faults.Refusal.{Refusal}
use Rattle.apl_model.specs.Lines.{texts_of}
use Rattle.apl_model.specs.Refusal.{refusal, place_of_end}
use Rattle.apl_model.specs.Tokens.{Piece, pieces, fault}

-- a cause, at a column of a line
pub record Fault : Type 0 where
  pub column : ℕ
  pub cause : Cause

-- the first fault among pieces
abbrev pub first_fault : List Piece → Option Fault
first_fault [] = None
first_fault (p ∷ ps) = elim (p.found) [
  | fault c ↦ Some (record { column = p.from; cause = c })
  | _ ↦ first_fault ps
]

-- of a line that is too long: a fault counts only where it stands before the column that is too much
abbrev pub long_fault : Option Fault → Fault
long_fault None = record { column = 1001; cause = cause.LineLong }
long_fault (Some f) = if nat_le f.column 1000 then f else record { column = 1001; cause = cause.LineLong }

-- the first fault of a line, its length among them
abbrev pub line_fault : List ℕ → Option Fault
line_fault text =
    if nat_lt 1000 (length text) then Some (long_fault (first_fault (pieces text))) else first_fault (pieces text)

-- a fault of the line of this number refuses the script
abbrev pub refusal_of_fault : ℕ → Fault → Refusal
refusal_of_fault number f = refusal f.cause number f.column

-- the first refusal of lines with these texts, the first of which has this number
abbrev pub lines_refusal : ℕ → List (List ℕ) → Option Refusal
lines_refusal number [] = None
lines_refusal number (text ∷ texts) = option_or (option_map (refusal_of_fault number) (line_fault text)) (lines_refusal (number + 1) texts)

-- the refusal of bytes that are not UTF-8, at the end of what can be read
abbrev pub bytes_refusal : List ℕ → Option Refusal
bytes_refusal bytes =
    if nat_lt (utf8_valid_len bytes) (length bytes)
    then Some (refusal cause.Utf8 (place_of_end bytes).0 (place_of_end bytes).1)
    else None

-- the first refusal of a script's bytes and characters. What can't be read stands behind all that can
abbrev pub reading_refusal : List ℕ → Option Refusal
reading_refusal bytes = option_or (lines_refusal 1 (texts_of bytes)) (bytes_refusal bytes)

-- The refusals of a script, the first of them, and the scripts that are accepted.
use Rattle.std.specs.Prelude.{◌≡◌, ℕ, zero, suc, ◌+◌, ◌<◌, ◌≤◌, ◌==◌, ◌&&◌, ◌⊎◌, true, false, if◌then◌else◌, nat_lt, List, [], ◌∷◌, ◌++◌, length, slice_get, Option, Some, None}
use Rattle.std.specs.List.{IsAmong}
use Rattle.std.specs.Str.Lossy.{utf8_valid_len}
use Rattle.apl_base.specs.declared.faults.Cause.{Cause}
use Rattle.apl_base.specs.declared.faults.Cause.TheVariants as cause
use Rattle.apl_base.specs.declared.faults.Refusal.{Refusal}
use Rattle.apl_base.specs.declared.faults.TheConstants.{MOST_BYTES}
use Rattle.apl_model.specs.Characters.{is_one_of}
use Rattle.apl_model.specs.Grammar.{IsStatement, IsCommand, IsHeader, IsLabel}
use Rattle.apl_model.specs.Lines.{readable, without_mark, lines_of}
use Rattle.apl_model.specs.Script.{is_glyph_token, is_name_token, Part, alone, defined, parts, closes, heading_of, IsHeadOf, IsScript}
use Rattle.apl_model.specs.Spelling.{Spell, statement_spelling, body_spelling, command_spelling, before_own_name, header_spelling}
use Rattle.apl_model.specs.Tokens.{Piece, pieces, IsRead, fault}
use Rattle.apl_model.specs.Tree.{Statement, Script}
use Rattle.apl_model.specs.declared.scripts.Command.{Command}
use Rattle.apl_model.specs.declared.scripts.Header.{Header}
use Rattle.apl_model.specs.declared.tokens.Heading.{Heading}
use Rattle.apl_model.specs.declared.tokens.Line.{Line}
use Rattle.apl_model.specs.declared.tokens.Token.{Token}
use Rattle.apl_model.specs.declared.tokens.Word.TheVariants as word

abbrev pub refusal : Cause → ℕ → ℕ → Refusal
refusal c line column = record { line = line; column = column; cause = c }

-- ---- The bytes, and the tokens of the lines ----

-- the place after these characters, from a line and a column on
abbrev pub place_after : ℕ → ℕ → List ℕ → ℕ × ℕ
place_after line column [] = (line, column)
place_after line column (c ∷ cs) =
    place_after (if c == 10 then line + 1 else line) (if c == 10 then 1 else column + 1) cs

-- the place after the characters before the first ill-formed byte
abbrev pub place_of_end : List ℕ → ℕ × ℕ
place_of_end bytes = place_after 1 1 (without_mark (readable bytes))

-- a refusal of the bytes or of a line's characters
pub data IsReadingRefusal (bytes : List ℕ) (r : Refusal) : Type 0 where
  -- the bytes are not UTF-8
  ill_formed : utf8_valid_len bytes < length bytes →
      r ≡ refusal cause.Utf8 (place_of_end bytes).0 (place_of_end bytes).1 → IsReadingRefusal bytes r
  -- a line has more than 1,000 characters
  long_line : (l : Line) → IsAmong (lines_of bytes) l → 1000 < length l.text →
      r ≡ refusal cause.LineLong l.number 1001 → IsReadingRefusal bytes r
  -- a character that is none of the language, a numeric word that is no number, or a text that doesn't end
  at_fault : (l : Line) (p : Piece) (c : Cause) → IsAmong (lines_of bytes) l → IsAmong (pieces l.text) p →
      p.found ≡ fault c → r ≡ refusal c l.number p.from → IsReadingRefusal bytes r

-- ---- Lines that are lawful, and where others stop being so ----

-- the kinds of lines: outside definitions, of a body, first of a definition, and a statement by itself
pub data LineKind : Type 0 where
  outside in_body first_line by_itself : LineKind

-- tokens that are a lawful line of this kind, over these classes of names
abbrev pub IsLawful : LineKind → List Heading → ℕ → List Token → Type 0
IsLawful outside hs n ts =
    ((s : Statement) × IsStatement hs s × Spell n (statement_spelling s) ts) ⊎
    ((c : Command) × IsCommand c × Spell n (command_spelling c) ts)
IsLawful in_body hs n ts =
    (label : Option (List ℕ)) × (s : Statement) × IsLabel hs label × IsStatement hs s × Spell n (body_spelling label s) ts
IsLawful first_line hs n ts = (h : Header) × IsHeader h × Spell n (header_spelling h) ts
IsLawful by_itself hs n ts = (s : Statement) × IsStatement hs s × Spell n (statement_spelling s) ts

-- some lawful line of this kind begins with these tokens
pub record IsBeginning (kind : LineKind) (hs : List Heading) (n : ℕ) (ts : List Token) : Type 0 where
  pub text : List ℕ
  pub rest : List Token
  pub read : IsRead text (ts ++ rest)
  pub lawful : IsLawful kind hs n (ts ++ rest)

-- one column past the last token
abbrev pub past_last : List Token → ℕ
past_last [] = 1
past_last (t ∷ []) = t.past
past_last (t ∷ u ∷ ts) = past_last (u ∷ ts)

-- where a line that is not lawful stops: at the first token such that no lawful line of its kind begins with the
-- tokens up to and including it, and where there is none, one column past the last token
pub data StopsAt (kind : LineKind) (hs : List Heading) (n : ℕ) (ts : List Token) (column : ℕ) : Type 0 where
  at_token : (before : List Token) (t : Token) (after : List Token) → ts ≡ before ++ (t ∷ after) →
      IsBeginning kind hs n before → ¬ (IsBeginning kind hs n (before ++ (t ∷ []))) →
      column ≡ t.from → StopsAt kind hs n ts column
  past_the_last : IsBeginning kind hs n ts → ¬ (IsLawful kind hs n ts) →
      column ≡ past_last ts → StopsAt kind hs n ts column

-- the lines of each kind in a script
abbrev pub IsLineOf : List Line → LineKind → Line → Type 0
IsLineOf ls outside l = IsAmong (parts ls) (alone l)
IsLineOf ls in_body l = (first : Line) × (body : List Line) × (last : Option Line) × IsAmong (parts ls) (defined first body last) × IsAmong body l
IsLineOf ls first_line l = (body : List Line) × (last : Option Line) × IsAmong (parts ls) (defined l body last)
IsLineOf ls by_itself l = ⊥

-- the lines in which statements stand
abbrev pub HasStatements : List Line → Line → Type 0
HasStatements ls l = IsLineOf ls outside l ⊎ IsLineOf ls in_body l

-- ---- Definitions and their names ----

-- a refusal of a definition's form
pub data IsHeaderRefusal (ls : List Line) (r : Refusal) : Type 0 where
  -- the first line of a definition is no header
  no_header : (l : Line) (column : ℕ) → IsLineOf ls first_line l → StopsAt first_line [] l.number l.tokens column →
      r ≡ refusal cause.Header l.number column → IsHeaderRefusal ls r
  -- a ∇ alone, outside definitions
  lone : (l : Line) → IsLineOf ls outside l → closes l.tokens ≡ true →
      r ≡ refusal cause.Header l.number (past_last l.tokens) → IsHeaderRefusal ls r
  -- in a definition, a line that begins with ∇ and has more tokens
  nested : (l : Line) (t u : Token) (ts : List Token) → IsLineOf ls in_body l → l.tokens ≡ t ∷ u ∷ ts →
      is_glyph_token "∇" t ≡ true → r ≡ refusal cause.Header l.number u.from → IsHeaderRefusal ls r

-- a definition that no line closes
pub data IsOpenDefinition (ls : List Line) (r : Refusal) : Type 0 where
  never_closed : (first : Line) (body : List Line) (t : Token) (ts : List Token) →
      IsAmong (parts ls) (defined first body None) → first.tokens ≡ t ∷ ts →
      r ≡ refusal cause.OpenDefinition first.number t.from → IsOpenDefinition ls r

-- a definition of the script, with its header
pub record IsDefined (ps : List Part) (first : Line) (body : List Line) (h : Header) : Type 0 where
  pub last : Option Line
  pub among : IsAmong ps (defined first body last)
  pub head : IsHeadOf first h

-- a name that heads a definition
pub record Heads (ps : List Part) (n : List ℕ) : Type 0 where
  pub first : Line
  pub body : List Line
  pub header : Header
  pub is_defined : IsDefined ps first body header
  pub same : header.f ≡ n

-- a name at a place
pub record Occurrence : Type 0 where
  pub name : List ℕ
  pub line : ℕ
  pub column : ℕ

-- the names among the tokens of a line
abbrev pub names_in : ℕ → List Token → List Occurrence
names_in n [] = []
names_in n (t ∷ ts) = elim (t.word) [
  | word.Name name ↦ record { name = name; line = n; column = t.from } ∷ names_in n ts
  | _ ↦ names_in n ts
]

-- the label of a line of a body: a name directly before :
abbrev pub label_in : ℕ → List Token → List Occurrence
label_in n [] = []
label_in n (t ∷ []) = []
label_in n (t ∷ u ∷ ts) = if is_glyph_token ":" u then names_in n (t ∷ []) else []

abbrev pub labels_in : List Line → List Occurrence
labels_in [] = []
labels_in (l ∷ ls) = label_in l.number l.tokens ++ labels_in ls

-- the names of a definition where they are declared, its function's own among them, in order of places
abbrev pub declared_in : Line → List Line → List Occurrence
declared_in first body = names_in first.number first.tokens ++ labels_in body

-- the names that )ERASE erases: those behind it
abbrev pub erased_in : ℕ → List Token → List Occurrence
erased_in n [] = []
erased_in n (t ∷ []) = []
erased_in n (t ∷ u ∷ ts) =
    if is_glyph_token ")" t && is_name_token "ERASE" u then names_in n ts else []

-- a name that comes a second time
pub data IsDoubleName (ls : List Line) (r : Refusal) : Type 0 where
  -- the second heading of a function
  second_heading : (before after : List Part) (first : Line) (body : List Line) (last : Option Line) (h : Header) (t : Token) →
      parts ls ≡ before ++ (defined first body last ∷ after) → IsHeadOf first h → Heads before h.f →
      slice_get first.tokens (length (before_own_name h)) ≡ Some t →
      r ≡ refusal cause.DoubleName first.number t.from → IsDoubleName ls r
  -- the second occurrence of a name in a definition
  second_occurrence : (first : Line) (body : List Line) (h : Header) (before after : List Occurrence) (o p : Occurrence) →
      IsDefined (parts ls) first body h → declared_in first body ≡ before ++ (o ∷ after) → IsAmong before p → p.name ≡ o.name →
      r ≡ refusal cause.DoubleName o.line o.column → IsDoubleName ls r

-- a name that heads a definition, where a variable is wanted
pub data IsNameClass (ls : List Line) (r : Refusal) : Type 0 where
  -- directly before ←
  assigned : (l : Line) (before after : List Token) (t u : Token) (n : List ℕ) → HasStatements ls l →
      l.tokens ≡ before ++ (t ∷ u ∷ after) → t.word ≡ word.Name n → is_glyph_token "←" u ≡ true → Heads (parts ls) n →
      r ≡ refusal cause.NameClass l.number t.from → IsNameClass ls r
  -- named by )ERASE
  erased : (l : Line) (o : Occurrence) → IsLineOf ls outside l → IsAmong (erased_in l.number l.tokens) o → Heads (parts ls) o.name →
      r ≡ refusal cause.NameClass o.line o.column → IsNameClass ls r
  -- declared as result, argument, local or label by another definition
  declared : (first : Line) (body : List Line) (h : Header) (o : Occurrence) →
      IsDefined (parts ls) first body h → IsAmong (declared_in first body) o → ¬ (o.name ≡ h.f) → Heads (parts ls) o.name →
      r ≡ refusal cause.NameClass o.line o.column → IsNameClass ls r

-- ---- Depth and grammar ----

-- a closing one ends an open one, and nothing where none is open
abbrev pub one_closed : ℕ → ℕ
one_closed zero = zero
one_closed (suc d) = d

-- how many parentheses and brackets are open after a token
abbrev pub depth_after : ℕ → Token → ℕ
depth_after d t = elim (t.word) [
  | word.Glyph c ↦ if is_one_of "([" c then suc d else (if is_one_of ")]" c then one_closed d else d)
  | _ ↦ d
]

-- the first token at which more than 64 are open
abbrev pub too_deep : ℕ → List Token → Option Token
too_deep d [] = None
too_deep d (t ∷ ts) = elim (nat_lt 64 (depth_after d t)) [ true ↦ Some t | false ↦ too_deep (depth_after d t) ts ]

-- the 65th parenthesis or bracket open at once
pub data IsDeep (ls : List Line) (r : Refusal) : Type 0 where
  opened : (l : Line) (t : Token) → HasStatements ls l → too_deep 0 l.tokens ≡ Some t →
      r ≡ refusal cause.Deep l.number t.from → IsDeep ls r

-- the classes of names that the definitions of a script give
abbrev pub AreClasses : List Part → List Heading → Type 0
AreClasses [] [] = Unit {0}
AreClasses [] (k ∷ hs) = ⊥
AreClasses (alone l ∷ ps) hs = AreClasses ps hs
AreClasses (defined first body last ∷ ps) [] = ⊥
AreClasses (defined first body last ∷ ps) (k ∷ hs) = ((h : Header) × IsHeadOf first h × (k ≡ heading_of h)) × AreClasses ps hs

-- a line without a tree
pub data IsGrammarRefusal (ls : List Line) (r : Refusal) : Type 0 where
  outside_definitions : (l : Line) (hs : List Heading) (column : ℕ) → AreClasses (parts ls) hs →
      IsLineOf ls outside l → StopsAt outside hs l.number l.tokens column →
      r ≡ refusal cause.Grammar l.number column → IsGrammarRefusal ls r
  in_a_body : (l : Line) (hs : List Heading) (column : ℕ) → AreClasses (parts ls) hs →
      IsLineOf ls in_body l → StopsAt in_body hs l.number l.tokens column →
      r ≡ refusal cause.Grammar l.number column → IsGrammarRefusal ls r

-- a refusal of the definitions, names and statements of a script
pub data IsLineRefusal (ls : List Line) (r : Refusal) : Type 0 where
  header : IsHeaderRefusal ls r → IsLineRefusal ls r
  double_name : IsDoubleName ls r → IsLineRefusal ls r
  open_definition : IsOpenDefinition ls r → IsLineRefusal ls r
  name_class : IsNameClass ls r → IsLineRefusal ls r
  deep : IsDeep ls r → IsLineRefusal ls r
  grammar : IsGrammarRefusal ls r → IsLineRefusal ls r

-- a refusal of a script of bytes
pub data IsRefusal (bytes : List ℕ) (r : Refusal) : Type 0 where
  too_long : MOST_BYTES < length bytes → r ≡ refusal cause.TooLong 0 0 → IsRefusal bytes r
  of_reading : IsReadingRefusal bytes r → IsRefusal bytes r
  of_lines : IsLineRefusal (lines_of bytes) r → IsRefusal bytes r

-- ---- The first refusal ----

-- the order of the table of causes, and the phase of each
abbrev pub rank : Cause → ℕ
rank cause.TooLong = 0
rank cause.Utf8 = 1
rank cause.LineLong = 2
rank cause.Character = 3
rank cause.Number = 4
rank cause.OpenText = 5
rank cause.Header = 6
rank cause.DoubleName = 7
rank cause.OpenDefinition = 8
rank cause.NameClass = 9
rank cause.Deep = 10
rank cause.Grammar = 11

abbrev pub phase : Cause → ℕ
phase cause.TooLong = 0
phase cause.Utf8 = 1
phase cause.LineLong = 1
phase cause.Character = 1
phase cause.Number = 1
phase cause.OpenText = 1
phase cause.Header = 2
phase cause.DoubleName = 2
phase cause.OpenDefinition = 2
phase cause.NameClass = 3
phase cause.Deep = 3
phase cause.Grammar = 3

-- what refusals are put in order by: the earliest phase, then the line, then the column, then the order of the table
abbrev pub order : Refusal → List ℕ
order r = phase r.cause ∷ r.line ∷ r.column ∷ rank r.cause ∷ []

-- the first difference decides
abbrev pub IsNotAfter : List ℕ → List ℕ → Type 0
IsNotAfter [] ys = Unit {0}
IsNotAfter (x ∷ xs) [] = ⊥
IsNotAfter (x ∷ xs) (y ∷ ys) = (x < y) ⊎ ((x ≡ y) × IsNotAfter xs ys)

-- the first of the refusals that there are
pub record IsFirst (Refuses : Refusal → Type 0) (r : Refusal) : Type 0 where
  pub refuses : Refuses r
  pub first : (other : Refusal) → Refuses other → IsNotAfter (order r) (order other)

-- the first of the refusals that there are, or none where there is none
abbrev pub IsFirstIfAny : (Refusal → Type 0) → Option Refusal → Type 0
IsFirstIfAny Refuses None = (r : Refusal) → ¬ (Refuses r)
IsFirstIfAny Refuses (Some r) = IsFirst Refuses r

-- ---- Accepted scripts ----

-- an accepted script of bytes has at most MOST_BYTES of them, all of them UTF-8; each line has at most 1,000
-- characters and is read; the lines have a tree; no line is too deep, and the rules of names are kept
pub record IsAccepted (bytes : List ℕ) (s : Script) : Type 0 where
  pub short : length bytes ≤ MOST_BYTES
  pub whole : utf8_valid_len bytes ≡ length bytes
  pub lines : (l : Line) → IsAmong (lines_of bytes) l → (length l.text ≤ 1000) × IsRead l.text l.tokens
  pub tree : IsScript (lines_of bytes) s
  pub shallow : (r : Refusal) → ¬ (IsDeep (lines_of bytes) r)
  pub single : (r : Refusal) → ¬ (IsDoubleName (lines_of bytes) r)
  pub classes : (r : Refusal) → ¬ (IsNameClass (lines_of bytes) r)

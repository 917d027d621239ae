-- What holds of the definitions of lines, trees and refusals. Each law is the contract of a function in src/laws.
use Rattle.std.specs.Prelude.{◌≡◌, ℕ, ◌-◌, ◌<◌, ◌≤◌, ◌↔◌, List, [], ◌∷◌, take, drop, Option}
use Rattle.std.specs.List.{IsAmong}
use Rattle.apl_base.specs.declared.faults.Refusal.{Refusal}
use Rattle.apl_model.specs.Grammar.{IsExpression, IsStatement, IsHeader}
use Rattle.apl_model.specs.Items.{AreLawful}
use Rattle.apl_model.specs.Refusal.{LineKind, StopsAt, IsReadingRefusal, IsLineRefusal, IsRefusal, IsFirst, IsAccepted}
use Rattle.apl_model.specs.Script.{IsScript}
use Rattle.apl_model.specs.Spelling.{Spell, spelling, statement_spelling, body_spelling, command_spelling, header_spelling}
use Rattle.apl_model.specs.Tokens.{pieces_after, tokens_of_pieces, AreSound, IsRead}
use Rattle.apl_model.specs.Tree.{Tree, Statement, Script}
use Rattle.apl_model.specs.declared.scripts.Command.{Command}
use Rattle.apl_model.specs.declared.scripts.Header.{Header}
use Rattle.apl_model.specs.declared.tokens.Heading.{Heading}
use Rattle.apl_model.specs.declared.tokens.Line.{Line}
use Rattle.apl_model.specs.declared.tokens.Token.{Token}

-- a line has at most one list of tokens
abbrev pub OneListOfTokens : Type 0
OneListOfTokens = (line : List ℕ) (a b : List Token) → IsRead line a → IsRead line b → a ≡ b

-- tokens stand in order from a column on: each covers a column at least, and none covers one of another
abbrev pub StandInOrder : ℕ → List Token → Type 0
StandInOrder column [] = Unit {0}
StandInOrder column (t ∷ ts) = (column ≤ t.from) × (t.from < t.past) × StandInOrder t.past ts

-- the tokens of a line stand in order
abbrev pub TokensInOrder : Type 0
TokensInOrder = (line : List ℕ) (ts : List Token) → IsRead line ts → StandInOrder 1 ts

-- the characters of a line in the columns of a token
abbrev pub slice_of : List ℕ → Token → List ℕ
slice_of line t = take (t.past - t.from) (drop (t.from - 1) line)

-- each token's text is its slice of the line: read from the token's column on, it is that token alone, without a fault
abbrev pub TokensAreSlices : Type 0
TokensAreSlices = (line : List ℕ) (ts : List Token) (t : Token) → IsRead line ts → IsAmong ts t →
    let ps = pieces_after 0 t.from (slice_of line t) in AreSound ps × (tokens_of_pieces ps ≡ t ∷ [])

-- at most one column stops a line
abbrev pub OneStop : Type 0
OneStop = (kind : LineKind) (hs : List Heading) (n : ℕ) (ts : List Token) (j k : ℕ) → StopsAt kind hs n ts j → StopsAt kind hs n ts k → j ≡ k

-- two expressions of the language that spell the same tokens are equal
abbrev pub OneExpression : Type 0
OneExpression = (hs : List Heading) (n : ℕ) (ts : List Token) (a b : Tree) → IsExpression hs a → IsExpression hs b →
    Spell n (spelling a) ts → Spell n (spelling b) ts → a ≡ b

-- and so are two statements
abbrev pub OneStatement : Type 0
OneStatement = (hs : List Heading) (n : ℕ) (ts : List Token) (a b : Statement) → IsStatement hs a → IsStatement hs b →
    Spell n (statement_spelling a) ts → Spell n (statement_spelling b) ts → a ≡ b

-- and the labels and statements of two lines of a body
abbrev pub OneBodyLine : Type 0
OneBodyLine = (hs : List Heading) (n : ℕ) (ts : List Token) (l m : Option (List ℕ)) (a b : Statement) → IsStatement hs a → IsStatement hs b →
    Spell n (body_spelling l a) ts → Spell n (body_spelling m b) ts → (l ≡ m) × (a ≡ b)

-- and two commands
abbrev pub OneCommand : Type 0
OneCommand = (n : ℕ) (ts : List Token) (a b : Command) → Spell n (command_spelling a) ts → Spell n (command_spelling b) ts → a ≡ b

-- and two headers
abbrev pub OneHeader : Type 0
OneHeader = (n : ℕ) (ts : List Token) (a b : Header) → IsHeader a → IsHeader b →
    Spell n (header_spelling a) ts → Spell n (header_spelling b) ts → a ≡ b

-- the lines of a script have at most one tree
abbrev pub OneScript : Type 0
OneScript = (ls : List Line) (a b : Script) → IsScript ls a → IsScript ls b → a ≡ b

-- a script of bytes has at most one first refusal
abbrev pub OneFirstRefusal : Type 0
OneFirstRefusal = (bytes : List ℕ) (r s : Refusal) → IsFirst (IsRefusal bytes) r → IsFirst (IsRefusal bytes) s → r ≡ s

-- its bytes and characters have at most one, and so have its lines
abbrev pub OneFirstReadingRefusal : Type 0
OneFirstReadingRefusal = (bytes : List ℕ) (r s : Refusal) → IsFirst (IsReadingRefusal bytes) r → IsFirst (IsReadingRefusal bytes) s → r ≡ s

abbrev pub OneFirstLineRefusal : Type 0
OneFirstLineRefusal = (ls : List Line) (r s : Refusal) → IsFirst (IsLineRefusal ls) r → IsFirst (IsLineRefusal ls) s → r ≡ s

-- a script of bytes is accepted exactly where it has no refusal
abbrev pub AcceptedExactly : Type 0
AcceptedExactly = (bytes : List ℕ) → ((s : Script) × IsAccepted bytes s) ↔ ((r : Refusal) → ¬ (IsRefusal bytes r))

-- the items of each accepted script are well formed
abbrev pub AcceptedItems : Type 0
AcceptedItems = (bytes : List ℕ) (s : Script) → IsAccepted bytes s → AreLawful s.items

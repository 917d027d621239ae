-- Worked examples of tokens and of the trees of lines.
use Rattle.std.specs.Prelude.{◌≡◌, ℕ, zero, suc, List, [], ◌∷◌, ◌++◌, codes, ℤ, pos, neg_ℤ, map}
use Prim.Native.String.{String}
use Rattle.apl_base.specs.declared.cells.Kind.TheVariants as kind
use Rattle.apl_base.specs.declared.faults.Place.{Place}
use Rattle.apl_base.specs.declared.rows.Dya.TheVariants as dya
use Rattle.apl_model.specs.Characters.{code}
use Rattle.apl_model.specs.Grammar.{IsStatement}
use Rattle.apl_base.specs.declared.faults.Cause.{Cause}
use Rattle.apl_base.specs.declared.faults.Cause.TheVariants as cause
use Rattle.std.specs.Str.{encode_utf8_all}
use Rattle.apl_model.specs.Refusal.{refusal, IsRefusal, IsFirst}
use Rattle.apl_model.specs.Spelling.{Spell, statement_spelling}
use Rattle.apl_model.specs.Tokens.{tokens}
use Rattle.apl_model.specs.Tree.{Tree, constant, variable, call, parenthesis, monadic, dyadic, reduction, outer_product, inner_product, subscript, assignment, indexed_assignment, output, elided, given, no_position, position, Statement, nothing, branch, expression}
use Rattle.apl_model.specs.declared.functions.Axis.TheVariants as axis
use Rattle.apl_model.specs.declared.functions.DyaFn.TheVariants as two
use Rattle.apl_model.specs.declared.functions.MonFn.TheVariants as one
use Rattle.apl_model.specs.declared.tokens.Heading.{Heading}
use Rattle.apl_model.specs.declared.tokens.Token.{Token}
use Rattle.apl_model.specs.declared.tokens.Word.{Word}
use Rattle.apl_model.specs.declared.tokens.Word.TheVariants as word

-- a token, by the columns that it covers
abbrev pub token : ℕ → ℕ → Word → Token
token from past w = record { from = from; past = past; word = w }

abbrev pub glyph : ℕ → String → Token
glyph k s = token k (suc k) (word.Glyph (code s))

abbrev pub named : ℕ → ℕ → String → Token
named from past s = token from past (word.Name (codes s))

abbrev pub numbers : ℕ → ℕ → List ℤ → Token
numbers from past zs = token from past (word.Numbers zs)

abbrev pub text : ℕ → ℕ → String → Token
text from past s = token from past (word.Chars (map pos (codes s)))

-- a name is as long as possible, and its letters are A to Z, a to z, _, ∆ and ⍙
abbrev pub TokensOfNames : Type 0
TokensOfNames = tokens (codes "A_∆1←⍙b2") ≡ named 1 5 "A_∆1" ∷ glyph 5 "←" ∷ named 6 9 "⍙b2" ∷ []

-- numbers that follow each other are one literal, over blanks and tabs; ¯ is a number's sign, and ¯0 is 0
abbrev pub TokensOfNumbers : Type 0
TokensOfNumbers = tokens (codes "007 ¯20  ¯0+3") ≡ numbers 1 12 (pos 7 ∷ neg_ℤ (pos 20) ∷ pos 0 ∷ []) ∷ glyph 12 "+" ∷ numbers 13 14 (pos 3 ∷ []) ∷ []

-- a text may hold any character; a doubled quote is one quote, and an empty text is a vector of none
abbrev pub TokensOfTexts : Type 0
TokensOfTexts = tokens (codes "'IT''S @⍝' ''") ≡ text 1 11 "IT'S @⍝" ∷ text 12 14 "" ∷ []

-- a comment runs to the end of the line and may hold anything
abbrev pub TokensOfComments : Type 0
TokensOfComments = tokens (codes "A ⍝ 3.5 @ 'B") ≡ named 1 2 "A" ∷ []

-- five glyphs have a second spelling
abbrev pub TokensOfOtherSpellings : Type 0
TokensOfOtherSpellings = tokens (codes "∼∣⋆∊^") ≡ glyph 1 "~" ∷ glyph 2 "|" ∷ glyph 3 "*" ∷ glyph 4 "∈" ∷ glyph 5 "∧" ∷ []

-- every other glyph is a token of one character
abbrev pub TokensOfGlyphs : Type 0
TokensOfGlyphs = tokens (codes "+.×/[;]") ≡ glyph 1 "+" ∷ glyph 2 "." ∷ glyph 3 "×" ∷ glyph 4 "/" ∷ glyph 5 "[" ∷ glyph 6 ";" ∷ glyph 7 "]" ∷ []

-- blanks and tabs separate tokens, and each is a column
abbrev pub TokensOfBlanks : Type 0
TokensOfBlanks = tokens (32 ∷ 65 ∷ 9 ∷ 66 ∷ 32 ∷ []) ≡ named 2 3 "A" ∷ named 4 5 "B" ∷ []

-- an empty line has no tokens
abbrev pub TokensOfNothing : Type 0
TokensOfNothing = tokens [] ≡ []

-- the first line of a definition, and a command
abbrev pub TokensOfHeader : Type 0
TokensOfHeader = tokens (codes "∇Z←F X;I") ≡ glyph 1 "∇" ∷ named 2 3 "Z" ∷ glyph 3 "←" ∷ named 4 5 "F" ∷ named 6 7 "X" ∷ glyph 7 ";" ∷ named 8 9 "I" ∷ []

abbrev pub TokensOfCommand : Type 0
TokensOfCommand = tokens (codes ")ORIGIN 0") ≡ glyph 1 ")" ∷ named 2 8 "ORIGIN" ∷ numbers 9 10 (pos 0 ∷ []) ∷ []

-- ---- The trees of lines ----

abbrev pub at : ℕ → Place
at k = record { line = 1; column = k }

abbrev pub nums : ℕ → List ℤ → Tree
nums k zs = constant (record { kind = kind.Num; cells = zs }) (at k)

abbrev pub chars : ℕ → String → Tree
chars k s = constant (record { kind = kind.Char; cells = map pos (codes s) }) (at k)

-- N, F and G have no, one and two arguments
abbrev pub functions : List Heading
functions = record { name = codes "N"; arguments = 0 } ∷ record { name = codes "F"; arguments = 1 } ∷ record { name = codes "G"; arguments = 2 } ∷ []

-- a text, as line 1, has this statement as its tree
abbrev pub HasStatement : List Heading → String → Statement → Type 0
HasStatement hs line s = IsStatement hs s × Spell 1 (statement_spelling s) (tokens (codes line))

-- a line without tokens is the statement that does nothing
abbrev pub SpellingOfNothing : Type 0
SpellingOfNothing = HasStatement [] "" (nothing)

-- a branch has the place of its →
abbrev pub SpellingOfBranch : Type 0
SpellingOfBranch = HasStatement [] "→LOOP" (branch (variable (codes "LOOP") (at 2)) (at 1))

-- a function of two arguments takes all that stands on its right
abbrev pub SpellingOfDyadic : Type 0
SpellingOfDyadic = HasStatement [] "A-B-'X'" (expression (dyadic (two.Scalar dya.Sub) (variable (codes "A") (at 1)) (dyadic (two.Scalar dya.Sub) (variable (codes "B") (at 3)) (chars 5 "X") (at 4)) (at 2)))

-- a function of one argument
abbrev pub SpellingOfMonadic : Type 0
SpellingOfMonadic = HasStatement [] "⍳5" (expression (monadic one.Iota (nums 2 (pos 5 ∷ [])) (at 1)))

-- a function with an axis in brackets, and ⊖, which has the first axis
abbrev pub SpellingOfAxis : Type 0
SpellingOfAxis = HasStatement [] "⌽[2]⊖A" (expression (monadic (one.Reverse (axis.Numbered (pos 2))) (monadic (one.Reverse axis.First) (variable (codes "A") (at 6)) (at 5)) (at 1)))

-- / after an operand selects
abbrev pub SpellingOfCompress : Type 0
SpellingOfCompress = HasStatement [] "A/[1]B" (expression (dyadic (two.Compress (axis.Numbered (pos 1))) (variable (codes "A") (at 1)) (variable (codes "B") (at 6)) (at 2)))

-- / after a scalar function reduces, and has the place of the /
abbrev pub SpellingOfReduction : Type 0
SpellingOfReduction = HasStatement [] "+/×⌿A" (expression (reduction dya.Add axis.Last (reduction dya.Mul axis.First (variable (codes "A") (at 5)) (at 4)) (at 2)))

-- an outer product has the place of its ∘
abbrev pub SpellingOfOuter : Type 0
SpellingOfOuter = HasStatement [] "A∘.×B" (expression (outer_product dya.Mul (variable (codes "A") (at 1)) (variable (codes "B") (at 5)) (at 2)))

-- an inner product has the place of its .
abbrev pub SpellingOfInner : Type 0
SpellingOfInner = HasStatement [] "A+.×B" (expression (inner_product dya.Add dya.Mul (variable (codes "A") (at 1)) (variable (codes "B") (at 5)) (at 3)))

-- a subscript has the place of its [, and its positions may be left out
abbrev pub SpellingOfSubscript : Type 0
SpellingOfSubscript = HasStatement [] "A[1;;B]" (expression (subscript (variable (codes "A") (at 1)) (position (given (nums 3 (pos 1 ∷ []))) (position elided (position (given (variable (codes "B") (at 6))) no_position))) (at 2)))

-- an assignment has the place of its name
abbrev pub SpellingOfAssignment : Type 0
SpellingOfAssignment = HasStatement [] "A←B←1 2" (expression (assignment (codes "A") (assignment (codes "B") (nums 5 (pos 1 ∷ pos 2 ∷ [])) (at 3)) (at 1)))

-- an indexed assignment has the place of its [
abbrev pub SpellingOfIndexedAssignment : Type 0
SpellingOfIndexedAssignment = HasStatement [] "A[]←2" (expression (indexed_assignment (codes "A") (position elided no_position) (nums 5 (pos 2 ∷ [])) (at 2)))

-- an output has the place of its ⎕
abbrev pub SpellingOfOutput : Type 0
SpellingOfOutput = HasStatement [] "⎕←A" (expression (output (variable (codes "A") (at 3)) (at 1)))

-- a parenthesis stays in the tree
abbrev pub SpellingOfParenthesis : Type 0
SpellingOfParenthesis = HasStatement [] "(A)[1]" (expression (subscript (parenthesis (variable (codes "A") (at 2)) (at 1)) (position (given (nums 5 (pos 1 ∷ []))) no_position) (at 4)))

-- functions of no, one and two arguments are called with that many
abbrev pub SpellingOfCalls : Type 0
SpellingOfCalls = HasStatement functions "N G F A" (expression (call (codes "G") (given (call (codes "N") elided elided (at 1))) (given (call (codes "F") elided (given (variable (codes "A") (at 7))) (at 5))) (at 3)))

-- ---- Refusals ----

-- a script with these characters is refused first for this cause, at this line and column
abbrev pub IsRefusedAt : List ℕ → Cause → ℕ → ℕ → Type 0
IsRefusedAt cs c line column = IsFirst (IsRefusal (encode_utf8_all cs)) (refusal c line column)

-- a parenthesis that is not closed: one column past the last token
abbrev pub RefusalOfOpenParenthesis : Type 0
RefusalOfOpenParenthesis = IsRefusedAt (codes "A←(1+2") cause.Grammar 1 7

-- a function without its right argument: one column past the last token
abbrev pub RefusalOfMissingArgument : Type 0
RefusalOfMissingArgument = IsRefusedAt (codes "1++") cause.Grammar 1 4

-- a ] that closes nothing: at the ]
abbrev pub RefusalOfLoneBracket : Type 0
RefusalOfLoneBracket = IsRefusedAt (codes "A]") cause.Grammar 1 2

-- an axis of two numbers: at the literal
abbrev pub RefusalOfTwoAxes : Type 0
RefusalOfTwoAxes = IsRefusedAt (codes "⌽[1 2]3") cause.Grammar 1 3

-- )ERASE without a name: one column past the last token
abbrev pub RefusalOfEraseAlone : Type 0
RefusalOfEraseAlone = IsRefusedAt (codes ")ERASE") cause.Grammar 1 7

-- an origin that is neither 0 nor 1: at the number
abbrev pub RefusalOfOriginTwo : Type 0
RefusalOfOriginTwo = IsRefusedAt (codes ")ORIGIN 2") cause.Grammar 1 9

-- )ORIGIN without a number: one column past the last token
abbrev pub RefusalOfOriginAlone : Type 0
RefusalOfOriginAlone = IsRefusedAt (codes ")ORIGIN") cause.Grammar 1 8

-- a number with a point: at the word
abbrev pub RefusalOfPoint : Type 0
RefusalOfPoint = IsRefusedAt (codes "3.5") cause.Number 1 1

-- a text that is not closed: at its quote
abbrev pub RefusalOfOpenText : Type 0
RefusalOfOpenText = IsRefusedAt (codes "'AB") cause.OpenText 1 1

-- a character that is none of the language: at the character
abbrev pub RefusalOfCharacter : Type 0
RefusalOfCharacter = IsRefusedAt (codes "2@3") cause.Character 1 2

-- the characters are looked at first, then the grammar: the second line's number comes before the first line's ]
abbrev pub RefusalByPhase : Type 0
RefusalByPhase = IsRefusedAt (codes "A]" ++ (10 ∷ codes "3.5")) cause.Number 2 1

-- this many blanks
unfoldable pub blanks : ℕ → List ℕ
blanks zero = []
blanks (suc n) = 32 ∷ blanks n

-- a line of 1,001 characters: at column 1001
abbrev pub RefusalOfLongLine : Type 0
RefusalOfLongLine = IsRefusedAt (blanks 1001) cause.LineLong 1 1001

-- the bytes 32 2B FF in hexadecimal: after the two characters before the ill-formed byte
abbrev pub RefusalOfBytes : Type 0
RefusalOfBytes = IsFirst (IsRefusal (0x32 ∷ 0x2B ∷ 0xFF ∷ [])) (refusal cause.Utf8 1 3)

-- a script of 2^20 bytes and one more
abbrev pub RefusalOfLength : Type 0
RefusalOfLength = IsFirst (IsRefusal (blanks 1048577)) (refusal cause.TooLong 0 0)

-- a definition that no line closes: at its ∇
abbrev pub RefusalOfOpenDefinition : Type 0
RefusalOfOpenDefinition = IsRefusedAt (codes "∇F") cause.OpenDefinition 1 1

-- three names are a header, and a fourth is not: at the fourth
abbrev pub RefusalOfFourNames : Type 0
RefusalOfFourNames = IsRefusedAt (codes "∇F X Y Z" ++ (10 ∷ codes "∇")) cause.Header 1 8

-- a name that is the result and the argument: where it comes the second time
abbrev pub RefusalOfDoubleName : Type 0
RefusalOfDoubleName = IsRefusedAt (codes "∇Z←F Z" ++ (10 ∷ codes "∇")) cause.DoubleName 1 6

-- the same character so many times
abbrev pub many : ℕ → ℕ → List ℕ
many zero c = []
many (suc n) c = c ∷ many n c

-- 65 parentheses open at once: at the 65th
abbrev pub RefusalOfDepth : Type 0
RefusalOfDepth = IsRefusedAt (many 65 (code "(") ++ (code "1" ∷ many 65 (code ")"))) cause.Deep 1 65

-- a function's name is assigned to: at the name
abbrev pub RefusalOfFunctionAssigned : Type 0
RefusalOfFunctionAssigned = IsRefusedAt (codes "∇F" ++ (10 ∷ codes "∇") ++ (10 ∷ codes "F←3")) cause.NameClass 3 1

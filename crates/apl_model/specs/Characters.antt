-- The characters of the language, and which words they make.
use Rattle.std.specs.Prelude.{ℕ, ◌+◌, ◌*◌, ◌-◌, ◌==◌, Bool, true, false, ◌&&◌, ◌||◌, if◌then◌else◌, List, [], ◌∷◌, codes, slice_index, Option, None, ℤ, pos, neg_ℤ}
use Rattle.std.specs.Int.{is_in_range}
use Rattle.std.specs.List.{list_any}
use Rattle.apl_base.specs.Scalar.{in_range}
use Prim.Native.String.{String}

-- the character that a text of one character writes
abbrev pub code : String → ℕ
code s = slice_index (codes s) 0

-- whether a character is one of those that a text writes
abbrev pub is_one_of : String → ℕ → Bool
is_one_of s c = list_any (λ x. x == c) (codes s)

-- blank and tab
abbrev pub is_blank : ℕ → Bool
is_blank c = c == 32 || c == 9

abbrev pub is_digit : ℕ → Bool
is_digit c = is_in_range 48 57 c

-- A to Z, a to z and three more
abbrev pub is_letter : ℕ → Bool
is_letter c = is_in_range 65 90 c || is_in_range 97 122 c || is_one_of "_∆⍙" c

-- what a name goes on over
abbrev pub is_name_part : ℕ → Bool
is_name_part c = is_letter c || is_digit c

-- what a numeric word begins with, and what it goes on over
abbrev pub begins_number : ℕ → Bool
begins_number c = is_digit c || c == code "¯"

abbrev pub is_number_part : ℕ → Bool
is_number_part c = is_name_part c || is_one_of "¯." c

-- whether each character passes
abbrev pub all_pass : (ℕ → Bool) → List ℕ → Bool
all_pass p [] = true
all_pass p (c ∷ cs) = p c && all_pass p cs

-- a name: a letter, then letters and digits
abbrev pub is_name : List ℕ → Bool
is_name [] = false
is_name (c ∷ cs) = is_letter c && all_pass is_name_part cs

-- the glyphs that are tokens of one character
abbrev pub is_glyph : ℕ → Bool
is_glyph c = is_one_of "+-*|~!<=>,/\\.:;()[]×÷⌈⌊∧∨⍲⍱≤≥≠⍳⍴⌽⊖⍉↑↓⌿⍀∈⊤⊥⍋⍒∘←→⎕∇" c

-- the glyph that a character is read as: five have a second spelling
abbrev pub read_as : ℕ → ℕ
read_as c =
    if c == code "∼" then code "~" else (
    if c == code "∣" then code "|" else (
    if c == code "⋆" then code "*" else (
    if c == code "∊" then code "∈" else (
    if c == code "^" then code "∧" else c))))

-- the value of decimal digits that stand after digits of the value n
abbrev pub decimal_after : ℕ → List ℕ → ℕ
decimal_after n [] = n
decimal_after n (d ∷ ds) = decimal_after (n * 10 + (d - 48)) ds

-- one or more digits
abbrev pub are_digits : List ℕ → Bool
are_digits [] = false
are_digits (d ∷ ds) = is_digit d && all_pass is_digit ds

-- the number that a numeric word writes: ¯ or nothing, then one or more digits, and within -M..M
abbrev pub number_of : List ℕ → Option ℤ
number_of [] = None
number_of (c ∷ cs) =
    if c == code "¯"
    then (if are_digits cs then in_range (neg_ℤ (pos (decimal_after 0 cs))) else None)
    else (if are_digits (c ∷ cs) then in_range (pos (decimal_after 0 (c ∷ cs))) else None)

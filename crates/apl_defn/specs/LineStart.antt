-- How a line begins.
use Rattle.std.specs.Prelude.{ℕ, Bool, false, if◌then◌else◌, List, [], ◌∷◌, Option, Some, None}
use Rattle.apl_model.specs.Grammar.{arguments_of}
use Rattle.apl_model.specs.Script.{is_glyph_token}
use Rattle.apl_model.specs.declared.tokens.Heading.{Heading}
use Rattle.apl_model.specs.declared.tokens.Token.{Token}
use Rattle.apl_model.specs.declared.tokens.Word.TheVariants as word

-- whether tokens begin as a command does
abbrev pub begins_command : List Token → Bool
begins_command [] = false
begins_command (t ∷ ts) = is_glyph_token ")" t

-- a name of this class, where it heads no definition
abbrev pub unless_heading : Option ℕ → List ℕ → Option (List ℕ)
unless_heading None n = Some n
unless_heading (Some k) n = None

-- the name that a token is, where it heads no definition
abbrev pub free_name : List Heading → Token → Option (List ℕ)
free_name hs t = elim (t.word) [ word.Name n ↦ unless_heading (arguments_of hs n) n | _ ↦ None ]

-- the label of a line of a body: such a name directly before :
abbrev pub label_of : List Heading → List Token → Option (List ℕ)
label_of hs [] = None
label_of hs (t ∷ []) = None
label_of hs (t ∷ u ∷ ts) = if is_glyph_token ":" u then free_name hs t else None

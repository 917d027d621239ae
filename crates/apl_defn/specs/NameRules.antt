-- The refusals by names and by depth of one line or one definition, over given headings.
use Rattle.std.specs.Prelude.{◌≡◌, ℕ, List, ◌∷◌, ◌++◌, Some, true}
use Rattle.std.specs.List.{IsAmong}
use Rattle.std.specs.Option.{IsSome}
use Rattle.apl_base.specs.declared.faults.Cause.TheVariants as cause
use Rattle.apl_base.specs.declared.faults.Refusal.{Refusal}
use Rattle.apl_model.specs.Grammar.{arguments_of}
use Rattle.apl_model.specs.Refusal.{refusal, Occurrence, declared_in, erased_in, too_deep}
use Rattle.apl_model.specs.Script.{is_glyph_token}
use Rattle.apl_model.specs.declared.tokens.Heading.{Heading}
use Rattle.apl_model.specs.declared.tokens.Line.{Line}
use Rattle.apl_model.specs.declared.tokens.Token.{Token}
use Rattle.apl_model.specs.declared.tokens.Word.TheVariants as word

-- a name that is declared a second time in a definition with this first line and body
pub record IsRepeated (top : Line) (body : List Line) (r : Refusal) : Type 0 where
  pub before : List Occurrence
  pub after : List Occurrence
  pub here : Occurrence
  pub earlier : Occurrence
  pub split : declared_in top body ≡ before ++ (here ∷ after)
  pub among : IsAmong before earlier
  pub same : earlier.name ≡ here.name
  pub is : r ≡ refusal cause.DoubleName here.line here.column

-- the name heads a definition
abbrev pub IsHeading : List Heading → List ℕ → Type 0
IsHeading hs n = IsSome (arguments_of hs n)

-- a heading name directly before ←
pub record IsAssigned (hs : List Heading) (l : Line) (r : Refusal) : Type 0 where
  pub before : List Token
  pub after : List Token
  pub name_token : Token
  pub arrow : Token
  pub name : List ℕ
  pub split : l.tokens ≡ before ++ (name_token ∷ arrow ∷ after)
  pub named : name_token.word ≡ word.Name name
  pub assigns : is_glyph_token "←" arrow ≡ true
  pub heads : IsHeading hs name
  pub is : r ≡ refusal cause.NameClass l.number name_token.from

-- a heading name that )ERASE erases
pub record IsErased (hs : List Heading) (l : Line) (r : Refusal) : Type 0 where
  pub here : Occurrence
  pub among : IsAmong (erased_in l.number l.tokens) here
  pub heads : IsHeading hs here.name
  pub is : r ≡ refusal cause.NameClass here.line here.column

-- a heading name, other than its own, that a definition of the function `own` declares
pub record IsDeclared (hs : List Heading) (own : List ℕ) (top : Line) (body : List Line) (r : Refusal) : Type 0 where
  pub here : Occurrence
  pub among : IsAmong (declared_in top body) here
  pub other : ¬ (here.name ≡ own)
  pub heads : IsHeading hs here.name
  pub is : r ≡ refusal cause.NameClass here.line here.column

-- the 65th parenthesis or bracket open at once
pub record IsTooDeep (l : Line) (r : Refusal) : Type 0 where
  pub token : Token
  pub opens : too_deep 0 l.tokens ≡ Some token
  pub is : r ≡ refusal cause.Deep l.number token.from

-- Names at their places, as the reader holds them, and what is refused at them.
use Rattle.std.specs.Prelude.{◌≡◌, ℕ, List, [], ◌∷◌, Option, Some, None, true}
use Rattle.std.specs.List.{IsAmong}
use Rattle.apl_base.specs.declared.faults.Cause.TheVariants as cause
use Rattle.apl_base.specs.declared.faults.Refusal.{Refusal}
use Rattle.apl_model.specs.Refusal as model
use Rattle.apl_model.specs.Refusal.{refusal}
use Rattle.apl_model.specs.Script.{is_glyph_token}
use Rattle.apl_model.specs.declared.tokens.Heading.{Heading}
use Rattle.apl_model.specs.declared.tokens.Token.{Token}
use Rattle.apl_model.specs.declared.tokens.Word.TheVariants as word
use Rattle.apl_defn.specs.NameRules.{IsHeading}
use Rattle.apl_defn.specs.declared.occurrences.Occurrence.{Occurrence}

-- a name at its place, or none
abbrev pub at_most_one : Option Occurrence → List model.Occurrence
at_most_one None = []
at_most_one (Some o) = record { name = o.name.now; line = o.line; column = o.column } ∷ []

-- one of these places has this name
pub record IsNamed (os : List model.Occurrence) (n : List ℕ) : Type 0 where
  pub place : model.Occurrence
  pub among : IsAmong os place
  pub same : place.name ≡ n

-- a name among these places that is of this kind, where a variable is wanted
pub record IsWrong (Kind : List ℕ → Type 0) (os : List model.Occurrence) (r : Refusal) : Type 0 where
  pub here : model.Occurrence
  pub among : IsAmong os here
  pub wrong : Kind here.name
  pub is : r ≡ refusal cause.NameClass here.line here.column

-- a name among these places that is one of the names met before
pub record IsMetAgain (names : List (List ℕ)) (os : List model.Occurrence) (r : Refusal) : Type 0 where
  pub here : model.Occurrence
  pub among : IsAmong os here
  pub met : IsAmong names here.name
  pub is : r ≡ refusal cause.DoubleName here.line here.column

-- tokens that begin with a heading name directly before ←
pub record IsAssignedFirst (hs : List Heading) (line : ℕ) (ts : List Token) (r : Refusal) : Type 0 where
  pub after : List Token
  pub name_token : Token
  pub arrow : Token
  pub name : List ℕ
  pub split : ts ≡ name_token ∷ arrow ∷ after
  pub named : name_token.word ≡ word.Name name
  pub assigns : is_glyph_token "←" arrow ≡ true
  pub heads : IsHeading hs name
  pub is : r ≡ refusal cause.NameClass line name_token.from

-- Which tokens a line may be given with.
use Rattle.std.specs.Prelude.{◌≡◌, ℕ, List, ◌∷◌}
use Rattle.apl_model.specs.Spelling.{glyph}
use Rattle.apl_model.specs.Tokens.{IsRead}
use Rattle.apl_model.specs.declared.tokens.Token.{Token}
use Rattle.apl_model.specs.declared.tokens.Word.TheVariants as word

-- the tokens of a line of this text, or those of them that follow a label
pub data AreTokensOf (text : List ℕ) (ts : List Token) : Type 0 where
  all_of : IsRead text ts → AreTokensOf text ts
  after_label : (name colon : Token) (label : List ℕ) → name.word ≡ word.Name label → colon.word ≡ glyph ":" →
      IsRead text (name ∷ colon ∷ ts) → AreTokensOf text ts

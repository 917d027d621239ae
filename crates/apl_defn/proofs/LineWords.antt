-- The words of a line's tokens.
use Rattle.std.proofs.Common.{◌≡◌, ℕ, ◌==◌, Bool, true, false, List, sym, ap, subst}
use Rattle.std.proofs.lemmas.Bool.{eqb-true}
use Rattle.std.proofs.lemmas.Str.{scalars-chars}
use Rattle.std.specs.Str.{chars, IsUtf8}
use Prim.Native.String.{String}
use lib.Utf8.{scalars}
use Rattle.apl_model.specs.Characters.{code}
use Rattle.apl_model.specs.Script.{is_glyph_token}
use Rattle.apl_model.specs.Spelling.{glyph}
use Rattle.apl_model.specs.declared.tokens.Line.{Line}
use Rattle.apl_model.specs.declared.tokens.Token.{Token}
use Rattle.apl_model.specs.declared.tokens.Word.{Word}
use Rattle.apl_model.specs.declared.tokens.Word.TheVariants as word
use Rattle.apl_tree.proofs.SortFacts.{AreWords}
use Rattle.apl_tree.proofs.Words.{given_words, are_scalars}
use Rattle.apl_tree.specs.Condition.{all_of}
use Rattle.apl_defn.specs.Reading.{IsReadLine}

-- the words of a line that is read are lawful. The bytes are those of its text
pub line_words : (l : Line) (bytes : List ℕ) → IsUtf8 bytes → chars bytes ≡ l.text → IsReadLine l → AreWords l.tokens
line_words l bytes u e r =
    let s : scalars l.text ≡ true = subst (λ cs. scalars cs ≡ true) e (scalars-chars bytes u) in
    given_words l.text l.tokens (are_scalars l.text s) r.short (all_of r.tokens)

-- the word of a token that is this glyph
pub glyph_is : (g : String) (t : Token) → is_glyph_token g t ≡ true → glyph g ≡ t.word
glyph_is g t e = by t.word e
  where
    clash : {A : Type 0} → false ≡ true → A
    clash e = cc

    by : (w : Word) → (let b : Bool = elim w [ word.Glyph c ↦ c == code g | _ ↦ false ] in b ≡ true) → glyph g ≡ w
    by (word.Numbers zs) h = clash h
    by (word.Chars zs) h = clash h
    by (word.Name n) h = clash h
    by (word.Glyph c) h = ap word.Glyph (sym (eqb-true c (code g) h))

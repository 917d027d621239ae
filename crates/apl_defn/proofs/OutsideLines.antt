-- Where lines outside definitions stop that don't begin with ).
use Rattle.std.proofs.Common.{◌≡◌, ℕ, ◌==◌, true, false, List, [], ◌∷◌, ◌++◌, inl, inr, refl, sym, subst, ◌∙◌}
use Rattle.apl_model.specs.Characters.{code}
use Rattle.apl_model.specs.Refusal.{IsBeginning, StopsAt, at_token, past_the_last, by_itself, outside, IsLawful}
use Rattle.apl_model.specs.Spelling.{glyph, Spell, command_spelling}
use Rattle.apl_model.specs.declared.scripts.Command.{Command}
use Rattle.apl_model.specs.declared.scripts.Command.TheVariants as command
use Rattle.apl_model.specs.declared.tokens.Heading.{Heading}
use Rattle.apl_model.specs.declared.tokens.Token.{Token}
use Rattle.apl_model.specs.declared.tokens.Word.{Word}
use Rattle.apl_model.specs.declared.tokens.Word.TheVariants as word
use Rattle.apl_defn.specs.LineStart.{begins_command}

both : true ≡ false → ⊥
both e = cc

-- the test of a ) finds it
is_close : (w : Word) → glyph ")" ≡ w → (elim w [ word.Glyph c ↦ c == code ")" | _ ↦ false ]) ≡ true
is_close w e = subst (λ v. (elim v [ word.Glyph c ↦ c == code ")" | _ ↦ false ]) ≡ true) e refl

-- what follows doesn't change how a line begins
same_start : (before : List Token) (v : Token) (after rest : List Token) → begins_command ((before ++ v ∷ []) ++ rest) ≡ begins_command (before ++ v ∷ after)
same_start [] v after rest = refl
same_start (t ∷ ts) v after rest = refl

module _ (hs : List Heading) (n : ℕ) where
  -- a command begins with )
  command_start : (c : Command) (t : Token) (ts : List Token) → Spell n (command_spelling c) (t ∷ ts) → begins_command (t ∷ ts) ≡ true
  command_start command.Vars t ts sp = is_close t.word sp.0
  command_start command.Fns t ts sp = is_close t.word sp.0
  command_start (command.Erase ns) t ts sp = is_close t.word sp.0
  command_start (command.Origin o) t ts sp = is_close t.word sp.0

  -- and has tokens
  command_tokens : (c : Command) → Spell n (command_spelling c) [] → ⊥
  command_tokens command.Vars sp = sp
  command_tokens command.Fns sp = sp
  command_tokens (command.Erase ns) sp = sp
  command_tokens (command.Origin o) sp = sp

  -- so a line that begins otherwise is a statement
  statement_lawful : (ts : List Token) → begins_command ts ≡ false → IsLawful outside hs n ts → IsLawful by_itself hs n ts
  statement_lawful ts h (inl s) = s
  statement_lawful [] h (inr c) = absurd (command_tokens c.0 c.2)
  statement_lawful (t ∷ ts) h (inr c) = absurd (both (sym (command_start c.0 t ts c.2) ∙ h))

  -- the beginning of a statement begins a line outside definitions
  statement_begins : (ts : List Token) → IsBeginning by_itself hs n ts → IsBeginning outside hs n ts
  statement_begins ts b = record { text = b.text; rest = b.rest; read = b.read; lawful = inl b.lawful }

  -- and the beginning of such a line that doesn't begin with ) begins a statement
  begins_statement : (before : List Token) (v : Token) (after : List Token) → begins_command (before ++ v ∷ after) ≡ false →
      IsBeginning outside hs n (before ++ v ∷ []) → IsBeginning by_itself hs n (before ++ v ∷ [])
  begins_statement before v after h b = record {
    text = b.text;
    rest = b.rest;
    read = b.read;
    lawful = statement_lawful ((before ++ v ∷ []) ++ b.rest) (same_start before v after b.rest ∙ h) b.lawful;
  }

  -- such a line stops where the statement does
  pub outside_stops : (ts : List Token) (column : ℕ) → begins_command ts ≡ false → StopsAt by_itself hs n ts column → StopsAt outside hs n ts column
  outside_stops ts column h (at_token before v after g b never at) =
      at_token before v after g (statement_begins before b) (λ c. never (begins_statement before v after (subst (λ us. begins_command us ≡ false) g h) c)) at
  outside_stops ts column h (past_the_last b never at) =
      past_the_last (statement_begins ts b) (λ c. never (statement_lawful ts h c)) at

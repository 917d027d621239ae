-- The example of a line that is too deep.
use Rattle.std.proofs.Common.{◌≡◌, ℕ, zero, suc, ◌+◌, ◌<◌, List, [], ◌∷◌, ◌++◌, Some, inl, refl, sym, ap, subst, ◌∙◌, append_assoc, append-nil, ◌*◌, arith, rules, pos}
use Rattle.std.specs.List.{IsAmong}
use Rattle.std.specs.Char.{encode_utf8}
use lib.Dec.{lit≤}
use Rattle.apl_base.specs.declared.faults.Cause.TheVariants as cause
use Rattle.apl_model.proofs.Accepted.{among_here, no_stop}
use Rattle.apl_model.proofs.GrammarRows.{line_1, no_faults_at, sound_by_test}
use Rattle.apl_model.proofs.Rows.{as_first, first_alone}
use Rattle.apl_model.specs.Examples as example
use Rattle.apl_model.specs.Characters.{code}
use Rattle.apl_model.proofs.DefinitionRows.{definition_row}
use Rattle.apl_model.specs.Grammar.{IsExpression}
use Rattle.apl_model.specs.Refusal.{refusal, outside, IsLawful, too_deep, opened, IsLineRefusal, deep, IsFirst}
use Rattle.apl_model.specs.Script.{alone, parts}
use Rattle.apl_model.specs.Spelling.{Mark, some, glyph, spelling, Spell}
use Rattle.apl_model.specs.Tokens.{pieces, tokens, AreSound}
use Rattle.apl_model.specs.Tree.{Tree, parenthesis, expression}
use Rattle.apl_model.specs.declared.tokens.Line.{Line}
use Rattle.apl_model.specs.declared.tokens.Token.{Token}

-- so many parentheses round 1, from column k on
abbrev nest : ℕ → ℕ → Tree
nest zero k = example.nums k (pos 1 ∷ [])
nest (suc n) k = parenthesis (nest n (k + 1)) (example.at k)

abbrev nested : ℕ → ℕ → List Token → List Token
nested zero k rest = example.numbers k (suc k) (pos 1 ∷ []) ∷ rest
nested (suc n) k rest = example.glyph k "(" ∷ nested n (k + 1) (example.glyph (k + 2 * (n + 1)) ")" ∷ rest)

spells : (n k : ℕ) (ms : List Mark) (rest : List Token) → Spell 1 ms rest → Spell 1 (spelling (nest n k) ++ ms) (nested n k rest)
spells zero k ms rest s = ((refl, refl), s)
spells (suc n) k ms rest s = (
  (refl, refl),
  subst (λ l. Spell 1 l (nested n (k + 1) (example.glyph (k + 2 * (n + 1)) ")" ∷ rest))) (sym (append_assoc (spelling (nest n (k + 1))) (some (glyph ")") ∷ []) ms))
      (spells n (k + 1) (some (glyph ")") ∷ ms) (example.glyph (k + 2 * (n + 1)) ")" ∷ rest) (refl, s)),
)

one_lawful : IsExpression [] (example.nums 66 (pos 1 ∷ []))
one_lawful = search rules

abbrev deep_text : List ℕ
deep_text = example.many 65 (code "(") ++ (code "1" ∷ example.many 65 (code ")"))

deep_tokens : tokens deep_text ≡ nested 65 1 []
deep_tokens = refl

deep_lawful : IsLawful outside [] 1 (tokens deep_text)
deep_lawful = inl (
  expression (nest 65 1),
  one_lawful,
  subst (λ ts. Spell 1 (spelling (nest 65 1)) ts) (sym deep_tokens)
      (subst (λ l. Spell 1 l (nested 65 1 [])) (append-nil (spelling (nest 65 1))) (spells 65 1 [] [] tt)),
)

deep_sound : AreSound (pieces deep_text)
deep_sound = sound_by_test (pieces deep_text) refl

deep_at : too_deep 0 (tokens deep_text) ≡ Some (example.glyph 65 "(")
deep_at = refl

some_same : (t u : Token) → Some t ≡ Some u → t ≡ u
some_same t u e = cc

deep_first : (ks : List Line) → ks ≡ line_1 deep_text ∷ [] → IsFirst (IsLineRefusal ks) (refusal cause.Deep 1 65)
deep_first ks e =
    let only : parts ks ≡ alone (line_1 deep_text) ∷ [] = ap parts e in
    first_alone ks (line_1 deep_text) only (refusal cause.Deep 1 65)
    (deep (opened (line_1 deep_text) (example.glyph 65 "(") (inl (subst (λ v. IsAmong v (alone (line_1 deep_text))) (sym only) (among_here [] (alone (line_1 deep_text)) (alone (line_1 deep_text)) refl))) deep_at refl))
    refl
    (λ t f. as_first (refusal cause.Deep 1 65) (refusal cause.Deep 1 t.from) (ap (λ (v : Token). refusal cause.Deep 1 v.from) (sym (some_same (example.glyph 65 "(") t (sym deep_at ∙ f)))))
    (λ k x. absurd (no_stop outside [] 1 deep_text (tokens deep_text) (record { sound = deep_sound; same = refl }) k deep_lawful x))

pub deep_row : example.RefusalOfDepth
unfolding encode_utf8
deep_row = definition_row deep_text (line_1 deep_text ∷ []) (refusal cause.Deep 1 65) refl (lit≤ tt) refl
    ((λ h. let k : 1000 < 131 = h in omega arith, no_faults_at (λ _. ⊥) 1 (pieces deep_text) refl), tt) deep_first

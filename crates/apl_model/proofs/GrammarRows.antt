-- The examples of lines without a tree.
use Rattle.std.proofs.Common.{◌≡◌, ℕ, ◌≤◌, ◌^◌, Bool, true, false, List, [], ◌∷◌, ◌++◌, length, Option, None, Some, ◌⊎◌, inl, inr, refl, sym, ap, ◌∙◌, arith, rules, ℤ, pos, codes}
use Rattle.std.specs.Prelude.{nat_eq}
use Rattle.std.specs.Option.{option_and_then}
use Rattle.std.specs.List.{AllByRecursion}
use Rattle.std.specs.Char.{encode_utf8}
use Rattle.std.specs.Str.{encode_utf8_all, all_scalars}
use lib.Dec.{lit≤}
use lib.Pointwise.{pointwise, bytes_decides}
use Rattle.apl_base.specs.declared.rows.Dya.TheVariants as dya
use Rattle.apl_base.specs.declared.rows.Mon.TheVariants as mon
use Rattle.apl_base.specs.declared.faults.Cause.TheVariants as cause
use Rattle.apl_base.specs.declared.faults.Refusal.{Refusal}
use Rattle.apl_model.proofs.Complete.{read_complete}
use Rattle.apl_model.proofs.Decide.{false_true}
use Rattle.apl_model.proofs.Machine.{State, run, step, start, finished, read}
use Rattle.apl_model.proofs.Rows.{AtFault, lines_in, grammar_row}
use Rattle.apl_model.proofs.Unique.{none_clash, run_none}
use Rattle.apl_model.specs.Examples as example
use Rattle.apl_model.specs.Grammar.{IsStatement}
use Rattle.apl_model.specs.Refusal.{refusal, outside, IsLawful, IsBeginning, StopsAt, at_token, past_the_last, too_deep}
use Rattle.apl_model.specs.Script.{closes, alone, parts}
use Rattle.apl_model.specs.Spelling.{glyph, Spell, statement_spelling, command_spelling}
use Rattle.apl_model.specs.Tokens.{Piece, Found, fault, pieces, tokens, IsSound, AreSound}
use Rattle.apl_model.specs.Tokens as found
use Rattle.apl_model.specs.Tree.{variable, parenthesis, monadic, dyadic, assignment, Statement, expression}
use Rattle.apl_model.specs.declared.functions.Axis.TheVariants as axis
use Rattle.apl_model.specs.declared.functions.DyaFn.TheVariants as two
use Rattle.apl_model.specs.declared.functions.MonFn.TheVariants as one
use Rattle.apl_model.specs.declared.scripts.Command.{Command}
use Rattle.apl_model.specs.declared.scripts.Command.TheVariants as command
use Rattle.apl_model.specs.declared.tokens.Heading.{Heading}
use Rattle.apl_model.specs.declared.tokens.Line.{Line}
use Rattle.apl_model.specs.declared.tokens.Token.{Token}
use Rattle.apl_model.specs.declared.tokens.Word.TheVariants as word

-- ---- Tests ----

abbrev pub is_fault : Found → Bool
is_fault (fault c) = true
is_fault _ = false

abbrev pub no_faults : List Piece → Bool
no_faults [] = true
no_faults (p ∷ ps) = elim (is_fault p.found) [ true ↦ false | false ↦ no_faults ps ]

no_fault_at : (Q : Refusal → Type 0) (n : ℕ) (p : Piece) → is_fault p.found ≡ false → AtFault Q n p
no_fault_at Q n p e = go p.found e
  where
    go : (v : Found) → is_fault v ≡ false → (elim v as (λ _. Type 0) [ fault c ↦ Q (refusal c n p.from) | _ ↦ Unit {0} ])
    go (fault c) e = absurd (false_true (sym e))
    go (found.number z) e = tt
    go (found.text cs) e = tt
    go (found.name m) e = tt
    go (found.glyph g) e = tt

pub no_faults_at : (Q : Refusal → Type 0) (n : ℕ) (ps : List Piece) → no_faults ps ≡ true → AllByRecursion (AtFault Q n) ps
no_faults_at Q n [] e = tt
no_faults_at Q n (p ∷ ps) e = (elim (is_fault p.found) as (λ b. is_fault p.found ≡ b → (elim b [ true ↦ false | false ↦ no_faults ps ]) ≡ true → AtFault Q n p × AllByRecursion (AtFault Q n) ps) [
  | true ↦ λ f e. absurd (false_true e)
  | false ↦ λ f e. (no_fault_at Q n p f, no_faults_at Q n ps e)
]) refl e

pub sound_by_test : (ps : List Piece) → no_faults ps ≡ true → AreSound ps
sound_by_test [] e = tt
sound_by_test (p ∷ ps) e = (elim (is_fault p.found) as (λ b. is_fault p.found ≡ b → (elim b [ true ↦ false | false ↦ no_faults ps ]) ≡ true → IsSound p × AreSound ps) [
  | true ↦ λ f e. absurd (false_true e)
  | false ↦ λ f e. (sound_piece p.found f, sound_by_test ps e)
]) refl e
  where
    sound_piece : (v : Found) → is_fault v ≡ false → (elim v as (λ _. Type 0) [ fault c ↦ ⊥ | _ ↦ Unit {0} ])
    sound_piece (fault c) e = absurd (false_true (sym e))
    sound_piece (found.number z) e = tt
    sound_piece (found.text cs) e = tt
    sound_piece (found.name m) e = tt
    sound_piece (found.glyph g) e = tt

abbrev pub line_1 : List ℕ → Line
line_1 cs = record { number = 1; text = cs; tokens = tokens cs }

abbrev pub line_2 : List ℕ → Line
line_2 cs = record { number = 2; text = cs; tokens = tokens cs }

pub one_line_row : (cs : List ℕ) (k : ℕ) → all_scalars cs ≡ true → length (encode_utf8_all cs) ≤ 2 ^ 20 → lines_in cs ≡ line_1 cs ∷ [] →
    parts (line_1 cs ∷ []) ≡ alone (line_1 cs) ∷ [] → length cs ≤ 1000 → no_faults (pieces cs) ≡ true → closes (tokens cs) ≡ false →
    too_deep 0 (tokens cs) ≡ None → StopsAt outside [] 1 (tokens cs) k → example.IsRefusedAt cs cause.Grammar 1 k
one_line_row cs k h s e p short sound closed shallow stops =
    grammar_row cs (line_1 cs) k h s e p short (no_faults_at (λ _. ⊥) 1 (pieces cs) sound) refl closed shallow stops

-- ---- What begins no line ----

run_append : (hs : List Heading) (n : ℕ) (x : Option State) (p q : List Token) → run hs n x (p ++ q) ≡ run hs n (run hs n x p) q
run_append hs n x [] q = refl
run_append hs n x (t ∷ p) q = run_append hs n (option_and_then (λ y. step hs n y t) x) p q

first_paren : (c : Command) (t : Token) (ts : List Token) → Spell 1 (command_spelling c) (t ∷ ts) → glyph ")" ≡ t.word
first_paren command.Vars t ts s = s.0
first_paren command.Fns t ts s = s.0
first_paren (command.Erase ns) t ts s = s.0
first_paren (command.Origin o) t ts s = s.0

pub not_lawful : (t : Token) (ts : List Token) → read [] 1 (t ∷ ts) ≡ None → (glyph ")" ≡ t.word → ⊥) → ¬ (IsLawful outside [] 1 (t ∷ ts))
not_lawful t ts e n (inl (s, h, a)) = none_clash (sym (read_complete [] 1 s h (t ∷ ts) a) ∙ e)
not_lawful t ts e n (inr (c, h, a)) = n (first_paren c t ts a)

pub not_beginning : (t : Token) (ts : List Token) → run [] 1 (Some start) (t ∷ ts) ≡ None → (glyph ")" ≡ t.word → ⊥) → ¬ (IsBeginning outside [] 1 (t ∷ ts))
not_beginning t ts e n b = not_lawful t (ts ++ b.rest)
    (ap (option_and_then finished) (run_append [] 1 (Some start) (t ∷ ts) b.rest ∙ ap (λ v. run [] 1 v b.rest) e ∙ run_none [] 1 b.rest)) n b.lawful

pub words_differ : (a b : List ℕ) → pointwise nat_eq a b ≡ false → word.Name a ≡ word.Name b → ⊥
words_differ a b e f = let g : a ≡ b = cc in false_true (sym e ∙ (bytes_decides a b).1 g)

-- ---- The rows ----

pub open_parenthesis : example.RefusalOfOpenParenthesis
unfolding encode_utf8
open_parenthesis = one_line_row (codes "A←(1+2") 7 refl (lit≤ tt) refl refl (lit≤ tt) refl refl refl
    (past_the_last (record {
      text = codes "A←(1+2)";
      rest = example.glyph 7 ")" ∷ [];
      read = record { sound = search rules; same = refl };
      lawful = inl (expression (assignment (codes "A") (parenthesis (dyadic (two.Scalar dya.Add) (example.nums 4 (pos 1 ∷ [])) (example.nums 6 (pos 2 ∷ [])) (example.at 5)) (example.at 3)) (example.at 1)), search rules, search rules);
    })
    (not_lawful _ _ refl (λ e. cc)) refl)

pub missing_argument : example.RefusalOfMissingArgument
unfolding encode_utf8
missing_argument = one_line_row (codes "1++") 4 refl (lit≤ tt) refl refl (lit≤ tt) refl refl refl
    (past_the_last (record {
      text = codes "1++1";
      rest = example.numbers 4 5 (pos 1 ∷ []) ∷ [];
      read = record { sound = search rules; same = refl };
      lawful = inl (expression (dyadic (two.Scalar dya.Add) (example.nums 1 (pos 1 ∷ [])) (monadic (one.Scalar mon.Plus) (example.nums 4 (pos 1 ∷ [])) (example.at 3)) (example.at 2)), search rules, search rules);
    })
    (not_lawful _ _ refl (λ e. cc)) refl)

pub lone_bracket : example.RefusalOfLoneBracket
unfolding encode_utf8
lone_bracket = one_line_row (codes "A]") 2 refl (lit≤ tt) refl refl (lit≤ tt) refl refl refl
    (at_token (example.named 1 2 "A" ∷ []) (example.glyph 2 "]") [] refl
    (record {
      text = codes "A";
      rest = [];
      read = record { sound = search rules; same = refl };
      lawful = inl (expression (variable (codes "A") (example.at 1)), search rules, search rules);
    })
    (not_beginning _ _ refl (λ e. cc)) refl)

pub two_axes : example.RefusalOfTwoAxes
unfolding encode_utf8
two_axes = one_line_row (codes "⌽[1 2]3") 3 refl (lit≤ tt) refl refl (lit≤ tt) refl refl refl
    (at_token (example.glyph 1 "⌽" ∷ example.glyph 2 "[" ∷ []) (example.numbers 3 6 (pos 1 ∷ pos 2 ∷ []))
    (example.glyph 6 "]" ∷ example.numbers 7 8 (pos 3 ∷ []) ∷ []) refl
    (record {
      text = codes "⌽[1]3";
      rest = example.numbers 3 4 (pos 1 ∷ []) ∷ example.glyph 4 "]" ∷ example.numbers 5 6 (pos 3 ∷ []) ∷ [];
      read = record { sound = search rules; same = refl };
      lawful = inl (expression (monadic (one.Reverse (axis.Numbered (pos 1))) (example.nums 5 (pos 3 ∷ [])) (example.at 1)), search rules, search rules);
    })
    (not_beginning _ _ refl (λ e. cc)) refl)

-- a line that begins with ) is no statement
closed_statement : (ts : List Token) (s : Statement) → IsStatement [] s → Spell 1 (statement_spelling s) (example.glyph 1 ")" ∷ ts) → ⊥
closed_statement ts s h a = none_clash (sym (read_complete [] 1 s h (example.glyph 1 ")" ∷ ts) a) ∙ ap (option_and_then finished) (run_none [] 1 ts))

erase_alone_no : ¬ (IsLawful outside [] 1 (example.glyph 1 ")" ∷ example.named 2 7 "ERASE" ∷ []))
erase_alone_no (inl (s, h, a)) = closed_statement _ s h a
erase_alone_no (inr (command.Vars, h, a)) = words_differ (codes "VARS") (codes "ERASE") refl a.1.0
erase_alone_no (inr (command.Fns, h, a)) = words_differ (codes "FNS") (codes "ERASE") refl a.1.0
erase_alone_no (inr (command.Erase [], h, a)) = let b = h.0 in omega arith
erase_alone_no (inr (command.Erase (n ∷ ns), h, a)) = a.1.1
erase_alone_no (inr (command.Origin o, h, a)) = words_differ (codes "ORIGIN") (codes "ERASE") refl a.1.0

pub erase_alone : example.RefusalOfEraseAlone
unfolding encode_utf8
erase_alone = one_line_row (codes ")ERASE") 7 refl (lit≤ tt) refl refl (lit≤ tt) refl refl refl
    (past_the_last (record {
      text = codes ")ERASE A";
      rest = example.named 8 9 "A" ∷ [];
      read = record { sound = search rules; same = refl };
      lawful = inr (command.Erase (codes "A" ∷ []), search rules, search rules);
    })
    erase_alone_no refl)

origin_alone_no : ¬ (IsLawful outside [] 1 (example.glyph 1 ")" ∷ example.named 2 8 "ORIGIN" ∷ []))
origin_alone_no (inl (s, h, a)) = closed_statement _ s h a
origin_alone_no (inr (command.Vars, h, a)) = words_differ (codes "VARS") (codes "ORIGIN") refl a.1.0
origin_alone_no (inr (command.Fns, h, a)) = words_differ (codes "FNS") (codes "ORIGIN") refl a.1.0
origin_alone_no (inr (command.Erase ns, h, a)) = words_differ (codes "ERASE") (codes "ORIGIN") refl a.1.0
origin_alone_no (inr (command.Origin o, h, a)) = a.1.1

pub origin_alone : example.RefusalOfOriginAlone
unfolding encode_utf8
origin_alone = one_line_row (codes ")ORIGIN") 8 refl (lit≤ tt) refl refl (lit≤ tt) refl refl refl
    (past_the_last (record {
      text = codes ")ORIGIN 1";
      rest = example.numbers 9 10 (pos 1 ∷ []) ∷ [];
      read = record { sound = search rules; same = refl };
      lawful = inr (command.Origin (pos 1), inr refl, search rules);
    })
    origin_alone_no refl)

two_is_no_origin : (o : ℤ) → (o ≡ pos 0) ⊎ (o ≡ pos 1) → word.Numbers (o ∷ []) ≡ word.Numbers (pos 2 ∷ []) → ⊥
two_is_no_origin o (inl e) f = let g : ◌≡◌ {A = ℕ} 0 2 = cc in omega arith
two_is_no_origin o (inr e) f = let g : ◌≡◌ {A = ℕ} 1 2 = cc in omega arith

origin_two_no : ¬ (IsBeginning outside [] 1 (example.glyph 1 ")" ∷ example.named 2 8 "ORIGIN" ∷ example.numbers 9 10 (pos 2 ∷ []) ∷ []))
origin_two_no b = no b.rest b.lawful
  where
    no : (rest : List Token) → ¬ (IsLawful outside [] 1 (example.glyph 1 ")" ∷ example.named 2 8 "ORIGIN" ∷ example.numbers 9 10 (pos 2 ∷ []) ∷ rest))
    no rest (inl (s, h, a)) = closed_statement _ s h a
    no rest (inr (command.Vars, h, a)) = words_differ (codes "VARS") (codes "ORIGIN") refl a.1.0
    no rest (inr (command.Fns, h, a)) = words_differ (codes "FNS") (codes "ORIGIN") refl a.1.0
    no rest (inr (command.Erase ns, h, a)) = words_differ (codes "ERASE") (codes "ORIGIN") refl a.1.0
    no rest (inr (command.Origin o, h, a)) = two_is_no_origin o h a.1.1.0

pub origin_two : example.RefusalOfOriginTwo
unfolding encode_utf8
origin_two = one_line_row (codes ")ORIGIN 2") 9 refl (lit≤ tt) refl refl (lit≤ tt) refl refl refl
    (at_token (example.glyph 1 ")" ∷ example.named 2 8 "ORIGIN" ∷ []) (example.numbers 9 10 (pos 2 ∷ [])) [] refl
    (record {
      text = codes ")ORIGIN 1";
      rest = example.numbers 9 10 (pos 1 ∷ []) ∷ [];
      read = record { sound = search rules; same = refl };
      lawful = inr (command.Origin (pos 1), inr refl, search rules);
    })
    origin_two_no refl)

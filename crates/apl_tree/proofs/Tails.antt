-- Each state of the reader has a text that completes the statement.
use Rattle.std.proofs.Common.{◌≡◌, ℕ, ◌+◌, List, [], ◌∷◌, Option, None, Some, ◌⊎◌, inl, inr, refl, sym, ap, subst, ◌∙◌, arith, pos}
use Rattle.std.specs.Option.{option_and_then}
use Rattle.apl_base.specs.declared.cells.Kind.TheVariants as kind
use Rattle.apl_model.proofs.Machine.{literal, sort, Wait, for_dyadic, for_outer, for_inner, for_output, filled, Stack, bottom, waiting, in_parenthesis, in_subscript, Along, reduces, along_axis, Status, first, must, may, operand, glyph_first, glyph_after, axis_or_none, axis_opened, axis_given, after_jot, after_jot_dot, after_dot, after_quad, State, state, awaits, then_position, taken, run, finished}
use Rattle.apl_model.specs.Characters.{code}
use Rattle.apl_model.specs.Grammar.{IsLiteral}
use Rattle.apl_model.specs.Spelling.{glyph}
use Rattle.apl_model.specs.Tokens.{Piece, pieces_after, tokens_of_pieces, AreSound}
use Rattle.apl_model.specs.Tokens as tokens
use Rattle.apl_model.specs.Tree.{Tree, constant, parenthesis, subscript, given, Statement, nothing, branch, expression}
use Rattle.apl_base.specs.declared.rows.Dya.TheVariants as dya
use Rattle.apl_model.specs.declared.functions.Axis.TheVariants as axis
use Rattle.apl_model.specs.declared.functions.DyaFn.TheVariants as two
use Rattle.apl_model.specs.declared.tokens.Heading.{Heading}
use Rattle.apl_model.specs.declared.tokens.Token.{Token}
use Rattle.apl_model.specs.declared.tokens.Word.TheVariants as word
use Rattle.apl_model.specs.declared.trees.Literal.{Literal}
use Rattle.apl_tree.proofs.SortFacts.{AreWords}
use lib.Signed.{le_z_yes}

-- the tokens of a text from column k on
abbrev pub tokens_at : ℕ → List ℕ → List Token
tokens_at k cs = tokens_of_pieces (pieces_after 0 k cs)

-- an empty text in quotes, and what closes the brackets
abbrev empty : Literal
empty = record { kind = kind.Char; cells = [] }

empty_lawful : IsLiteral empty
empty_lawful = record { cells = tt; filled = tt; few = omega arith }

abbrev pub with_empty : List ℕ → List ℕ
with_empty cs = code "'" ∷ code "'" ∷ 32 ∷ cs

abbrev pub with_glyph : ℕ → List ℕ → List ℕ
with_glyph g cs = g ∷ 32 ∷ cs

abbrev pub closers : Stack → List ℕ
closers (bottom b) = []
closers (waiting w o) = closers o
closers (in_parenthesis p o) = with_glyph (code ")") (closers o)
closers (in_subscript a qs p o) = with_glyph (code "]") (closers o)

abbrev pub tail_by : Stack → Status → List ℕ
tail_by o first = []
tail_by o must = with_empty (closers o)
tail_by o may = with_empty (closers o)
tail_by o (operand e) = closers o
tail_by o (glyph_first f m p) = with_glyph (code "/") (with_empty (closers o))
tail_by o (glyph_after f e p) = with_empty (closers o)
tail_by o (axis_or_none a) = with_empty (closers o)
tail_by o (axis_opened a) = code "1" ∷ 32 ∷ with_glyph (code "]") (with_empty (closers o))
tail_by o (axis_given a x) = with_glyph (code "]") (with_empty (closers o))
tail_by o (after_jot e p) = with_glyph (code ".") (with_glyph (code "+") (with_empty (closers o)))
tail_by o (after_jot_dot e p) = with_glyph (code "+") (with_empty (closers o))
tail_by o (after_dot f e p) = with_glyph (code "+") (with_empty (closers o))
tail_by o (after_quad p) = with_glyph (code "←") (with_empty (closers o))

module _ (hs : List Heading) (n : ℕ) where
  abbrev pub ending : Option State → List Token → Option Statement
  ending x ts = option_and_then finished (run hs n x ts)

  -- a text from column k on that completes the statement
  pub record Completes (x : State) (k : ℕ) (cs : List ℕ) : Type 0 where
    pub sound : AreSound (pieces_after 0 k cs)
    pub words : AreWords (tokens_at k cs)
    pub statement : Statement
    pub ends : ending (Some x) (tokens_at k cs) ≡ Some statement

  by_empty : (x y : State) (k : ℕ) (cs : List ℕ) → taken x (record { line = n; column = k }) (literal empty) ≡ Some y → Completes y (k + 1 + 1 + 1) cs → Completes x k (with_empty cs)
  by_empty x y k cs e r = record {
    sound = (tt, r.sound);
    words = (empty_lawful, r.words);
    statement = r.statement;
    ends = ap (λ v. ending v (tokens_at (k + 1 + 1 + 1) cs)) e ∙ r.ends;
  }

  by_glyph : (x y : State) (k g : ℕ) (cs : List ℕ) →
      pieces_after 0 k (with_glyph g cs) ≡ record { from = k; past = k + 1 + 0; found = tokens.glyph g } ∷ pieces_after 0 (k + 1 + 1) cs →
      taken x (record { line = n; column = k }) (sort hs (word.Glyph g)) ≡ Some y → Completes y (k + 1 + 1) cs → Completes x k (with_glyph g cs)
  by_glyph x y k g cs p e r = record {
    sound = subst AreSound (sym p) (tt, r.sound);
    words = subst (λ ps. AreWords (tokens_of_pieces ps)) (sym p) (tt, r.words);
    statement = r.statement;
    ends = ap (λ ps. ending (Some x) (tokens_of_pieces ps)) p ∙ ap (λ v. ending v (tokens_at (k + 1 + 1) cs)) e ∙ r.ends;
  }

  -- an operand, and what waits for it, end alike before what closes a bracket
  abbrev StartsClosing : List Token → Type 0
  StartsClosing [] = Unit {0}
  StartsClosing (t ∷ ts) = (t.word ≡ glyph ")") ⊎ (t.word ≡ glyph "]")

  closers_start : (o : Stack) (k : ℕ) → StartsClosing (tokens_at k (closers o))
  closers_start (bottom b) k = tt
  closers_start (waiting w o) k = closers_start o k
  closers_start (in_parenthesis p o) k = inl refl
  closers_start (in_subscript a qs p o) k = inr refl

  same_ending : (w : Wait) (o : Stack) (e : Tree) (ts : List Token) → StartsClosing ts →
      ending (Some (state (waiting w o) (operand e))) ts ≡ ending (Some (state o (operand (filled w e)))) ts
  same_ending w o e [] h = refl
  same_ending w o e (t ∷ ts) (inl g) =
      ap (λ y. ending y ts) (subst (λ v. taken (state (waiting w o) (operand e)) (record { line = n; column = t.from }) (sort hs v) ≡ taken (state o (operand (filled w e))) (record { line = n; column = t.from }) (sort hs v)) (sym g) refl)
  same_ending w o e (t ∷ ts) (inr g) =
      ap (λ y. ending y ts) (subst (λ v. taken (state (waiting w o) (operand e)) (record { line = n; column = t.from }) (sort hs v) ≡ taken (state o (operand (filled w e))) (record { line = n; column = t.from }) (sort hs v)) (sym g) refl)

  by_closers : (o : Stack) (e : Tree) (k : ℕ) → Completes (state o (operand e)) k (closers o)
  by_closers (bottom None) e k = record { sound = tt; words = tt; statement = expression e; ends = refl }
  by_closers (bottom (Some p)) e k = record { sound = tt; words = tt; statement = branch e p; ends = refl }
  by_closers (waiting w o) e k =
      let r = by_closers o (filled w e) k in
      record { sound = r.sound; words = r.words; statement = r.statement; ends = same_ending w o e (tokens_at k (closers o)) (closers_start o k) ∙ r.ends }
  by_closers (in_parenthesis p o) e k =
      by_glyph (state (in_parenthesis p o) (operand e)) (state o (operand (parenthesis e p))) k (code ")") (closers o) refl refl (by_closers o (parenthesis e p) (k + 1 + 1))
  by_closers (in_subscript a qs p o) e k =
      by_glyph (state (in_subscript a qs p o) (operand e)) (state o (operand (subscript a (then_position qs (given e)) p))) k (code "]") (closers o) refl refl (by_closers o (subscript a (then_position qs (given e)) p) (k + 1 + 1))

  -- where an expression may begin, with this then open
  by_constant : (x : State) (o : Stack) (k : ℕ) → taken x (record { line = n; column = k }) (literal empty) ≡ Some (state o (operand (constant empty (record { line = n; column = k })))) →
      Completes x k (with_empty (closers o))
  by_constant x o k e = by_empty x (state o (operand (constant empty (record { line = n; column = k })))) k (closers o) e (by_closers o (constant empty (record { line = n; column = k })) (k + 1 + 1 + 1))

  by_wait : (w : Wait) (o : Stack) (k : ℕ) → Completes (awaits w o) k (with_empty (closers o))
  by_wait w o k = by_constant (awaits w o) (waiting w o) k refl

  one_lawful : IsLiteral (record { kind = kind.Num; cells = pos 1 ∷ [] })
  one_lawful = record { cells = (record { least = le_z_yes tt; most = le_z_yes tt }, tt); filled = omega arith; few = omega arith }

  by_number : (o : Stack) (a : Along) (k : ℕ) → Completes (state o (axis_given a (axis.Numbered (pos 1)))) (k + 1 + 1) (with_glyph (code "]") (with_empty (closers o))) →
      Completes (state o (axis_opened a)) k (code "1" ∷ 32 ∷ with_glyph (code "]") (with_empty (closers o)))
  by_number o a k r = record { sound = (tt, r.sound); words = (one_lawful, r.words); statement = r.statement; ends = r.ends }

  by_status : (o : Stack) (y : Status) (k : ℕ) → Completes (state o y) k (tail_by o y)
  by_status o first k = record { sound = tt; words = tt; statement = nothing; ends = refl }
  by_status o must k = by_constant (state o must) o k refl
  by_status o may k = by_constant (state o may) o k refl
  by_status o (operand e) k = by_closers o e k
  by_status o (glyph_first f m p) k =
      by_glyph (state o (glyph_first f m p)) (state o (axis_or_none (reduces f (record { line = n; column = k })))) k (code "/") (with_empty (closers o)) refl refl
      (by_constant (state o (axis_or_none (reduces f (record { line = n; column = k })))) (waiting (along_axis (reduces f (record { line = n; column = k })) axis.Last) o) (k + 1 + 1) refl)
  by_status o (glyph_after f e p) k = by_constant (state o (glyph_after f e p)) (waiting (for_dyadic (two.Scalar f) e p) o) k refl
  by_status o (axis_or_none a) k = by_constant (state o (axis_or_none a)) (waiting (along_axis a axis.Last) o) k refl
  by_status o (axis_opened a) k =
      by_number o a k (by_glyph (state o (axis_given a (axis.Numbered (pos 1)))) (awaits (along_axis a (axis.Numbered (pos 1))) o) (k + 1 + 1) (code "]") (with_empty (closers o)) refl refl
      (by_wait (along_axis a (axis.Numbered (pos 1))) o (k + 1 + 1 + 1 + 1)))
  by_status o (axis_given a x) k =
      by_glyph (state o (axis_given a x)) (awaits (along_axis a x) o) k (code "]") (with_empty (closers o)) refl refl (by_wait (along_axis a x) o (k + 1 + 1))
  by_status o (after_jot e p) k =
      by_glyph (state o (after_jot e p)) (state o (after_jot_dot e p)) k (code ".") (with_glyph (code "+") (with_empty (closers o))) refl refl
      (by_glyph (state o (after_jot_dot e p)) (awaits (for_outer dya.Add e p) o) (k + 1 + 1) (code "+") (with_empty (closers o)) refl refl (by_wait (for_outer dya.Add e p) o (k + 1 + 1 + 1 + 1)))
  by_status o (after_jot_dot e p) k =
      by_glyph (state o (after_jot_dot e p)) (awaits (for_outer dya.Add e p) o) k (code "+") (with_empty (closers o)) refl refl (by_wait (for_outer dya.Add e p) o (k + 1 + 1))
  by_status o (after_dot f e p) k =
      by_glyph (state o (after_dot f e p)) (awaits (for_inner f dya.Add e p) o) k (code "+") (with_empty (closers o)) refl refl (by_wait (for_inner f dya.Add e p) o (k + 1 + 1))
  by_status o (after_quad p) k =
      by_glyph (state o (after_quad p)) (awaits (for_output p) o) k (code "←") (with_empty (closers o)) refl refl (by_wait (for_output p) o (k + 1 + 1))

  pub completed : (x : State) (k : ℕ) → Completes x k (tail_by x.stack x.status)
  completed x k = by_status x.stack x.status k

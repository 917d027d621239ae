-- A line that is cut behind some of its pieces, with a blank and another text put there.
use Rattle.std.proofs.Common.{◌≡◌, ℕ, zero, suc, ◌+◌, ◌≤◌, ◌==◌, Bool, true, false, cond, List, [], ◌∷◌, ◌++◌, length, take, Option, None, Some, refl, ap, ◌∙◌, arith}
use Rattle.std.proofs.lemmas.List.Sums.{prefix_len-le-length}
use Rattle.apl_model.proofs.Beginnings.{two_quotes, last_quote, piece_of, text_of, next, beginning_keeps}
use Rattle.apl_model.specs.Characters.{code, is_blank, is_letter, is_name_part, begins_number, is_number_part, is_glyph, read_as}
use Rattle.apl_model.specs.Tokens.{glyph, Beginning, Quoted, with_character, quoted, name_at, number_at, text_at, beginning, Piece, pieces_after, AreSound}

-- the first l characters, a blank, and a text
abbrev pub cut : ℕ → List ℕ → List ℕ → List ℕ
cut l cs more = take l cs ++ (32 ∷ more)

-- ---- What begins at a character ends within the line ----

-- a text in quotes covers no more than the line has
abbrev CoversAtMost : ℕ → Option Quoted → Type 0
CoversAtMost m None = Unit {0}
CoversAtMost m (Some q) = q.covers ≤ m

more_covered : (c n l m : ℕ) (o : Option Quoted) → n + l ≤ m → CoversAtMost l o → CoversAtMost m (with_character c n o)
more_covered c n l m None i h = tt
more_covered c n l m (Some q) i h = omega arith

two_covered : (a b : Bool) (c m : ℕ) (x y : Option Quoted) → CoversAtMost m x → CoversAtMost (suc m) y → CoversAtMost (suc (suc m)) (two_quotes a b c x y)
two_covered true true c m x y h i = more_covered c 2 m (suc (suc m)) x (omega arith) h
two_covered true false c m x y h i = omega arith
two_covered false b c m x y h i = more_covered c 1 (suc m) (suc (suc m)) y (omega arith) i

one_covered : (b : Bool) → CoversAtMost 1 (last_quote b)
one_covered true = omega arith
one_covered false = tt

quoted_covers : (cs : List ℕ) → CoversAtMost (length cs) (quoted cs)
quoted_covers [] = tt
quoted_covers (c ∷ []) = one_covered (c == code "'")
quoted_covers (c ∷ d ∷ cs) = two_covered (c == code "'") (d == code "'") c (length cs) (quoted cs) (quoted (d ∷ cs)) (quoted_covers cs) (quoted_covers (d ∷ cs))

fits_if : (m : ℕ) (t : Bool) (b c : Beginning) → b.more ≤ m → c.more ≤ m → (cond t b c).more ≤ m
fits_if m true b c h i = h
fits_if m false b c h i = i

text_fits : (m : ℕ) (o : Option Quoted) (j : ℕ) → j ≤ m → CoversAtMost m o → (text_of o j).more ≤ m
text_fits m None j h i = h
text_fits m (Some q) j h i = i

beginning_fits : (c : ℕ) (cs : List ℕ) → (beginning c cs).more ≤ length cs
beginning_fits c cs =
    fits_if (length cs) (is_letter c) (name_at c cs) _ (prefix_len-le-length is_name_part cs)
    (fits_if (length cs) (begins_number c) (number_at c cs) _ (prefix_len-le-length is_number_part cs)
    (fits_if (length cs) (c == code "'") (text_at cs) _ (text_fits (length cs) (quoted cs) (length cs) (omega arith) (quoted_covers cs))
    (fits_if (length cs) (is_glyph (read_as c)) (record { found = glyph (read_as c); more = 0 }) _ (omega arith) (omega arith))))

-- ---- Pieces ----

-- the line cs, whose pieces are ps, can be cut behind j of them
pub record CutBehind (n k : ℕ) (cs : List ℕ) (ps : List Piece) (j : ℕ) : Type 0 where
  pub l : ℕ
  pub column : ℕ
  pub enough : n ≤ l
  pub same : (more : List ℕ) → pieces_after n k (cut l cs more) ≡ take j ps ++ pieces_after 0 column more

char_cut : (a b : Bool) (k c j : ℕ) (cs : List ℕ) → is_blank c ≡ a → (c == code "⍝") ≡ b →
    AreSound (next a b (pieces_after 0 (k + 1) cs) (piece_of k (beginning c cs)) (pieces_after (beginning c cs).more (k + 1) cs)) →
    (AreSound (pieces_after 0 (k + 1) cs) → CutBehind 0 (k + 1) cs (pieces_after 0 (k + 1) cs) (suc j)) →
    (AreSound (pieces_after (beginning c cs).more (k + 1) cs) → CutBehind (beginning c cs).more (k + 1) cs (pieces_after (beginning c cs).more (k + 1) cs) j) →
    CutBehind 0 k (c ∷ cs) (next a b (pieces_after 0 (k + 1) cs) (piece_of k (beginning c cs)) (pieces_after (beginning c cs).more (k + 1) cs)) (suc j)
char_cut true b k c j cs ea eb s f g =
    let r = f s in
    record {
      l = suc r.l;
      column = r.column;
      enough = omega arith;
      same = λ more.
          ap (λ a. next a (c == code "⍝") (pieces_after 0 (k + 1) (cut r.l cs more)) (piece_of k (beginning c (cut r.l cs more))) (pieces_after (beginning c (cut r.l cs more)).more (k + 1) (cut r.l cs more))) ea
          ∙ r.same more;
    }
char_cut false true k c j cs ea eb s f g = record { l = 0; column = k + 1; enough = omega arith; same = λ more. refl }
char_cut false false k c j cs ea eb s f g =
    let r = g s.1 in
    record {
      l = suc r.l;
      column = r.column;
      enough = omega arith;
      same = λ more.
          let e = beginning_keeps r.l c cs (Some more) s.0 r.enough in
          ap (λ a. next a (c == code "⍝") (pieces_after 0 (k + 1) (cut r.l cs more)) (piece_of k (beginning c (cut r.l cs more))) (pieces_after (beginning c (cut r.l cs more)).more (k + 1) (cut r.l cs more))) ea
          ∙ ap (λ b. next false b (pieces_after 0 (k + 1) (cut r.l cs more)) (piece_of k (beginning c (cut r.l cs more))) (pieces_after (beginning c (cut r.l cs more)).more (k + 1) (cut r.l cs more))) eb
          ∙ ap (λ (d : Beginning). piece_of k d ∷ pieces_after d.more (k + 1) (cut r.l cs more)) e
          ∙ ap (λ ps. piece_of k (beginning c cs) ∷ ps) (r.same more);
    }

pub pieces_cut : (n k : ℕ) (cs : List ℕ) (j : ℕ) → AreSound (pieces_after n k cs) → n ≤ length cs → CutBehind n k cs (pieces_after n k cs) j
pieces_cut zero k [] zero s h = record { l = 0; column = k + 1; enough = omega arith; same = λ more. refl }
pieces_cut zero k [] (suc j) s h = record { l = 0; column = k + 1; enough = omega arith; same = λ more. refl }
pieces_cut (suc n) k [] j s h = absurd (omega arith)
pieces_cut (suc n) k (c ∷ cs) j s h =
    let r = pieces_cut n (k + 1) cs j s (omega arith) in
    record { l = suc r.l; column = r.column; enough = (let e = r.enough in omega arith); same = r.same }
pieces_cut zero k (c ∷ cs) zero s h = record { l = 0; column = k + 1; enough = omega arith; same = λ more. refl }
pieces_cut zero k (c ∷ cs) (suc j) s h =
    char_cut (is_blank c) (c == code "⍝") k c j cs refl refl s
    (λ t. pieces_cut zero (k + 1) cs (suc j) t (omega arith))
    (λ t. pieces_cut (beginning c cs).more (k + 1) cs j t (beginning_fits c cs))

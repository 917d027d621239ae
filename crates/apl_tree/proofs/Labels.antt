-- The tokens that follow a label are those of a line of their own, with blanks in the label's place.
use Rattle.std.proofs.Common.{◌≡◌, ℕ, zero, suc, ◌+◌, ◌-◌, ◌≤◌, ◌==◌, Bool, true, false, List, [], ◌∷◌, ℤ, refl, sym, ap, subst, ◌∙◌, arith}
use Rattle.apl_model.proofs.Beginnings.{next, piece_of}
use Rattle.apl_model.specs.Characters.{code, is_blank}
use Rattle.apl_model.specs.Tokens.{Found, number, text, name, glyph, fault, Piece, pieces_after, pieces, beginning, number_before, tokens_of_pieces, IsSound, AreSound, IsRead}
use Rattle.apl_model.specs.declared.tokens.Token.{Token}
use Rattle.apl_model.specs.declared.tokens.Word.{Word}
use Rattle.apl_model.specs.declared.tokens.Word.TheVariants as word
use Rattle.apl_tree.proofs.SplitTokens.{IsNumbers, BeginsWithNumbers, nil_clash, tail_is}
use Rattle.apl_tree.specs.Condition.{AreTokensOf, all_of, after_label}

-- a text from column k on that has these pieces
record HasText (ps : List Piece) : Type 0 where
  skipped : ℕ
  column : ℕ
  line : List ℕ
  first : 1 ≤ column
  same : pieces_after skipped column line ≡ ps

no_piece : {p : Piece} {ps : List Piece} → [] ≡ p ∷ ps → ⊥
no_piece e = cc

piece_tail : {p q : Piece} {ps qs : List Piece} → p ∷ ps ≡ q ∷ qs → ps ≡ qs
piece_tail e = cc

rest_by : (a b : Bool) (k : ℕ) (cs : List ℕ) (x : List Piece) (v : Piece) (m : ℕ) (p : Piece) (ps : List Piece) →
    next a b x v (pieces_after m (k + 1) cs) ≡ p ∷ ps → (x ≡ p ∷ ps → HasText ps) → HasText ps
rest_by true b k cs x v m p ps e f = f e
rest_by false true k cs x v m p ps e f = absurd (no_piece e)
rest_by false false k cs x v m p ps e f = record { skipped = m; column = k + 1; line = cs; first = omega arith; same = piece_tail e }

-- the pieces after the first
rest : (n k : ℕ) (cs : List ℕ) (p : Piece) (ps : List Piece) → 1 ≤ k → pieces_after n k cs ≡ p ∷ ps → HasText ps
rest n k [] p ps h e = absurd (no_piece e)
rest (suc n) k (c ∷ cs) p ps h e = rest n (k + 1) cs p ps (omega arith) e
rest zero k (c ∷ cs) p ps h e =
    rest_by (is_blank c) (c == code "⍝") k cs (pieces_after 0 (k + 1) cs) (piece_of k (beginning c cs)) (beginning c cs).more p ps e (λ f. rest zero (k + 1) cs p ps (omega arith) f)

-- with blanks in front it is a whole line
abbrev blanks : ℕ → List ℕ → List ℕ
blanks zero cs = cs
blanks (suc m) cs = 32 ∷ blanks m cs

pieces_blanks : (m k : ℕ) (cs : List ℕ) → pieces_after 0 k (blanks m cs) ≡ pieces_after 0 (k + m) cs
pieces_blanks zero k cs = let e : k ≡ k + 0 = omega arith in ap (λ j. pieces_after 0 j cs) e
pieces_blanks (suc m) k cs = let e : k + 1 + m ≡ k + suc m = omega arith in pieces_blanks m (k + 1) cs ∙ ap (λ j. pieces_after 0 j cs) e

record HasLine (ps : List Piece) : Type 0 where
  line : List ℕ
  same : pieces line ≡ ps

whole : (n k : ℕ) (cs : List ℕ) (ps : List Piece) → 1 ≤ k → pieces_after n k cs ≡ ps → HasLine ps
whole zero k cs ps h e =
    let f : 1 + (k - 1) ≡ k = omega arith in
    record { line = blanks (k - 1) cs; same = pieces_blanks (k - 1) 1 cs ∙ ap (λ j. pieces_after 0 j cs) f ∙ e }
whole (suc n) k [] ps h e = record { line = []; same = e }
whole (suc n) k (c ∷ cs) ps h e = whole n (k + 1) cs ps (omega arith) e

-- ---- Tokens ----

numbers_first : (x y : ℕ) (z : ℤ) (ts : List Token) → BeginsWithNumbers (number_before x y z ts)
numbers_first x y z [] = tt
numbers_first x y z (t ∷ ts) = by t.word
  where
    by : (w : Word) → BeginsWithNumbers (number_before x y z (record { from = t.from; past = t.past; word = w } ∷ ts))
    by (word.Numbers zs) = tt
    by (word.Chars zs) = tt
    by (word.Name n) = tt
    by (word.Glyph c) = tt

peel_by : (x y : ℕ) (f : Found) (ps : List Piece) (t : Token) (ts : List Token) → IsSound (record { from = x; past = y; found = f }) →
    tokens_of_pieces (record { from = x; past = y; found = f } ∷ ps) ≡ t ∷ ts → (IsNumbers t.word → ⊥) → tokens_of_pieces ps ≡ ts
peel_by x y (number z) ps t ts s e n = absurd (n (subst BeginsWithNumbers e (numbers_first x y z (tokens_of_pieces ps))))
peel_by x y (text cs) ps t ts s e n = tail_is e
peel_by x y (name m) ps t ts s e n = tail_is e
peel_by x y (glyph g) ps t ts s e n = tail_is e
peel_by x y (fault c) ps t ts s e n = absurd s

-- the pieces without the first, whose token is no number
record Peeled (ts : List Token) : Type 0 where
  line : List ℕ
  sound : AreSound (pieces line)
  same : tokens_of_pieces (pieces line) ≡ ts

peel_pieces : (line : List ℕ) (ps : List Piece) (t : Token) (ts : List Token) → pieces line ≡ ps → AreSound ps → tokens_of_pieces ps ≡ t ∷ ts → (IsNumbers t.word → ⊥) → Peeled ts
peel_pieces line [] t ts q s e n = absurd (nil_clash e)
peel_pieces line (p ∷ ps) t ts q s e n =
    let r = rest 0 1 line p ps (omega arith) q in
    let w = whole r.skipped r.column r.line ps r.first r.same in
    record {
      line = w.line;
      sound = subst AreSound (sym w.same) s.1;
      same = ap tokens_of_pieces w.same ∙ peel_by p.from p.past p.found ps t ts s.0 e n;
    }

peel : (line : List ℕ) (t : Token) (ts : List Token) → AreSound (pieces line) → tokens_of_pieces (pieces line) ≡ t ∷ ts → (IsNumbers t.word → ⊥) → Peeled ts
peel line t ts s e n = peel_pieces line (pieces line) t ts refl s e n

no_numbers : (v w : Word) → v ≡ w → (IsNumbers w → ⊥) → IsNumbers v → ⊥
no_numbers v w e n h = n (subst IsNumbers e h)

pub record IsWhole (ts : List Token) : Type 0 where
  pub line : List ℕ
  pub read : IsRead line ts

-- tokens that a line may be given with are all those of some line
pub as_whole : (line : List ℕ) (ts : List Token) → AreTokensOf line ts → IsWhole ts
as_whole line ts (all_of r) = record { line = line; read = r }
as_whole line ts (after_label first colon label e f r) =
    let a = peel line first (colon ∷ ts) r.sound r.same (no_numbers first.word (word.Name label) e (λ h. h)) in
    let b = peel a.line colon ts a.sound a.same (no_numbers colon.word (word.Glyph (code ":")) f (λ h. h)) in
    record { line = b.line; read = record { sound = b.sound; same = b.same } }

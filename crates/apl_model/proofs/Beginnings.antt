-- What begins at a character stays in a line that is cut behind it: where the line ends there, or goes on with a blank.
use Rattle.std.proofs.Common.{◌≡◌, ℕ, zero, suc, ◌+◌, ◌<◌, ◌≤◌, ◌==◌, Bool, true, false, cond, List, [], ◌∷◌, ◌++◌, length, take, Option, None, Some, refl, ap, ◌∙◌, arith}
use Rattle.std.proofs.lemmas.List.Sums.{prefix_len-le-length}
use Rattle.std.specs.List.{prefix_len}
use Rattle.std.specs.Option.{unwrap_or, option_map}
use Rattle.apl_base.specs.declared.faults.Cause.TheVariants as cause
use Rattle.apl_model.specs.Characters.{code, is_letter, is_name_part, begins_number, is_number_part, number_of}
use Rattle.apl_model.specs.Tokens.{number, text, name, fault, Beginning, Quoted, with_character, quoted, name_at, number_at, text_at, beginning, Piece, IsSound}

-- what stands behind the cut: nothing, or a blank and a text
abbrev pub behind : Option (List ℕ) → List ℕ
behind None = []
behind (Some more) = 32 ∷ more

-- the first m characters, and what stands behind them
abbrev pub cut : ℕ → List ℕ → Option (List ℕ) → List ℕ
cut m cs o = take m cs ++ behind o

-- ---- Words ----

prefix_by : (p : ℕ → Bool) (b : Bool) (m : ℕ) (cs ds : List ℕ) → cond b (1 + prefix_len p cs) 0 ≤ suc m →
    (prefix_len p cs ≤ m → prefix_len p ds ≡ prefix_len p cs) → cond b (1 + prefix_len p ds) 0 ≡ cond b (1 + prefix_len p cs) 0
prefix_by p true m cs ds h f = ap (λ n. 1 + n) (f (omega arith))
prefix_by p false m cs ds h f = refl

stops_behind : (p : ℕ → Bool) (o : Option (List ℕ)) → p 32 ≡ false → prefix_len p (behind o) ≡ 0
stops_behind p None s = refl
stops_behind p (Some more) s = ap (λ b. cond b (1 + prefix_len p more) 0) s

prefix_cut : (p : ℕ → Bool) (m : ℕ) (cs : List ℕ) (o : Option (List ℕ)) → p 32 ≡ false → prefix_len p cs ≤ m → prefix_len p (cut m cs o) ≡ prefix_len p cs
prefix_cut p zero [] o s h = stops_behind p o s
prefix_cut p (suc m) [] o s h = stops_behind p o s
prefix_cut p zero (c ∷ cs) o s h = let e = stops_behind p o s in omega (arith, e, h)
prefix_cut p (suc m) (c ∷ cs) o s h = prefix_by p (p c) m cs (cut m cs o) h (prefix_cut p m cs o s)

take_cut : (n m : ℕ) (cs : List ℕ) (o : Option (List ℕ)) → n ≤ m → n ≤ length cs → take n (cut m cs o) ≡ take n cs
take_cut zero m cs o h i = refl
take_cut (suc n) zero cs o h i = absurd (omega arith)
take_cut (suc n) (suc m) [] o h i = absurd (omega arith)
take_cut (suc n) (suc m) (c ∷ cs) o h i = ap (λ xs. c ∷ xs) (take_cut n m cs o (omega arith) (omega arith))

word_cut : (p : ℕ → Bool) (m : ℕ) (cs : List ℕ) (o : Option (List ℕ)) → p 32 ≡ false → prefix_len p cs ≤ m →
    take (prefix_len p (cut m cs o)) (cut m cs o) ≡ take (prefix_len p cs) cs
word_cut p m cs o s h =
    ap (λ n. take n (cut m cs o)) (prefix_cut p m cs o s h) ∙ take_cut (prefix_len p cs) m cs o h (prefix_len-le-length p cs)

-- ---- Texts in quotes ----

abbrev pub two_quotes : Bool → Bool → ℕ → Option Quoted → Option Quoted → Option Quoted
two_quotes a b c x y = elim a [
  | true ↦ elim b [ true ↦ with_character c 2 x | false ↦ Some (record { characters = []; covers = 1 }) ]
  | false ↦ with_character c 1 y
]

-- the last character closes the text, or nothing does
abbrev pub last_quote : Bool → Option Quoted
last_quote b = cond b (Some (record { characters = []; covers = 1 })) None

abbrev Covers : ℕ → Option Quoted → Type 0
Covers m None = ⊥
Covers m (Some q) = q.covers ≤ m

covers_less : (c n m l : ℕ) (o : Option Quoted) → l ≤ n + m → Covers l (with_character c n o) → Covers m o
covers_less c n m l None i h = h
covers_less c n m l (Some q) i h = omega arith

-- a character that covers n characters needs room for them
too_few : (c n m : ℕ) (o : Option Quoted) → m < n → Covers m (with_character c n o) → ⊥
too_few c n m None i h = h
too_few c n m (Some q) i h = omega arith

not_quoted : (c : ℕ) (cs : List ℕ) → (c == code "'") ≡ false → quoted (c ∷ cs) ≡ with_character c 1 (quoted cs)
not_quoted c [] e = ap last_quote e
not_quoted c (d ∷ cs) e = ap (λ a. two_quotes a (d == code "'") c (quoted cs) (quoted (d ∷ cs))) e

-- a quote at the end, or before a blank, closes the text
closing : (c : ℕ) (o : Option (List ℕ)) → (c == code "'") ≡ true → quoted (c ∷ behind o) ≡ Some (record { characters = []; covers = 1 })
closing c None e = ap last_quote e
closing c (Some more) e = ap (λ a. two_quotes a false c (quoted more) (quoted (32 ∷ more))) e

quoted_cut : (cs : List ℕ) (o : Option (List ℕ)) (m : ℕ) → Covers m (quoted cs) → quoted (cut m cs o) ≡ quoted cs
quoted_cut [] o m h = absurd h
quoted_cut (c ∷ []) o m h = last (c == code "'") refl m h
  where
    last : (b : Bool) → (c == code "'") ≡ b → (m : ℕ) → Covers m (last_quote b) → quoted (cut m (c ∷ []) o) ≡ last_quote b
    last true e zero h = absurd (omega arith)
    last true e (suc zero) h = closing c o e
    last true e (suc (suc m)) h = closing c o e
    last false e m h = absurd h
quoted_cut (c ∷ d ∷ cs) o m h = by_two (c == code "'") (d == code "'") refl refl m h (quoted_cut cs o) (quoted_cut (d ∷ cs) o)
  where
    by_two : (a b : Bool) → (c == code "'") ≡ a → (d == code "'") ≡ b → (m : ℕ) → Covers m (two_quotes a b c (quoted cs) (quoted (d ∷ cs))) →
        ((m : ℕ) → Covers m (quoted cs) → quoted (cut m cs o) ≡ quoted cs) →
        ((m : ℕ) → Covers m (quoted (d ∷ cs)) → quoted (cut m (d ∷ cs) o) ≡ quoted (d ∷ cs)) →
        quoted (cut m (c ∷ d ∷ cs) o) ≡ two_quotes a b c (quoted cs) (quoted (d ∷ cs))
    by_two true true e f zero h x y = absurd (too_few c 2 0 (quoted cs) (omega arith) h)
    by_two true true e f (suc zero) h x y = absurd (too_few c 2 1 (quoted cs) (omega arith) h)
    by_two true true e f (suc (suc m)) h x y =
        ap (λ a. two_quotes a (d == code "'") c (quoted (cut m cs o)) (quoted (d ∷ cut m cs o))) e
        ∙ ap (λ b. two_quotes true b c (quoted (cut m cs o)) (quoted (d ∷ cut m cs o))) f
        ∙ ap (with_character c 2) (x m (covers_less c 2 m (suc (suc m)) (quoted cs) (omega arith) h))
    by_two true false e f zero h x y = absurd (omega arith)
    by_two true false e f (suc zero) h x y = closing c o e
    by_two true false e f (suc (suc m)) h x y =
        ap (λ a. two_quotes a (d == code "'") c (quoted (cut m cs o)) (quoted (d ∷ cut m cs o))) e
        ∙ ap (λ b. two_quotes true b c (quoted (cut m cs o)) (quoted (d ∷ cut m cs o))) f
    by_two false b e f zero h x y = absurd (too_few c 1 0 (quoted (d ∷ cs)) (omega arith) h)
    by_two false b e f (suc m) h x y =
        not_quoted c (cut m (d ∷ cs) o) e ∙ ap (with_character c 1) (y m (covers_less c 1 m (suc m) (quoted (d ∷ cs)) (omega arith) h))

-- ---- What begins at a character ----

abbrev pub piece_of : ℕ → Beginning → Piece
piece_of k b = record { from = k; past = k + 1 + b.more; found = b.found }

-- b is what begins there, and d what begins there in the line that is cut behind m more characters
abbrev Keeps : ℕ → Beginning → Beginning → Type 0
Keeps m b d = IsSound (piece_of 0 b) → b.more ≤ m → d ≡ b

keeps_if : (m : ℕ) (t : Bool) (b c d e : Beginning) → Keeps m b d → Keeps m c e → Keeps m (cond t b c) (cond t d e)
keeps_if m true b c d e h i = h
keeps_if m false b c d e h i = i

abbrev pub text_of : Option Quoted → ℕ → Beginning
text_of o k = elim o [
  | None ↦ record { found = fault cause.OpenText; more = k }
  | Some q ↦ record { found = text q.characters; more = q.covers }
]

keeps_text : (m : ℕ) (o u : Option Quoted) (j k : ℕ) → (Covers m o → u ≡ o) → Keeps m (text_of o j) (text_of u k)
keeps_text m None u j k f s h = absurd s
keeps_text m (Some q) u j k f s h = ap (λ v. text_of v k) (f h)

keeps_name : (m c : ℕ) (cs : List ℕ) (o : Option (List ℕ)) → Keeps m (name_at c cs) (name_at c (cut m cs o))
keeps_name m c cs o s h =
    let e = prefix_cut is_name_part m cs o refl h in
    let w = word_cut is_name_part m cs o refl h in
    λ i. record { found = name (c ∷ w i); more = e i }

keeps_number : (m c : ℕ) (cs : List ℕ) (o : Option (List ℕ)) → Keeps m (number_at c cs) (number_at c (cut m cs o))
keeps_number m c cs o s h =
    let e = prefix_cut is_number_part m cs o refl h in
    let w = word_cut is_number_part m cs o refl h in
    λ i. record { found = unwrap_or (option_map number (number_of (c ∷ w i))) (fault cause.Number); more = e i }

pub beginning_keeps : (m c : ℕ) (cs : List ℕ) (o : Option (List ℕ)) → IsSound (piece_of 0 (beginning c cs)) → (beginning c cs).more ≤ m →
    beginning c (cut m cs o) ≡ beginning c cs
beginning_keeps m c cs o =
    keeps_if m (is_letter c) (name_at c cs) _ (name_at c (cut m cs o)) _ (keeps_name m c cs o)
    (keeps_if m (begins_number c) (number_at c cs) _ (number_at c (cut m cs o)) _ (keeps_number m c cs o)
    (keeps_if m (c == code "'") (text_at cs) _ (text_at (cut m cs o)) _
    (keeps_text m (quoted cs) (quoted (cut m cs o)) (length cs) (length (cut m cs o)) (quoted_cut cs o m))
    (λ s h. refl)))

-- the pieces from a character on: blank, the begin of a remark, or another one
abbrev pub next : Bool → Bool → List Piece → Piece → List Piece → List Piece
next a b x p z = elim a [ true ↦ x | false ↦ elim b [ true ↦ [] | false ↦ p ∷ z ] ]

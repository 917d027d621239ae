-- The tokens of a line that is read have lawful words.
use Rattle.std.proofs.Common.{◌≡◌, ℕ, zero, suc, ◌+◌, ◌<◌, ◌≤◌, ◌^◌, ◌==◌, Bool, true, false, cond, IsTrue, List, [], ◌∷◌, length, take, Option, None, Some, ℤ, pos, refl, ap, subst, arith, one-add}
use Rattle.std.proofs.lemmas.Bool.{and_parts, and_from}
use Rattle.std.proofs.lemmas.Str.{scalars-chars}
use Rattle.std.specs.Char.{IsScalar}
use Rattle.std.specs.List.{AllByRecursion, prefix_len}
use Rattle.std.specs.Option.{unwrap_or, option_map}
use Rattle.std.specs.Prelude.{neg_ℤ}
use Rattle.std.specs.Str.{chars, IsUtf8}
use lib.Utf8.{scalar, scalars}
use Rattle.apl_base.proofs.Numbers.{is_number-true}
use Rattle.apl_base.specs.Number.{IsNumber, is_number, IsCell}
use Rattle.apl_base.specs.declared.cells.Kind.TheVariants as kind
use Rattle.apl_base.specs.declared.faults.Cause.{Cause}
use Rattle.apl_base.specs.Scalar.{in_range}
use Rattle.apl_model.specs.Characters.{code, is_blank, is_letter, is_name_part, begins_number, is_number_part, is_glyph, read_as, all_pass, is_name, are_digits, decimal_after, number_of}
use Rattle.apl_model.specs.Tokens.{Found, number, text, name, glyph, fault, Beginning, Quoted, with_character, quoted, name_at, number_at, text_at, beginning, Piece, pieces_after, pieces, number_before, tokens_of_pieces, tokens}
use Rattle.apl_model.specs.declared.tokens.Token.{Token}
use Rattle.apl_model.specs.declared.tokens.Word.{Word}
use Rattle.apl_model.specs.declared.tokens.Word.TheVariants as word
use Rattle.apl_tree.proofs.SortFacts.{IsWord, AreWords}
use Rattle.apl_tree.specs.Condition.{AreTokensOf, all_of, after_label}

if_holds : {A : Type 0} (P : A → Type 0) (b : Bool) (x y : A) → (b ≡ true → P x) → P y → P (cond b x y)
if_holds P true x y f g = f refl
if_holds P false x y f g = g

-- ---- Characters ----

pub are_scalars : (cs : List ℕ) → scalars cs ≡ true → AllByRecursion IsScalar cs
are_scalars [] h = tt
are_scalars (c ∷ cs) h = let p = and_parts (scalar c) (scalars cs) h in (p.0, are_scalars cs p.1)

pass_on : (p : ℕ → Bool) (c : ℕ) (cs : List ℕ) (b : Bool) → p c ≡ b → all_pass p (take (prefix_len p cs) cs) ≡ true →
    all_pass p (take (cond b (1 + prefix_len p cs) 0) (c ∷ cs)) ≡ true
pass_on p c cs true e h = rw one-add (and_from (p c) (all_pass p (take (prefix_len p cs) cs)) e h)
pass_on p c cs false e h = refl

passes : (p : ℕ → Bool) (cs : List ℕ) → all_pass p (take (prefix_len p cs) cs) ≡ true
passes p [] = refl
passes p (c ∷ cs) = pass_on p c cs (p c) refl (passes p cs)

-- ---- Pieces ----

abbrev IfNumber : Option ℤ → Type 0
IfNumber None = Unit {0}
IfNumber (Some z) = IsNumber z

lawful_holds : (z : ℤ) → IfNumber (in_range z)
lawful_holds z = if_holds IfNumber (is_number z) (Some z) None (is_number-true z) tt

number_of_holds : (w : List ℕ) → IfNumber (number_of w)
number_of_holds [] = tt
number_of_holds (c ∷ cs) =
    if_holds IfNumber (c == code "¯") (cond (are_digits cs) (in_range (neg_ℤ (pos (decimal_after 0 cs)))) None) (cond (are_digits (c ∷ cs)) (in_range (pos (decimal_after 0 (c ∷ cs)))) None)
    (λ e. if_holds IfNumber (are_digits cs) (in_range (neg_ℤ (pos (decimal_after 0 cs)))) None (λ f. lawful_holds (neg_ℤ (pos (decimal_after 0 cs)))) tt)
    (if_holds IfNumber (are_digits (c ∷ cs)) (in_range (pos (decimal_after 0 (c ∷ cs)))) None (λ f. lawful_holds (pos (decimal_after 0 (c ∷ cs)))) tt)

abbrev IsQuotedIn : ℕ → Option Quoted → Type 0
IsQuotedIn n None = Unit {0}
IsQuotedIn n (Some q) = AllByRecursion IsScalar q.characters × (length q.characters ≤ n)

with_holds : (c n m k : ℕ) (q : Option Quoted) → IsScalar c → m + 1 ≤ k → IsQuotedIn m q → IsQuotedIn k (with_character c n q)
with_holds c n m k None s l h = tt
with_holds c n m k (Some q) s l h = let f = h.1 in ((s, h.0), omega arith)

by_quotes : (a b : Bool) (c m k : ℕ) (x y : Option Quoted) → IsScalar c → m + 1 ≤ k → IsQuotedIn m x → IsQuotedIn m y →
    (let o : Option Quoted = elim a [ true ↦ elim b [ true ↦ with_character c 2 x | false ↦ Some (record { characters = []; covers = 1 }) ] | false ↦ with_character c 1 y ] in IsQuotedIn k o)
by_quotes true true c m k x y s l h i = with_holds c 2 m k x s l h
by_quotes true false c m k x y s l h i = (tt, omega arith)
by_quotes false b c m k x y s l h i = with_holds c 1 m k y s l i

more_room : (m k : ℕ) (q : Option Quoted) → m ≤ k → IsQuotedIn m q → IsQuotedIn k q
more_room m k None l h = tt
more_room m k (Some q) l h = let f = h.1 in (h.0, omega arith)

quoted_holds : (cs : List ℕ) → AllByRecursion IsScalar cs → IsQuotedIn (length cs) (quoted cs)
quoted_holds [] h = tt
quoted_holds (c ∷ []) h = if_holds (IsQuotedIn (length (c ∷ []))) (c == code "'") (Some (record { characters = []; covers = 1 })) None (λ e. (tt, omega arith)) tt
quoted_holds (c ∷ d ∷ cs) h =
    by_quotes (c == code "'") (d == code "'") c (length (d ∷ cs)) (length (c ∷ d ∷ cs)) (quoted cs) (quoted (d ∷ cs)) h.0 (omega arith)
    (more_room (length cs) (length (d ∷ cs)) (quoted cs) (omega arith) (quoted_holds cs h.1.1)) (quoted_holds (d ∷ cs) h.1)

abbrev IsFound : ℕ → Found → Type 0
IsFound most (number z) = IsNumber z
IsFound most (text cs) = AllByRecursion IsScalar cs × (length cs ≤ most)
IsFound most (name n) = IsTrue (is_name n)
IsFound most (glyph g) = Unit {0}
IsFound most (fault c) = Unit {0}

found_number : (most : ℕ) (o : Option ℤ) (c : Cause) → IfNumber o → IsFound most (unwrap_or (option_map number o) (fault c))
found_number most None c h = tt
found_number most (Some z) c h = h

abbrev IsBegun : ℕ → Beginning → Type 0
IsBegun most b = IsFound most b.found

text_holds : (most : ℕ) (cs : List ℕ) (o : Option Quoted) (c : Cause) (n : ℕ) → IsQuotedIn most o →
    (let b : Beginning = elim o [ None ↦ record { found = fault c; more = n } | Some q ↦ record { found = text q.characters; more = q.covers } ] in IsBegun most b)
text_holds most cs None c n h = tt
text_holds most cs (Some q) c n h = h

beginning_holds : (most c : ℕ) (cs : List ℕ) → length cs ≤ most → AllByRecursion IsScalar cs → IsBegun most (beginning c cs)
beginning_holds most c cs l h =
    if_holds (IsBegun most) (is_letter c) (name_at c cs) _ (λ e. and_from (is_letter c) (all_pass is_name_part (take (prefix_len is_name_part cs) cs)) e (passes is_name_part cs))
    (if_holds (IsBegun most) (begins_number c) (number_at c cs) _ (λ e. found_number most (number_of (c ∷ take (prefix_len is_number_part cs) cs)) _ (number_of_holds (c ∷ take (prefix_len is_number_part cs) cs)))
    (if_holds (IsBegun most) (c == code "'") (text_at cs) _ (λ e. text_holds most cs (quoted cs) _ (length cs) (more_room (length cs) most (quoted cs) l (quoted_holds cs h)))
    (if_holds (IsBegun most) (is_glyph (read_as c)) _ _ (λ e. tt) tt)))

abbrev ArePieces : ℕ → List Piece → Type 0
ArePieces most [] = Unit {0}
ArePieces most (p ∷ ps) = IsFound most p.found × ArePieces most ps

by_character : (most : ℕ) (a b : Bool) (x : List Piece) (p : Piece) (y : List Piece) → ArePieces most x → IsFound most p.found → ArePieces most y →
    (let ps : List Piece = elim a [ true ↦ x | false ↦ elim b [ true ↦ [] | false ↦ p ∷ y ] ] in ArePieces most ps)
by_character most true b x p y h i j = h
by_character most false true x p y h i j = tt
by_character most false false x p y h i j = (i, j)

pieces_hold : (most n k : ℕ) (cs : List ℕ) → length cs ≤ most → AllByRecursion IsScalar cs → ArePieces most (pieces_after n k cs)
pieces_hold most n k [] l h = tt
pieces_hold most (suc n) k (c ∷ cs) l h = pieces_hold most n (k + 1) cs (omega arith) h.1
pieces_hold most zero k (c ∷ cs) l h =
    by_character most (is_blank c) (c == code "⍝") (pieces_after zero (k + 1) cs)
    (record { from = k; past = k + 1 + (beginning c cs).more; found = (beginning c cs).found }) (pieces_after (beginning c cs).more (k + 1) cs)
    (pieces_hold most zero (k + 1) cs (omega arith) h.1) (beginning_holds most c cs (omega arith) h.1) (pieces_hold most (beginning c cs).more (k + 1) cs (omega arith) h.1)

by_character_few : (m : ℕ) (a b : Bool) (x : List Piece) (p : Piece) (y : List Piece) → length x ≤ m → length y ≤ m →
    (let ps : List Piece = elim a [ true ↦ x | false ↦ elim b [ true ↦ [] | false ↦ p ∷ y ] ] in length ps ≤ suc m)
by_character_few m true b x p y h i = omega arith
by_character_few m false true x p y h i = omega arith
by_character_few m false false x p y h i = omega arith

few_pieces : (n k : ℕ) (cs : List ℕ) → length (pieces_after n k cs) ≤ length cs
few_pieces n k [] = omega arith
few_pieces (suc n) k (c ∷ cs) = let r = few_pieces n (k + 1) cs in omega arith
few_pieces zero k (c ∷ cs) =
    by_character_few (length cs) (is_blank c) (c == code "⍝") (pieces_after zero (k + 1) cs)
    (record { from = k; past = k + 1 + (beginning c cs).more; found = (beginning c cs).found }) (pieces_after (beginning c cs).more (k + 1) cs)
    (few_pieces zero (k + 1) cs) (few_pieces (beginning c cs).more (k + 1) cs)

-- ---- Tokens ----

-- a word whose numbers are at most so many, and whose text has at most `most` characters
abbrev IsWordOf : ℕ → ℕ → Word → Type 0
IsWordOf most k (word.Numbers zs) = AllByRecursion IsNumber zs × (0 < length zs) × (length zs ≤ k)
IsWordOf most k (word.Chars zs) = AllByRecursion (IsCell kind.Char) zs × (length zs ≤ most)
IsWordOf most k (word.Name n) = IsTrue (is_name n)
IsWordOf most k (word.Glyph c) = Unit {0}

abbrev AreWordsOf : ℕ → ℕ → List Token → Type 0
AreWordsOf most k [] = Unit {0}
AreWordsOf most k (t ∷ ts) = IsWordOf most k t.word × AreWordsOf most k ts

one_wider : (most k : ℕ) (w : Word) → IsWordOf most k w → IsWordOf most (suc k) w
one_wider most k (word.Numbers zs) h = let f = h.2 in (h.0, h.1, omega arith)
one_wider most k (word.Chars zs) h = h
one_wider most k (word.Name n) h = h
one_wider most k (word.Glyph c) h = h

wider : (most k : ℕ) (ts : List Token) → AreWordsOf most k ts → AreWordsOf most (suc k) ts
wider most k [] h = tt
wider most k (t ∷ ts) h = (one_wider most k t.word h.0, wider most k ts h.1)

number_before_word : (most k from past a b : ℕ) (z : ℤ) (w : Word) (ts : List Token) → IsNumber z → IsWordOf most k w → AreWordsOf most k ts →
    AreWordsOf most (suc k) (number_before from past z (record { from = a; past = b; word = w } ∷ ts))
number_before_word most k from past a b z (word.Numbers zs) ts n h i = let f = h.2 in (((n, h.0), omega arith, omega arith), wider most k ts i)
number_before_word most k from past a b z (word.Chars zs) ts n h i = (((n, tt), omega arith, omega arith), (h, wider most k ts i))
number_before_word most k from past a b z (word.Name m) ts n h i = (((n, tt), omega arith, omega arith), (h, wider most k ts i))
number_before_word most k from past a b z (word.Glyph c) ts n h i = (((n, tt), omega arith, omega arith), (h, wider most k ts i))

number_before_holds : (most k from past : ℕ) (z : ℤ) (ts : List Token) → IsNumber z → AreWordsOf most k ts → AreWordsOf most (suc k) (number_before from past z ts)
number_before_holds most k from past z [] n h = (((n, tt), omega arith, omega arith), tt)
number_before_holds most k from past z (t ∷ ts) n h = number_before_word most k from past t.from t.past z t.word ts n h.0 h.1

-- the cells of the text that a token begins with
abbrev cells_in : Word → List ℤ
cells_in (word.Numbers zs) = []
cells_in (word.Chars zs) = zs
cells_in (word.Name n) = []
cells_in (word.Glyph c) = []

abbrev first_cells : List Token → List ℤ
first_cells [] = []
first_cells (t ∷ ts) = cells_in t.word

text_cells : List ℕ → List ℤ
text_cells cs = first_cells (tokens_of_pieces (record { from = 0; past = 0; found = text cs } ∷ []))

cells_hold : (cs : List ℕ) → AllByRecursion IsScalar cs → AllByRecursion (IsCell kind.Char) (text_cells cs)
unfolding text_cells
cells_hold [] h = tt
cells_hold (c ∷ cs) h = (h.0, cells_hold cs h.1)

length-cells : (cs : List ℕ) → length (text_cells cs) ≡ length cs
unfolding text_cells
length-cells [] = refl
length-cells (c ∷ cs) = ap suc (length-cells cs)

by_found : (most a b : ℕ) (f : Found) (ps : List Piece) → IsFound most f → AreWordsOf most (length ps) (tokens_of_pieces ps) →
    AreWordsOf most (suc (length ps)) (tokens_of_pieces (record { from = a; past = b; found = f } ∷ ps))
unfolding text_cells
by_found most a b (number z) ps h i = number_before_holds most (length ps) a b z (tokens_of_pieces ps) h i
by_found most a b (text cs) ps h i = let l = length-cells cs in let f = h.1 in ((cells_hold cs h.0, omega arith), wider most (length ps) (tokens_of_pieces ps) i)
by_found most a b (name n) ps h i = (h, wider most (length ps) (tokens_of_pieces ps) i)
by_found most a b (glyph g) ps h i = (tt, wider most (length ps) (tokens_of_pieces ps) i)
by_found most a b (fault c) ps h i = wider most (length ps) (tokens_of_pieces ps) i

tokens_hold : (most : ℕ) (ps : List Piece) → ArePieces most ps → AreWordsOf most (length ps) (tokens_of_pieces ps)
tokens_hold most [] h = tt
tokens_hold most (p ∷ ps) h = by_found most p.from p.past p.found ps h.0 (tokens_hold most ps h.1)

lawful_word : (most k : ℕ) (w : Word) → most ≤ 2 ^ 40 → k ≤ 2 ^ 40 → IsWordOf most k w → IsWord w
lawful_word most k (word.Numbers zs) l m h = let f = h.2 in record { cells = h.0; filled = h.1; few = omega arith }
lawful_word most k (word.Chars zs) l m h = let f = h.1 in record { cells = h.0; filled = tt; few = omega arith }
lawful_word most k (word.Name n) l m h = h
lawful_word most k (word.Glyph c) l m h = tt

lawful_words : (most k : ℕ) (ts : List Token) → most ≤ 2 ^ 40 → k ≤ 2 ^ 40 → AreWordsOf most k ts → AreWords ts
lawful_words most k [] l m h = tt
lawful_words most k (t ∷ ts) l m h = (lawful_word most k t.word l m h.0, lawful_words most k ts l m h.1)

line_words : (line : List ℕ) → AllByRecursion IsScalar line → length line ≤ 2 ^ 40 → AreWords (tokens line)
line_words line h l =
    let f = few_pieces 0 1 line in
    lawful_words (length line) (length (pieces line)) (tokens line) l (omega arith) (tokens_hold (length line) (pieces line) (pieces_hold (length line) 0 1 line (omega arith) h))

-- the words of tokens that a line may be given with are lawful
pub given_words : (line : List ℕ) (ts : List Token) → AllByRecursion IsScalar line → length line ≤ 1000 → AreTokensOf line ts → AreWords ts
given_words line ts h l (all_of r) = subst AreWords r.same (line_words line h (omega arith))
given_words line ts h l (after_label first colon label e f r) = (subst AreWords r.same (line_words line h (omega arith))).1.1

-- so are those of a line whose text is the characters of UTF-8
pub text_words : (bytes line : List ℕ) (ts : List Token) → IsUtf8 bytes → chars bytes ≡ line → length line ≤ 1000 → AreTokensOf line ts → AreWords ts
text_words bytes line ts u e l h = given_words line ts (are_scalars line (subst (λ cs. scalars cs ≡ true) e (scalars-chars bytes u))) l h

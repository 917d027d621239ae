-- The reader of first lines is at an end exactly after headers.
use Rattle.std.proofs.Common.{◌≡◌, ℕ, ◌==◌, Bool, true, false, cond, IsTrue, List, [], ◌∷◌, ◌++◌, ◌≤◌, length, take, Option, None, Some, refl, sym, ap, subst, ◌∙◌, append_assoc, append-nil, codes}
use Rattle.std.proofs.lemmas.Bool.{eqb-true}
use Rattle.apl_model.proofs.Unique.{words_of, token_words, same_words}
use Rattle.apl_model.specs.Characters.{code, is_name}
use Rattle.apl_model.specs.Grammar.{IsHeader, IsOptionalName}
use Rattle.apl_model.specs.Refusal.{first_line}
use Rattle.apl_model.specs.Script.{opens, IsHeadOf}
use Rattle.apl_model.specs.Spelling.{Mark, some, glyph, result_marks, argument_marks, local_marks, header_spelling, Spell}
use Rattle.apl_model.specs.declared.scripts.Header.{Header}
use Rattle.apl_model.specs.declared.tokens.Heading.{Heading}
use Rattle.apl_model.specs.declared.tokens.Line.{Line}
use Rattle.apl_model.specs.declared.tokens.Token.{Token}
use Rattle.apl_model.specs.declared.tokens.Word.{Word}
use Rattle.apl_model.specs.declared.tokens.Word.TheVariants as word
use Rattle.apl_tree.proofs.SortFacts.{IsWord, AreWords}
use Rattle.apl_tree.proofs.SplitTokens.{IsNumbers}
use Rattle.apl_defn.proofs.LineWords.{glyph_is}
use Rattle.apl_defn.proofs.PlainMarks.{names_more, words-append, ArePlain, plain-append, plain_locals, plain_argument, plain_result, spells_by_words}
use Rattle.apl_defn.proofs.Readers.{run, behind_first, read_all, GoesBy, runs_on, some_is, none_is, Ends, Completes, by_nothing, by_name, Reads}
use Rattle.apl_defn.specs.HeaderSteps.{named, with_argument, with_local, as_result, takes_name, takes_arrow, takes_semicolon, takes, finished}
use Rattle.apl_defn.specs.declared.headers.HeaderSoFar.{HeaderSoFar}
use Rattle.apl_defn.specs.declared.headers.HeaderSoFar.TheVariants as so_far

-- ---- What was read ----

abbrev head : List ℕ → Option (List ℕ) → Option (List ℕ) → Option (List ℕ) → List (List ℕ) → Header
head f z x y ls = record { f = f; result = z; left = x; right = y; locals = ls }

-- the marks of a header behind its ∇
abbrev marks : Header → List Mark
marks h = (result_marks h.result ++ argument_marks h.left) ++ (some (word.Name h.f) ∷ (argument_marks h.right ++ local_marks h.locals))

-- they say no places
plain_marks : (h : Header) → ArePlain (marks h)
plain_marks h =
    plain-append (result_marks h.result ++ argument_marks h.left) _
    (plain-append (result_marks h.result) (argument_marks h.left) (plain_result h.result) (plain_argument h.left))
    (plain-append (argument_marks h.right) _ (plain_argument h.right) (plain_locals h.locals))

-- the words that were read
abbrev shown : HeaderSoFar → List Word
shown so_far.Opened = []
shown (so_far.Named h) = words_of (marks h)
shown (so_far.Assigned z) = word.Name z ∷ glyph "←" ∷ []
shown (so_far.Semicolon h) = words_of (marks h) ++ (glyph ";" ∷ [])
shown (so_far.Local h) = words_of (marks h)

-- their names are names, and before the first ; there is no local
abbrev IsSoFar : HeaderSoFar → Type 0
IsSoFar so_far.Opened = Unit {0}
IsSoFar (so_far.Named h) = IsHeader h × (h.locals ≡ [])
IsSoFar (so_far.Assigned z) = IsTrue (is_name z)
IsSoFar (so_far.Semicolon h) = IsHeader h
IsSoFar (so_far.Local h) = IsHeader h

-- by this word the reader goes on from x to y
abbrev Goes : HeaderSoFar → Word → HeaderSoFar → Type 0
Goes = GoesBy shown IsSoFar

false_true : false ≡ true → ⊥
false_true e = cc

-- ---- One word more ----

-- a function without arguments has a header
is_named : (f : List ℕ) (z : Option (List ℕ)) → IsTrue (is_name f) → IsOptionalName z → IsHeader (head f z None None [])
is_named f z h i = record { f = h; result = i; left = tt; right = tt; locals = tt; both = λ e. absurd (false_true e) }

-- an argument more, where there are no locals: a name behind the others
by_argument : (f : List ℕ) (z x y : Option (List ℕ)) (n : List ℕ) (next : HeaderSoFar) → IsTrue (is_name n) → IsHeader (head f z x y []) →
    with_argument (head f z x y []) n ≡ Some next →
    Goes (so_far.Named (head f z x y [])) (word.Name n) next
by_argument f None None None n next i h e =
    some_is (Goes (so_far.Named (head f None None None [])) (word.Name n))
    (so_far.Named (head f None None (Some n) [])) next
    (record { shows = refl; lawful = (record { f = h.f; result = tt; left = tt; right = i; locals = tt; both = λ g. refl }, refl) }) e
by_argument f (Some z) None None n next i h e =
    some_is (Goes (so_far.Named (head f (Some z) None None [])) (word.Name n))
    (so_far.Named (head f (Some z) None (Some n) [])) next
    (record { shows = refl; lawful = (record { f = h.f; result = h.result; left = tt; right = i; locals = tt; both = λ g. refl }, refl) }) e
by_argument f None None (Some y) n next i h e =
    some_is (Goes (so_far.Named (head f None None (Some y) [])) (word.Name n))
    (so_far.Named (head y None (Some f) (Some n) [])) next
    (record { shows = refl; lawful = (record { f = h.right; result = tt; left = h.f; right = i; locals = tt; both = λ g. refl }, refl) }) e
by_argument f (Some z) None (Some y) n next i h e =
    some_is (Goes (so_far.Named (head f (Some z) None (Some y) [])) (word.Name n))
    (so_far.Named (head y (Some z) (Some f) (Some n) [])) next
    (record { shows = refl; lawful = (record { f = h.right; result = h.result; left = h.f; right = i; locals = tt; both = λ g. refl }, refl) }) e
by_argument f z (Some x) y n next i h e = none_is e

-- the same of a header that is known to have no locals
argument_goes : (f : List ℕ) (z x y : Option (List ℕ)) (ls : List (List ℕ)) (n : List ℕ) (next : HeaderSoFar) → IsTrue (is_name n) → IsHeader (head f z x y ls) →
    ls ≡ [] → with_argument (head f z x y ls) n ≡ Some next →
    Goes (so_far.Named (head f z x y ls)) (word.Name n) next
argument_goes f z x y [] n next i h e g = by_argument f z x y n next i h g
argument_goes f z x y (l ∷ ls) n next i h e g = absurd (cons_clash e)
  where
    cons_clash : {k : List ℕ} {ks : List (List ℕ)} → k ∷ ks ≡ [] → ⊥
    cons_clash e = cc

-- ← behind one name, which is then that of the result
result_goes : (f : List ℕ) (z x y : Option (List ℕ)) (ls : List (List ℕ)) (next : HeaderSoFar) → IsHeader (head f z x y ls) →
    ls ≡ [] → as_result (head f z x y ls) ≡ Some next →
    Goes (so_far.Named (head f z x y ls)) (glyph "←") next
result_goes f None None None [] next h e g =
    some_is (Goes (so_far.Named (head f None None None [])) (glyph "←"))
    (so_far.Assigned f) next (record { shows = refl; lawful = h.f }) g
result_goes f None None None (l ∷ ls) next h e g = absurd (cons_clash e)
  where
    cons_clash : {k : List ℕ} {ks : List (List ℕ)} → k ∷ ks ≡ [] → ⊥
    cons_clash e = cc
result_goes f None None (Some y) ls next h e g = none_is g
result_goes f None (Some x) y ls next h e g = none_is g
result_goes f (Some z) x y ls next h e g = none_is g

-- the words of one local more
locals_more : (ls : List (List ℕ)) (l : List ℕ) → words_of (local_marks (ls ++ (l ∷ []))) ≡ words_of (local_marks ls) ++ (glyph ";" ∷ word.Name l ∷ [])
locals_more [] l = refl
locals_more (k ∷ ks) l = ap (λ ws. glyph ";" ∷ word.Name k ∷ ws) (locals_more ks l)

-- a header with one local more shows ; and its name behind the others
local_shown : (h : Header) (l : List ℕ) → (words_of (marks h) ++ (glyph ";" ∷ [])) ++ (word.Name l ∷ []) ≡ words_of (marks (with_local h l))
local_shown h l = simp (words-append, append_assoc, locals_more)

-- and is one of the language
local_lawful : (h : Header) (l : List ℕ) → IsHeader h → IsTrue (is_name l) → IsHeader (with_local h l)
local_lawful h l i j = record { f = i.f; result = i.result; left = i.left; right = i.right; locals = names_more h.locals l i.locals j; both = i.both }

-- each word that the reader takes, it shows: a name, ← and ;
name_goes : (x : HeaderSoFar) (n : List ℕ) (y : HeaderSoFar) → IsTrue (is_name n) → IsSoFar x → takes_name x n ≡ Some y → Goes x (word.Name n) y
name_goes so_far.Opened n y i s e =
    some_is (Goes so_far.Opened (word.Name n)) (named None n) y (record { shows = refl; lawful = (is_named n None i tt, refl) }) e
name_goes (so_far.Named h) n y i s e = argument_goes h.f h.result h.left h.right h.locals n y i s.0 s.1 e
name_goes (so_far.Assigned z) n y i s e =
    some_is (Goes (so_far.Assigned z) (word.Name n)) (named (Some z) n) y (record { shows = refl; lawful = (is_named n (Some z) i s, refl) }) e
name_goes (so_far.Semicolon h) n y i s e =
    some_is (Goes (so_far.Semicolon h) (word.Name n)) (so_far.Local (with_local h n)) y (record { shows = local_shown h n; lawful = local_lawful h n s i }) e
name_goes (so_far.Local h) n y i s e = none_is e

arrow_goes : (x y : HeaderSoFar) → IsSoFar x → takes_arrow x ≡ Some y → Goes x (glyph "←") y
arrow_goes so_far.Opened y s e = none_is e
arrow_goes (so_far.Named h) y s e = result_goes h.f h.result h.left h.right h.locals y s.0 s.1 e
arrow_goes (so_far.Assigned z) y s e = none_is e
arrow_goes (so_far.Semicolon h) y s e = none_is e
arrow_goes (so_far.Local h) y s e = none_is e

semicolon_goes : (x y : HeaderSoFar) → IsSoFar x → takes_semicolon x ≡ Some y → Goes x (glyph ";") y
semicolon_goes so_far.Opened y s e = none_is e
semicolon_goes (so_far.Named h) y s e = some_is (Goes (so_far.Named h) (glyph ";")) (so_far.Semicolon h) y (record { shows = refl; lawful = s.0 }) e
semicolon_goes (so_far.Assigned z) y s e = none_is e
semicolon_goes (so_far.Semicolon h) y s e = none_is e
semicolon_goes (so_far.Local h) y s e = some_is (Goes (so_far.Local h) (glyph ";")) (so_far.Semicolon h) y (record { shows = refl; lawful = s }) e

glyph_goes : (a b : Bool) (c : ℕ) (x y : HeaderSoFar) → (c == code "←") ≡ a → (c == code ";") ≡ b → IsSoFar x →
    (let o : Option HeaderSoFar = cond a (takes_arrow x) (cond b (takes_semicolon x) None) in o ≡ Some y) → Goes x (word.Glyph c) y
glyph_goes true b c x y f g s e = subst (λ d. Goes x (word.Glyph d) y) (sym (eqb-true c (code "←") f)) (arrow_goes x y s e)
glyph_goes false true c x y f g s e = subst (λ d. Goes x (word.Glyph d) y) (sym (eqb-true c (code ";") g)) (semicolon_goes x y s e)
glyph_goes false false c x y f g s e = none_is e

goes_on : (x : HeaderSoFar) (w : Word) (y : HeaderSoFar) → IsWord w → IsSoFar x → takes x w ≡ Some y → Goes x w y
goes_on x (word.Numbers zs) y i s e = none_is e
goes_on x (word.Chars zs) y i s e = none_is e
goes_on x (word.Name n) y i s e = name_goes x n y i s e
goes_on x (word.Glyph c) y i s e = glyph_goes (c == code "←") (c == code ";") c x y refl refl s e

-- ---- Sound ----

-- the words are those of the header
record IsHeaderOf (h : Header) (ws : List Word) : Type 0 where
  lawful : IsHeader h
  same : words_of (marks h) ≡ ws

-- where the reader is at an end, it read the words of the header that it answers
header_is : (y : HeaderSoFar) (h : Header) (ws : List Word) → IsSoFar y → finished y ≡ Some h → ws ≡ shown y → IsHeaderOf h ws
header_is so_far.Opened h ws s f e = none_is f
header_is (so_far.Named k) h ws s f e = some_is (λ v. IsHeaderOf v ws) k h (record { lawful = s.0; same = sym e }) f
header_is (so_far.Assigned z) h ws s f e = none_is f
header_is (so_far.Semicolon k) h ws s f e = none_is f
header_is (so_far.Local k) h ws s f e = some_is (λ v. IsHeaderOf v ws) k h (record { lawful = s; same = sym e }) f

-- ---- Complete ----

-- the reader goes over locals
locals_run : (f : List ℕ) (z x y : Option (List ℕ)) (ks ls : List (List ℕ)) →
    run takes (Some (so_far.Local (head f z x y ks))) (words_of (local_marks ls))
    ≡ Some (so_far.Local (head f z x y (ks ++ ls)))
locals_run f z x y ks [] = ap (λ v. Some (so_far.Local (head f z x y v))) (sym (append-nil ks))
locals_run f z x y ks (l ∷ ls) =
    locals_run f z x y (ks ++ (l ∷ [])) ls
    ∙ ap (λ v. Some (so_far.Local (head f z x y v))) (append_assoc ks (l ∷ []) ls)

-- and over those behind a header without locals, and is at an end then
ends_bare : (f : List ℕ) (z x y : Option (List ℕ)) (ls : List (List ℕ)) → Ends takes finished (so_far.Named (head f z x y [])) (words_of (local_marks ls))
ends_bare f z x y [] = let h : Header = head f z x y [] in record { last = so_far.Named h; answer = h; runs = refl; ends = refl }
ends_bare f z x y (l ∷ ls) =
    let h : Header = head f z x y ((l ∷ []) ++ ls) in
    record { last = so_far.Local h; answer = h; runs = locals_run f z x y (l ∷ []) ls; ends = refl }

-- the reader goes over a header, and is at an end then
ends_header : (f : List ℕ) (z x y : Option (List ℕ)) (ls : List (List ℕ)) → IsHeader (head f z x y ls) →
    Ends takes finished so_far.Opened (words_of (marks (head f z x y ls)))
ends_header f None None None ls h = let r = ends_bare f None None None ls in record { last = r.last; answer = r.answer; runs = r.runs; ends = r.ends }
ends_header f None None (Some y) ls h = let r = ends_bare f None None (Some y) ls in record { last = r.last; answer = r.answer; runs = r.runs; ends = r.ends }
ends_header f None (Some x) (Some y) ls h = let r = ends_bare f None (Some x) (Some y) ls in record { last = r.last; answer = r.answer; runs = r.runs; ends = r.ends }
ends_header f (Some z) None None ls h = let r = ends_bare f (Some z) None None ls in record { last = r.last; answer = r.answer; runs = r.runs; ends = r.ends }
ends_header f (Some z) None (Some y) ls h = let r = ends_bare f (Some z) None (Some y) ls in record { last = r.last; answer = r.answer; runs = r.runs; ends = r.ends }
ends_header f (Some z) (Some x) (Some y) ls h = let r = ends_bare f (Some z) (Some x) (Some y) ls in record { last = r.last; answer = r.answer; runs = r.runs; ends = r.ends }
ends_header f z (Some x) None ls h = absurd (false_true (h.both refl))

-- ---- Completions ----

-- behind ∇, ← and ; a name completes the header, elsewhere nothing has to follow
completes : (x : HeaderSoFar) → Completes takes finished x
completes so_far.Opened = by_name takes finished so_far.Opened (named None (codes "A")) (head (codes "A") None None None []) refl refl
completes (so_far.Named h) = by_nothing takes finished (so_far.Named h) h refl
completes (so_far.Assigned z) = by_name takes finished (so_far.Assigned z) (named (Some z) (codes "A")) (head (codes "A") (Some z) None None []) refl refl
completes (so_far.Semicolon h) = by_name takes finished (so_far.Semicolon h) (so_far.Local (with_local h (codes "A"))) (with_local h (codes "A")) refl refl
completes (so_far.Local h) = by_nothing takes finished (so_far.Local h) h refl

-- ∇ is no literal of numbers
not_numbers : (w : Word) → glyph "∇" ≡ w → IsNumbers w → ⊥
not_numbers w e h = subst IsNumbers (sym e) h

-- the tokens spell the header that the reader answers
read_sound : (n : ℕ) (ts : List Token) (y : HeaderSoFar) (h : Header) → AreWords ts → run takes (Some so_far.Opened) (token_words ts) ≡ Some y → finished y ≡ Some h →
    IsHeader h × Spell n (marks h) ts
read_sound n ts y h w runs ends =
    let r = runs_on takes shown IsSoFar goes_on so_far.Opened ts y w tt runs in
    let s = header_is y h (token_words ts) r.lawful ends r.shows in
    (s.lawful, spells_by_words n (marks h) ts (plain_marks h) s.same)

-- the reader is at an end exactly after headers
pub header_reads : (hs : List Heading) (n : ℕ) (first : Token) → glyph "∇" ≡ first.word → Reads takes finished so_far.Opened first_line hs n first
header_reads hs n first e = record {
  begins = not_numbers first.word e;
  sound = λ ts w f. let r = read_sound n ts f.last f.answer w f.runs f.ends in (f.answer, r.0, (e, r.1));
  complete = λ ts l.
      subst (Ends takes finished so_far.Opened) (same_words n (marks l.0) ts l.2.1)
      (ends_header l.0.f l.0.result l.0.left l.0.right l.0.locals l.1);
  completes = completes;
}

-- ---- First lines ----

-- a line that opens a definition: ∇ and the other tokens
pub record IsOpened (ts : List Token) : Type 0 where
  pub first : Token
  pub rest : List Token
  pub split : ts ≡ first ∷ rest
  pub begins : glyph "∇" ≡ first.word

-- a line that opens a definition begins with ∇
pub opened : (ts : List Token) → opens ts ≡ true → IsOpened ts
opened [] e = absurd (false_true e)
opened (t ∷ []) e = absurd (false_true e)
opened (t ∷ u ∷ ts) e = record { first = t; rest = u ∷ ts; split = refl; begins = glyph_is "∇" t e }

-- the line is the first one of a definition with the header that the reader answers behind its last token
pub head_of_all : (l : Line) (ts : List Token) (i : ℕ) (y : HeaderSoFar) (h : Header) → AreWords l.tokens → opens l.tokens ≡ true → ts ≡ l.tokens →
    length (behind_first ts) ≤ i → run takes (Some so_far.Opened) (token_words (take i (behind_first ts))) ≡ Some y → finished y ≡ Some h → IsHeadOf l h
head_of_all l ts i y h w o e len runs ends =
    let s = opened l.tokens o in
    let f = e ∙ s.split in
    let r = read_sound l.number s.rest y h (subst AreWords s.split w).1 (read_all takes so_far.Opened s.first ts s.rest i y f len runs) ends in
    record { header = r.0; spells = subst (Spell l.number (header_spelling h)) (sym s.split) (s.begins, r.1) }

-- A reader goes over the words of a line one by one. Where it stops is the place at which the line stops being the
-- beginning of a lawful one.
use Rattle.std.proofs.Common.{◌≡◌, ℕ, ◌+◌, ◌-◌, ◌<◌, ◌≤◌, List, [], ◌∷◌, ◌++◌, length, take, drop, get_or, Option, None, Some, ℤ, refl, sym, ap, subst, ◌∙◌, append_assoc, append-nil, codes, arith}
use Rattle.std.proofs.lemmas.List.{drop_more, take_more, take_all, take-append-drop}
use Rattle.std.specs.Option.{option_and_then}
use Rattle.apl_model.proofs.Unique.{token_words}
use Rattle.apl_model.specs.Refusal.{LineKind, IsLawful, IsBeginning, StopsAt, at_token, past_the_last, past_last}
use Rattle.apl_model.specs.Tokens.{pieces_after, AreSound, IsRead}
use Rattle.apl_model.specs.declared.tokens.Heading.{Heading}
use Rattle.apl_model.specs.declared.tokens.Line.{Line}
use Rattle.apl_model.specs.declared.tokens.Token.{Token}
use Rattle.apl_model.specs.declared.tokens.Word.{Word}
use Rattle.apl_model.specs.declared.tokens.Word.TheVariants as word
use Rattle.apl_tree.proofs.Places.{words_append, words_front}
use Rattle.apl_tree.proofs.SortFacts.{IsWord, AreWords}
use Rattle.apl_tree.proofs.SplitTokens.{IsNumbers, EndsInNumbers, BeginsWithNumbers}
use Rattle.apl_tree.proofs.Tails.{tokens_at}
use Rattle.apl_defn.proofs.Continued.{continued}
use Rattle.apl_defn.specs.Reading.{IsReadLine}

-- ---- Runs ----

-- the state after these words, where the reader takes each of them
abbrev pub run : {S : Type 0} → (S → Word → Option S) → Option S → List Word → Option S
run takes x [] = x
run takes x (w ∷ ws) = run takes (option_and_then (λ y. takes y w) x) ws

-- the words of tokens joined
pub words-append : (ts us : List Token) → token_words (ts ++ us) ≡ token_words ts ++ token_words us
words-append [] us = refl
words-append (t ∷ ts) us = ap (λ ws. t.word ∷ ws) (words-append ts us)

-- the state after words joined
pub run-append : {S : Type 0} (takes : S → Word → Option S) (x : Option S) (ws vs : List Word) → run takes x (ws ++ vs) ≡ run takes (run takes x ws) vs
run-append takes x [] vs = refl
run-append takes x (w ∷ ws) vs = run-append takes (option_and_then (λ y. takes y w) x) ws vs

-- what stopped stays so
pub run-none : {S : Type 0} (takes : S → Word → Option S) (ws : List Word) → run takes None ws ≡ None
run-none takes [] = refl
run-none takes (w ∷ ws) = run-none takes ws

-- the state after these tokens, and after more
pub run-tokens : {S : Type 0} (takes : S → Word → Option S) (x : Option S) (ts us : List Token) →
    run takes x (token_words (ts ++ us)) ≡ run takes (run takes x (token_words ts)) (token_words us)
run-tokens takes x ts us = ap (run takes x) (words-append ts us) ∙ run-append takes x (token_words ts) (token_words us)

-- one token more
pub run-more : {S : Type 0} (takes : S → Word → Option S) (x : Option S) (y : S) (ts : List Token) (i : ℕ) (t : Token) → i < length ts → t ≡ get_or ts i t →
    run takes x (token_words (take i ts)) ≡ Some y → run takes x (token_words (take (i + 1) ts)) ≡ takes y t.word
run-more takes x y ts i t l e r =
    ap (λ us. run takes x (token_words us)) (take_more ts i t l ∙ ap (λ (u : Token). take i ts ++ u ∷ []) (sym e))
    ∙ run-tokens takes x (take i ts) (t ∷ []) ∙ ap (λ z. run takes z (t.word ∷ [])) r

-- the tokens cut before one of them
pub cut_at : (ts : List Token) (i : ℕ) (t : Token) → i < length ts → t ≡ get_or ts i t → ts ≡ take i ts ++ (t ∷ drop (i + 1) ts)
cut_at ts i t l e = sym (take-append-drop i ts) ∙ ap (λ us. take i ts ++ us) (drop_more ts i t l ∙ ap (λ (u : Token). u ∷ drop (i + 1) ts) (sym e))

-- the tokens behind the first one, as a slice
abbrev pub behind_first : List Token → List Token
behind_first ts = take (length ts - 1) (drop 1 ts)

-- that slice of a list with a first token
rest_is : (first : Token) (ts us : List Token) → ts ≡ first ∷ us → behind_first ts ≡ us
rest_is first ts us e = ap behind_first e ∙ take_all (length (first ∷ us) - 1) us (omega arith)

-- the reader goes over all tokens
pub read_all : {S : Type 0} (takes : S → Word → Option S) (start : S) (first : Token) (ts us : List Token) (i : ℕ) (x : S) → ts ≡ first ∷ us → length (behind_first ts) ≤ i →
    run takes (Some start) (token_words (take i (behind_first ts))) ≡ Some x → run takes (Some start) (token_words us) ≡ Some x
read_all takes start first ts us i x e l runs =
    ap (λ vs. run takes (Some start) (token_words vs)) (sym (rest_is first ts us e) ∙ sym (take_all i (behind_first ts) l)) ∙ runs

-- ---- What was read ----

-- what holds of a holds of what Some a equals
pub some_is : {A : Type 0} (P : A → Type 0) (a b : A) → P a → Some a ≡ Some b → P b
some_is P a b h e = let f : a ≡ b = cc in subst P f h

-- None equals no Some
pub none_is : {A B : Type 0} {b : B} → None ≡ Some b → A
none_is e = cc

-- by these words the reader goes on from x to y: a state shows the words that were read, and is lawful
pub record GoesOn {S : Type 0} (shown : S → List Word) (IsSoFar : S → Type 0) (x : S) (ws : List Word) (y : S) : Type 0 where
  pub shows : shown x ++ ws ≡ shown y
  pub lawful : IsSoFar y

-- and by one word
abbrev pub GoesBy : {S : Type 0} (shown : S → List Word) (IsSoFar : S → Type 0) → S → Word → S → Type 0
GoesBy shown IsSoFar x w y = GoesOn shown IsSoFar x (w ∷ []) y

module _ {S : Type 0} (takes : S → Word → Option S) (shown : S → List Word) (IsSoFar : S → Type 0)
    (goes_on : (x : S) (w : Word) (y : S) → IsWord w → IsSoFar x → takes x w ≡ Some y → GoesOn shown IsSoFar x (w ∷ []) y) where
  -- a reader that goes on so by each word goes on so by many
  pub runs_on : (x : S) (ts : List Token) (y : S) → AreWords ts → IsSoFar x → run takes (Some x) (token_words ts) ≡ Some y → GoesOn shown IsSoFar x (token_words ts) y
  runs_on x [] y h s e = some_is (GoesOn shown IsSoFar x []) x y (record { shows = append-nil (shown x); lawful = s }) e
  runs_on x (t ∷ ts) y h s e = by (takes x t.word) refl e (λ z i f. runs_on z ts y h.1 i f)
    where
      by : (o : Option S) → takes x t.word ≡ o → run takes o (token_words ts) ≡ Some y →
          ((z : S) → IsSoFar z → run takes (Some z) (token_words ts) ≡ Some y → GoesOn shown IsSoFar z (token_words ts) y) → GoesOn shown IsSoFar x (t.word ∷ token_words ts) y
      by None f e g = none_is (sym (run-none takes (token_words ts)) ∙ e)
      by (Some z) f e g =
          let a = goes_on x t.word z h.0 s f in
          let b = g z a.lawful e in
          record { shows = sym (append_assoc (shown x) (t.word ∷ []) (token_words ts)) ∙ ap (λ ws. ws ++ token_words ts) a.shows ∙ b.shows; lawful = b.lawful }

-- ---- Readers of a kind of lines ----

-- from the state x the reader goes over the words, and is at an end then
pub record Ends {S R : Type 0} (takes : S → Word → Option S) (finished : S → Option R) (x : S) (ws : List Word) : Type 0 where
  pub last : S
  pub answer : R
  pub runs : run takes (Some x) ws ≡ Some last
  pub ends : finished last ≡ Some answer

-- a text at which the reader is at an end, from the state x on
pub record Completes {S R : Type 0} (takes : S → Word → Option S) (finished : S → Option R) (x : S) : Type 0 where
  pub more : List ℕ
  pub sound : (k : ℕ) → AreSound (pieces_after 0 k more)
  pub words : (k : ℕ) → AreWords (tokens_at k more)
  pub ends : (k : ℕ) → Ends takes finished x (token_words (tokens_at k more))
  pub apart : (k : ℕ) → BeginsWithNumbers (tokens_at k more) → (y : S) (zs : List ℤ) → takes y (word.Numbers zs) ≡ Some x → ⊥

-- where the reader is at an end, nothing has to follow
pub by_nothing : {S R : Type 0} (takes : S → Word → Option S) (finished : S → Option R) (x : S) (a : R) → finished x ≡ Some a → Completes takes finished x
by_nothing takes finished x a e = record {
  more = [];
  sound = λ k. tt;
  words = λ k. tt;
  ends = λ k. record { last = x; answer = a; runs = refl; ends = e };
  apart = λ k h. absurd h;
}

-- a name
pub by_name : {S R : Type 0} (takes : S → Word → Option S) (finished : S → Option R) (x y : S) (a : R) → takes x (word.Name (codes "A")) ≡ Some y → finished y ≡ Some a → Completes takes finished x
by_name takes finished x y a e f = record {
  more = codes "A";
  sound = λ k. (tt, tt);
  words = λ k. (refl, tt);
  ends = λ k. record { last = y; answer = a; runs = e; ends = f };
  apart = λ k h. absurd h;
}

-- the reader is at an end exactly after the lawful lines of this kind that begin with this token
pub record Reads {S R : Type 0} (takes : S → Word → Option S) (finished : S → Option R) (start : S) (kind : LineKind) (hs : List Heading) (n : ℕ) (first : Token) : Type 0 where
  pub begins : IsNumbers first.word → ⊥
  pub sound : (ts : List Token) → AreWords ts → Ends takes finished start (token_words ts) → IsLawful kind hs n (first ∷ ts)
  pub complete : (ts : List Token) → IsLawful kind hs n (first ∷ ts) → Ends takes finished start (token_words ts)
  pub completes : (x : S) → Completes takes finished x

-- where the reader stops: at a token that it can't take, or at the end
pub data Stops {S R : Type 0} (takes : S → Word → Option S) (finished : S → Option R) (start : S) (first : Token) (ts : List Token) (column : ℕ) : Type 0 where
  before_token : (before : List Token) (t : Token) (after : List Token) (x : S) → ts ≡ before ++ (t ∷ after) →
      run takes (Some start) (token_words before) ≡ Some x → takes x t.word ≡ None → column ≡ t.from → Stops takes finished start first ts column
  behind_all : (x : S) → run takes (Some start) (token_words ts) ≡ Some x → finished x ≡ None →
      column ≡ past_last (first ∷ ts) → Stops takes finished start first ts column

module _ {S R : Type 0} (takes : S → Word → Option S) (finished : S → Option R) where
  -- a word of numbers that the reader took last
  numbers_last : (start x : S) (ts : List Token) → EndsInNumbers ts → run takes (Some start) (token_words ts) ≡ Some x →
      ((y : S) (zs : List ℤ) → takes y (word.Numbers zs) ≡ Some x → ⊥) → ⊥
  numbers_last start x [] i e f = absurd i
  numbers_last start x (t ∷ []) i e f = last t.word i e
    where
      last : (w : Word) → IsNumbers w → takes start w ≡ Some x → ⊥
      last (word.Numbers zs) i e = f start zs e
      last (word.Chars zs) i e = absurd i
      last (word.Name m) i e = absurd i
      last (word.Glyph c) i e = absurd i
  numbers_last start x (t ∷ u ∷ ts) i e f = by (takes start t.word) e (λ y g. numbers_last y x (u ∷ ts) i g f)
    where
      by : (o : Option S) → run takes o (token_words (u ∷ ts)) ≡ Some x → ((y : S) → run takes (Some y) (token_words (u ∷ ts)) ≡ Some x → ⊥) → ⊥
      by None e g = none_is (sym (run-none takes (token_words (u ∷ ts))) ∙ e)
      by (Some y) e g = g y e

  module _ (start : S) (kind : LineKind) (hs : List Heading) (n : ℕ) (first : Token) (reads : Reads takes finished start kind hs n first) where
    -- the tokens that the reader goes over begin a lawful line
    begins : (line : List ℕ) (before after : List Token) (x : S) → IsRead line (first ∷ (before ++ after)) → AreWords before →
        run takes (Some start) (token_words before) ≡ Some x → IsBeginning kind hs n (first ∷ before)
    begins line before after x r w e =
        let c = reads.completes x in
        let g = continued line (first ∷ before) after c.more r c.sound (λ k h i. apart before e h (c.apart k i)) in
        let f = c.ends g.column in
        let us = tokens_at g.column c.more in
        record {
          text = g.text;
          rest = us;
          read = g.read;
          lawful = reads.sound (before ++ us) (words_append before us w (c.words g.column)) (record {
            last = f.last;
            answer = f.answer;
            runs = run-tokens takes (Some start) before us ∙ ap (λ y. run takes y (token_words us)) e ∙ f.runs;
            ends = f.ends;
          });
        }
      where
        apart : (before : List Token) → run takes (Some start) (token_words before) ≡ Some x → EndsInNumbers (first ∷ before) →
            ((y : S) (zs : List ℤ) → takes y (word.Numbers zs) ≡ Some x → ⊥) → ⊥
        apart [] e h f = reads.begins h
        apart (t ∷ ts) e h f = numbers_last start x (t ∷ ts) h e f

    -- no lawful line begins with tokens that the reader doesn't go over
    begins_none : (ts : List Token) → run takes (Some start) (token_words ts) ≡ None → IsBeginning kind hs n (first ∷ ts) → ⊥
    begins_none ts e b =
        let f = reads.complete (ts ++ b.rest) b.lawful in
        none_is (sym (run-tokens takes (Some start) ts b.rest ∙ ap (λ y. run takes y (token_words b.rest)) e ∙ run-none takes (token_words b.rest)) ∙ f.runs)

    -- where the reader stops, the line stops being the beginning of a lawful one
    pub stops_at : (line : List ℕ) (ts : List Token) (column : ℕ) → IsRead line (first ∷ ts) → AreWords ts → Stops takes finished start first ts column →
        StopsAt kind hs n (first ∷ ts) column
    stops_at line ts column r w (before_token before t after x e runs stops at) =
        at_token (first ∷ before) t after (ap (λ us. first ∷ us) e)
        (begins line before (t ∷ after) x (subst (λ us. IsRead line (first ∷ us)) e r) (words_front before (t ∷ after) (subst AreWords e w)) runs)
        (begins_none (before ++ t ∷ []) (run-tokens takes (Some start) before (t ∷ []) ∙ ap (λ y. run takes y (t.word ∷ [])) runs ∙ stops)) at
    stops_at line ts column r w (behind_all x runs ends_not at) =
        past_the_last (begins line ts [] x (subst (λ us. IsRead line (first ∷ us)) (sym (append-nil ts)) r) w runs)
        (λ l. let f = reads.complete ts l in unended x f.last f.answer (sym runs ∙ f.runs) f.ends ends_not) at
      where
        unended : (x y : S) (a : R) → Some x ≡ Some y → finished y ≡ Some a → finished x ≡ None → ⊥
        unended x y a e f g = let h : x ≡ y = cc in none_is (sym g ∙ ap finished h ∙ f)

    -- ---- Lines ----

    -- the reader stops at the token at this place behind the first one
    pub stopped_before : (l : Line) (ts rest : List Token) (i : ℕ) (t : Token) (x : S) → IsReadLine l → AreWords l.tokens → l.tokens ≡ first ∷ rest → ts ≡ l.tokens →
        i < length (behind_first ts) → t ≡ get_or (behind_first ts) i t → run takes (Some start) (token_words (take i (behind_first ts))) ≡ Some x →
        takes x t.word ≡ None → StopsAt kind hs n l.tokens t.from
    stopped_before l ts rest i t x r w split e len g runs stops =
        subst (λ us. StopsAt kind hs n us t.from) (sym split)
        (stops_at l.text rest t.from (subst (IsRead l.text) split r.tokens) (subst AreWords split w).1
        (before_token (take i (behind_first ts)) t (drop (i + 1) (behind_first ts)) x (sym (rest_is first ts rest (e ∙ split)) ∙ cut_at (behind_first ts) i t len g) runs stops refl))

    -- the reader stops behind the last token
    pub stopped_behind : (l : Line) (ts rest : List Token) (i : ℕ) (x : S) → IsReadLine l → AreWords l.tokens → l.tokens ≡ first ∷ rest → ts ≡ l.tokens →
        length (behind_first ts) ≤ i → run takes (Some start) (token_words (take i (behind_first ts))) ≡ Some x →
        finished x ≡ None → StopsAt kind hs n l.tokens (past_last ts)
    stopped_behind l ts rest i x r w split e len runs ends_not =
        subst (λ us. StopsAt kind hs n us (past_last ts)) (sym split)
        (stops_at l.text rest (past_last ts) (subst (IsRead l.text) split r.tokens) (subst AreWords split w).1
        (behind_all x (read_all takes start first ts rest i x (e ∙ split) len runs) ends_not (ap past_last (e ∙ split))))

-- Where the lines of a body stop being the beginning of a lawful one.
use Rattle.std.proofs.Common.{◌≡◌, ℕ, suc, zero, ◌==◌, Bool, true, false, cond, IsTrue, List, [], ◌∷◌, ◌++◌, drop, Option, None, Some, refl, sym, ap, subst, ◌∙◌, arith, append-nil}
use Rattle.std.proofs.lemmas.Bool.{eqb-true}
use Rattle.apl_base.specs.declared.faults.Place.{Place}
use Rattle.apl_model.proofs.Machine.{State, named, taken, sort, run, start}
use Rattle.apl_model.proofs.Unique.{no_label}
use Rattle.apl_model.specs.Characters.{code, is_name}
use Rattle.apl_model.specs.Grammar.{arguments_of, IsVariable}
use Rattle.apl_model.specs.Refusal.{IsBeginning, StopsAt, at_token, past_the_last, by_itself, in_body, past_last, IsLawful}
use Rattle.apl_model.specs.Spelling.{glyph, Spell, statement_spelling, body_spelling}
use Rattle.apl_model.specs.Tokens.{IsRead}
use Rattle.apl_model.specs.Tree.{Statement, nothing}
use Rattle.apl_model.specs.declared.tokens.Heading.{Heading}
use Rattle.apl_model.specs.declared.tokens.Token.{Token}
use Rattle.apl_model.specs.declared.tokens.Word.{Word}
use Rattle.apl_model.specs.declared.tokens.Word.TheVariants as word
use Rattle.apl_defn.specs.LineStart.{unless_heading, free_name, label_of}
use Rattle.apl_tree.proofs.Cuts.{cut}
use Rattle.apl_tree.proofs.Labels.{as_whole}
use Rattle.apl_tree.proofs.Places.{begins, begins_none, completes, cut_behind, words_front}
use Rattle.apl_tree.proofs.SortFacts.{IsWord, AreWords}
use Rattle.apl_tree.proofs.SplitTokens.{IsNumbers, EndsInNumbers, AreApart}
use Rattle.apl_tree.proofs.Tails.{tokens_at, with_glyph}
use Rattle.apl_tree.specs.Condition.{AreTokensOf, after_label}

-- : is no literal of numbers
not_glyph_numbers : (w : Word) → w ≡ glyph ":" → IsNumbers w → ⊥
not_glyph_numbers w e h = subst IsNumbers e h

-- numbers at the end of a labelled line are those of its statement
ends_behind : (t u : Token) (before : List Token) → u.word ≡ glyph ":" → EndsInNumbers (t ∷ u ∷ before) → EndsInNumbers before
ends_behind t u [] e h = absurd (not_glyph_numbers u.word e h)
ends_behind t u (v ∷ vs) e h = h

-- ---- Labels ----

none_some : {l : List ℕ} → Some l ≡ None → ⊥
none_some e = cc

some_none : {l : List ℕ} → None ≡ Some l → ⊥
some_none e = cc

-- the first tokens of a line that has a label
pub record HasLabel (hs : List Heading) (l : List ℕ) (t u : Token) : Type 0 where
  pub named : t.word ≡ word.Name l
  pub free : arguments_of hs l ≡ None
  pub colon : u.word ≡ glyph ":"

-- the label of a line whose first two tokens have these words
abbrev label_by : List Heading → Word → Word → Option (List ℕ)
label_by hs v w = cond (elim w [ word.Glyph c ↦ c == code ":" | _ ↦ false ]) (elim v [ word.Name n ↦ unless_heading (arguments_of hs n) n | _ ↦ None ]) None

-- a name before : that heads no definition is a label
unlabelled : (hs : List Heading) (l : List ℕ) (t u : Token) (ts : List Token) → word.Name l ≡ t.word → arguments_of hs l ≡ None → glyph ":" ≡ u.word →
    label_of hs (t ∷ u ∷ ts) ≡ None → ⊥
unlabelled hs l t u ts e free f h =
    none_some (ap (λ k. unless_heading k l) (sym free) ∙ ap (λ w. label_by hs (word.Name l) w) f ∙ ap (λ v. label_by hs v u.word) e ∙ h)

-- what follows the second token doesn't change the label
same_label : (hs : List Heading) (t : Token) (bs : List Token) (v : Token) (after rest : List Token) → label_of hs (t ∷ ((bs ++ v ∷ []) ++ rest)) ≡ label_of hs (t ∷ (bs ++ v ∷ after))
same_label hs t [] v after rest = refl
same_label hs t (b ∷ bs) v after rest = refl

-- the free name of a token is it
is_free : (k : Option ℕ) (n l : List ℕ) → unless_heading k n ≡ Some l → (n ≡ l) × (k ≡ None)
is_free None n l h = (cc, refl)
is_free (Some k) n l h = absurd (some_none h)

is_named : (hs : List Heading) (v : Word) (l : List ℕ) → (elim v [ word.Name n ↦ unless_heading (arguments_of hs n) n | _ ↦ None ]) ≡ Some l →
    (v ≡ word.Name l) × (arguments_of hs l ≡ None)
is_named hs (word.Name n) l h =
    let k = is_free (arguments_of hs n) n l h in
    (ap word.Name k.0, subst (λ m. arguments_of hs m ≡ None) k.0 k.1)
is_named hs (word.Numbers zs) l h = absurd (some_none h)
is_named hs (word.Chars zs) l h = absurd (some_none h)
is_named hs (word.Glyph c) l h = absurd (some_none h)

-- a label is there only where the second token is :
by_colon : (b : Bool) (c : ℕ) (o : Option (List ℕ)) (l : List ℕ) → (c == code ":") ≡ b → cond b o None ≡ Some l → (word.Glyph c ≡ glyph ":") × (o ≡ Some l)
by_colon true c o l e h = (ap word.Glyph (eqb-true c (code ":") e), h)
by_colon false c o l e h = absurd (some_none h)

is_colon : (w : Word) (o : Option (List ℕ)) (l : List ℕ) → cond (elim w [ word.Glyph c ↦ c == code ":" | _ ↦ false ]) o None ≡ Some l → (w ≡ glyph ":") × (o ≡ Some l)
is_colon (word.Glyph c) o l h = by_colon (c == code ":") c o l refl h
is_colon (word.Numbers zs) o l h = absurd (some_none h)
is_colon (word.Chars zs) o l h = absurd (some_none h)
is_colon (word.Name n) o l h = absurd (some_none h)

-- a label is the first token, and : the second
has_label : (hs : List Heading) (t u : Token) (ts : List Token) (l : List ℕ) → label_of hs (t ∷ u ∷ ts) ≡ Some l → HasLabel hs l t u
has_label hs t u ts l h =
    let c = is_colon u.word (free_name hs t) l h in
    let k = is_named hs t.word l c.1 in
    record { named = k.0; free = k.1; colon = c.0 }

-- the tokens behind a label are those of the line that follow a label
pub label_tokens : (hs : List Heading) (line : List ℕ) (ts : List Token) (l : List ℕ) → IsRead line ts → label_of hs ts ≡ Some l → AreTokensOf line (drop 2 ts)
label_tokens hs line [] l r h = absurd (some_none h)
label_tokens hs line (t ∷ []) l r h = absurd (some_none h)
label_tokens hs line (t ∷ u ∷ ts) l r h = let k = has_label hs t u ts l h in after_label t u l k.named k.colon r

-- a label is a name that heads no definition
pub label_is_free : (hs : List Heading) (ts : List Token) (l : List ℕ) → AreWords ts → label_of hs ts ≡ Some l → IsVariable hs l
label_is_free hs [] l w h = absurd (some_none h)
label_is_free hs (t ∷ []) l w h = absurd (some_none h)
label_is_free hs (t ∷ u ∷ ts) l w h = let k = has_label hs t u ts l h in record { name = subst IsWord k.named w.0; free = k.free }

module _ (hs : List Heading) (n : ℕ) where
  -- the reader goes over the beginning of a statement
  some_run : (ts : List Token) → IsBeginning by_itself hs n ts → (x : State) × (run hs n (Some start) ts ≡ Some x)
  some_run ts b = by (run hs n (Some start) ts) refl
    where
      by : (y : Option State) → run hs n (Some start) ts ≡ y → (x : State) × (run hs n (Some start) ts ≡ Some x)
      by None e = absurd (begins_none hs n ts e b)
      by (Some x) e = (x, e)

  -- ---- Behind a label ----

  -- a label before the beginning of a statement begins a line of a body
  labelled_begins : (line : List ℕ) (t u : Token) (l : List ℕ) (before after : List Token) → IsRead line (t ∷ u ∷ (before ++ after)) → AreWords before →
      IsVariable hs l → t.word ≡ word.Name l → u.word ≡ glyph ":" → IsBeginning by_itself hs n before → IsBeginning in_body hs n (t ∷ u ∷ before)
  labelled_begins line t u l before after r w a e f b =
      let x = some_run before b in
      let c = completes hs n line (t ∷ u ∷ []) before after x.0 r w (ends_behind t u before f) x.1 in
      record { text = c.text; rest = c.rest; read = c.read; lawful = (Some l, c.lawful.0, a, c.lawful.1, (sym e, (sym f, c.lawful.2))) }

  -- the tokens behind a label are a statement
  behind_label : (t u : Token) (ts : List Token) → u.word ≡ glyph ":" → IsLawful in_body hs n (t ∷ u ∷ ts) → IsLawful by_itself hs n ts
  behind_label t u ts f (None, s, a, h, sp) = no_label hs n t u ts s h sp (sym f)
  behind_label t u ts f (Some l, s, a, h, sp) = (s, h, sp.1.1)

  -- and the beginning of a line goes on behind its label as a statement begins
  begins_behind : (t u : Token) (l : List ℕ) (ts : List Token) → t.word ≡ word.Name l → u.word ≡ glyph ":" →
      IsBeginning in_body hs n (t ∷ u ∷ ts) → IsBeginning by_itself hs n ts
  begins_behind t u l ts e f b =
      let whole = as_whole b.text (ts ++ b.rest) (after_label t u l e f b.read) in
      record { text = whole.line; rest = b.rest; read = whole.read; lawful = behind_label t u (ts ++ b.rest) f b.lawful }

  -- where the tokens behind a label are no statement, there is a last one
  past_behind : (t u : Token) (ts : List Token) → (IsLawful by_itself hs n ts → ⊥) → past_last (t ∷ u ∷ ts) ≡ past_last ts
  past_behind t u [] never = absurd (never (nothing, tt, tt))
  past_behind t u (v ∷ vs) never = refl

  -- a labelled line stops where the statement behind its label does
  labelled_stops : (line : List ℕ) (t u : Token) (l : List ℕ) (ts : List Token) (column : ℕ) → IsRead line (t ∷ u ∷ ts) → AreWords ts →
      IsVariable hs l → t.word ≡ word.Name l → u.word ≡ glyph ":" → StopsAt by_itself hs n ts column → StopsAt in_body hs n (t ∷ u ∷ ts) column
  labelled_stops line t u l ts column r w a e f (at_token before v after g b never at) =
      at_token (t ∷ u ∷ before) v after (ap (λ us. t ∷ u ∷ us) g)
      (labelled_begins line t u l before (v ∷ after) (subst (λ us. IsRead line (t ∷ u ∷ us)) g r) (words_front before (v ∷ after) (subst AreWords g w)) a e f b)
      (λ c. never (begins_behind t u l (before ++ v ∷ []) e f c)) at
  labelled_stops line t u l ts column r w a e f (past_the_last b never at) =
      past_the_last
      (labelled_begins line t u l ts [] (subst (λ us. IsRead line (t ∷ u ∷ us)) (sym (append-nil ts)) r) w a e f b)
      (λ c. never (behind_label t u ts f c)) (at ∙ sym (past_behind t u ts never))

  -- the same of a line that has a label
  pub label_stops : (line : List ℕ) (ts : List Token) (l : List ℕ) (column : ℕ) → IsRead line ts → AreWords ts → label_of hs ts ≡ Some l →
      StopsAt by_itself hs n (drop 2 ts) column → StopsAt in_body hs n ts column
  label_stops line [] l column r w h s = absurd (some_none h)
  label_stops line (t ∷ []) l column r w h s = absurd (some_none h)
  label_stops line (t ∷ u ∷ ts) l column r w h s =
      let k = has_label hs t u ts l h in
      labelled_stops line t u l ts column r w.1.1 (record { name = subst IsWord k.named w.0; free = k.free }) k.named k.colon s

  -- a label before a statement spells the tokens of the line
  pub label_spells : (ts : List Token) (l : List ℕ) (s : Statement) → label_of hs ts ≡ Some l → Spell n (statement_spelling s) (drop 2 ts) → Spell n (body_spelling (Some l) s) ts
  label_spells [] l s h sp = absurd (some_none h)
  label_spells (t ∷ []) l s h sp = absurd (some_none h)
  label_spells (t ∷ u ∷ ts) l s h sp = let k = has_label hs t u ts l h in (sym k.named, (sym k.colon, sp))

  -- ---- Without a label ----

  -- such a line is a statement
  unlabelled_lawful : (ts : List Token) → label_of hs ts ≡ None → IsLawful in_body hs n ts → IsLawful by_itself hs n ts
  unlabelled_lawful ts h (None, s, a, i, sp) = (s, i, sp)
  unlabelled_lawful [] h (Some l, s, a, i, sp) = absurd sp
  unlabelled_lawful (t ∷ []) h (Some l, s, a, i, sp) = absurd sp.1
  unlabelled_lawful (t ∷ u ∷ ts) h (Some l, s, a, i, sp) = absurd (unlabelled hs l t u ts sp.0 a.free sp.1.0 h)

  -- and so is one that goes on otherwise behind its second token
  unlabelled_begins : (t : Token) (bs : List Token) (v : Token) (after : List Token) → label_of hs (t ∷ (bs ++ v ∷ after)) ≡ None →
      IsBeginning in_body hs n (t ∷ (bs ++ v ∷ [])) → IsBeginning by_itself hs n (t ∷ (bs ++ v ∷ []))
  unlabelled_begins t bs v after h b = record {
    text = b.text;
    rest = b.rest;
    read = b.read;
    lawful = unlabelled_lawful (t ∷ ((bs ++ v ∷ []) ++ b.rest)) (same_label hs t bs v after b.rest ∙ h) b.lawful;
  }

  -- the beginning of a statement begins a line of a body
  statement_begins : (ts : List Token) → IsBeginning by_itself hs n ts → IsBeginning in_body hs n ts
  statement_begins ts b = record { text = b.text; rest = b.rest; read = b.read; lawful = (None, b.lawful.0, tt, b.lawful.1, b.lawful.2) }

  -- a name that heads no definition begins a statement
  name_begins_statement : (line : List ℕ) (t : Token) (l : List ℕ) (after : List Token) → IsRead line (t ∷ after) → AreWords (t ∷ []) → word.Name l ≡ t.word →
      arguments_of hs l ≡ None → IsBeginning by_itself hs n (t ∷ [])
  name_begins_statement line t l after r w e free =
      let p : Place = record { line = n; column = t.from } in
      let x = first_named p l (arguments_of hs l) free in
      begins hs n line (t ∷ []) after x.0 r w (subst (λ v. taken start p (sort hs v) ≡ Some x.0) e x.1)
    where
      first_named : (p : Place) (l : List ℕ) (k : Option ℕ) → k ≡ None → (x : State) × (taken start p (named l k) ≡ Some x)
      first_named p l k e = subst (λ v. (x : State) × (taken start p (named l v) ≡ Some x)) (sym e) (_, refl)

  -- such a line stops where the statement does
  pub unlabelled_stops : (line : List ℕ) (ts : List Token) (column : ℕ) → IsRead line ts → AreWords ts → label_of hs ts ≡ None →
      StopsAt by_itself hs n ts column → StopsAt in_body hs n ts column
  unlabelled_stops line ts column r w h (at_token [] v after g b never at) =
      at_token [] v after g (statement_begins [] b) (λ c. no_beginning c c.lawful) at
    where
      no_beginning : (c : IsBeginning in_body hs n (v ∷ [])) → IsLawful in_body hs n (v ∷ c.rest) → ⊥
      no_beginning c (None, s, a, i, sp) = never (record { text = c.text; rest = c.rest; read = c.read; lawful = (s, i, sp) })
      no_beginning c (Some l, s, a, i, sp) =
          never (name_begins_statement line v l after (subst (IsRead line) g r) (let u = subst AreWords g w in (u.0, tt)) sp.0 a.free)
  unlabelled_stops line ts column r w h (at_token (t ∷ bs) v after g b never at) =
      at_token (t ∷ bs) v after g (statement_begins (t ∷ bs) b) (λ c. never (unlabelled_begins t bs v after (subst (λ us. label_of hs us ≡ None) g h) c)) at
  unlabelled_stops line ts column r w h (past_the_last b never at) =
      past_the_last (statement_begins ts b) (λ c. never (unlabelled_lawful ts h c)) at

-- Where the reader stops is the place at which the tokens stop being the beginning of a statement.
use Rattle.std.proofs.Common.{◌≡◌, ℕ, zero, suc, List, [], ◌∷◌, ◌++◌, take, Option, None, Some, ℤ, sym, ap, subst, ◌∙◌, arith, append-nil, append_assoc}
use Rattle.std.specs.Option.{option_and_then}
use Rattle.apl_base.specs.declared.cells.Kind.{Kind}
use Rattle.apl_base.specs.declared.cells.Kind.TheVariants as kind
use Rattle.apl_base.specs.declared.faults.Place.{Place}
use Rattle.apl_model.proofs.Complete.{read_complete}
use Rattle.apl_model.proofs.Machine.{Stack, bottom, waiting, in_parenthesis, in_subscript, Along, Status, first, must, may, operand, glyph_first, glyph_after, axis_or_none, axis_opened, axis_given, after_jot, after_jot_dot, after_dot, after_quad, State, literal, taken, taken_by, axis_number, sort, step, run, start, finished, read}
use Rattle.apl_model.specs.Refusal.{IsBeginning, StopsAt, at_token, past_the_last, by_itself, IsLawful}
use Rattle.apl_model.specs.Tokens.{Piece, pieces, pieces_after, tokens_of_pieces, IsRead, AreSound}
use Rattle.apl_model.specs.Tree.{Statement}
use Rattle.apl_model.specs.declared.tokens.Heading.{Heading}
use Rattle.apl_model.specs.declared.tokens.Token.{Token}
use Rattle.apl_model.specs.declared.tokens.Word.{Word}
use Rattle.apl_model.specs.declared.tokens.Word.TheVariants as word
use Rattle.apl_model.specs.declared.trees.Literal.{Literal}
use Rattle.apl_tree.proofs.Cuts.{cut, pieces_cut}
use Rattle.apl_tree.proofs.Runs.{run-append, run-none}
use Rattle.apl_tree.proofs.SortFacts.{AreWords}
use Rattle.apl_tree.proofs.Sound.{read_sound}
use Rattle.apl_tree.proofs.SplitTokens.{IsNumbers, EndsInNumbers, BeginsWithNumbers, AreApart, split}
use Rattle.apl_tree.proofs.Tails.{tokens_at, tail_by, closers, completed}
use Rattle.apl_tree.specs.Outcome as outcome

-- ---- No numbers meet where a line is completed ----

abbrev IsOpened : Status → Type 0
IsOpened (axis_opened a) = Unit {0}
IsOpened _ = ⊥

abbrev EndsOpened : Option State → Type 0
EndsOpened None = ⊥
EndsOpened (Some x) = IsOpened x.status

number_opens_none : (o : Stack) (a : Along) (k : Kind) (zs : List ℤ) → EndsOpened (axis_number o a (record { kind = k; cells = zs })) → ⊥
number_opens_none o a kind.Char zs h = h
number_opens_none o a kind.Num [] h = h
number_opens_none o a kind.Num (z ∷ []) h = h
number_opens_none o a kind.Num (z ∷ y ∷ ys) h = h

literal_opens_none : (o : Stack) (y : Status) (p : Place) (l : Literal) → EndsOpened (taken_by o y p (literal l)) → ⊥
literal_opens_none o first p l h = h
literal_opens_none o must p l h = h
literal_opens_none o may p l h = h
literal_opens_none o (operand e) p l h = h
literal_opens_none o (glyph_first f None q) p l h = h
literal_opens_none o (glyph_first f (Some m) q) p l h = h
literal_opens_none o (glyph_after f e q) p l h = h
literal_opens_none o (axis_or_none a) p l h = h
literal_opens_none o (axis_opened a) p l h = number_opens_none o a l.kind l.cells h
literal_opens_none o (axis_given a x) p l h = h
literal_opens_none o (after_jot e q) p l h = h
literal_opens_none o (after_jot_dot e q) p l h = h
literal_opens_none o (after_dot f e q) p l h = h
literal_opens_none o (after_quad q) p l h = h

closers_no_numbers : (o : Stack) (k : ℕ) → BeginsWithNumbers (tokens_at k (closers o)) → ⊥
closers_no_numbers (bottom b) k h = h
closers_no_numbers (waiting w o) k h = closers_no_numbers o k h
closers_no_numbers (in_parenthesis p o) k h = h
closers_no_numbers (in_subscript a qs p o) k h = h

tail_numbers : (o : Stack) (y : Status) (k : ℕ) → BeginsWithNumbers (tokens_at k (tail_by o y)) → IsOpened y
tail_numbers o first k h = h
tail_numbers o must k h = h
tail_numbers o may k h = h
tail_numbers o (operand e) k h = closers_no_numbers o k h
tail_numbers o (glyph_first f m p) k h = h
tail_numbers o (glyph_after f e p) k h = h
tail_numbers o (axis_or_none a) k h = h
tail_numbers o (axis_opened a) k h = tt
tail_numbers o (axis_given a x) k h = h
tail_numbers o (after_jot e p) k h = h
tail_numbers o (after_jot_dot e p) k h = h
tail_numbers o (after_dot f e p) k h = h
tail_numbers o (after_quad p) k h = h

pub words_append : (ts us : List Token) → AreWords ts → AreWords us → AreWords (ts ++ us)
words_append [] us h i = i
words_append (t ∷ ts) us h i = (h.0, words_append ts us h.1 i)

pub words_front : (ts us : List Token) → AreWords (ts ++ us) → AreWords ts
words_front [] us h = tt
words_front (t ∷ ts) us h = (h.0, words_front ts us h.1)

pub sound_append : (j : ℕ) (ps qs : List Piece) → AreSound ps → AreSound qs → AreSound (take j ps ++ qs)
sound_append zero ps qs h i = i
sound_append (suc j) [] qs h i = i
sound_append (suc j) (p ∷ ps) qs h i = (h.0, sound_append j ps qs h.1 i)

-- a line can be cut behind some of its tokens, and goes on with any text that is put there
pub record IsCutBehind (line : List ℕ) (before : List Token) : Type 0 where
  pub l : ℕ
  pub column : ℕ
  pub read : (more : List ℕ) → AreSound (pieces_after 0 column more) → AreApart before (tokens_at column more) →
      IsRead (cut l line more) (before ++ tokens_at column more)

pub cut_behind : (line : List ℕ) (before after : List Token) → IsRead line (before ++ after) → IsCutBehind line before
cut_behind line before after r =
    let s = split (pieces line) r.sound before after r.same in
    let c = pieces_cut 0 1 line s.j r.sound (omega arith) in
    record {
      l = c.l;
      column = c.column;
      read = λ more sound apart. record {
        sound = subst AreSound (sym (c.same more)) (sound_append s.j (pieces line) (pieces_after 0 c.column more) r.sound sound);
        same = ap tokens_of_pieces (c.same more) ∙ s.same (pieces_after 0 c.column more) apart;
      };
    }

module _ (hs : List Heading) (n : ℕ) where
  numbers_step : (y : State) (t : Token) → IsNumbers t.word → EndsOpened (step hs n y t) → ⊥
  numbers_step y t i h = by t.word i h
    where
      by : (w : Word) → IsNumbers w → EndsOpened (taken y (record { line = n; column = t.from }) (sort hs w)) → ⊥
      by (word.Numbers zs) i h = literal_opens_none y.stack y.status (record { line = n; column = t.from }) (record { kind = kind.Num; cells = zs }) h
      by (word.Chars zs) i h = absurd i
      by (word.Name m) i h = absurd i
      by (word.Glyph c) i h = absurd i

  numbers_last : (x : Option State) (ts : List Token) → EndsInNumbers ts → EndsOpened (run hs n x ts) → ⊥
  numbers_last x [] i h = absurd i
  numbers_last None (t ∷ []) i h = h
  numbers_last (Some y) (t ∷ []) i h = numbers_step y t i h
  numbers_last x (t ∷ u ∷ ts) i h = numbers_last (option_and_then (λ y. step hs n y t) x) (u ∷ ts) i h

  -- ---- The beginnings of statements ----

  -- a line that begins with these tokens, of which the later ones begin a statement that goes on to its end
  pub record IsCompleted (front before : List Token) : Type 0 where
    pub text : List ℕ
    pub rest : List Token
    pub read : IsRead text (front ++ (before ++ rest))
    pub lawful : IsLawful by_itself hs n (before ++ rest)

  -- the tokens that the reader goes over begin a statement, also behind others
  pub completes : (line : List ℕ) (front before after : List Token) (x : State) → IsRead line (front ++ (before ++ after)) → AreWords before →
      (EndsInNumbers (front ++ before) → EndsInNumbers before) → run hs n (Some start) before ≡ Some x → IsCompleted front before
  completes line front before after x r w ends e =
      let c = cut_behind line (front ++ before) after (subst (IsRead line) (sym (append_assoc front before after)) r) in
      let more = tail_by x.stack x.status in
      let f = completed hs n x c.column in
      let apart : AreApart (front ++ before) (tokens_at c.column more) =
      λ i h. numbers_last (Some start) before (ends i) (subst EndsOpened (sym e) (tail_numbers x.stack x.status c.column h)) in
      let given : read hs n (before ++ tokens_at c.column more) ≡ Some f.statement =
      ap (option_and_then finished) (run-append hs n (Some start) before (tokens_at c.column more) ∙ ap (λ y. run hs n y (tokens_at c.column more)) e) ∙ f.ends in
      let lawful = read_sound hs n (before ++ tokens_at c.column more) f.statement (words_append before (tokens_at c.column more) w f.words) given in
      record {
        text = cut c.l line more;
        rest = tokens_at c.column more;
        read = subst (IsRead (cut c.l line more)) (append_assoc front before (tokens_at c.column more)) (c.read more f.sound apart);
        lawful = (f.statement, lawful.0, lawful.1);
      }

  pub begins : (line : List ℕ) (before after : List Token) (x : State) → IsRead line (before ++ after) → AreWords before →
      run hs n (Some start) before ≡ Some x → IsBeginning by_itself hs n before
  begins line before after x r w e =
      let c = completes line [] before after x r w (λ i. i) e in
      record { text = c.text; rest = c.rest; read = c.read; lawful = c.lawful }

  some_clash : {x : State} → None ≡ Some x → ⊥
  some_clash e = cc

  -- no statement begins with tokens that the reader doesn't go over
  pub begins_none : (ts : List Token) → run hs n (Some start) ts ≡ None → IsBeginning by_itself hs n ts → ⊥
  begins_none ts e b =
      let l = b.lawful in
      none_clash (sym (ap (option_and_then finished) (run-append hs n (Some start) ts b.rest ∙ ap (λ y. run hs n y b.rest) e ∙ run-none hs n b.rest))
      ∙ read_complete hs n l.0 l.1 (ts ++ b.rest) l.2)
    where
      none_clash : {s : Statement} → None ≡ Some s → ⊥
      none_clash e = cc

  pub stops_at : (line : List ℕ) (ts : List Token) (column : ℕ) → IsRead line ts → AreWords ts → outcome.Stops hs n ts column → StopsAt by_itself hs n ts column
  stops_at line ts column r w (outcome.at_token before t after x e run_is step_is at) =
      at_token before t after e
      (begins line before (t ∷ after) x (subst (IsRead line) e r) (words_front before (t ∷ after) (subst AreWords e w)) run_is)
      (begins_none (before ++ t ∷ []) (run-append hs n (Some start) before (t ∷ []) ∙ ap (λ y. run hs n y (t ∷ [])) run_is ∙ step_is)) at
  stops_at line ts column r w (outcome.at_end x run_is ends_not at) =
      past_the_last (begins line ts [] x (subst (IsRead line) (sym (append-nil ts)) r) w run_is) (unlawful ts x run_is ends_not) at
    where
      none_clash : {s : Statement} → None ≡ Some s → ⊥
      none_clash e = cc

      unlawful : (ts : List Token) (x : State) → run hs n (Some start) ts ≡ Some x → finished x ≡ None → IsLawful by_itself hs n ts → ⊥
      unlawful ts x run_is ends_not l = none_clash (sym (ap (option_and_then finished) run_is ∙ ends_not) ∙ read_complete hs n l.0 l.1 ts l.2)

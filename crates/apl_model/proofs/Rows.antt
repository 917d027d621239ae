-- What the examples of refusals are proved by.
use Rattle.std.proofs.Common.{◌≡◌, ℕ, ◌<◌, ◌≤◌, ◌^◌, Bool, true, false, List, [], ◌∷◌, ◌++◌, length, take, map, Option, None, Some, ◌⊎◌, inl, inr, refl, sym, ap, subst, ◌∙◌, arith, append_assoc}
use Rattle.std.specs.List.{IsAmong, AllByRecursion}
use Rattle.std.specs.Str.{encode_utf8_all, all_scalars, chars}
use Rattle.std.specs.Str.Lossy.{utf8_valid_len}
use Rattle.std.proofs.lemmas.Str.{utf8_valid_len-IsUtf8, chars-encodes}
use Rattle.apl_base.specs.declared.faults.Cause.{Cause}
use Rattle.apl_base.specs.declared.faults.Cause.TheVariants as cause
use Rattle.apl_base.specs.declared.faults.Refusal.{Refusal}
use Rattle.apl_model.proofs.Accepted.{among_here, among_there, among_cases, among_none}
use Rattle.apl_model.specs.Lines.{readable, without_mark, without_return, cut, numbered, lines_of}
use Rattle.apl_model.specs.Refusal.{refusal, place_of_end, IsReadingRefusal, ill_formed, long_line, at_fault, LineKind, outside, IsLawful, IsBeginning, StopsAt, at_token, past_the_last, IsLineOf, no_header, lone, nested, never_closed, Heads, second_heading, second_occurrence, assigned, erased, declared, too_deep, opened, AreClasses, outside_definitions, in_a_body, IsLineRefusal, header, double_name, open_definition, name_class, deep, grammar, IsRefusal, too_long, of_reading, of_lines, phase, order, IsNotAfter, IsFirst}
use Rattle.apl_model.specs.Script.{closes, Part, alone, defined, parts}
use Rattle.apl_model.specs.Tokens.{Piece, Found, fault, pieces, IsRead}
use Rattle.apl_model.specs.declared.tokens.Heading.{Heading}
use Rattle.apl_model.specs.declared.tokens.Line.{Line}
use Rattle.apl_model.specs.declared.tokens.Token.{Token}

-- ---- Texts ----

pub take_all : (xs : List ℕ) → take (length xs) xs ≡ xs
take_all [] = refl
take_all (x ∷ xs) = ap (λ l. x ∷ l) (take_all xs)

pub readable_text : (cs : List ℕ) → all_scalars cs ≡ true → readable (encode_utf8_all cs) ≡ cs
readable_text cs h =
    let e = utf8_valid_len-IsUtf8 (encode_utf8_all cs) (cs, (h, refl)) in
    ap (λ n. chars (take n (encode_utf8_all cs))) e ∙ ap chars (take_all (encode_utf8_all cs)) ∙ chars-encodes cs h

-- the lines of a text
abbrev pub lines_in : List ℕ → List Line
lines_in cs = numbered 1 (map without_return (cut (without_mark cs)))

pub lines_of_text : (cs : List ℕ) → all_scalars cs ≡ true → lines_of (encode_utf8_all cs) ≡ lines_in cs
lines_of_text cs h = ap lines_in (readable_text cs h)

pub whole_text : (cs : List ℕ) → all_scalars cs ≡ true → utf8_valid_len (encode_utf8_all cs) ≡ length (encode_utf8_all cs)
whole_text cs h = utf8_valid_len-IsUtf8 (encode_utf8_all cs) (cs, (h, refl))

-- ---- The order ----

pub not_after_itself : (xs : List ℕ) → IsNotAfter xs xs
not_after_itself [] = tt
not_after_itself (x ∷ xs) = inr (refl, not_after_itself xs)

pub as_first : (r o : Refusal) → o ≡ r → IsNotAfter (order r) (order o)
as_first r o e = subst (λ v. IsNotAfter (order r) (order v)) (sym e) (not_after_itself (order r))

-- a refusal comes in the phase of its cause
pub phase_is : (r : Refusal) (c : Cause) (l k : ℕ) → r ≡ refusal c l k → phase r.cause ≡ phase c
phase_is r c l k e = ap (λ (v : Refusal). phase v.cause) e

late : (r : Refusal) (n : ℕ) → 2 ≤ n → phase r.cause ≡ n → 2 ≤ phase r.cause
late r n h e = omega arith

-- refusals of lines come in phases 2 and 3
pub line_phase : (ls : List Line) (r : Refusal) → IsLineRefusal ls r → 2 ≤ phase r.cause
line_phase ls r (header (no_header l c m x e)) = late r 2 (omega arith) (phase_is r cause.Header _ _ e)
line_phase ls r (header (lone l m x e)) = late r 2 (omega arith) (phase_is r cause.Header _ _ e)
line_phase ls r (header (nested l t u ts m f g e)) = late r 2 (omega arith) (phase_is r cause.Header _ _ e)
line_phase ls r (double_name (second_heading a b c d f g h i j k l e)) = late r 2 (omega arith) (phase_is r cause.DoubleName _ _ e)
line_phase ls r (double_name (second_occurrence a b c d f g h i j k l e)) = late r 2 (omega arith) (phase_is r cause.DoubleName _ _ e)
line_phase ls r (open_definition (never_closed a b c d f g e)) = late r 2 (omega arith) (phase_is r cause.OpenDefinition _ _ e)
line_phase ls r (name_class (assigned a b c d f g h i j k l e)) = late r 3 (omega arith) (phase_is r cause.NameClass _ _ e)
line_phase ls r (name_class (erased a b c d f e)) = late r 3 (omega arith) (phase_is r cause.NameClass _ _ e)
line_phase ls r (name_class (declared a b c d f g h i e)) = late r 3 (omega arith) (phase_is r cause.NameClass _ _ e)
line_phase ls r (deep (opened a b c d e)) = late r 3 (omega arith) (phase_is r cause.Deep _ _ e)
line_phase ls r (grammar (outside_definitions a b c d f g e)) = late r 3 (omega arith) (phase_is r cause.Grammar _ _ e)
line_phase ls r (grammar (in_a_body a b c d f g e)) = late r 3 (omega arith) (phase_is r cause.Grammar _ _ e)

-- ---- Reading ----

-- of a fault on a line of this number
abbrev pub AtFault : (Refusal → Type 0) → ℕ → Piece → Type 0
AtFault Q n p = elim (p.found) as (λ _. Type 0) [ fault c ↦ Q (refusal c n p.from) | _ ↦ Unit {0} ]

abbrev pub OnLine : (Refusal → Type 0) → Line → Type 0
OnLine Q l = (1000 < length l.text → Q (refusal cause.LineLong l.number 1001)) × AllByRecursion (AtFault Q l.number) (pieces l.text)

pub all_among : {A : Type 0} (P : A → Type 0) (xs : List A) (x : A) → AllByRecursion P xs → IsAmong xs x → P x
all_among P [] x a m = absurd (among_none x m)
all_among P (y ∷ xs) x a m = elim (among_cases xs y x m) [ inl e ↦ subst P (sym e) a.0 | inr k ↦ all_among P xs x a.1 k ]

at_found : (Q : Refusal → Type 0) (c : Cause) (q : Refusal) (v : Found) → (elim v as (λ _. Type 0) [ fault d ↦ Q (record { line = q.line; column = q.column; cause = d }) | _ ↦ Unit {0} ]) → v ≡ fault c → Q (record { line = q.line; column = q.column; cause = c })
at_found Q c q v h e = subst (λ w. elim w as (λ _. Type 0) [ fault d ↦ Q (record { line = q.line; column = q.column; cause = d }) | _ ↦ Unit {0} ]) e h

-- what holds of each refusal of reading
pub reading_all : (bytes : List ℕ) (Q : Refusal → Type 0) (ls : List Line) → lines_of bytes ≡ ls →
    (utf8_valid_len bytes < length bytes → Q (refusal cause.Utf8 (place_of_end bytes).0 (place_of_end bytes).1)) →
    AllByRecursion (OnLine Q) ls → (r : Refusal) → IsReadingRefusal bytes r → Q r
reading_all bytes Q ls s u a r (ill_formed h e) = subst Q (sym e) (u h)
reading_all bytes Q ls s u a r (long_line l m h e) = subst Q (sym e) ((all_among (OnLine Q) ls l a (subst (λ v. IsAmong v l) s m)).0 h)
reading_all bytes Q ls s u a r (at_fault l p c m q f e) =
    subst Q (sym e) (at_found Q c (refusal c l.number p.from) p.found
    (all_among (AtFault Q l.number) (pieces l.text) p (all_among (OnLine Q) ls l a (subst (λ v. IsAmong v l) s m)).1 q) f)

-- a refusal of reading is the first one where no other of reading is before it
pub first_in_reading : (bytes : List ℕ) (r : Refusal) → length bytes ≤ 2 ^ 20 → phase r.cause ≡ 1 → IsReadingRefusal bytes r →
    ((o : Refusal) → IsReadingRefusal bytes o → IsNotAfter (order r) (order o)) → IsFirst (IsRefusal bytes) r
first_in_reading bytes r s p h f = record { refuses = of_reading h; first = go }
  where
    go : (o : Refusal) → IsRefusal bytes o → IsNotAfter (order r) (order o)
    go o (too_long l e) = absurd (omega arith)
    go o (of_reading x) = f o x
    go o (of_lines x) = inl (let l = line_phase (lines_of bytes) o x in omega arith)

-- where there is none of reading, the first one of the lines is the first
pub first_in_lines : (bytes : List ℕ) (r : Refusal) → length bytes ≤ 2 ^ 20 → ((o : Refusal) → IsReadingRefusal bytes o → ⊥) →
    IsFirst (IsLineRefusal (lines_of bytes)) r → IsFirst (IsRefusal bytes) r
first_in_lines bytes r s n f = record { refuses = of_lines f.refuses; first = go }
  where
    go : (o : Refusal) → IsRefusal bytes o → IsNotAfter (order r) (order o)
    go o (too_long l e) = absurd (omega arith)
    go o (of_reading x) = absurd (n o x)
    go o (of_lines x) = f.first o x

-- ---- A line stops at one place ----

abbrev Splits : (xs ys : List Token) (x y : Token) → Type 0
Splits xs ys x y = ((xs ≡ ys) × (x ≡ y)) ⊎ ((zs : List Token) × (ys ≡ (xs ++ (x ∷ [])) ++ zs)) ⊎ ((zs : List Token) × (xs ≡ (ys ++ (y ∷ [])) ++ zs))

more_splits : (t : Token) (xs ys : List Token) (x y : Token) → Splits xs ys x y → Splits (t ∷ xs) (t ∷ ys) x y
more_splits t xs ys x y (inl e) = inl (ap (λ l. t ∷ l) e.0, e.1)
more_splits t xs ys x y (inr (inl e)) = inr (inl (e.0, ap (λ l. t ∷ l) e.1))
more_splits t xs ys x y (inr (inr e)) = inr (inr (e.0, ap (λ l. t ∷ l) e.1))

splits : (xs ys : List Token) (x y : Token) (us vs : List Token) → xs ++ (x ∷ us) ≡ ys ++ (y ∷ vs) → Splits xs ys x y
splits [] [] x y us vs e = inl (refl, cc)
splits [] (t ∷ ys) x y us vs e = let f : x ≡ t = cc in inr (inl (ys, ap (λ v. v ∷ ys) (sym f)))
splits (t ∷ xs) [] x y us vs e = let f : t ≡ y = cc in inr (inr (xs, ap (λ v. v ∷ xs) f))
splits (t ∷ xs) (w ∷ ys) x y us vs e =
    let f : t ≡ w = cc in
    let g : xs ++ (x ∷ us) ≡ ys ++ (y ∷ vs) = cc in
    subst (λ v. Splits (t ∷ xs) (v ∷ ys) x y) f (more_splits t xs ys x y (splits xs ys x y us vs g))

module _ (kind : LineKind) (hs : List Heading) (n : ℕ) where
  shorter : (ts us vs : List Token) → us ≡ ts ++ vs → IsBeginning kind hs n us → IsBeginning kind hs n ts
  shorter ts us vs e b = record {
    text = b.text;
    rest = vs ++ b.rest;
    read = subst (λ w. IsRead b.text w) (ap (λ w. w ++ b.rest) e ∙ append_assoc ts vs b.rest) b.read;
    lawful = subst (λ w. IsLawful kind hs n w) (ap (λ w. w ++ b.rest) e ∙ append_assoc ts vs b.rest) b.lawful;
  }

  pub one_stop : (ts : List Token) (j k : ℕ) → StopsAt kind hs n ts j → StopsAt kind hs n ts k → j ≡ k
  one_stop ts j k (at_token b t a e v w x) (at_token b' t' a' e' v' w' x') = elim (splits b b' t t' a a' (sym e ∙ e')) [
    | inl s ↦ (let f = ap (λ (u : Token). u.from) s.1 in x ∙ f ∙ sym x')
    | inr (inl s) ↦ absurd (w (shorter (b ++ (t ∷ [])) b' s.0 s.1 v'))
    | inr (inr s) ↦ absurd (w' (shorter (b' ++ (t' ∷ [])) b s.0 s.1 v))
  ]
  one_stop ts j k (at_token b t a e v w x) (past_the_last v' w' x') = absurd (w (shorter (b ++ (t ∷ [])) ts a (e ∙ sym (append_assoc b (t ∷ []) a)) v'))
  one_stop ts j k (past_the_last v w x) (at_token b' t' a' e' v' w' x') = absurd (w' (shorter (b' ++ (t' ∷ [])) ts a' (e' ∙ sym (append_assoc b' (t' ∷ []) a')) v))
  one_stop ts j k (past_the_last v w x) (past_the_last v' w' x') = x ∙ sym x'

-- ---- A script of one line outside definitions ----

alone_same : (l m : Line) → alone l ≡ alone m → l ≡ m
alone_same l m e = cc

-- a definition is no line by itself
pub alone_defined : {A : Type 0} (top : Line) (body : List Line) (last : Option Line) (l : Line) → defined top body last ≡ alone l → A
alone_defined top body last l e = cc

true_false : {A : Type 0} {b : Bool} → b ≡ true → b ≡ false → A
true_false e f = cc

pub before_after : {A : Type 0} (before after : List A) (x : A) → IsAmong (before ++ (x ∷ after)) x
before_after [] after x = among_here after x x refl
before_after (b ∷ before) after x = among_there (before ++ (x ∷ after)) b x (before_after before after x)

module _ (ls : List Line) (l : Line) (only : parts ls ≡ alone l ∷ []) where
  only_alone : (p : Part) → IsAmong (parts ls) p → p ≡ alone l
  only_alone p m = elim (among_cases [] (alone l) p (subst (λ v. IsAmong v p) only m)) [ inl e ↦ e | inr k ↦ absurd (among_none p k) ]

  no_definition : {A : Type 0} (top : Line) (body : List Line) (last : Option Line) → IsAmong (parts ls) (defined top body last) → A
  no_definition top body last m = alone_defined top body last l (only_alone (defined top body last) m)

  heads_none : {A : Type 0} (n : List ℕ) → Heads (parts ls) n → A
  heads_none n h = no_definition h.first h.body h.is_defined.last h.is_defined.among

  no_classes : (ps : List Part) (ks : List Heading) → ps ≡ alone l ∷ [] → AreClasses ps ks → ks ≡ []
  no_classes [] ks e c = cc
  no_classes (alone m ∷ []) [] e c = refl
  no_classes (alone m ∷ []) (k ∷ ks) e c = absurd c
  no_classes (alone m ∷ p ∷ ps) ks e c = cc
  no_classes (defined top body last ∷ ps) ks e c = cc

  pub first_alone : (r : Refusal) → IsLineRefusal ls r → closes l.tokens ≡ false →
      ((t : Token) → too_deep 0 l.tokens ≡ Some t → IsNotAfter (order r) (order (refusal cause.Deep l.number t.from))) →
      ((k : ℕ) → StopsAt outside [] l.number l.tokens k → IsNotAfter (order r) (order (refusal cause.Grammar l.number k))) →
      IsFirst (IsLineRefusal ls) r
  first_alone r h ne d g = record { refuses = h; first = go }
    where
      go : (o : Refusal) → IsLineRefusal ls o → IsNotAfter (order r) (order o)
      go o (header (no_header m k x s e)) = no_definition m x.0 x.1 x.2
      go o (header (lone m x c e)) = let f = alone_same m l (only_alone (alone m) x) in true_false c (ap (λ (v : Line). closes v.tokens) f ∙ ne)
      go o (header (nested m t u ts x f s e)) = no_definition x.0 x.1 x.2 x.3
      go o (double_name (second_heading before after top body last k t e i j q f)) =
          no_definition top body last (subst (λ v. IsAmong v (defined top body last)) (sym e) (before_after before after (defined top body last)))
      go o (double_name (second_occurrence top body k before after p q i e j f s)) = no_definition top body i.last i.among
      go o (open_definition (never_closed top body t ts m f e)) = no_definition top body None m
      go o (name_class (assigned m before after t u n i e f s j q)) = heads_none n j
      go o (name_class (erased m p i q j e)) = heads_none p.name j
      go o (name_class (declared top body k p i j q s e)) = heads_none p.name s
      go o (deep (opened m t (inl x) f e)) =
          let s = alone_same m l (only_alone (alone m) x) in
          subst (λ v. IsNotAfter (order r) (order v)) (sym e ∙ refl)
          (subst (λ (v : Line). IsNotAfter (order r) (order (refusal cause.Deep v.number t.from))) (sym s) (d t (ap (λ (v : Line). too_deep 0 v.tokens) (sym s) ∙ f)))
      go o (deep (opened m t (inr x) f e)) = no_definition x.0 x.1 x.2 x.3
      go o (grammar (outside_definitions m ks k c x s e)) =
          let f = alone_same m l (only_alone (alone m) x) in
          let n = no_classes (parts ls) ks only c in
          let s' : StopsAt outside [] m.number m.tokens k = subst (λ v. StopsAt outside v m.number m.tokens k) n s in
          let s'' : StopsAt outside [] l.number l.tokens k = subst (λ (v : Line). StopsAt outside [] v.number v.tokens k) f s' in
          subst (λ v. IsNotAfter (order r) (order v)) (sym e)
          (subst (λ (v : Line). IsNotAfter (order r) (order (refusal cause.Grammar v.number k))) (sym f) (g k s''))
      go o (grammar (in_a_body m ks k c x s e)) = no_definition x.0 x.1 x.2 x.3

none_some : {A : Type 0} {t : Token} → None ≡ Some t → A
none_some e = cc

-- the row of a script of one line that is read and is no lawful line
pub grammar_row : (cs : List ℕ) (l : Line) (k : ℕ) → all_scalars cs ≡ true → length (encode_utf8_all cs) ≤ 2 ^ 20 → lines_in cs ≡ l ∷ [] → parts (l ∷ []) ≡ alone l ∷ [] →
    length l.text ≤ 1000 → AllByRecursion (AtFault (λ _. ⊥) 1) (pieces l.text) → l.number ≡ 1 →
    closes l.tokens ≡ false → too_deep 0 l.tokens ≡ None → StopsAt outside [] 1 l.tokens k →
    IsFirst (IsRefusal (encode_utf8_all cs)) (refusal cause.Grammar 1 k)
grammar_row cs l k h s e p short sound one closed shallow stops =
    let bytes = encode_utf8_all cs in
    let lines : lines_of bytes ≡ l ∷ [] = lines_of_text cs h ∙ e in
    let whole = whole_text cs h in
    let only : parts (lines_of bytes) ≡ alone l ∷ [] = ap parts lines ∙ p in
    let stops' : StopsAt outside [] l.number l.tokens k = subst (λ n. StopsAt outside [] n l.tokens k) (sym one) stops in
    let lone' : IsLineOf (lines_of bytes) outside l = subst (λ v. IsAmong v (alone l)) (sym only) (among_here [] (alone l) (alone l) refl) in
    let none' : AreClasses (parts (lines_of bytes)) [] = subst (λ v. AreClasses v []) (sym only) tt in
    let r : Refusal = refusal cause.Grammar 1 k in
    first_in_lines bytes r s
    (λ o x. reading_all bytes (λ _. ⊥) (l ∷ []) lines (λ u. absurd (omega arith))
    ((λ u. absurd (omega arith), subst (λ n. AllByRecursion (AtFault (λ _. ⊥) n) (pieces l.text)) (sym one) sound), tt) o x)
    (first_alone (lines_of bytes) l only r (grammar (outside_definitions l [] k none' lone' stops' (ap (λ n. refusal cause.Grammar n k) (sym one)))) closed
    (λ t f. none_some (sym shallow ∙ f))
    (λ j x. let f = one_stop outside [] l.number l.tokens j k x stops' in
    as_first r (refusal cause.Grammar l.number j) (λ i. refusal cause.Grammar (one i) (f i))))

-- The example of an assignment to a function's name.
use Rattle.std.proofs.Common.{◌≡◌, ℕ, zero, suc, ◌<◌, ◌≤◌, List, [], ◌∷◌, ◌++◌, Option, None, Some, ◌⊎◌, inl, inr, refl, sym, ap, subst, ◌∙◌, arith, rules, codes, pos}
use Rattle.std.specs.List.{IsAmong}
use Rattle.std.specs.Char.{encode_utf8}
use lib.Dec.{lit≤, lit<}
use Rattle.apl_base.specs.declared.faults.Cause.TheVariants as cause
use Rattle.apl_base.specs.declared.faults.Refusal.{Refusal}
use Rattle.apl_model.proofs.Accepted.{among_here, among_there, among_cases, among_none, no_stop}
use Rattle.apl_model.proofs.Decide.{false_true}
use Rattle.apl_model.proofs.DefinitionRows.{definition_row}
use Rattle.apl_model.proofs.GrammarRows.{line_1}
use Rattle.apl_model.proofs.Unique.{one_header}
use Rattle.apl_model.specs.Examples as example
use Rattle.apl_model.specs.Refusal.{refusal, LineKind, outside, in_body, first_line, StopsAt, at_token, past_the_last, IsLineOf, HasStatements, no_header, lone, nested, never_closed, Heads, IsDefined, Occurrence, declared_in, erased_in, second_heading, second_occurrence, assigned, erased, declared, too_deep, opened, outside_definitions, in_a_body, IsLineRefusal, header, double_name, open_definition, name_class, deep, grammar, order, IsNotAfter, IsFirst}
use Rattle.apl_model.specs.declared.tokens.Heading.{Heading}
use Rattle.apl_model.specs.Script.{closes, Part, alone, defined, parts, IsHeadOf}
use Rattle.apl_model.specs.Tokens.{tokens}
use Rattle.apl_model.specs.declared.scripts.Header.{Header}
use Rattle.apl_model.specs.declared.tokens.Line.{Line}
use Rattle.apl_model.specs.declared.tokens.Token.{Token}

abbrev top : Line
top = line_1 (codes "∇F")

abbrev nabla : Line
nabla = record { number = 2; text = codes "∇"; tokens = tokens (codes "∇") }

abbrev third : Line
third = record { number = 3; text = codes "F←3"; tokens = tokens (codes "F←3") }

abbrev part : Part
part = defined top [] (Some nabla)

abbrev own : Header
own = record { f = codes "F"; result = None; left = None; right = None; locals = [] }

own_head : IsHeadOf top own
own_head = record { header = search rules; spells = search rules }

abbrev t1 : Token
t1 = example.named 1 2 "F"

abbrev t2 : Token
t2 = example.glyph 2 "←"

abbrev t3 : Token
t3 = example.numbers 3 4 (pos 3 ∷ [])

-- what the line's tokens are when they are cut somewhere
cut_at : (before after : List Token) (t : Token) → t1 ∷ t2 ∷ t3 ∷ [] ≡ before ++ (t ∷ after) → (t.from ≡ 1) ⊎ ((t.from ≡ 2) ⊎ (t.from ≡ 3))
cut_at [] after t e = let f : t1 ≡ t = cc in inl (ap (λ (v : Token). v.from) (sym f))
cut_at (a ∷ []) after t e = let f : t2 ≡ t = cc in inr (inl (ap (λ (v : Token). v.from) (sym f)))
cut_at (a ∷ b ∷ []) after t e = let f : t3 ≡ t = cc in inr (inr (ap (λ (v : Token). v.from) (sym f)))
cut_at (a ∷ b ∷ c ∷ []) after t e = cc
cut_at (a ∷ b ∷ c ∷ d ∷ before) after t e = cc

some_column : (k : ℕ) → (k ≡ 1) ⊎ ((k ≡ 2) ⊎ (k ≡ 3)) → 1 ≤ k
some_column k (inl e) = omega arith
some_column k (inr (inl e)) = omega arith
some_column k (inr (inr e)) = omega arith

stop_column : (kind : LineKind) (hs : List Heading) (k : ℕ) → StopsAt kind hs 3 (tokens (codes "F←3")) k → 1 ≤ k
stop_column kind hs k (at_token before t after e b n c) = let h = some_column t.from (cut_at before after t e) in omega arith
stop_column kind hs k (past_the_last b n c) = omega arith

abbrev r : Refusal
r = refusal cause.NameClass 3 1

-- what comes on line 3 in its phase is not before it
class_after : (k : ℕ) → 1 ≤ k → IsNotAfter (order r) (order (refusal cause.NameClass 3 k))
class_after zero h = absurd (omega arith)
class_after (suc zero) h = inr (refl, inr (refl, inr (refl, inr (refl, tt))))
class_after (suc (suc k)) h = inr (refl, inr (refl, inl (omega arith)))

grammar_after : (k : ℕ) → 1 ≤ k → IsNotAfter (order r) (order (refusal cause.Grammar 3 k))
grammar_after zero h = absurd (omega arith)
grammar_after (suc zero) h = inr (refl, inr (refl, inr (refl, inl (lit< tt))))
grammar_after (suc (suc k)) h = inr (refl, inr (refl, inl (omega arith)))

one_of : (p : Part) → IsAmong (part ∷ alone third ∷ []) p → (p ≡ part) ⊎ (p ≡ alone third)
one_of p m = elim (among_cases (alone third ∷ []) part p m) [
  | inl e ↦ inl e
  | inr k ↦ elim (among_cases [] (alone third) p k) [ inl e ↦ inr e | inr j ↦ absurd (among_none p j) ]
]

alone_is : (l : Line) → (alone l ≡ part) ⊎ (alone l ≡ alone third) → l ≡ third
alone_is l (inl e) = cc
alone_is l (inr e) = cc

defined_is : (top' : Line) (body : List Line) (last : Option Line) → (defined top' body last ≡ part) ⊎ (defined top' body last ≡ alone third) → (top' ≡ top) × (body ≡ []) × (last ≡ Some nabla)
defined_is top' body last (inl e) = (cc, cc, cc)
defined_is top' body last (inr e) = cc

nothing_heads : (before after : List Part) (p : Part) (l : Line) (body : List Line) (last : Option Line) → p ≡ defined l body last → part ∷ alone third ∷ [] ≡ before ++ (p ∷ after) → before ≡ []
nothing_heads [] after p l body last f e = refl
nothing_heads (b ∷ []) after p l body last f e = let g : alone third ≡ p = cc in let h = g ∙ f in cc
nothing_heads (b ∷ c ∷ []) after p l body last f e = cc
nothing_heads (b ∷ c ∷ d ∷ before) after p l body last f e = cc

alone_before : (before after : List Occurrence) (o : Occurrence) → record { name = codes "F"; line = 1; column = 2 } ∷ [] ≡ before ++ (o ∷ after) → before ≡ []
alone_before [] after o e = refl
alone_before (b ∷ []) after o e = cc
alone_before (b ∷ c ∷ before) after o e = cc

no_token : {A : Type 0} (t : Token) → None ≡ Some t → A
no_token t e = cc

no_none : {A : Type 0} (l : Line) → None ≡ Some l → A
no_none l e = cc

module _ (ks : List Line) (only : parts ks ≡ part ∷ alone third ∷ []) where
  where_alone : (l : Line) → IsAmong (parts ks) (alone l) → l ≡ third
  where_alone l m = alone_is l (one_of (alone l) (subst (λ v. IsAmong v (alone l)) only m))

  where_defined : (top' : Line) (body : List Line) (last : Option Line) → IsAmong (parts ks) (defined top' body last) → (top' ≡ top) × (body ≡ []) × (last ≡ Some nabla)
  where_defined top' body last m = defined_is top' body last (one_of (defined top' body last) (subst (λ v. IsAmong v (defined top' body last)) only m))

  not_in_body : {A : Type 0} (l : Line) → IsLineOf ks in_body l → A
  not_in_body l m = absurd (among_none l (subst (λ v. IsAmong v l) (where_defined m.0 m.1 m.2 m.3).1 m.4))

  where_statements : (l : Line) → HasStatements ks l → l ≡ third
  where_statements l (inl m) = where_alone l m
  where_statements l (inr m) = not_in_body l m

  its_header : (top' : Line) (body : List Line) (h : Header) → IsDefined (parts ks) top' body h → (top' ≡ top) × (body ≡ []) × (h ≡ own)
  its_header top' body h d =
      let s = where_defined top' body d.last d.among in
      let i : IsHeadOf top h = subst (λ v. IsHeadOf v h) s.0 d.head in
      (s.0, s.1, one_header 1 (tokens (codes "∇F")) h own i.header own_head.header i.spells own_head.spells)

  declared_there : (top' : Line) (body : List Line) → top' ≡ top → body ≡ [] → declared_in top' body ≡ record { name = codes "F"; line = 1; column = 2 } ∷ []
  declared_there top' body e f = λ i. declared_in (e i) (f i)

  is_heading : Heads (parts ks) (codes "F")
  is_heading = record { first = top; body = []; header = own; is_defined = record { last = Some nabla; among = subst (λ v. IsAmong v part) (sym only) (among_here (alone third ∷ []) part part refl); head = own_head }; same = refl }

  third_stands : IsLineOf ks outside third
  third_stands = subst (λ v. IsAmong v (alone third)) (sym only) (among_there (alone third ∷ []) part (alone third) (among_here [] (alone third) (alone third) refl))

  go : (o : Refusal) → IsLineRefusal ks o → IsNotAfter (order r) (order o)
  go o (header (no_header l k m x e)) =
      let s = where_defined l m.0 m.1 m.2 in
      let f : StopsAt first_line [] 1 (tokens (codes "∇F")) k = subst (λ (v : Line). StopsAt first_line [] v.number v.tokens k) s.0 x in
      absurd (no_stop first_line [] 1 (codes "∇F") (tokens (codes "∇F")) (record { sound = search rules; same = refl }) k (own, own_head.header, own_head.spells) f)
  go o (header (lone l m x e)) = let f = where_alone l m in absurd (false_true (ap (λ (v : Line). closes v.tokens) (sym f) ∙ x))
  go o (header (nested l t u ts m f g e)) = not_in_body l m
  go o (double_name (second_heading before after top' body last h t e i j q f)) =
      let n = nothing_heads before after (defined top' body last) top' body last refl (sym only ∙ e) in
      absurd (among_none (defined j.first j.body j.is_defined.last) (subst (λ v. IsAmong v (defined j.first j.body j.is_defined.last)) n j.is_defined.among))
  go o (double_name (second_occurrence top' body h before after q p d e j f g)) =
      let s = its_header top' body h d in
      let n = alone_before before after q (sym (declared_there top' body s.0 s.1) ∙ e) in
      absurd (among_none p (subst (λ v. IsAmong v p) n j))
  go o (open_definition (never_closed top' body t ts m f e)) = no_none nabla (where_defined top' body None m).2
  go o (name_class (assigned l before after t u n m e f s j q)) =
      let w = where_statements l m in
      let x : t1 ∷ t2 ∷ t3 ∷ [] ≡ before ++ (t ∷ (u ∷ after)) = ap (λ (v : Line). v.tokens) (sym w) ∙ e in
      subst (λ v. IsNotAfter (order r) (order v)) (sym (q ∙ ap (λ (v : Line). refusal cause.NameClass v.number t.from) w))
      (class_after t.from (some_column t.from (cut_at before (u ∷ after) t x)))
  go o (name_class (erased l p m q j e)) =
      absurd (among_none p (subst (λ (v : Line). IsAmong (erased_in v.number v.tokens) p) (where_alone l m) q))
  go o (name_class (declared top' body h p d m n j e)) =
      let s = its_header top' body h d in
      let x : IsAmong (record { name = codes "F"; line = 1; column = 2 } ∷ []) p = subst (λ v. IsAmong v p) (declared_there top' body s.0 s.1) m in
      elim (among_cases [] (record { name = codes "F"; line = 1; column = 2 }) p x) [
        | inl y ↦ absurd (n (ap (λ (v : Occurrence). v.name) y ∙ ap (λ (v : Header). v.f) (sym s.2)))
        | inr k ↦ absurd (among_none p k)
      ]
  go o (deep (opened l t m f e)) = let w = where_statements l m in no_token t (ap (λ (v : Line). too_deep 0 v.tokens) (sym w) ∙ f)
  go o (grammar (outside_definitions l hs k c m s e)) =
      let w = where_alone l m in
      let x : StopsAt outside hs 3 (tokens (codes "F←3")) k = subst (λ (v : Line). StopsAt outside hs v.number v.tokens k) w s in
      subst (λ v. IsNotAfter (order r) (order v)) (sym (e ∙ ap (λ (v : Line). refusal cause.Grammar v.number k) w)) (grammar_after k (stop_column outside hs k x))
  go o (grammar (in_a_body l hs k c m s e)) = not_in_body l m

  pub class_first : IsFirst (IsLineRefusal ks) r
  class_first = record {
    refuses = name_class (assigned third [] (t3 ∷ []) t1 t2 (codes "F") (inl third_stands) refl refl refl is_heading refl);
    first = go;
  }

pub class_row : example.RefusalOfFunctionAssigned
unfolding encode_utf8
class_row = definition_row (codes "∇F" ++ (10 ∷ codes "∇") ++ (10 ∷ codes "F←3")) (top ∷ nabla ∷ third ∷ []) r refl (lit≤ tt) refl (
  (λ h. let k : 1000 < 2 = h in omega arith, (tt, (tt, tt))),
  (
    (λ h. let k : 1000 < 1 = h in omega arith, (tt, tt)),
    ((λ h. let k : 1000 < 3 = h in omega arith, (tt, (tt, (tt, tt)))), tt),
  ),
) (λ ks e. class_first ks (ap parts e))

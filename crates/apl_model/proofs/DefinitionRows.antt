-- The examples of refusals of definitions.
use Rattle.std.proofs.Common.{◌≡◌, ℕ, ◌<◌, ◌≤◌, ◌^◌, true, List, [], ◌∷◌, ◌++◌, length, Option, None, Some, inl, inr, refl, sym, ap, subst, ◌∙◌, arith, rules, codes}
use Rattle.std.specs.List.{IsAmong, AllByRecursion}
use Rattle.std.specs.Char.{encode_utf8}
use Rattle.std.specs.Str.{encode_utf8_all, all_scalars}
use lib.Dec.{lit≤}
use Rattle.apl_base.specs.declared.faults.Cause.TheVariants as cause
use Rattle.apl_base.specs.declared.faults.Refusal.{Refusal}
use Rattle.apl_model.proofs.Accepted.{among_here, among_cases, among_none, no_stop}
use Rattle.apl_model.proofs.GrammarRows.{line_1, line_2, no_faults_at}
use Rattle.apl_model.proofs.Rows.{OnLine, lines_in, lines_of_text, whole_text, as_first, reading_all, first_in_lines, one_stop}
use Rattle.apl_model.proofs.TokenSlices.{same_head}
use Rattle.apl_model.proofs.Unique.{one_header}
use Rattle.apl_model.specs.Examples as example
use Rattle.apl_model.specs.Lines.{lines_of}
use Rattle.apl_model.specs.Refusal.{refusal, in_body, first_line, IsLawful, StopsAt, at_token, IsLineOf, HasStatements, no_header, lone, nested, never_closed, IsDefined, Occurrence, declared_in, second_heading, second_occurrence, assigned, erased, declared, opened, outside_definitions, in_a_body, IsLineRefusal, header, double_name, open_definition, name_class, deep, grammar, IsRefusal, order, IsNotAfter, IsFirst}
use Rattle.apl_model.specs.Script.{Part, alone, defined, parts, IsHeadOf}
use Rattle.apl_model.specs.Spelling.{Spell, header_spelling}
use Rattle.apl_model.specs.Tokens.{pieces, tokens}
use Rattle.apl_model.specs.declared.scripts.Header.{Header}
use Rattle.apl_model.specs.declared.tokens.Line.{Line}
use Rattle.apl_model.specs.declared.tokens.Token.{Token}

-- ---- A script of one definition without a body ----

alone_no : {A : Type 0} (top : Line) (last : Option Line) (l : Line) → alone l ≡ defined top [] last → A
alone_no top last l e = cc

same_top : (top top' : Line) (body : List Line) (last last' : Option Line) → defined top' body last' ≡ defined top [] last → (top' ≡ top) × (body ≡ []) × (last' ≡ last)
same_top top top' body last last' e = (cc, cc, cc)

no_before : (before after : List Part) (p q : Part) → q ∷ [] ≡ before ++ (p ∷ after) → before ≡ []
no_before [] after p q e = refl
no_before (b ∷ []) after p q e = cc
no_before (b ∷ c ∷ before) after p q e = cc

module _ (ls : List Line) (top : Line) (last : Option Line) (only : parts ls ≡ defined top [] last ∷ []) where
  the_part : (p : Part) → IsAmong (parts ls) p → p ≡ defined top [] last
  the_part p m = elim (among_cases [] (defined top [] last) p (subst (λ v. IsAmong v p) only m)) [ inl e ↦ e | inr k ↦ absurd (among_none p k) ]

  not_alone : {A : Type 0} (l : Line) → IsAmong (parts ls) (alone l) → A
  not_alone l m = alone_no top last l (the_part (alone l) m)

  not_in_body : {A : Type 0} (l : Line) → IsLineOf ls in_body l → A
  not_in_body l m =
      let s = same_top top m.0 m.1 last m.2 (the_part (defined m.0 m.1 m.2) m.3) in
      absurd (among_none l (subst (λ v. IsAmong v l) s.1 m.4))

  no_statements : {A : Type 0} (l : Line) → HasStatements ls l → A
  no_statements l (inl m) = not_alone l m
  no_statements l (inr m) = not_in_body l m

  its_header : (top' : Line) (body : List Line) (h : Header) → IsDefined (parts ls) top' body h → (top' ≡ top) × (body ≡ []) × IsHeadOf top h
  its_header top' body h d =
      let s = same_top top top' body last d.last (the_part (defined top' body d.last) d.among) in
      (s.0, s.1, subst (λ v. IsHeadOf v h) s.0 d.head)

  pub first_defined : (r : Refusal) → IsLineRefusal ls r →
      ((k : ℕ) → StopsAt first_line [] top.number top.tokens k → IsNotAfter (order r) (order (refusal cause.Header top.number k))) →
      ((h : Header) (before after : List Occurrence) (o p : Occurrence) → IsHeadOf top h → declared_in top [] ≡ before ++ (o ∷ after) → IsAmong before p → p.name ≡ o.name →
      IsNotAfter (order r) (order (refusal cause.DoubleName o.line o.column))) →
      ((t : Token) (ts : List Token) → last ≡ None → top.tokens ≡ t ∷ ts → IsNotAfter (order r) (order (refusal cause.OpenDefinition top.number t.from))) →
      IsFirst (IsLineRefusal ls) r
  first_defined r i a b c = record { refuses = i; first = go }
    where
      go : (o : Refusal) → IsLineRefusal ls o → IsNotAfter (order r) (order o)
      go o (header (no_header l k m x e)) =
          let s = same_top top l m.0 last m.1 (the_part (defined l m.0 m.1) m.2) in
          let f : StopsAt first_line [] top.number top.tokens k = subst (λ (v : Line). StopsAt first_line [] v.number v.tokens k) s.0 x in
          subst (λ v. IsNotAfter (order r) (order v)) (sym (e ∙ ap (λ (v : Line). refusal cause.Header v.number k) s.0)) (a k f)
      go o (header (lone l m x e)) = not_alone l m
      go o (header (nested l t u ts m f g e)) = not_in_body l m
      go o (double_name (second_heading before after top' body last' h t e i j q f)) =
          let n = no_before before after (defined top' body last') (defined top [] last) (sym only ∙ e) in
          absurd (among_none (defined j.first j.body j.is_defined.last) (subst (λ v. IsAmong v (defined j.first j.body j.is_defined.last)) n j.is_defined.among))
      go o (double_name (second_occurrence top' body h before after q p d e j f g)) =
          let s = its_header top' body h d in
          subst (λ v. IsNotAfter (order r) (order v)) (sym g)
          (b h before after q p s.2 ((λ i. declared_in (sym s.0 i) (sym s.1 i)) ∙ e) j f)
      go o (open_definition (never_closed top' body t ts m f e)) =
          let s = same_top top top' body last None (the_part (defined top' body None) m) in
          subst (λ v. IsNotAfter (order r) (order v)) (sym (e ∙ ap (λ (v : Line). refusal cause.OpenDefinition v.number t.from) s.0))
          (c t ts (sym s.2) (ap (λ (v : Line). v.tokens) (sym s.0) ∙ f))
      go o (name_class (assigned l before after t u n m e f s j q)) = no_statements l m
      go o (name_class (erased l p m q j e)) = not_alone l m
      go o (name_class (declared top' body h p d m n j e)) =
          let s = its_header top' body h d in
          let x = its_header j.first j.body j.header j.is_defined in
          let f = one_header top.number top.tokens j.header h x.2.header s.2.header x.2.spells s.2.spells in
          absurd (n (sym j.same ∙ ap (λ (v : Header). v.f) f))
      go o (deep (opened l t m f e)) = no_statements l m
      go o (grammar (outside_definitions l ks k c m s e)) = not_alone l m
      go o (grammar (in_a_body l ks k c m s e)) = not_in_body l m

-- ---- The rows ----

pub definition_row : (cs : List ℕ) (ls : List Line) (r : Refusal) → all_scalars cs ≡ true → length (encode_utf8_all cs) ≤ 2 ^ 20 → lines_in cs ≡ ls →
    AllByRecursion (OnLine (λ _. ⊥)) ls → ((ks : List Line) → ks ≡ ls → IsFirst (IsLineRefusal ks) r) → IsFirst (IsRefusal (encode_utf8_all cs)) r
definition_row cs ls r h s e a f =
    let lines : lines_of (encode_utf8_all cs) ≡ ls = lines_of_text cs h ∙ e in
    let whole = whole_text cs h in
    first_in_lines (encode_utf8_all cs) r s
    (λ o x. reading_all (encode_utf8_all cs) (λ _. ⊥) ls lines (λ u. absurd (omega arith)) a o x)
    (f (lines_of (encode_utf8_all cs)) lines)

abbrev open_top : Line
open_top = line_1 (codes "∇F")

single : {A : Type 0} (before after : List A) (x y : A) → x ∷ [] ≡ before ++ (y ∷ after) → before ≡ []
single [] after x y e = refl
single (b ∷ []) after x y e = cc
single (b ∷ c ∷ before) after x y e = cc

open_lawful : IsLawful first_line [] 1 (tokens (codes "∇F"))
open_lawful = (record { f = codes "F"; result = None; left = None; right = None; locals = [] }, search rules, search rules)

open_first : (ks : List Line) → ks ≡ open_top ∷ [] → IsFirst (IsLineRefusal ks) (refusal cause.OpenDefinition 1 1)
open_first ks e =
    let only : parts ks ≡ defined open_top [] None ∷ [] = ap parts e in
    first_defined ks open_top None only (refusal cause.OpenDefinition 1 1)
    (open_definition (never_closed open_top [] (example.glyph 1 "∇") (example.named 2 3 "F" ∷ [])
    (subst (λ v. IsAmong v (defined open_top [] None)) (sym only) (among_here [] (defined open_top [] None) (defined open_top [] None) refl)) refl refl))
    (λ k x. absurd (no_stop first_line [] 1 (codes "∇F") (tokens (codes "∇F")) (record { sound = search rules; same = refl }) k open_lawful x))
    (λ h before after o p d f m g. absurd (among_none p (subst (λ v. IsAmong v p) (single before after (record { name = codes "F"; line = 1; column = 2 }) o f) m)))
    (λ t ts f g. as_first (refusal cause.OpenDefinition 1 1) (refusal cause.OpenDefinition 1 t.from)
    (ap (λ (v : Token). refusal cause.OpenDefinition 1 v.from) (sym (same_head (example.glyph 1 "∇") t (example.named 2 3 "F" ∷ []) ts g))))

pub open_row : example.RefusalOfOpenDefinition
unfolding encode_utf8
open_row = definition_row (codes "∇F") (open_top ∷ []) (refusal cause.OpenDefinition 1 1) refl (lit≤ tt) refl
    ((λ h. let k : 1000 < 2 = h in omega arith, (tt, (tt, tt))), tt) open_first

abbrev four_top : Line
four_top = line_1 (codes "∇F X Y Z")

-- after three names a header goes on with ; or ends
four_no : (f : List ℕ) (z x y : Option (List ℕ)) (ls : List (List ℕ)) (rest : List Token) →
    Spell 1 (header_spelling (record { f = f; result = z; left = x; right = y; locals = ls })) (tokens (codes "∇F X Y Z") ++ rest) → ⊥
four_no f (Some z) None None [] rest s = let e = s.1.1.0 in cc
four_no f (Some z) None None (l ∷ ls) rest s = let e = s.1.1.0 in cc
four_no f (Some z) None (Some y) ls rest s = let e = s.1.1.0 in cc
four_no f (Some z) (Some x) None ls rest s = let e = s.1.1.0 in cc
four_no f (Some z) (Some x) (Some y) ls rest s = let e = s.1.1.0 in cc
four_no f None None None [] rest s = s.1.1
four_no f None None None (l ∷ ls) rest s = let e = s.1.1.0 in cc
four_no f None None (Some y) [] rest s = s.1.1.1
four_no f None None (Some y) (l ∷ ls) rest s = let e = s.1.1.1.0 in cc
four_no f None (Some x) None [] rest s = s.1.1.1
four_no f None (Some x) None (l ∷ ls) rest s = let e = s.1.1.1.0 in cc
four_no f None (Some x) (Some y) [] rest s = s.1.1.1.1
four_no f None (Some x) (Some y) (l ∷ ls) rest s = let e = s.1.1.1.1.0 in cc

four_header : (h : Header) (rest : List Token) → Spell 1 (header_spelling h) (tokens (codes "∇F X Y Z") ++ rest) → ⊥
four_header h rest s = four_no h.f h.result h.left h.right h.locals rest s

four_stops : StopsAt first_line [] 1 (tokens (codes "∇F X Y Z")) 8
four_stops = at_token (example.glyph 1 "∇" ∷ example.named 2 3 "F" ∷ example.named 4 5 "X" ∷ example.named 6 7 "Y" ∷ []) (example.named 8 9 "Z") [] refl
    (record {
      text = codes "∇F X Y";
      rest = [];
      read = record { sound = search rules; same = refl };
      lawful = (record { f = codes "X"; result = None; left = Some (codes "F"); right = Some (codes "Y"); locals = [] }, search rules, search rules);
    })
    (λ b. four_header b.lawful.0 b.rest b.lawful.2) refl

none_is_some : {A : Type 0} (l : Line) → Some l ≡ None → A
none_is_some l e = cc

four_first : (ks : List Line) → ks ≡ four_top ∷ line_2 (codes "∇") ∷ [] → IsFirst (IsLineRefusal ks) (refusal cause.Header 1 8)
four_first ks e =
    let last : Option Line = Some (line_2 (codes "∇")) in
    let only : parts ks ≡ defined four_top [] last ∷ [] = ap parts e in
    first_defined ks four_top last only (refusal cause.Header 1 8)
    (header (no_header four_top 8 ([], last, subst (λ v. IsAmong v (defined four_top [] last)) (sym only) (among_here [] (defined four_top [] last) (defined four_top [] last) refl)) four_stops refl))
    (λ k x. as_first (refusal cause.Header 1 8) (refusal cause.Header 1 k) (ap (λ v. refusal cause.Header 1 v) (one_stop first_line [] 1 (tokens (codes "∇F X Y Z")) k 8 x four_stops)))
    (λ h before after o p d f m g. absurd (four_header h [] d.spells))
    (λ t ts f g. none_is_some (line_2 (codes "∇")) f)

pub four_row : example.RefusalOfFourNames
unfolding encode_utf8
four_row = definition_row (codes "∇F X Y Z" ++ (10 ∷ codes "∇")) (four_top ∷ line_2 (codes "∇") ∷ []) (refusal cause.Header 1 8) refl (lit≤ tt) refl (
  (λ h. let k : 1000 < 8 = h in omega arith, no_faults_at (λ _. ⊥) 1 (pieces (codes "∇F X Y Z")) refl),
  ((λ h. let k : 1000 < 1 = h in omega arith, (tt, tt)), tt),
) four_first

abbrev double_top : Line
double_top = line_1 (codes "∇Z←F Z")

abbrev double_header : Header
double_header = record { f = codes "F"; result = Some (codes "Z"); left = None; right = Some (codes "Z"); locals = [] }

abbrev z_at : ℕ → Occurrence
z_at k = record { name = codes "Z"; line = 1; column = k }

abbrev f_at : Occurrence
f_at = record { name = codes "F"; line = 1; column = 4 }

double_head : IsHeadOf double_top double_header
double_head = record { header = search rules; spells = search rules }

z_is_f : {A : Type 0} → ◌≡◌ {A = List ℕ} (codes "Z") (codes "F") → A
z_is_f e = let g : ◌≡◌ {A = ℕ} 90 70 = cc in absurd (omega arith)

the_second : (before after : List Occurrence) (o p : Occurrence) → z_at 2 ∷ f_at ∷ z_at 6 ∷ [] ≡ before ++ (o ∷ after) → IsAmong before p → p.name ≡ o.name → o ≡ z_at 6
the_second [] after o p e m f = absurd (among_none p m)
the_second (b ∷ []) after o p e m f =
    let x : z_at 2 ≡ b = cc in
    let y : f_at ≡ o = cc in
    elim (among_cases [] b p m) [
      | inl q ↦ z_is_f (ap (λ (v : Occurrence). v.name) (x ∙ sym q) ∙ f ∙ ap (λ (v : Occurrence). v.name) (sym y))
      | inr k ↦ absurd (among_none p k)
    ]
the_second (b ∷ c ∷ []) after o p e m f = let x : z_at 6 ≡ o = cc in sym x
the_second (b ∷ c ∷ d ∷ []) after o p e m f = cc
the_second (b ∷ c ∷ d ∷ d' ∷ before) after o p e m f = cc

double_first : (ks : List Line) → ks ≡ double_top ∷ line_2 (codes "∇") ∷ [] → IsFirst (IsLineRefusal ks) (refusal cause.DoubleName 1 6)
double_first ks e =
    let last : Option Line = Some (line_2 (codes "∇")) in
    let only : parts ks ≡ defined double_top [] last ∷ [] = ap parts e in
    first_defined ks double_top last only (refusal cause.DoubleName 1 6)
    (double_name (second_occurrence double_top [] double_header (z_at 2 ∷ f_at ∷ []) [] (z_at 6) (z_at 2)
    (record { last = last; among = subst (λ v. IsAmong v (defined double_top [] last)) (sym only) (among_here [] (defined double_top [] last) (defined double_top [] last) refl); head = double_head })
    refl (among_here (f_at ∷ []) (z_at 2) (z_at 2) refl) refl refl))
    (λ k x. absurd (no_stop first_line [] 1 (codes "∇Z←F Z") (tokens (codes "∇Z←F Z")) (record { sound = search rules; same = refl }) k (double_header, double_head.header, double_head.spells) x))
    (λ h before after o p d f m g. as_first (refusal cause.DoubleName 1 6) (refusal cause.DoubleName o.line o.column)
    (ap (λ (v : Occurrence). refusal cause.DoubleName v.line v.column) (the_second before after o p f m g)))
    (λ t ts f g. none_is_some (line_2 (codes "∇")) f)

pub double_row : example.RefusalOfDoubleName
unfolding encode_utf8
double_row = definition_row (codes "∇Z←F Z" ++ (10 ∷ codes "∇")) (double_top ∷ line_2 (codes "∇") ∷ []) (refusal cause.DoubleName 1 6) refl (lit≤ tt) refl (
  (λ h. let k : 1000 < 6 = h in omega arith, no_faults_at (λ _. ⊥) 1 (pieces (codes "∇Z←F Z")) refl),
  ((λ h. let k : 1000 < 1 = h in omega arith, (tt, tt)), tt),
) double_first

-- What the first pass finds, with one part more.
use Rattle.std.proofs.Common.{◌≡◌, ℕ, true, false, List, [], ◌∷◌, ◌++◌, Option, None, Some, ◌⊎◌, inl, inr, ◌↔◌, refl, sym, ap, subst, ◌∙◌, append_assoc, append-nil}
use Rattle.std.specs.Prelude.{slice_get, length, if◌then◌else◌}
use Rattle.std.specs.List.{IsAmong}
use Rattle.apl_base.specs.declared.faults.Cause.TheVariants as cause
use Rattle.apl_base.specs.declared.faults.Refusal.{Refusal}
use Rattle.apl_model.proofs.Accepted.{among_here, among_there, among_cases, among_none, among_first, no_stop, part_from}
use Rattle.apl_model.proofs.Rows.{one_stop, before_after}
use Rattle.apl_model.proofs.Unique.{one_header}
use Rattle.apl_model.specs.Refusal.{refusal, first_line, StopsAt, Heads, order, IsFirstIfAny}
use Rattle.apl_model.specs.Script.{Part, alone, defined, parts, IsHeadOf}
use Rattle.apl_model.specs.Spelling.{before_own_name}
use Rattle.apl_model.specs.declared.scripts.Header.{Header}
use Rattle.apl_model.specs.declared.tokens.Line.{Line}
use Rattle.apl_model.specs.declared.tokens.Token.{Token}
use Rattle.apl_defn.proofs.EarlierLemmas.{first_like, earlier_first, only_first}
use Rattle.apl_defn.proofs.PhaseLemmas.{first_part_more, no_part}
use Rattle.apl_defn.specs.Earliest.{earlier, is_not_after}
use Rattle.apl_defn.specs.NameRules.{IsRepeated}
use Rattle.apl_defn.specs.PartRefusals.{OfSome, AfterOthers, IsLone, IsNoHeader, IsNested, IsSecondHeading, IsNeverClosed, IsFormRefusal}
use Rattle.apl_defn.specs.Passes.{IsReadPart, AreHeaders, AreForms}
use Rattle.apl_defn.specs.Reading.{IsReadLine}
use Rattle.apl_defn.specs.declared.forms.Forms.{Forms}

-- ---- Which names head the parts ----

abbrev HaveSame : List (List ℕ) → List Part → Type 0
HaveSame names ps = (n : List ℕ) → IsAmong names n ↔ Heads ps n

no_heads : (n : List ℕ) → Heads [] n → ⊥
no_heads n h = among_none (defined h.first h.body h.is_defined.last) h.is_defined.among

last_among : {A : Type 0} (xs : List A) (x : A) → IsAmong (xs ++ (x ∷ [])) x
last_among [] x = among_here [] x x refl
last_among (z ∷ xs) x = among_there (xs ++ (x ∷ [])) z x (last_among xs x)

among_append : {A : Type 0} (xs : List A) (y x : A) → IsAmong (xs ++ (y ∷ [])) x → IsAmong xs x ⊎ (x ≡ y)
among_append [] y x m = elim (among_cases [] y x m) [ inl e ↦ inr e | inr k ↦ absurd (among_none x k) ]
among_append (z ∷ xs) y x m = elim (among_cases (xs ++ (y ∷ [])) z x m) [
  | inl e ↦ inl (among_here xs z x e)
  | inr k ↦ elim (among_append xs y x k) [ inl l ↦ inl (among_there xs z x l) | inr e ↦ inr e ]
]

-- a name that heads parts heads more parts
more_parts : (ps : List Part) (p : Part) (n : List ℕ) → Heads ps n → Heads (ps ++ (p ∷ [])) n
more_parts ps p n h = record {
  first = h.first;
  body = h.body;
  header = h.header;
  is_defined = record { last = h.is_defined.last; among = among_first ps (p ∷ []) (defined h.first h.body h.is_defined.last) h.is_defined.among; head = h.is_defined.head };
  same = h.same;
}

-- a line alone heads nothing
alone_heads : (ps : List Part) (l : Line) (n : List ℕ) → Heads (ps ++ (alone l ∷ [])) n → Heads ps n
alone_heads ps l n h = elim (among_append ps (alone l) (defined h.first h.body h.is_defined.last) h.is_defined.among) [
  | inl m ↦ record { first = h.first; body = h.body; header = h.header; is_defined = record { last = h.is_defined.last; among = m; head = h.is_defined.head }; same = h.same }
  | inr e ↦ cc
]

-- a definition heads the name of its header alone
defined_heads : (ps : List Part) (top : Line) (body : List Line) (last : Option Line) (n : List ℕ) → Heads (ps ++ (defined top body last ∷ [])) n →
    Heads ps n ⊎ ((h : Header) × IsHeadOf top h × (h.f ≡ n))
defined_heads ps top body last n h = elim (among_append ps (defined top body last) (defined h.first h.body h.is_defined.last) h.is_defined.among) [
  | inl m ↦ inl (record { first = h.first; body = h.body; header = h.header; is_defined = record { last = h.is_defined.last; among = m; head = h.is_defined.head }; same = h.same })
  | inr e ↦ inr (h.header, subst (λ l. IsHeadOf l h.header) (first_is e) h.is_defined.head, h.same)
]
  where
    first_is : defined h.first h.body h.is_defined.last ≡ defined top body last → h.first ≡ top
    first_is e = cc

same_head : (top : Line) (h k : Header) → IsHeadOf top h → IsHeadOf top k → h ≡ k
same_head top h k x y = one_header top.number top.tokens h k x.header y.header x.spells y.spells

-- the names that were headed, with that of one definition more
pub headed_more : (ps : List Part) (top : Line) (body : List Line) (last : Option Line) (h : Header) (names more : List (List ℕ)) → IsHeadOf top h → HaveSame names ps →
    ((n : List ℕ) → IsAmong more n ↔ ((n ≡ h.f) ⊎ IsAmong names n)) → HaveSame more (ps ++ (defined top body last ∷ []))
headed_more ps top body last h names more i same added = λ n. (to n, from n)
  where
    to : (n : List ℕ) → IsAmong more n → Heads (ps ++ (defined top body last ∷ [])) n
    to n m = elim ((added n).0 m) [
      | inl e ↦ record {
        first = top;
        body = body;
        header = h;
        is_defined = record { last = last; among = last_among ps (defined top body last); head = i };
        same = sym e;
      }
      | inr k ↦ more_parts ps (defined top body last) n ((same n).0 k)
    ]

    from : (n : List ℕ) → Heads (ps ++ (defined top body last ∷ [])) n → IsAmong more n
    from n x = elim (defined_heads ps top body last n x) [
      | inl k ↦ (added n).1 (inr ((same n).1 k))
      | inr k ↦ (added n).1 (inl (sym k.2 ∙ ap (λ (v : Header). v.f) (same_head top k.0 h k.1 i)))
    ]

-- ---- The second heading of a function ----

some_none : {A : Type 0} {t : Token} → Some t ≡ None → A
some_none e = cc

module _ (ps : List Part) (top : Line) (h : Header) (i : IsHeadOf top h) (names : List (List ℕ)) (same : HaveSame names ps) where
  -- a name that was not headed before
  pub first_heading : (IsAmong names h.f → ⊥) → IsFirstIfAny (IsSecondHeading ps top) None
  first_heading none r x = none (subst (λ n. IsAmong names n) (ap (λ (v : Header). v.f) (same_head top x.header h x.head i)) ((same x.header.f).1 x.earlier))

  pub heading_again : (t : Token) → IsAmong names h.f → slice_get top.tokens (length (before_own_name h)) ≡ Some t →
      IsFirstIfAny (IsSecondHeading ps top) (Some (refusal cause.DoubleName top.number t.from))
  heading_again t there e = only_first (IsSecondHeading ps top) (refusal cause.DoubleName top.number t.from)
      (record { header = h; head = i; earlier = (same h.f).0 there; own = t; place = e; is = refl })
      (λ s x. x.is ∙ ap (λ (v : Token). refusal cause.DoubleName top.number v.from) (own_is x.own t (sym x.place ∙ ap (λ k. slice_get top.tokens (length (before_own_name k))) (same_head top x.header h x.head i) ∙ e)))
    where
      own_is : (u v : Token) → Some u ≡ Some v → u ≡ v
      own_is u v e = cc

  pub no_own_name : slice_get top.tokens (length (before_own_name h)) ≡ None → IsFirstIfAny (IsSecondHeading ps top) None
  no_own_name e r x = some_none (sym x.place ∙ ap (λ k. slice_get top.tokens (length (before_own_name k))) (same_head top x.header h x.head i) ∙ e)

-- ---- What is found of one part ----

-- nothing is earlier only where there is none of both
pub neither : (a b : Option Refusal) → earlier a b ≡ None → (a ≡ None) × (b ≡ None)
neither None b e = (refl, e)
neither (Some r) None e = cc
neither (Some r) (Some s) e = elim (is_not_after (order r) (order s)) as (λ t. (if t then Some r else Some s) ≡ None → (Some r ≡ None) × (Some s ≡ None)) [
  | true ↦ λ f. cc
  | false ↦ λ f. cc
] e

module _ (top : Line) (read : IsReadLine top) where
  -- a first line with a header stops nowhere
  head_stops : (h : Header) (r : Refusal) → IsHeadOf top h → IsNoHeader top r → ⊥
  head_stops h r i x = no_stop first_line [] top.number top.text top.tokens read.tokens x.column (h, i.header, i.spells) x.stops

  -- one that stops has none
  pub no_head : (k : ℕ) → StopsAt first_line [] top.number top.tokens k → (h : Header) → IsHeadOf top h → ⊥
  no_head k x h i = head_stops h (refusal cause.Header top.number k) i (record { column = k; stops = x; is = refl })

module _ (ps : List Part) (top : Line) (body : List Line) (last : Option Line) (read : IsReadLine top) where
  -- the first refusal of the form of a definition with a header
  pub headed_form : (h : Header) (n o r s : Option Refusal) → IsHeadOf top h → IsFirstIfAny (OfSome IsNested body) n → IsFirstIfAny (IsNeverClosed top last) o →
      IsFirstIfAny (IsRepeated top body) r → IsFirstIfAny (IsSecondHeading ps top) s → IsFirstIfAny (IsFormRefusal ps (defined top body last)) (earlier (earlier n o) (earlier r s))
  headed_form h n o r s i fn fo fr fs =
      let F : Refusal → Type 0 = λ v. (OfSome IsNested body v ⊎ IsNeverClosed top last v) ⊎ (IsRepeated top body v ⊎ IsSecondHeading ps top v) in
      first_like F (IsFormRefusal ps (defined top body last)) (earlier (earlier n o) (earlier r s)) to from
      (earlier_first (λ v. OfSome IsNested body v ⊎ IsNeverClosed top last v) (λ v. IsRepeated top body v ⊎ IsSecondHeading ps top v) (earlier n o) (earlier r s)
      (earlier_first (OfSome IsNested body) (IsNeverClosed top last) n o fn fo) (earlier_first (IsRepeated top body) (IsSecondHeading ps top) r s fr fs))
    where
      to : (v : Refusal) → (OfSome IsNested body v ⊎ IsNeverClosed top last v) ⊎ (IsRepeated top body v ⊎ IsSecondHeading ps top v) → IsFormRefusal ps (defined top body last) v
      to v (inl (inl x)) = inr (inl x)
      to v (inl (inr x)) = inr (inr (inr (inr x)))
      to v (inr (inl x)) = inr (inr (inr (inl (record { header = h; head = i; repeated = x }))))
      to v (inr (inr x)) = inr (inr (inl x))

      from : (v : Refusal) → IsFormRefusal ps (defined top body last) v → (OfSome IsNested body v ⊎ IsNeverClosed top last v) ⊎ (IsRepeated top body v ⊎ IsSecondHeading ps top v)
      from v (inl x) = absurd (head_stops top read h v i x)
      from v (inr (inl x)) = inl (inl x)
      from v (inr (inr (inl x))) = inr (inr x)
      from v (inr (inr (inr (inl x)))) = inr (inl x.repeated)
      from v (inr (inr (inr (inr x)))) = inl (inr x)

  -- and of one without
  pub stopped_form : (k : ℕ) (n o : Option Refusal) → StopsAt first_line [] top.number top.tokens k → IsFirstIfAny (OfSome IsNested body) n → IsFirstIfAny (IsNeverClosed top last) o →
      IsFirstIfAny (IsFormRefusal ps (defined top body last)) (earlier (earlier n o) (Some (refusal cause.Header top.number k)))
  stopped_form k n o stops fn fo =
      let q : Refusal = refusal cause.Header top.number k in
      let F : Refusal → Type 0 = λ v. (OfSome IsNested body v ⊎ IsNeverClosed top last v) ⊎ IsNoHeader top v in
      first_like F (IsFormRefusal ps (defined top body last)) (earlier (earlier n o) (Some q)) to from
      (earlier_first (λ v. OfSome IsNested body v ⊎ IsNeverClosed top last v) (IsNoHeader top) (earlier n o) (Some q)
      (earlier_first (OfSome IsNested body) (IsNeverClosed top last) n o fn fo)
      (only_first (IsNoHeader top) q (record { column = k; stops = stops; is = refl })
      (λ v x. x.is ∙ ap (λ j. refusal cause.Header top.number j) (one_stop first_line [] top.number top.tokens x.column k x.stops stops))))
    where
      to : (v : Refusal) → (OfSome IsNested body v ⊎ IsNeverClosed top last v) ⊎ IsNoHeader top v → IsFormRefusal ps (defined top body last) v
      to v (inl (inl x)) = inr (inl x)
      to v (inl (inr x)) = inr (inr (inr (inr x)))
      to v (inr x) = inl x

      from : (v : Refusal) → IsFormRefusal ps (defined top body last) v → (OfSome IsNested body v ⊎ IsNeverClosed top last v) ⊎ IsNoHeader top v
      from v (inl x) = inr x
      from v (inr (inl x)) = inl (inl x)
      from v (inr (inr (inl x))) = absurd (no_head top read k stops x.header x.head)
      from v (inr (inr (inr (inl x)))) = absurd (no_head top read k stops x.header x.head)
      from v (inr (inr (inr (inr x)))) = inl (inr x)

-- ---- What is found after one part more ----

alone_headers : (ps : List Part) (l : Line) (hs : List Header) → AreHeaders ps hs → AreHeaders (ps ++ (alone l ∷ [])) hs
alone_headers [] l [] a = tt
alone_headers [] l (h ∷ hs) a = absurd a
alone_headers (alone k ∷ ps) l hs a = alone_headers ps l hs a
alone_headers (defined top body last ∷ ps) l [] a = absurd a
alone_headers (defined top body last ∷ ps) l (h ∷ hs) a = (a.0, alone_headers ps l hs a.1)

headers_more : (ps : List Part) (top : Line) (body : List Line) (last : Option Line) (hs : List Header) (h : Header) → AreHeaders ps hs → IsHeadOf top h →
    AreHeaders (ps ++ (defined top body last ∷ [])) (hs ++ (h ∷ []))
headers_more [] top body last [] h a i = (i, tt)
headers_more [] top body last (k ∷ hs) h a i = absurd a
headers_more (alone l ∷ ps) top body last hs h a i = headers_more ps top body last hs h a i
headers_more (defined t b l ∷ ps) top body last [] h a i = absurd a
headers_more (defined t b l ∷ ps) top body last (k ∷ hs) h a i = (a.0, headers_more ps top body last hs h a.1 i)

-- of no parts
pub forms_of_none : (f : Forms) → f.earliest ≡ None → f.headers.items ≡ [] → f.headed ≡ [] → AreForms [] f
forms_of_none f e h n = record {
  earliest = subst (λ v. IsFirstIfAny (AfterOthers IsFormRefusal []) v) (sym e) (no_part IsFormRefusal);
  headers = λ g. subst (λ v. AreHeaders [] v) (sym h) tt;
  headed = λ m. (λ k. absurd (among_none m (subst (λ v. IsAmong v m) n k)), λ k. absurd (no_heads m k));
}

-- with a line alone
pub forms_alone : (ps : List Part) (l : Line) (f g : Forms) (b : Option Refusal) → g.earliest ≡ earlier f.earliest b → g.headers.items ≡ f.headers.items → g.headed ≡ f.headed →
    IsFirstIfAny (IsLone l) b → AreForms ps f → AreForms (ps ++ (alone l ∷ [])) g
forms_alone ps l f g b e h n first a = record {
  earliest = subst (λ v. IsFirstIfAny (AfterOthers IsFormRefusal (ps ++ (alone l ∷ []))) v) (sym e) (first_part_more IsFormRefusal ps (alone l) f.earliest b a.earliest first);
  headers = λ none. subst (λ v. AreHeaders (ps ++ (alone l ∷ [])) v) (sym h) (alone_headers ps l f.headers.items (a.headers (neither f.earliest b (sym e ∙ none)).0));
  headed = λ m. (
    λ k. more_parts ps (alone l) m ((a.headed m).0 (subst (λ v. IsAmong v m) n k)),
    λ k. subst (λ v. IsAmong v m) (sym n) ((a.headed m).1 (alone_heads ps l m k)),
  );
}

-- with a definition that has a header
pub forms_headed : (ps : List Part) (top : Line) (body : List Line) (last : Option Line) (h : Header) (f g : Forms) (b : Option Refusal) → IsHeadOf top h →
    g.earliest ≡ earlier f.earliest b → g.headers.items ≡ f.headers.items ++ (h ∷ []) → ((n : List ℕ) → IsAmong g.headed n ↔ ((n ≡ h.f) ⊎ IsAmong f.headed n)) →
    IsFirstIfAny (IsFormRefusal ps (defined top body last)) b → AreForms ps f → AreForms (ps ++ (defined top body last ∷ [])) g
forms_headed ps top body last h f g b i e k n first a = record {
  earliest = subst (λ v. IsFirstIfAny (AfterOthers IsFormRefusal (ps ++ (defined top body last ∷ []))) v) (sym e) (first_part_more IsFormRefusal ps (defined top body last) f.earliest b a.earliest first);
  headers = λ none. subst (λ v. AreHeaders (ps ++ (defined top body last ∷ [])) v) (sym k) (headers_more ps top body last f.headers.items h (a.headers (neither f.earliest b (sym e ∙ none)).0) i);
  headed = headed_more ps top body last h f.headed g.headed i a.headed n;
}

-- with a definition that has none
pub forms_stopped : (ps : List Part) (top : Line) (body : List Line) (last : Option Line) (f g : Forms) (b : Option Refusal) (r : Refusal) → ((h : Header) → IsHeadOf top h → ⊥) →
    g.earliest ≡ earlier f.earliest (earlier b (Some r)) → g.headed ≡ f.headed →
    IsFirstIfAny (IsFormRefusal ps (defined top body last)) (earlier b (Some r)) → AreForms ps f → AreForms (ps ++ (defined top body last ∷ [])) g
forms_stopped ps top body last f g b r none e n first a = record {
  earliest = subst (λ v. IsFirstIfAny (AfterOthers IsFormRefusal (ps ++ (defined top body last ∷ []))) v) (sym e)
      (first_part_more IsFormRefusal ps (defined top body last) f.earliest (earlier b (Some r)) a.earliest first);
  headers = λ x. absurd (is_some (neither b (Some r) (neither f.earliest (earlier b (Some r)) (sym e ∙ x)).1).1);
  headed = λ m. (
    λ k. more_parts ps (defined top body last) m ((a.headed m).0 (subst (λ v. IsAmong v m) n k)),
    λ k. subst (λ v. IsAmong v m) (sym n) (elim (defined_heads ps top body last m k) [
      | inl x ↦ (a.headed m).1 x
      | inr x ↦ absurd (none x.0 x.1)
    ]),
  );
}
  where
    is_some : Some r ≡ None → ⊥
    is_some x = cc

-- ---- Over the parts of a script ----

-- when these lines are left
pub record FormsSoFar (ls rest : List Line) (f : Forms) : Type 0 where
  pub done : List Part
  pub split : parts ls ≡ done ++ parts rest
  pub found : AreForms done f

pub forms_begin : (ls rest : List Line) (f : Forms) → rest ≡ ls → AreForms [] f → FormsSoFar ls rest f
forms_begin ls rest f e a = record { done = []; split = sym (ap parts e); found = a }

pub forms_next : (ls rest more : List Line) (p : Part) (f g : Forms) → parts rest ≡ p ∷ parts more → FormsSoFar ls rest f →
    ((ps : List Part) → AreForms ps f → AreForms (ps ++ (p ∷ [])) g) → FormsSoFar ls more g
forms_next ls rest more p f g e s step = record {
  done = s.done ++ (p ∷ []);
  split = s.split ∙ ap (λ v. s.done ++ v) e ∙ sym (append_assoc s.done (p ∷ []) (parts more));
  found = step s.done s.found;
}

pub forms_end : (ls rest : List Line) (f : Forms) → parts rest ≡ [] → FormsSoFar ls rest f → AreForms (parts ls) f
forms_end ls rest f e s = subst (λ v. AreForms v f) (sym (s.split ∙ ap (λ v. s.done ++ v) e ∙ append-nil s.done)) s.found

-- a part of read lines is read
pub read_part : (ls : List Line) (p : Part) → ((l : Line) → IsAmong ls l → IsReadLine l) → IsAmong (parts ls) p → IsReadPart p
read_part ls (alone l) read m = read l (part_from ls (alone l) m)
read_part ls (defined top body last) read m = let f = part_from ls (defined top body last) m in (read top f.0, f.1, λ l k. read l (f.2 l k))

pub next_part : (ls rest more : List Line) (p : Part) (f : Forms) → parts rest ≡ p ∷ parts more → FormsSoFar ls rest f → IsAmong (parts ls) p
next_part ls rest more p f e s = subst (λ v. IsAmong v p) (sym (s.split ∙ ap (λ v. s.done ++ v) e)) (before_after s.done (parts more) p)

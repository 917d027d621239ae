-- The refusals of all parts of a script are those of its lines.
use Rattle.std.proofs.Common.{◌≡◌, ℕ, ◌+◌, ◌<◌, ◌≤◌, Bool, true, false, List, [], ◌∷◌, ◌++◌, length, take, get_or, Option, None, Some, ◌⊎◌, inl, inr, refl, sym, ap, subst, ◌∙◌, append_assoc}
use Rattle.std.specs.List.{IsAmong}
use Rattle.std.specs.Prelude.{if◌then◌else◌}
use Rattle.std.specs.Option.{IsSome}
use Rattle.std.proofs.lemmas.List.{take_more, take_all}
use lib.Pointwise.{bytes_decides}
use Rattle.apl_base.specs.declared.faults.Refusal.{Refusal}
use Rattle.apl_model.proofs.Accepted.{among_here, among_there, among_cases, among_none}
use Rattle.apl_model.proofs.AcceptedItems.{more_heads}
use Rattle.apl_model.proofs.Rows.{before_after, alone_defined}
use Rattle.apl_model.proofs.Unique.{one_header}
use Rattle.apl_model.specs.Environment.{is_same_name}
use Rattle.apl_model.specs.Grammar.{arguments_of}
use Rattle.apl_model.specs.Refusal.{outside, in_body, StopsAt, HasStatements, IsHeaderRefusal, no_header, lone, nested, IsOpenDefinition, never_closed, IsDefined, Heads, IsDoubleName, second_heading, second_occurrence, IsNameClass, assigned, erased, declared, IsDeep, opened, AreClasses, IsGrammarRefusal, outside_definitions, in_a_body, IsLineRefusal, header, double_name, open_definition, name_class, deep, grammar, IsFirstIfAny}
use Rattle.apl_model.specs.Script.{Part, alone, defined, parts, heading_of, IsHeadOf}
use Rattle.apl_model.specs.declared.scripts.Header.{Header}
use Rattle.apl_model.specs.declared.tokens.Heading.{Heading}
use Rattle.apl_model.specs.declared.tokens.Line.{Line}
use Rattle.apl_defn.proofs.EarlierLemmas.{first_like, earlier_first}
use Rattle.apl_defn.specs.Earliest.{earlier}
use Rattle.apl_defn.specs.NameRules.{IsAssigned, IsTooDeep, IsHeading}
use Rattle.apl_defn.specs.PartRefusals.{OfSome, AfterOthers, IsFormRefusal, IsUseRefusal}

-- ---- One more part, one more line ----

-- a member of a list stands between two parts of it
pub among_split : {A : Type 0} (xs : List A) (x : A) → IsAmong xs x → (before : List A) × (after : List A) × (xs ≡ before ++ (x ∷ after))
among_split [] x m = absurd (among_none x m)
among_split (y ∷ xs) x m = elim (among_cases xs y x m) [
  | inl e ↦ ([], xs, ap (λ v. v ∷ xs) (sym e))
  | inr k ↦ (let s = among_split xs x k in (y ∷ s.0, s.1, ap (λ l. y ∷ l) s.2))
]

-- a list with one more element is split at that one or before
pub snoc_split : {A : Type 0} (xs : List A) (x : A) (before : List A) (y : A) (after : List A) → xs ++ (x ∷ []) ≡ before ++ (y ∷ after) →
    ((xs ≡ before) × (x ≡ y)) ⊎ ((rest : List A) × (xs ≡ before ++ (y ∷ rest)))
snoc_split [] x [] y after e = inl (refl, cc)
snoc_split [] x (b ∷ []) y after e = cc
snoc_split [] x (b ∷ c ∷ before) y after e = cc
snoc_split (z ∷ xs) x [] y after e = inr (xs, let f : z ≡ y = cc in ap (λ v. v ∷ xs) f)
snoc_split (z ∷ xs) x (b ∷ before) y after e =
    let f : z ≡ b = cc in
    let g : xs ++ (x ∷ []) ≡ before ++ (y ∷ after) = cc in
    elim (snoc_split xs x before y after g) [
      | inl s ↦ inl ((λ i. f i ∷ s.0 i), s.1)
      | inr s ↦ inr (s.0, λ i. f i ∷ s.1 i)
    ]

module _ (R : List Part → Part → Refusal → Type 0) where
  -- a refusal of one part more
  pub part_more : (ps : List Part) (p : Part) (r : Refusal) → AfterOthers R ps r ⊎ R ps p r → AfterOthers R (ps ++ (p ∷ [])) r
  part_more ps p r (inl h) = record { before = h.before; part = h.part; after = h.after ++ (p ∷ []); split = ap (λ l. l ++ (p ∷ [])) h.split ∙ append_assoc h.before (h.part ∷ h.after) (p ∷ []); refuses = h.refuses }
  part_more ps p r (inr h) = record { before = ps; part = p; after = []; split = refl; refuses = h }

  pub part_was : (ps : List Part) (p : Part) (r : Refusal) → AfterOthers R (ps ++ (p ∷ [])) r → AfterOthers R ps r ⊎ R ps p r
  part_was ps p r h = elim (snoc_split ps p h.before h.part h.after h.split) [
    | inl s ↦ inr (subst (λ q. R ps q r) (sym s.1) (subst (λ b. R b h.part r) (sym s.0) h.refuses))
    | inr s ↦ inl (record { before = h.before; part = h.part; after = s.0; split = s.1; refuses = h.refuses })
  ]

  -- no part, no refusal
  pub no_part : IsFirstIfAny (AfterOthers R []) None
  no_part r h = none_split h.before h.split
    where
      none_split : (before : List Part) → [] ≡ before ++ (h.part ∷ h.after) → ⊥
      none_split [] e = cc
      none_split (b ∷ before) e = cc

  -- the first refusal, with one part more
  pub first_part_more : (ps : List Part) (p : Part) (a b : Option Refusal) → IsFirstIfAny (AfterOthers R ps) a → IsFirstIfAny (R ps p) b →
      IsFirstIfAny (AfterOthers R (ps ++ (p ∷ []))) (earlier a b)
  first_part_more ps p a b h k = first_like (λ r. AfterOthers R ps r ⊎ R ps p r) (AfterOthers R (ps ++ (p ∷ []))) (earlier a b) (part_more ps p) (part_was ps p)
      (earlier_first (AfterOthers R ps) (R ps p) a b h k)

module _ {A : Type 0} (P : A → Refusal → Type 0) where
  pub none_of_none : IsFirstIfAny (OfSome P []) None
  none_of_none r h = among_none h.0 h.1

  some_more : (xs : List A) (x : A) (r : Refusal) → OfSome P xs r ⊎ P x r → OfSome P (xs ++ (x ∷ [])) r
  some_more xs x r (inl h) = let s = among_split xs h.0 h.1 in
      (h.0, subst (λ v. IsAmong v h.0) (sym (ap (λ v. v ++ (x ∷ [])) s.2 ∙ append_assoc s.0 (h.0 ∷ s.1) (x ∷ []))) (before_after s.0 (s.1 ++ (x ∷ [])) h.0), h.2)
  some_more xs x r (inr h) = (x, before_after xs [] x, h)

  some_was : (xs : List A) (x : A) (r : Refusal) → OfSome P (xs ++ (x ∷ [])) r → OfSome P xs r ⊎ P x r
  some_was xs x r h = let s = among_split (xs ++ (x ∷ [])) h.0 h.1 in elim (snoc_split xs x s.0 h.0 s.1 s.2) [
    | inl e ↦ inr (subst (λ v. P v r) (sym e.1) h.2)
    | inr e ↦ inl (h.0, subst (λ v. IsAmong v h.0) (sym e.1) (before_after s.0 e.0 h.0), h.2)
  ]

  -- the first refusal, with one element more
  pub first_more : (xs : List A) (x : A) (a b : Option Refusal) → IsFirstIfAny (OfSome P xs) a → IsFirstIfAny (P x) b →
      IsFirstIfAny (OfSome P (xs ++ (x ∷ []))) (earlier a b)
  first_more xs x a b h k = first_like (λ r. OfSome P xs r ⊎ P x r) (OfSome P (xs ++ (x ∷ []))) (earlier a b) (some_more xs x) (some_was xs x)
      (earlier_first (OfSome P xs) (P x) a b h k)

  -- the same by the place of an element
  pub first_at : (xs : List A) (k : ℕ) (x : A) (a b : Option Refusal) → k < length xs → x ≡ get_or xs k x → IsFirstIfAny (OfSome P (take k xs)) a → IsFirstIfAny (P x) b →
      IsFirstIfAny (OfSome P (take (k + 1) xs)) (earlier a b)
  first_at xs k x a b l e h i = subst (λ v. IsFirstIfAny (OfSome P v) (earlier a b)) (sym (take_more xs k x l ∙ ap (λ v. take k xs ++ (v ∷ [])) (sym e)))
      (first_more (take k xs) x a b h i)

  pub first_of_all : (xs : List A) (k : ℕ) (a : Option Refusal) → length xs ≤ k → IsFirstIfAny (OfSome P (take k xs)) a → IsFirstIfAny (OfSome P xs) a
  first_of_all xs k a l h = subst (λ v. IsFirstIfAny (OfSome P v) a) (take_all k xs l) h

-- ---- The names that head definitions ----

-- the headings of the definitions of parts are these alone
pub one_classes : (ps : List Part) (hs ks : List Heading) → AreClasses ps hs → AreClasses ps ks → hs ≡ ks
one_classes [] [] [] c d = refl
one_classes [] [] (k ∷ ks) c d = absurd d
one_classes [] (h ∷ hs) ks c d = absurd c
one_classes (alone l ∷ ps) hs ks c d = one_classes ps hs ks c d
one_classes (defined top body last ∷ ps) [] ks c d = absurd c
one_classes (defined top body last ∷ ps) (h ∷ hs) [] c d = absurd d
one_classes (defined top body last ∷ ps) (h ∷ hs) (k ∷ ks) c d =
    let x = c.0 in
    let y = d.0 in
    let e = one_header top.number top.tokens x.0 y.0 x.1.header y.1.header x.1.spells y.1.spells in
    let f : h ≡ k = x.2 ∙ ap heading_of e ∙ sym y.2 in
    let g = one_classes ps hs ks c.1 d.1 in
    λ i. f i ∷ g i

-- with one heading more, a name that headed still heads
still_some : (b : Bool) (k : ℕ) (o : Option ℕ) → IsSome o → IsSome (if b then Some k else o)
still_some true k o h = refl
still_some false k o h = h

-- a name that heads one of the parts is among their headings
pub heads_known : (ps : List Part) (hs : List Heading) (n : List ℕ) → AreClasses ps hs → Heads ps n → IsHeading hs n
heads_known [] hs n c h = absurd (among_none (defined h.first h.body h.is_defined.last) h.is_defined.among)
heads_known (alone l ∷ ps) hs n c h = elim (among_cases ps (alone l) (defined h.first h.body h.is_defined.last) h.is_defined.among) [
  | inl e ↦ alone_defined h.first h.body h.is_defined.last l e
  | inr k ↦ heads_known ps hs n c (record { first = h.first; body = h.body; header = h.header; is_defined = record { last = h.is_defined.last; among = k; head = h.is_defined.head }; same = h.same })
]
heads_known (defined top body last ∷ ps) [] n c h = absurd c
heads_known (defined top body last ∷ ps) (k ∷ hs) n c h =
    let d = h.is_defined in
    elim (among_cases ps (defined top body last) (defined h.first h.body d.last) d.among) [
      | inl e ↦ (
          let f : h.first ≡ top = cc in
          let x = c.0 in
          let here : IsHeadOf top h.header = subst (λ l. IsHeadOf l h.header) f d.head in
          let same = one_header top.number top.tokens x.0 h.header x.1.header here.header x.1.spells here.spells in
          let name : k.name ≡ n = ap (λ (v : Heading). v.name) x.2 ∙ ap (λ (v : Header). v.f) same ∙ h.same in
          subst (λ b. IsSome (if b then Some k.arguments else arguments_of hs n)) (sym ((bytes_decides k.name n).1 name)) refl)
      | inr m ↦ still_some (is_same_name k.name n) k.arguments (arguments_of hs n)
          (heads_known ps hs n c.1 (record { first = h.first; body = h.body; header = h.header; is_defined = record { last = d.last; among = m; head = d.head }; same = h.same }))
    ]

-- and a heading's name heads one of the parts
pub heading_known : (ps : List Part) (hs : List Heading) (n : List ℕ) → AreClasses ps hs → IsHeading hs n → Heads ps n
heading_known [] [] n c h = cc
heading_known [] (k ∷ hs) n c h = absurd c
heading_known (alone l ∷ ps) hs n c h = more_heads (alone l) ps n (heading_known ps hs n c h)
heading_known (defined top body last ∷ ps) [] n c h = absurd c
heading_known (defined top body last ∷ ps) (k ∷ hs) n c h =
    elim (is_same_name k.name n) as (λ b. is_same_name k.name n ≡ b → IsSome (if b then Some k.arguments else arguments_of hs n) → Heads (defined top body last ∷ ps) n) [
      | true ↦ λ e g. record {
        first = top;
        body = body;
        header = c.0.0;
        is_defined = record { last = last; among = among_here ps (defined top body last) (defined top body last) refl; head = c.0.1 };
        same = sym (ap (λ (v : Heading). v.name) c.0.2) ∙ (bytes_decides k.name n).0 e;
      }
      | false ↦ λ e g. more_heads (defined top body last) ps n (heading_known ps hs n c.1 g)
    ] refl h

-- ---- The form of definitions, and names that come twice ----

module _ (ls : List Line) where
  split_among : (before : List Part) (p : Part) (after : List Part) → parts ls ≡ before ++ (p ∷ after) → IsAmong (parts ls) p
  split_among before p after e = subst (λ v. IsAmong v p) (sym e) (before_after before after p)

  -- a part that is refused for its form refuses the script
  form_refuses : (before : List Part) (p : Part) (after : List Part) (r : Refusal) → parts ls ≡ before ++ (p ∷ after) → IsFormRefusal before p r → IsLineRefusal ls r
  form_refuses before (alone l) after r e h = header (lone l (split_among before (alone l) after e) h.closes h.is)
  form_refuses before (defined top body last) after r e (inl h) =
      header (no_header top h.column (body, last, split_among before (defined top body last) after e) h.stops h.is)
  form_refuses before (defined top body last) after r e (inr (inl h)) =
      let n = h.2 in header (nested h.0 n.nabla n.next n.after (top, body, last, split_among before (defined top body last) after e, h.1) n.split n.begins n.is)
  form_refuses before (defined top body last) after r e (inr (inr (inl h))) =
      double_name (second_heading before after top body last h.header h.own e h.head h.earlier h.place h.is)
  form_refuses before (defined top body last) after r e (inr (inr (inr (inl h)))) =
      let d = h.repeated in
      let there : IsDefined (parts ls) top body h.header = record { last = last; among = split_among before (defined top body last) after e; head = h.head } in
      double_name (second_occurrence top body h.header d.before d.after d.here d.earlier there d.split d.among d.same d.is)
  form_refuses before (defined top body last) after r e (inr (inr (inr (inr h)))) =
      let m = subst (λ v. IsAmong (parts ls) (defined top body v)) h.never (split_among before (defined top body last) after e) in
      open_definition (never_closed top body h.nabla h.after m h.split h.is)

  pub form_is : (r : Refusal) → AfterOthers IsFormRefusal (parts ls) r → IsLineRefusal ls r
  form_is r h = form_refuses h.before h.part h.after r h.split h.refuses

  -- a part that is refused whatever stands before it
  at_part : (p : Part) (r : Refusal) → IsAmong (parts ls) p → ((before : List Part) → IsFormRefusal before p r) → AfterOthers IsFormRefusal (parts ls) r
  at_part p r m h = let s = among_split (parts ls) p m in record { before = s.0; part = p; after = s.1; split = s.2; refuses = h s.0 }

  pub header_form : (r : Refusal) → IsHeaderRefusal ls r → AfterOthers IsFormRefusal (parts ls) r
  header_form r (no_header l k m s e) = at_part (defined l m.0 m.1) r m.2 (λ before. inl (record { column = k; stops = s; is = e }))
  header_form r (lone l m c e) = at_part (alone l) r m (λ before. record { closes = c; is = e })
  header_form r (nested l t u ts m f g e) = at_part (defined m.0 m.1 m.2) r m.3
      (λ before. inr (inl (l, m.4, record { nabla = t; next = u; after = ts; split = f; begins = g; is = e })))

  pub double_form : (r : Refusal) → IsDoubleName ls r → AfterOthers IsFormRefusal (parts ls) r
  double_form r (second_heading before after top body last h t e i j p q) = record {
    before = before;
    part = defined top body last;
    after = after;
    split = e;
    refuses = inr (inr (inl (record { header = h; head = i; earlier = j; own = t; place = p; is = q })));
  }
  double_form r (second_occurrence top body h before after o p d e m s q) = at_part (defined top body d.last) r d.among
      (λ b. inr (inr (inr (inl (record { header = h; head = d.head; repeated = record { before = before; after = after; here = o; earlier = p; split = e; among = m; same = s; is = q } })))))

  pub open_form : (r : Refusal) → IsOpenDefinition ls r → AfterOthers IsFormRefusal (parts ls) r
  open_form r (never_closed top body t ts m f e) = at_part (defined top body None) r m
      (λ before. inr (inr (inr (inr (record { nabla = t; after = ts; split = f; never = refl; is = e })))))

  -- ---- Names that are functions', depth and grammar ----

  module _ (hs : List Heading) (classes : AreClasses (parts ls) hs) where
    assigned_is : (l : Line) (r : Refusal) → HasStatements ls l → IsAssigned hs l r → IsLineRefusal ls r
    assigned_is l r m h = name_class (assigned l h.before h.after h.name_token h.arrow h.name m h.split h.named h.assigns (heading_known (parts ls) hs h.name classes h.heads) h.is)

    too_deep_is : (l : Line) (r : Refusal) → HasStatements ls l → IsTooDeep l r → IsLineRefusal ls r
    too_deep_is l r m h = deep (opened l h.token m h.opens h.is)

    -- a part that is refused for a name, its depth or its grammar refuses the script
    use_refuses : (p : Part) (r : Refusal) → IsAmong (parts ls) p → IsUseRefusal hs p r → IsLineRefusal ls r
    use_refuses (alone l) r m (inl h) = assigned_is l r (inl m) h
    use_refuses (alone l) r m (inr (inl h)) =
        name_class (erased l h.here m h.among (heading_known (parts ls) hs h.here.name classes h.heads) h.is)
    use_refuses (alone l) r m (inr (inr (inl h))) = too_deep_is l r (inl m) h
    use_refuses (alone l) r m (inr (inr (inr h))) = grammar (outside_definitions l hs h.column classes m h.stops h.is)
    use_refuses (defined top body last) r m (inl h) =
        let d = h.declared in
        let there : IsDefined (parts ls) top body h.header = record { last = last; among = m; head = h.head } in
        name_class (declared top body h.header d.here there d.among d.other (heading_known (parts ls) hs d.here.name classes d.heads) d.is)
    use_refuses (defined top body last) r m (inr (l, n, inl h)) = assigned_is l r (inr (top, body, last, m, n)) h
    use_refuses (defined top body last) r m (inr (l, n, inr (inl h))) = too_deep_is l r (inr (top, body, last, m, n)) h
    use_refuses (defined top body last) r m (inr (l, n, inr (inr h))) = grammar (in_a_body l hs h.column classes (top, body, last, m, n) h.stops h.is)

    pub use_is : (r : Refusal) → OfSome (IsUseRefusal hs) (parts ls) r → IsLineRefusal ls r
    use_is r h = use_refuses h.0 r h.1 h.2

    pub class_use : (r : Refusal) → IsNameClass ls r → OfSome (IsUseRefusal hs) (parts ls) r
    class_use r (assigned l before after t u n (inl m) e f s j q) = (
      alone l,
      m,
      inl (record {
        before = before;
        after = after;
        name_token = t;
        arrow = u;
        name = n;
        split = e;
        named = f;
        assigns = s;
        heads = heads_known (parts ls) hs n classes j;
        is = q;
      }),
    )
    class_use r (assigned l before after t u n (inr m) e f s j q) = (
      defined m.0 m.1 m.2,
      m.3,
      inr (
        l,
        m.4,
        inl (record {
          before = before;
          after = after;
          name_token = t;
          arrow = u;
          name = n;
          split = e;
          named = f;
          assigns = s;
          heads = heads_known (parts ls) hs n classes j;
          is = q;
        }),
      ),
    )
    class_use r (erased l o m e j q) =
        (alone l, m, inr (inl (record { here = o; among = e; heads = heads_known (parts ls) hs o.name classes j; is = q })))
    class_use r (declared top body h o d m n j q) = (
      defined top body d.last,
      d.among,
      inl (record {
        header = h;
        head = d.head;
        declared = record { here = o; among = m; other = n; heads = heads_known (parts ls) hs o.name classes j; is = q };
      }),
    )

    pub deep_use : (r : Refusal) → IsDeep ls r → OfSome (IsUseRefusal hs) (parts ls) r
    deep_use r (opened l t (inl m) e q) = (alone l, m, inr (inr (inl (record { token = t; opens = e; is = q }))))
    deep_use r (opened l t (inr m) e q) = (defined m.0 m.1 m.2, m.3, inr (l, m.4, inr (inl (record { token = t; opens = e; is = q }))))

    pub grammar_use : (r : Refusal) → IsGrammarRefusal ls r → OfSome (IsUseRefusal hs) (parts ls) r
    grammar_use r (outside_definitions l ks k c m s q) =
        let e = one_classes (parts ls) ks hs c classes in
        (alone l, m, inr (inr (inr (record { column = k; stops = subst (λ v. StopsAt outside v l.number l.tokens k) e s; is = q }))))
    grammar_use r (in_a_body l ks k c m s q) =
        let e = one_classes (parts ls) ks hs c classes in
        (defined m.0 m.1 m.2, m.3, inr (l, m.4, inr (inr (record { column = k; stops = subst (λ v. StopsAt in_body v l.number l.tokens k) e s; is = q }))))

-- Names at their places: one place after the other.
use Rattle.std.proofs.Common.{◌≡◌, ℕ, ◌+◌, ◌<◌, ◌≤◌, true, List, [], ◌∷◌, ◌++◌, length, take, drop, get_or, Option, None, Some, ◌⊎◌, inl, inr, ◌↔◌, refl, sym, ap, subst, ◌∙◌, append_assoc, append-nil, arith}
use Rattle.std.specs.Prelude.{codes, ◌&&◌, false, if◌then◌else◌}
use Rattle.std.specs.List.{IsAmong}
use Rattle.std.proofs.lemmas.List.{take_more, take_all}
use Rattle.apl_base.specs.declared.faults.Cause.TheVariants as cause
use Rattle.apl_base.specs.declared.faults.Refusal.{Refusal}
use Rattle.apl_model.proofs.Accepted.{among_here, among_there, among_cases, among_none, among_first}
use Rattle.apl_model.specs.Refusal.{refusal, Occurrence, names_in, label_in, labels_in, declared_in, erased_in, IsFirstIfAny}
use Rattle.apl_model.specs.declared.tokens.Heading.{Heading}
use Rattle.apl_model.specs.declared.tokens.Line.{Line}
use Rattle.apl_model.specs.declared.tokens.Token.{Token}
use Rattle.apl_model.specs.declared.tokens.Word.TheVariants as word
use Rattle.apl_defn.proofs.EarlierLemmas.{earlier_first, first_like, only_first}
use Rattle.apl_defn.specs.Earliest.{earlier}
use Rattle.apl_defn.specs.NameRules.{IsRepeated, IsHeading, IsErased, IsDeclared}
use Rattle.apl_defn.specs.Occurrences.{at_most_one, IsNamed, IsWrong, IsMetAgain}
use Rattle.apl_defn.specs.declared.occurrences.Occurrence as found
use Rattle.apl_model.specs.Script.{is_glyph_token, is_name_token}
use Rattle.apl_defn.specs.Occurrences.{IsAssignedFirst}

-- ---- Members of two lists ----

pub among_second : {A : Type 0} (xs ys : List A) (v : A) → IsAmong ys v → IsAmong (xs ++ ys) v
among_second [] ys v m = m
among_second (x ∷ xs) ys v m = among_there (xs ++ ys) x v (among_second xs ys v m)

pub among_either : {A : Type 0} (xs ys : List A) (v : A) → IsAmong (xs ++ ys) v → IsAmong xs v ⊎ IsAmong ys v
among_either [] ys v m = inr m
among_either (x ∷ xs) ys v m = elim (among_cases (xs ++ ys) x v m) [
  | inl e ↦ inl (among_here xs x v e)
  | inr k ↦ elim (among_either xs ys v k) [ inl l ↦ inl (among_there xs x v l) | inr l ↦ inr l ]
]

-- ---- The names that a definition declares, token by token and line by line ----

names_more : (n : ℕ) (xs ys : List Token) → names_in n (xs ++ ys) ≡ names_in n xs ++ names_in n ys
names_more n [] ys = refl
names_more n (t ∷ xs) ys = elim (t.word) as (λ w. (let r : List Occurrence = (elim w [ word.Name name ↦ record { name = name; line = n; column = t.from } ∷ names_in n (xs ++ ys) | _ ↦ names_in n (xs ++ ys) ]) in r)
    ≡ (let r : List Occurrence = (elim w [ word.Name name ↦ record { name = name; line = n; column = t.from } ∷ names_in n xs | _ ↦ names_in n xs ]) in r) ++ names_in n ys) [
      | word.Name name ↦ ap (λ (os : List Occurrence). record { name = name; line = n; column = t.from } ∷ os) (names_more n xs ys)
      | _ ↦ names_more n xs ys
    ]

-- the names of one token more
pub names_step : (n : ℕ) (ts : List Token) (i : ℕ) (t : Token) → i < length ts → t ≡ get_or ts i t →
    names_in n (take (i + 1) ts) ≡ names_in n (take i ts) ++ names_in n (t ∷ [])
names_step n ts i t l e = ap (names_in n) (take_more ts i t l ∙ ap (λ u. take i ts ++ u ∷ []) (sym e)) ∙ names_more n (take i ts) (t ∷ [])

labels_more : (xs ys : List Line) → labels_in (xs ++ ys) ≡ labels_in xs ++ labels_in ys
labels_more [] ys = refl
labels_more (l ∷ xs) ys = ap (λ os. label_in l.number l.tokens ++ os) (labels_more xs ys) ∙ sym (append_assoc (label_in l.number l.tokens) (labels_in xs) (labels_in ys))

-- the label of one line more, after other names
pub labels_step : (os : List Occurrence) (ls : List Line) (i : ℕ) (l : Line) → i < length ls → l ≡ get_or ls i l →
    os ++ labels_in (take (i + 1) ls) ≡ (os ++ labels_in (take i ls)) ++ label_in l.number l.tokens
labels_step os ls i l b e =
    ap (λ v. os ++ v) (ap labels_in (take_more ls i l b ∙ ap (λ u. take i ls ++ u ∷ []) (sym e)) ∙ labels_more (take i ls) (l ∷ []) ∙ ap (λ v. labels_in (take i ls) ++ v) (append-nil (label_in l.number l.tokens)))
    ∙ sym (append_assoc os (labels_in (take i ls)) (label_in l.number l.tokens))

-- before the first line of the body there are the names of all tokens
pub names_all : (n : ℕ) (ts : List Token) (ls : List Line) (i : ℕ) → length ts ≤ i → names_in n (take i ts) ≡ names_in n ts ++ labels_in (take 0 ls)
names_all n ts ls i h = ap (names_in n) (take_all i ts h) ∙ sym (append-nil (names_in n ts))

-- after its last line there are all names of the definition
pub declared_all : (top : Line) (ls : List Line) (i : ℕ) → length ls ≤ i → names_in top.number top.tokens ++ labels_in (take i ls) ≡ declared_in top ls
declared_all top ls i h = ap (λ v. names_in top.number top.tokens ++ labels_in v) (take_all i ls h)

-- ---- Wrong names ----

module _ (Kind : List ℕ → Type 0) where
  wrong_more : (os qs : List Occurrence) (a b : Option Refusal) → IsFirstIfAny (IsWrong Kind os) a → IsFirstIfAny (IsWrong Kind qs) b →
      IsFirstIfAny (IsWrong Kind (os ++ qs)) (earlier a b)
  wrong_more os qs a b h k = first_like (λ r. IsWrong Kind os r ⊎ IsWrong Kind qs r) (IsWrong Kind (os ++ qs)) (earlier a b) there back
      (earlier_first (IsWrong Kind os) (IsWrong Kind qs) a b h k)
    where
      there : (r : Refusal) → IsWrong Kind os r ⊎ IsWrong Kind qs r → IsWrong Kind (os ++ qs) r
      there r (inl x) = record { here = x.here; among = among_first os qs x.here x.among; wrong = x.wrong; is = x.is }
      there r (inr x) = record { here = x.here; among = among_second os qs x.here x.among; wrong = x.wrong; is = x.is }

      back : (r : Refusal) → IsWrong Kind (os ++ qs) r → IsWrong Kind os r ⊎ IsWrong Kind qs r
      back r x = elim (among_either os qs x.here x.among) [
        | inl m ↦ inl (record { here = x.here; among = m; wrong = x.wrong; is = x.is })
        | inr m ↦ inr (record { here = x.here; among = m; wrong = x.wrong; is = x.is })
      ]

-- the first wrong name so far
pub record IsFirstWrong (Kind : List ℕ → Type 0) (os : List Occurrence) (a : Option Refusal) : Type 0 where
  pub first : IsFirstIfAny (IsWrong Kind os) a

pub one_more : (Kind : List ℕ → Type 0) (os qs us ws : List Occurrence) (a b : Option Refusal) → us ≡ os ++ qs → ws ≡ qs → IsFirstWrong Kind os a →
    IsFirstIfAny (IsWrong Kind ws) b → IsFirstWrong Kind us (earlier a b)
one_more Kind os qs us ws a b e f h k = record {
  first = subst (λ v. IsFirstIfAny (IsWrong Kind v) (earlier a b)) (sym e) (wrong_more Kind os qs a b h.first (subst (λ v. IsFirstIfAny (IsWrong Kind v) b) f k));
}

pub wrong_along : (Kind : List ℕ → Type 0) (os us : List Occurrence) (a : Option Refusal) → os ≡ us → IsFirstWrong Kind os a → IsFirstWrong Kind us a
wrong_along Kind os us a e h = subst (λ v. IsFirstWrong Kind v a) e h

-- the declared names that are wrong are those that head another definition
pub declared_first : (hs : List Heading) (own : List ℕ) (top : Line) (body : List Line) (a : Option Refusal) →
    IsFirstWrong (λ n. ¬ (n ≡ own) × IsHeading hs n) (declared_in top body) a → IsFirstIfAny (IsDeclared hs own top body) a
declared_first hs own top body a h = first_like (IsWrong (λ n. ¬ (n ≡ own) × IsHeading hs n) (declared_in top body)) (IsDeclared hs own top body) a
    (λ r x. record { here = x.here; among = x.among; other = x.wrong.0; heads = x.wrong.1; is = x.is })
    (λ r x. record { here = x.here; among = x.among; wrong = (x.other, x.heads); is = x.is }) h.first

-- ---- Names that come again ----

-- a name that came before among these places
pub record IsAgain (os : List Occurrence) (r : Refusal) : Type 0 where
  pub before : List Occurrence
  pub after : List Occurrence
  pub here : Occurrence
  pub earlier : Occurrence
  pub split : os ≡ before ++ (here ∷ after)
  pub among : IsAmong before earlier
  pub same : earlier.name ≡ here.name
  pub is : r ≡ refusal cause.DoubleName here.line here.column

-- the names met are those of these places, and this is the first one that came again
pub record IsFirstAgain (os : List Occurrence) (ns : List (List ℕ)) (a : Option Refusal) : Type 0 where
  pub names : (n : List ℕ) → IsAmong ns n ↔ IsNamed os n
  pub first : IsFirstIfAny (IsAgain os) a

nothing_before : {A : Type 0} (before after : List A) (x : A) → [] ≡ before ++ (x ∷ after) → ⊥
nothing_before [] after x e = cc
nothing_before (b ∷ before) after x e = cc

-- a place in a list with one more at its end is a place of the list, or the new one
last_or_not : {A : Type 0} (xs : List A) (y : A) (before after : List A) (x : A) → xs ++ (y ∷ []) ≡ before ++ (x ∷ after) →
    ((more : List A) × (xs ≡ before ++ (x ∷ more))) ⊎ ((xs ≡ before) × (y ≡ x))
last_or_not [] y [] after x e = inr (refl, cc)
last_or_not [] y (b ∷ before) after x e = absurd (nothing_before before after x (tails e))
  where
    tails : {A : Type 0} {u v : A} {us vs : List A} → u ∷ us ≡ v ∷ vs → us ≡ vs
    tails e = cc
last_or_not (u ∷ xs) y [] after x e = let f : u ≡ x = cc in inl (xs, ap (λ v. v ∷ xs) f)
last_or_not (u ∷ xs) y (b ∷ before) after x e =
    let f : u ≡ b = cc in
    let g : xs ++ (y ∷ []) ≡ before ++ (x ∷ after) = cc in
    elim (last_or_not xs y before after x g) [
      | inl k ↦ inl (k.0, (λ i. f i ∷ k.1 i))
      | inr k ↦ inr ((λ i. f i ∷ k.0 i), k.1)
    ]

module _ (os : List Occurrence) (ns : List (List ℕ)) (same : (n : List ℕ) → IsAmong ns n ↔ IsNamed os n) where
  again_there : (p : Option found.Occurrence) (r : Refusal) → IsAgain os r ⊎ IsMetAgain ns (at_most_one p) r → IsAgain (os ++ at_most_one p) r
  again_there p r (inl x) = record {
    before = x.before;
    after = x.after ++ at_most_one p;
    here = x.here;
    earlier = x.earlier;
    split = ap (λ v. v ++ at_most_one p) x.split ∙ append_assoc x.before (x.here ∷ x.after) (at_most_one p);
    among = x.among;
    same = x.same;
    is = x.is;
  }
  again_there None r (inr x) = absurd (among_none x.here x.among)
  again_there (Some o) r (inr x) =
      let place : Occurrence = record { name = o.name.now; line = o.line; column = o.column } in
      let named = (same x.here.name).0 x.met in
      elim (among_cases [] place x.here x.among) [
        | inl e ↦ record {
          before = os;
          after = [];
          here = x.here;
          earlier = named.place;
          split = ap (λ v. os ++ (v ∷ [])) (sym e);
          among = named.among;
          same = named.same;
          is = x.is;
        }
        | inr k ↦ absurd (among_none x.here k)
      ]

  again_back : (p : Option found.Occurrence) (r : Refusal) → IsAgain (os ++ at_most_one p) r → IsAgain os r ⊎ IsMetAgain ns (at_most_one p) r
  again_back None r x = inl (record {
    before = x.before;
    after = x.after;
    here = x.here;
    earlier = x.earlier;
    split = sym (append-nil os) ∙ x.split;
    among = x.among;
    same = x.same;
    is = x.is;
  })
  again_back (Some o) r x =
      let place : Occurrence = record { name = o.name.now; line = o.line; column = o.column } in
      elim (last_or_not os place x.before x.after x.here x.split) [
        | inl k ↦ inl (record { before = x.before; after = k.0; here = x.here; earlier = x.earlier; split = k.1; among = x.among; same = x.same; is = x.is })
        | inr k ↦ inr (record {
          here = x.here;
          among = among_here [] place x.here (sym k.1);
          met = (same x.here.name).1 (record { place = x.earlier; among = subst (λ v. IsAmong v x.earlier) (sym k.0) x.among; same = x.same });
          is = x.is;
        })
      ]

  names_here : (ms : List (List ℕ)) (qs : List Occurrence) → ((n : List ℕ) → IsAmong ms n ↔ (IsAmong ns n ⊎ IsNamed qs n)) → (n : List ℕ) → IsAmong ms n ↔ IsNamed (os ++ qs) n
  names_here ms qs h n = (there, back)
    where
      there : IsAmong ms n → IsNamed (os ++ qs) n
      there m = elim ((h n).0 m) [
        | inl k ↦ (let x = (same n).0 k in record { place = x.place; among = among_first os qs x.place x.among; same = x.same })
        | inr x ↦ record { place = x.place; among = among_second os qs x.place x.among; same = x.same }
      ]

      back : IsNamed (os ++ qs) n → IsAmong ms n
      back x = (h n).1 (elim (among_either os qs x.place x.among) [
        | inl k ↦ inl ((same n).1 (record { place = x.place; among = k; same = x.same }))
        | inr k ↦ inr (record { place = x.place; among = k; same = x.same })
      ])

-- the names and the first one that came again, with one more place or none
pub again_more : (os us qs : List Occurrence) (p : Option found.Occurrence) (ns ms : List (List ℕ)) (a b : Option Refusal) →
    us ≡ os ++ qs → at_most_one p ≡ qs → IsFirstAgain os ns a → IsFirstIfAny (IsMetAgain ns (at_most_one p)) b →
    ((n : List ℕ) → IsAmong ms n ↔ (IsAmong ns n ⊎ IsNamed (at_most_one p) n)) → IsFirstAgain us ms (earlier a b)
again_more os us qs p ns ms a b e f h k g =
    subst (λ v. IsFirstAgain v ms (earlier a b)) (sym (e ∙ ap (λ v. os ++ v) (sym f)))
    (record {
      names = names_here os ns h.names ms (at_most_one p) g;
      first = first_like (λ r. IsAgain os r ⊎ IsMetAgain ns (at_most_one p) r) (IsAgain (os ++ at_most_one p)) (earlier a b)
          (again_there os ns h.names p) (again_back os ns h.names p) (earlier_first (IsAgain os) (IsMetAgain ns (at_most_one p)) a b h.first k);
    })

pub again_along : (os us : List Occurrence) (ns : List (List ℕ)) (a : Option Refusal) → os ≡ us → IsFirstAgain os ns a → IsFirstAgain us ns a
again_along os us ns a e h = subst (λ v. IsFirstAgain v ns a) e h

-- the names that come again among those that a definition declares are its repeated ones
pub repeated_first : (top : Line) (body : List Line) (ns : List (List ℕ)) (a : Option Refusal) → IsFirstAgain (declared_in top body) ns a → IsFirstIfAny (IsRepeated top body) a
repeated_first top body ns a h = first_like (IsAgain (declared_in top body)) (IsRepeated top body) a
    (λ r x. record { before = x.before; after = x.after; here = x.here; earlier = x.earlier; split = x.split; among = x.among; same = x.same; is = x.is })
    (λ r x. record { before = x.before; after = x.after; here = x.here; earlier = x.earlier; split = x.split; among = x.among; same = x.same; is = x.is }) h.first

-- ---- One place ----

-- the names met, with that of one place
pub names_of_one : (o : Occurrence) (n : List ℕ) (old new : List (List ℕ)) → IsAmong new n ↔ ((n ≡ o.name) ⊎ IsAmong old n) → IsAmong new n ↔ (IsAmong old n ⊎ IsNamed (o ∷ []) n)
names_of_one o n old new h = (there, back)
  where
    there : IsAmong new n → IsAmong old n ⊎ IsNamed (o ∷ []) n
    there m = elim (h.0 m) [ inl e ↦ inr (record { place = o; among = among_here [] o o refl; same = sym e }) | inr k ↦ inl k ]

    back : IsAmong old n ⊎ IsNamed (o ∷ []) n → IsAmong new n
    back (inl k) = h.1 (inr k)
    back (inr x) = h.1 (elim (among_cases [] o x.place x.among) [
      | inl e ↦ inl (sym x.same ∙ ap (λ (v : Occurrence). v.name) e)
      | inr k ↦ absurd (among_none x.place k)
    ])

-- what is refused at one place: a name that was met, and a heading name
pub met_first : (o : Occurrence) (ns : List (List ℕ)) → IsAmong ns o.name → IsFirstIfAny (IsMetAgain ns (o ∷ [])) (Some (refusal cause.DoubleName o.line o.column))
met_first o ns m = only_first (IsMetAgain ns (o ∷ [])) (refusal cause.DoubleName o.line o.column)
    (record { here = o; among = among_here [] o o refl; met = m; is = refl })
    (λ s x. elim (among_cases [] o x.here x.among) [
      | inl e ↦ x.is ∙ ap (λ (v : Occurrence). refusal cause.DoubleName v.line v.column) e
      | inr k ↦ absurd (among_none x.here k)
    ])

pub wrong_first : (Kind : List ℕ → Type 0) (o : Occurrence) → Kind o.name → IsFirstIfAny (IsWrong Kind (o ∷ [])) (Some (refusal cause.NameClass o.line o.column))
wrong_first Kind o h = only_first (IsWrong Kind (o ∷ [])) (refusal cause.NameClass o.line o.column)
    (record { here = o; among = among_here [] o o refl; wrong = h; is = refl })
    (λ s x. elim (among_cases [] o x.here x.among) [
      | inl e ↦ x.is ∙ ap (λ (v : Occurrence). refusal cause.NameClass v.line v.column) e
      | inr k ↦ absurd (among_none x.here k)
    ])

pub right_first : (Kind : List ℕ → Type 0) (o : Occurrence) → ¬ (Kind o.name) → IsFirstIfAny (IsWrong Kind (o ∷ [])) None
right_first Kind o h r x = elim (among_cases [] o x.here x.among) [
  | inl e ↦ h (subst (λ (v : Occurrence). Kind v.name) e x.wrong)
  | inr k ↦ among_none x.here k
]

-- what is wrong of one place's name for one kind is so for another that agrees on it
pub wrong_alike : (Kind Other : List ℕ → Type 0) (o : Occurrence) (a : Option Refusal) → (Kind o.name → Other o.name) → (Other o.name → Kind o.name) →
    IsFirstIfAny (IsWrong Kind (o ∷ [])) a → IsFirstIfAny (IsWrong Other (o ∷ [])) a
wrong_alike Kind Other o a f g h = first_like (IsWrong Kind (o ∷ [])) (IsWrong Other (o ∷ [])) a (there Kind Other f) (there Other Kind g) h
  where
    there : (K L : List ℕ → Type 0) → (K o.name → L o.name) → (r : Refusal) → IsWrong K (o ∷ []) r → IsWrong L (o ∷ []) r
    there K L f r x = elim (among_cases [] o x.here x.among) [
      | inl e ↦ record { here = x.here; among = x.among; wrong = subst (λ (v : Occurrence). L v.name) (sym e) (f (subst (λ (v : Occurrence). K v.name) e x.wrong)); is = x.is }
      | inr k ↦ absurd (among_none x.here k)
    ]

-- ---- A heading name directly before ←, or after )ERASE ----

-- the name at a place of one token is the token
pub name_of_token : (n : ℕ) (t : Token) (o : Occurrence) → IsAmong (names_in n (t ∷ [])) o → (name : List ℕ) × (t.word ≡ word.Name name) × (o ≡ record { name = name; line = n; column = t.from })
name_of_token n t o m = elim (t.word) as (λ w. t.word ≡ w → IsAmong (let r : List Occurrence = (elim w [ word.Name name ↦ record { name = name; line = n; column = t.from } ∷ [] | _ ↦ [] ]) in r) o →
    (name : List ℕ) × (t.word ≡ word.Name name) × (o ≡ record { name = name; line = n; column = t.from })) [
      | word.Name name ↦ λ e k. elim (among_cases [] (record { name = name; line = n; column = t.from }) o k) [ inl f ↦ (name, e, f) | inr l ↦ absurd (among_none o l) ]
      | _ ↦ λ e k. absurd (among_none o k)
    ] refl m

pub token_of_name : (n : ℕ) (t : Token) (name : List ℕ) → t.word ≡ word.Name name → IsAmong (names_in n (t ∷ [])) (record { name = name; line = n; column = t.from })
token_of_name n t name e = rw e (among_here [] (record { name = name; line = n; column = t.from }) (record { name = name; line = n; column = t.from }) refl)

pub two_first : (ts : List Token) (t u : Token) → 2 ≤ length ts → t ≡ get_or ts 0 t → u ≡ get_or ts 1 u → ts ≡ t ∷ u ∷ drop 2 ts
two_first [] t u l e f = absurd (omega arith)
two_first (v ∷ []) t u l e f = absurd (omega arith)
two_first (v ∷ w ∷ ts) t u l e f = λ i. sym e i ∷ sym f i ∷ ts

pub assigned_here : (hs : List Heading) (n : ℕ) (ts rest : List Token) (t u : Token) (a : Option Refusal) → ts ≡ t ∷ u ∷ rest → is_glyph_token "←" u ≡ true →
    IsFirstIfAny (IsWrong (IsHeading hs) (names_in n (t ∷ []))) a → IsFirstIfAny (IsAssignedFirst hs n ts) a
assigned_here hs n ts rest t u a e g h = first_like (IsWrong (IsHeading hs) (names_in n (t ∷ []))) (IsAssignedFirst hs n ts) a there back h
  where
    there : (r : Refusal) → IsWrong (IsHeading hs) (names_in n (t ∷ [])) r → IsAssignedFirst hs n ts r
    there r x = let k = name_of_token n t x.here x.among in record {
      after = rest;
      name_token = t;
      arrow = u;
      name = k.0;
      split = e;
      named = k.1;
      assigns = g;
      heads = subst (λ (v : Occurrence). IsHeading hs v.name) k.2 x.wrong;
      is = x.is ∙ ap (λ (v : Occurrence). refusal cause.NameClass v.line v.column) k.2;
    }

    back : (r : Refusal) → IsAssignedFirst hs n ts r → IsWrong (IsHeading hs) (names_in n (t ∷ [])) r
    back r x =
        let s : t ≡ x.name_token = first_same (sym e ∙ x.split) in
        record {
          here = record { name = x.name; line = n; column = t.from };
          among = token_of_name n t x.name (ap (λ (v : Token). v.word) s ∙ x.named);
          wrong = x.heads;
          is = x.is ∙ ap (λ (v : Token). refusal cause.NameClass n v.from) (sym s);
        }
      where
        first_same : {v w : Token} {vs ws : List Token} → v ∷ vs ≡ w ∷ ws → v ≡ w
        first_same e = cc

-- names behind )ERASE are erased
pub erases : (n : ℕ) (ts rest : List Token) (t u : Token) → ts ≡ t ∷ u ∷ rest → is_glyph_token ")" t ≡ true → is_name_token "ERASE" u ≡ true → erased_in n ts ≡ names_in n rest
erases n ts rest t u e f g = ap (erased_in n) e ∙ ap (λ b. if b && is_name_token "ERASE" u then names_in n rest else []) f ∙ ap (λ b. if b then names_in n rest else []) g

-- and other tokens erase nothing
pub erases_nothing : (n : ℕ) (ts rest : List Token) (t u : Token) → ts ≡ t ∷ u ∷ rest → (is_glyph_token ")" t && is_name_token "ERASE" u) ≡ false → erased_in n ts ≡ []
erases_nothing n ts rest t u e f = ap (erased_in n) e ∙ ap (λ b. if b then names_in n rest else []) f

pub few_erase : (n : ℕ) (ts : List Token) → length ts < 2 → erased_in n ts ≡ []
few_erase n [] h = refl
few_erase n (t ∷ []) h = refl
few_erase n (t ∷ u ∷ ts) h = absurd (omega arith)

-- the refusal of erased names
pub erased_here : (hs : List Heading) (l : Line) (a : Option Refusal) → IsFirstIfAny (IsWrong (IsHeading hs) (erased_in l.number l.tokens)) a → IsFirstIfAny (IsErased hs l) a
erased_here hs l a h = first_like (IsWrong (IsHeading hs) (erased_in l.number l.tokens)) (IsErased hs l) a
    (λ r x. record { here = x.here; among = x.among; heads = x.wrong; is = x.is })
    (λ r x. record { here = x.here; among = x.among; wrong = x.heads; is = x.is }) h

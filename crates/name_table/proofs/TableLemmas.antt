-- A table by texts, seen as bindings: what its calls answer and leave is what the definitions say.
use Rattle.std.proofs.Common.{◌≡◌, ℕ, ◌<◌, ◌^◌, Bool, true, false, ◌||◌, cond, if◌then◌else◌, List, [], ◌∷◌, length, String, Option, Some, None, Result, Ok, Err, OnOk, OnErr, MatchResult, MatchOption, IfSome, Bor, is_some, refl, sym, ap, ◌∙◌, subst, arith}
use Rattle.std.proofs.lemmas.List.{length-map}
use Rattle.std.specs.Cmp.Lexicographic.{bytes_decides}
use Rattle.std.specs.List.{AllByRecursion, IsDistinct}
use Rattle.std.specs.Map.{lookup, set_value}
use Rattle.std.specs.Option.{option_copied}
use Rattle.std.specs.Str.{bytes_eq, chars, IsUtf8}
use Rattle.std.specs.String.{string_bytes, string_eq}
use Rattle.indexmap.specs.IndexMap.{insert_entry}
use Rattle.apl_model.specs.Environment.{Bindings, is_same_name, declares, bound_in, bound_to}
use Rattle.name_table.specs.Scopes.{AreNames, bindings_of, IsTable}
use Rattle.name_table.proofs.BindingLemmas.{differ-bound_to, count-bound_to, count-rebound}
use Rattle.apl_model.proofs.SameNames.{same_texts}

-- a test of texts is one of names
pub same_tests : (text bs name : List ℕ) → IsUtf8 text → IsUtf8 bs → chars text ≡ name → is_same_name (chars bs) name ≡ bytes_eq text bs
same_tests text bs name u v e = by (bytes_eq text bs) refl (is_same_name (chars bs) name) refl
  where
    both : true ≡ false → ⊥
    both c = cc

    by : (b : Bool) → bytes_eq text bs ≡ b → (s : Bool) → is_same_name (chars bs) name ≡ s → s ≡ b
    by true f true g = refl
    by false f false g = refl
    by true f false g = absurd (both (sym ((bytes_decides (chars bs) name).1 (sym (ap chars ((bytes_decides text bs).0 f)) ∙ e)) ∙ g))
    by false f true g = absurd (both (sym ((bytes_decides text bs).1 (same_texts text bs u v (e ∙ sym ((bytes_decides (chars bs) name).0 g)))) ∙ f))

-- the test by which a text is looked up
abbrev pub is_text : {Y : Type 0} → List ℕ → String Y → Bool
is_text text key = bytes_eq text (string_bytes key)

-- what was found, where something was
abbrev pub flat : {A : Type 0} → Option (Option A) → Option A
flat None = None
flat (Some a) = a

IsDistinct-nil : IsDistinct is_same_name []
unfolding IsDistinct
IsDistinct-nil = tt

names-rebound : {A : Type 0} (bs : Bindings A) (name : List ℕ) (a : Option A) → declares bs name ≡ true → AreNames bs → AreNames (bound_to bs name a)
names-rebound bs name a has are = record { differ = differ-bound_to bs name a are.differ; few = omega (arith, count-rebound bs name a has, are.few) }

module _ {A Y : Type 0} where
  abbrev Texts : List (String Y × Option A) → Type 0
  Texts es = AllByRecursion (λ e. IsUtf8 (string_bytes e.0)) es

  module _ (text name : List ℕ) (utf8 : IsUtf8 text) (spells : chars text ≡ name) where
    test : (e : String Y × Option A) → IsUtf8 (string_bytes e.0) → is_same_name (chars (string_bytes e.0)) name ≡ is_text text e.0
    test e u = same_tests text (string_bytes e.0) name utf8 u spells

    pub declares-table : (es : List (String Y × Option A)) → Texts es → declares (bindings_of es) name ≡ is_some (lookup (is_text text) es)
    declares-table [] us = refl
    declares-table (e ∷ es) us = ap (λ t. t || declares (bindings_of es) name) (test e us.0) ∙ by (is_text text e.0) (declares-table es us.1)
      where
        by : (t : Bool) → declares (bindings_of es) name ≡ is_some (lookup (is_text text) es) → t || declares (bindings_of es) name ≡ is_some (cond t (Some e.1) (lookup (is_text text) es))
        by true rest = refl
        by false rest = rest

    pub bound_in-table : (es : List (String Y × Option A)) → Texts es → bound_in (bindings_of es) name ≡ flat (lookup (is_text text) es)
    bound_in-table [] us = refl
    bound_in-table (e ∷ es) us = ap (λ t. if t then e.1 else bound_in (bindings_of es) name) (test e us.0) ∙ by (is_text text e.0) (bound_in-table es us.1)
      where
        by : (t : Bool) → bound_in (bindings_of es) name ≡ flat (lookup (is_text text) es) → (if t then e.1 else bound_in (bindings_of es) name) ≡ flat (cond t (Some e.1) (lookup (is_text text) es))
        by true rest = refl
        by false rest = rest

    -- a text that stands there gets another value
    pub set_value-table : (es : List (String Y × Option A)) (a : Option A) → Texts es → declares (bindings_of es) name ≡ true → bindings_of (set_value (is_text text) es a) ≡ bound_to (bindings_of es) name a
    set_value-table [] a us has = absurd (cc)
    set_value-table (e ∷ es) a us has =
        by (is_text text e.0) (test e us.0) (set_value-table es a us.1) (sym (ap (λ t. t || declares (bindings_of es) name) (test e us.0)) ∙ has)
        ∙ sym (ap (λ t. if t then (name, a) ∷ bindings_of es else (chars (string_bytes e.0), e.1) ∷ bound_to (bindings_of es) name a) (test e us.0))
      where
        by : (t : Bool) → is_same_name (chars (string_bytes e.0)) name ≡ t → (declares (bindings_of es) name ≡ true → bindings_of (set_value (is_text text) es a) ≡ bound_to (bindings_of es) name a) → t || declares (bindings_of es) name ≡ true → bindings_of (cond t ((e.0, a) ∷ es) (e ∷ set_value (is_text text) es a)) ≡ (if t then (name, a) ∷ bindings_of es else (chars (string_bytes e.0), e.1) ∷ bound_to (bindings_of es) name a)
        by true same rest h = ap (λ (n : List ℕ). let b : List ℕ × Option A = (n, a) in b ∷ bindings_of es) ((bytes_decides (chars (string_bytes e.0)) name).0 same)
        by false same rest h = ap (λ (bs : Bindings A). (chars (string_bytes e.0), e.1) ∷ bs) (rest h)

  texts-set_value : (test : String Y → Bool) (es : List (String Y × Option A)) (a : Option A) → Texts es → Texts (set_value test es a)
  texts-set_value test [] a us = tt
  texts-set_value test (e ∷ es) a us = by (test e.0) (texts-set_value test es a us.1)
    where
      by : (t : Bool) → Texts (set_value test es a) → Texts (cond t ((e.0, a) ∷ es) (e ∷ set_value test es a))
      by true rest = us
      by false rest = (us.0, rest)

  -- a text is put, in its place or at the end
  pub insert-table : (key : String Y) (name : List ℕ) → IsUtf8 (string_bytes key) → chars (string_bytes key) ≡ name → (es : List (String Y × Option A)) (a : Option A) → Texts es → bindings_of (insert_entry string_eq es key a) ≡ bound_to (bindings_of es) name a
  insert-table key name utf8 spells [] a us = ap (λ (n : List ℕ). let b : List ℕ × Option A = (n, a) in b ∷ []) spells
  insert-table key name utf8 spells (e ∷ es) a us =
      by (string_eq key e.0) tests (insert-table key name utf8 spells es a us.1)
      ∙ sym (ap (λ t. if t then (name, a) ∷ bindings_of es else (chars (string_bytes e.0), e.1) ∷ bound_to (bindings_of es) name a) tests)
    where
      tests : is_same_name (chars (string_bytes e.0)) name ≡ string_eq key e.0
      tests = same_tests (string_bytes key) (string_bytes e.0) name utf8 us.0 spells

      by : (t : Bool) → is_same_name (chars (string_bytes e.0)) name ≡ t → bindings_of (insert_entry string_eq es key a) ≡ bound_to (bindings_of es) name a → bindings_of (if t then (e.0, a) ∷ es else e ∷ insert_entry string_eq es key a) ≡ (if t then (name, a) ∷ bindings_of es else (chars (string_bytes e.0), e.1) ∷ bound_to (bindings_of es) name a)
      by true same rest = ap (λ (n : List ℕ). let b : List ℕ × Option A = (n, a) in b ∷ bindings_of es) ((bytes_decides (chars (string_bytes e.0)) name).0 same)
      by false same rest = ap (λ (bs : Bindings A). (chars (string_bytes e.0), e.1) ∷ bs) rest

  texts-insert : (key : String Y) → IsUtf8 (string_bytes key) → (es : List (String Y × Option A)) (a : Option A) → Texts es → Texts (insert_entry string_eq es key a)
  texts-insert key utf8 [] a us = (utf8, tt)
  texts-insert key utf8 (e ∷ es) a us = by (string_eq key e.0) (texts-insert key utf8 es a us.1)
    where
      by : (t : Bool) → Texts (insert_entry string_eq es key a) → Texts (if t then (e.0, a) ∷ es else e ∷ insert_entry string_eq es key a)
      by true rest = us
      by false rest = (us.0, rest)

  -- ---- what is so of every table

  length-bindings : (es : List (String Y × Option A)) → length (bindings_of es) ≡ length es
  length-bindings es = length-map es (λ (e : String Y × Option A). (chars (string_bytes e.0), e.1))

  pub table-rebound : (text name : List ℕ) → IsUtf8 text → chars text ≡ name → (es : List (String Y × Option A)) (a : Option A) → declares (bindings_of es) name ≡ true → IsTable es → IsTable (set_value (is_text text) es a)
  table-rebound text name utf8 spells es a has t = record {
    texts = texts-set_value (is_text text) es a t.texts;
    names = subst AreNames (sym (set_value-table text name utf8 spells es a t.texts has)) (names-rebound (bindings_of es) name a has t.names);
  }

  pub table-put : (key : String Y) (name : List ℕ) → IsUtf8 (string_bytes key) → chars (string_bytes key) ≡ name → (es : List (String Y × Option A)) (a : Option A) → length es < 2 ^ 63 → IsTable es → IsTable (insert_entry string_eq es key a)
  table-put key name utf8 spells es a few t = record {
    texts = texts-insert key utf8 es a t.texts;
    names = subst AreNames (sym (insert-table key name utf8 spells es a t.texts)) (record {
      differ = differ-bound_to (bindings_of es) name a t.names.differ;
      few = omega (arith, count-bound_to (bindings_of es) name a, length-bindings es, few);
    });
  }

  -- a table of which one name is bound anew, and what its bindings are
  pub record Bound (now : Bindings A) (name : List ℕ) (a : Option A) (es : List (String Y × Option A)) : Type 0 where
    pub table : IsTable es
    pub bound : bindings_of es ≡ bound_to now name a

  pub rebound : (text name : List ℕ) → IsUtf8 text → chars text ≡ name → (es new : List (String Y × Option A)) (now : Bindings A) (w a : Option A) → bindings_of es ≡ now → IsTable es → declares now name ≡ true → new ≡ set_value (is_text text) es w → w ≡ a → Bound now name a new
  rebound text name utf8 spells es new now w a view t has written same =
      let here : declares (bindings_of es) name ≡ true = ap (λ bs. declares bs name) view ∙ has in
      let is : new ≡ set_value (is_text text) es a = written ∙ ap (set_value (is_text text) es) same in
      record {
        table = subst IsTable (sym is) (table-rebound text name utf8 spells es a here t);
        bound = ap bindings_of is ∙ set_value-table text name utf8 spells es a t.texts here ∙ ap (λ bs. bound_to bs name a) view;
      }

  pub put : (key : String Y) (text name : List ℕ) → string_bytes key ≡ text → IsUtf8 text → chars text ≡ name → (es new : List (String Y × Option A)) (now : Bindings A) (a : Option A) → bindings_of es ≡ now → IsTable es → length es < 2 ^ 63 → new ≡ insert_entry string_eq es key a → Bound now name a new
  put key text name is utf8 spells es new now a view t few written =
      let valid : IsUtf8 (string_bytes key) = subst IsUtf8 (sym is) utf8 in
      let means : chars (string_bytes key) ≡ name = ap chars is ∙ spells in
      record {
        table = subst IsTable (sym written) (table-put key name valid means es a few t);
        bound = ap bindings_of written ∙ insert-table key name valid means es a t.texts ∙ ap (λ bs. bound_to bs name a) view;
      }

  pub table-none : (es : List (String Y × Option A)) → es ≡ [] → IsTable es
  table-none es none = subst IsTable (sym none) (record { texts = tt; names = record { differ = IsDistinct-nil; few = omega arith } })

  pub put_or_kept : {T E : Type 0} (r : Result T E) (key : String Y) (text name : List ℕ) → string_bytes key ≡ text → IsUtf8 text → chars text ≡ name → (es new : List (String Y × Option A)) (now : Bindings A) (a : Option A) → bindings_of es ≡ now → IsTable es → length es < 2 ^ 63 → OnOk r (new ≡ insert_entry string_eq es key a) → OnErr r (new ≡ es)
      → IsTable new × OnOk r (bindings_of new ≡ bound_to now name a)
  put_or_kept (Ok v) key text name is utf8 spells es new now a view t few written kept =
      let done = put key text name is utf8 spells es new now a view t few written in
      (done.table, done.bound)
  put_or_kept (Err e) key text name is utf8 spells es new now a view t few written kept = (subst IsTable (sym kept) t, tt)

-- what holds after one answer holds after the one that is told for it
pub told : {T E U F : Type 0} (r : Result T E) (s : Result U F) (u : U) (f : E → F) (P : Type 0) → MatchResult r (λ _. s ≡ Ok u) (λ e. s ≡ Err (f e)) → OnOk r P → OnOk s P
told (Ok v) s u f P m p = subst (λ t. OnOk t P) (sym m) p
told (Err e) s u f P m p = subst (λ t. OnOk t P) (sym m) tt

-- what a look-up answers says whether the name is there, and what it is bound to
pub found-declares : {X : Type 0} (r : Option (Bor X)) (t : Bool) → t ≡ is_some (option_copied r) → MatchOption r (t ≡ false) (λ _. t ≡ true)
found-declares None t e = e
found-declares (Some x) t e = e

pub found-bound : {A : Type 0} (r : Option (Bor (Option A))) (b : Option A) → b ≡ flat (option_copied r) → IfSome r (λ x. x.now ≡ b)
found-bound None b e = tt
found-bound (Some x) b e = sym e

-- What binding a name anew does to it and to every other name.
use Rattle.std.proofs.Common.{◌≡◌, ◌≢◌, ℕ, ◌+◌, ◌≤◌, Bool, true, false, ◌||◌, if◌then◌else◌, List, [], ◌∷◌, length, Option, Some, None, refl, sym, ap, ◌∙◌, subst, arith}
use Rattle.std.specs.List.{AllByRecursion, IsDistinct}
use Rattle.std.proofs.lemmas.Map.Keys.{IsDistinct-head, IsDistinct-tail, IsDistinct-cons}
use Rattle.apl_model.specs.Environment.{Bindings, Environment, is_same_name, declares, bound_in, bound_to, found_in, look_up, set_in_frames, declared_in, set_name, unset_global, erased}
use Rattle.name_table.specs.Scopes.{names_of}
use Rattle.name_table.specs.Laws.{SetIsFound, SetLeavesOthers, ErasedIsUnset, ErasedLeavesOthers}
use Rattle.apl_model.proofs.SameNames.{same_name_is, same_self}

-- ---- the same name

pub not_same : (a b : List ℕ) → a ≢ b → is_same_name a b ≡ false
not_same a b differs = by (is_same_name a b) refl
  where
    by : (t : Bool) → is_same_name a b ≡ t → t ≡ false
    by true e = absurd (differs (same_name_is a b e))
    by false e = refl

pub true_or : (t : Bool) → t ≡ true → (b : Bool) → t || b ≡ true
true_or true e b = refl
true_or false e b = absurd (cc)

pub false_or : (s t : Bool) → s || t ≡ false → (s ≡ false) × (t ≡ false)
false_or true t e = absurd (cc)
false_or false t e = (refl, e)

module _ {A : Type 0} where
  -- ---- one list of bindings

  pub bound_to-found : (bs : Bindings A) (name : List ℕ) (a : Option A) → bound_in (bound_to bs name a) name ≡ a
  bound_to-found [] name a = ap (λ t. if t then a else None) (same_self name)
  bound_to-found (b ∷ bs) name a = by (is_same_name b.0 name) refl (bound_to-found bs name a)
    where
      by : (t : Bool) → is_same_name b.0 name ≡ t → bound_in (bound_to bs name a) name ≡ a → bound_in (if t then (name, a) ∷ bs else b ∷ bound_to bs name a) name ≡ a
      by true e rest = ap (λ t. if t then a else bound_in bs name) (same_self name)
      by false e rest = ap (λ t. if t then b.1 else bound_in (bound_to bs name a) name) e ∙ rest

  pub declares-bound_to : (bs : Bindings A) (name : List ℕ) (a : Option A) → declares (bound_to bs name a) name ≡ true
  declares-bound_to [] name a = true_or (is_same_name name name) (same_self name) false
  declares-bound_to (b ∷ bs) name a = by (is_same_name b.0 name) refl (declares-bound_to bs name a)
    where
      or_true : (t : Bool) → t || true ≡ true
      or_true true = refl
      or_true false = refl

      by : (t : Bool) → is_same_name b.0 name ≡ t → declares (bound_to bs name a) name ≡ true → declares (if t then (name, a) ∷ bs else b ∷ bound_to bs name a) name ≡ true
      by true e rest = true_or (is_same_name name name) (same_self name) (declares bs name)
      by false e rest = ap (λ t. is_same_name b.0 name || t) rest ∙ or_true (is_same_name b.0 name)

  -- what other names see: the head where the name stands
  other_head : (b : List ℕ × Option A) (name other : List ℕ) → is_same_name b.0 name ≡ true → other ≢ name → (is_same_name name other ≡ false) × (is_same_name b.0 other ≡ false)
  other_head b name other e differs =
      (not_same name other (λ p. differs (sym p)), not_same b.0 other (λ p. differs (sym p ∙ same_name_is b.0 name e)))

  pub declares-other : (bs : Bindings A) (name other : List ℕ) (a : Option A) → other ≢ name → declares (bound_to bs name a) other ≡ declares bs other
  declares-other [] name other a differs = ap (λ t. t || false) (not_same name other (λ p. differs (sym p)))
  declares-other (b ∷ bs) name other a differs = by (is_same_name b.0 name) refl (declares-other bs name other a differs)
    where
      by : (t : Bool) → is_same_name b.0 name ≡ t → declares (bound_to bs name a) other ≡ declares bs other → declares (if t then (name, a) ∷ bs else b ∷ bound_to bs name a) other ≡ is_same_name b.0 other || declares bs other
      by true e rest =
          let apart = other_head b name other e differs in
          ap (λ t. t || declares bs other) (apart.0 ∙ sym apart.1)
      by false e rest = ap (λ t. is_same_name b.0 other || t) rest

  pub bound_in-other : (bs : Bindings A) (name other : List ℕ) (a : Option A) → other ≢ name → bound_in (bound_to bs name a) other ≡ bound_in bs other
  bound_in-other [] name other a differs = ap (λ t. if t then a else None) (not_same name other (λ p. differs (sym p)))
  bound_in-other (b ∷ bs) name other a differs = by (is_same_name b.0 name) refl (bound_in-other bs name other a differs)
    where
      by : (t : Bool) → is_same_name b.0 name ≡ t → bound_in (bound_to bs name a) other ≡ bound_in bs other → bound_in (if t then (name, a) ∷ bs else b ∷ bound_to bs name a) other ≡ (if is_same_name b.0 other then b.1 else bound_in bs other)
      by true e rest =
          let apart = other_head b name other e differs in
          ap (λ t. if t then a else bound_in bs other) apart.0 ∙ sym (ap (λ t. if t then b.1 else bound_in bs other) apart.1)
      by false e rest = ap (λ x. if is_same_name b.0 other then b.1 else x) rest

  pub undeclared : (bs : Bindings A) (name : List ℕ) → declares bs name ≡ false → bound_in bs name ≡ None
  undeclared [] name lacks = refl
  undeclared (b ∷ bs) name lacks =
      let no = false_or (is_same_name b.0 name) (declares bs name) lacks in
      ap (λ t. if t then b.1 else bound_in bs name) no.0 ∙ undeclared bs name no.1

  -- ---- frames

  pub not_in_frames : (fs : List (Bindings A)) (globals : Bindings A) (name : List ℕ) → declared_in fs name ≡ false → found_in fs globals name ≡ bound_in globals name
  not_in_frames [] globals name lacks = refl
  not_in_frames (f ∷ fs) globals name lacks =
      let no = false_or (declares f name) (declared_in fs name) lacks in
      ap (λ t. if t then bound_in f name else found_in fs globals name) no.0 ∙ not_in_frames fs globals name no.1

  found_in-set : (fs : List (Bindings A)) (globals : Bindings A) (name : List ℕ) (a : A) → declared_in fs name ≡ true → found_in (set_in_frames fs name a) globals name ≡ Some a
  found_in-set [] globals name a has = absurd (cc)
  found_in-set (f ∷ fs) globals name a has = by (declares f name) refl (found_in-set fs globals name a) has
    where
      by : (t : Bool) → declares f name ≡ t → (declared_in fs name ≡ true → found_in (set_in_frames fs name a) globals name ≡ Some a) → t || declared_in fs name ≡ true → found_in (if t then bound_to f name (Some a) ∷ fs else f ∷ set_in_frames fs name a) globals name ≡ Some a
      by true e rest h =
          ap (λ t. if t then bound_in (bound_to f name (Some a)) name else found_in fs globals name) (declares-bound_to f name (Some a))
          ∙ bound_to-found f name (Some a)
      by false e rest h =
          ap (λ t. if t then bound_in f name else found_in (set_in_frames fs name a) globals name) e ∙ rest h

  found_in-set_other : (fs : List (Bindings A)) (globals : Bindings A) (name other : List ℕ) (a : A) → other ≢ name → found_in (set_in_frames fs name a) globals other ≡ found_in fs globals other
  found_in-set_other [] globals name other a differs = refl
  found_in-set_other (f ∷ fs) globals name other a differs = by (declares f name) (found_in-set_other fs globals name other a differs)
    where
      by : (t : Bool) → found_in (set_in_frames fs name a) globals other ≡ found_in fs globals other → found_in (if t then bound_to f name (Some a) ∷ fs else f ∷ set_in_frames fs name a) globals other ≡ (if declares f other then bound_in f other else found_in fs globals other)
      by true rest =
          ap (λ t. if t then bound_in (bound_to f name (Some a)) other else found_in fs globals other) (declares-other f name other (Some a) differs)
          ∙ ap (λ x. if declares f other then x else found_in fs globals other) (bound_in-other f name other (Some a) differs)
      by false rest = ap (λ x. if declares f other then bound_in f other else x) rest

  -- the globals count where no frame declares the name
  found_in-globals : (fs : List (Bindings A)) (gs hs : Bindings A) (other : List ℕ) → bound_in hs other ≡ bound_in gs other → found_in fs hs other ≡ found_in fs gs other
  found_in-globals [] gs hs other e = e
  found_in-globals (f ∷ fs) gs hs other e = ap (λ x. if declares f other then bound_in f other else x) (found_in-globals fs gs hs other e)

  pub set_found : (e : Environment A) (name : List ℕ) (a : A) → look_up (set_name e name a) name ≡ Some a
  set_found e name a = by (declared_in e.frames name) refl
    where
      by : (t : Bool) → declared_in e.frames name ≡ t → look_up (if t then record e { frames = set_in_frames e.frames name a } else record e { globals = bound_to e.globals name (Some a) }) name ≡ Some a
      by true h = found_in-set e.frames e.globals name a h
      by false h = not_in_frames e.frames (bound_to e.globals name (Some a)) name h ∙ bound_to-found e.globals name (Some a)

  pub set_others : (e : Environment A) (name other : List ℕ) (a : A) → other ≢ name → look_up (set_name e name a) other ≡ look_up e other
  set_others e name other a differs = by (declared_in e.frames name)
    where
      by : (t : Bool) → look_up (if t then record e { frames = set_in_frames e.frames name a } else record e { globals = bound_to e.globals name (Some a) }) other ≡ look_up e other
      by true = found_in-set_other e.frames e.globals name other a differs
      by false = found_in-globals e.frames e.globals (bound_to e.globals name (Some a)) other (bound_in-other e.globals name other (Some a) differs)

  unset_unset : (gs : Bindings A) (name : List ℕ) → bound_in (unset_global gs name) name ≡ None
  unset_unset gs name = by (declares gs name) refl
    where
      by : (t : Bool) → declares gs name ≡ t → bound_in (if t then bound_to gs name None else gs) name ≡ None
      by true e = bound_to-found gs name None
      by false e = undeclared gs name e

  unset_others : (gs : Bindings A) (name other : List ℕ) → other ≢ name → bound_in (unset_global gs name) other ≡ bound_in gs other
  unset_others gs name other differs = by (declares gs name)
    where
      by : (t : Bool) → bound_in (if t then bound_to gs name None else gs) other ≡ bound_in gs other
      by true = bound_in-other gs name other None differs
      by false = refl

  pub erased_unset : (e : Environment A) (name : List ℕ) → e.frames ≡ [] → look_up (erased (name ∷ []) e) name ≡ None
  erased_unset e name none = ap (λ fs. found_in fs (unset_global e.globals name) name) none ∙ unset_unset e.globals name

  pub erased_others : (e : Environment A) (name other : List ℕ) → other ≢ name → look_up (erased (name ∷ []) e) other ≡ look_up e other
  erased_others e name other differs =
      found_in-globals e.frames e.globals (unset_global e.globals name) other (unset_others e.globals name other differs)

  -- ---- names that differ

  -- what is so of each name is so where one is bound anew
  names_so : (P : List ℕ → Type 0) (bs : Bindings A) (name : List ℕ) (a : Option A) → P name → AllByRecursion P (names_of bs) → AllByRecursion P (names_of (bound_to bs name a))
  names_so P [] name a so all = (so, tt)
  names_so P (b ∷ bs) name a so all = by (is_same_name b.0 name) (names_so P bs name a so all.1)
    where
      by : (t : Bool) → AllByRecursion P (names_of (bound_to bs name a)) → AllByRecursion P (names_of (if t then (name, a) ∷ bs else b ∷ bound_to bs name a))
      by true rest = (so, all.1)
      by false rest = (all.0, rest)

  pub differ-bound_to : (bs : Bindings A) (name : List ℕ) (a : Option A) → IsDistinct is_same_name (names_of bs) → IsDistinct is_same_name (names_of (bound_to bs name a))
  differ-bound_to [] name a d = IsDistinct-cons is_same_name name [] tt d
  differ-bound_to (b ∷ bs) name a d = by (is_same_name b.0 name) refl (differ-bound_to bs name a (IsDistinct-tail is_same_name b.0 (names_of bs) d))
    where
      head : AllByRecursion (λ y. is_same_name b.0 y ≡ false) (names_of bs)
      head = IsDistinct-head is_same_name b.0 (names_of bs) d

      tail : IsDistinct is_same_name (names_of bs)
      tail = IsDistinct-tail is_same_name b.0 (names_of bs) d

      by : (t : Bool) → is_same_name b.0 name ≡ t → IsDistinct is_same_name (names_of (bound_to bs name a)) → IsDistinct is_same_name (names_of (if t then (name, a) ∷ bs else b ∷ bound_to bs name a))
      by true e rest =
          IsDistinct-cons is_same_name name (names_of bs) (subst (λ n. AllByRecursion (λ y. is_same_name n y ≡ false) (names_of bs)) (same_name_is b.0 name e) head) tail
      by false e rest =
          IsDistinct-cons is_same_name b.0 (names_of (bound_to bs name a)) (names_so (λ y. is_same_name b.0 y ≡ false) bs name a e head) rest

  -- a name that stands there is bound in its place, any other at the end
  pub count-bound_to : (bs : Bindings A) (name : List ℕ) (a : Option A) → length (bound_to bs name a) ≤ length bs + 1
  count-bound_to [] name a = omega arith
  count-bound_to (b ∷ bs) name a = by (is_same_name b.0 name) (count-bound_to bs name a)
    where
      by : (t : Bool) → length (bound_to bs name a) ≤ length bs + 1 → length (if t then (name, a) ∷ bs else b ∷ bound_to bs name a) ≤ length (b ∷ bs) + 1
      by true rest = omega arith
      by false rest = omega arith

  pub count-rebound : (bs : Bindings A) (name : List ℕ) (a : Option A) → declares bs name ≡ true → length (bound_to bs name a) ≡ length bs
  count-rebound [] name a has = absurd (cc)
  count-rebound (b ∷ bs) name a has = by (is_same_name b.0 name) (count-rebound bs name a) has
    where
      by : (t : Bool) → (declares bs name ≡ true → length (bound_to bs name a) ≡ length bs) → t || declares bs name ≡ true → length (if t then (name, a) ∷ bs else b ∷ bound_to bs name a) ≡ length (b ∷ bs)
      by true rest h = omega arith
      by false rest h = omega (arith, rest h)

-- ---- the laws

pub set_is_found : (A : Type 0) → SetIsFound A
set_is_found A e name a = set_found e name a

pub set_leaves_others : (A : Type 0) → SetLeavesOthers A
set_leaves_others A e name other a differs = set_others e name other a differs

pub erased_is_unset : (A : Type 0) → ErasedIsUnset A
erased_is_unset A e name none = erased_unset e name none

pub erased_leaves_others : (A : Type 0) → ErasedLeavesOthers A
erased_leaves_others A e name other differs = erased_others e name other differs

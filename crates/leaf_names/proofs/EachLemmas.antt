-- What is so of each leaf that a name is bound to.
use Rattle.std.proofs.Common.{◌≡◌, ℕ, Bool, true, false, if◌then◌else◌, ◌||◌, List, [], ◌∷◌, Option, Some, None, refl, sym, ap, ◌∙◌, subst}
use Rattle.std.specs.Option.{ForSome}
use Rattle.std.specs.List.{AllByRecursion}
use Rattle.std.specs.Cmp.Lexicographic.{same_text}
use Rattle.drag_along.specs.declared.leaves.Leaf.{Leaf}
use Rattle.apl_model.specs.Environment.{Bindings, Environment, is_same_name, declares, bound_in, bound_to, found_in, look_up, set_in_frames, declared_in, set_name, unset_global}
use Rattle.leaf_names.specs.Variables.{AllBound, EachLeaf}
use Rattle.leaf_names.proofs.CountLemmas.{not_in_frames}
use Rattle.apl_model.proofs.SameNames.{same_self}

-- ---- found

bound_in-each : (P : Leaf → Type 0) (bs : Bindings Leaf) (name : List ℕ) → AllBound P bs → ForSome (bound_in bs name) P
bound_in-each P [] name all = λ x e. absurd (cc)
bound_in-each P (b ∷ bs) name all = by (is_same_name b.0 name) (bound_in-each P bs name all.1)
  where
    by : (t : Bool) → ForSome (bound_in bs name) P → ForSome (if t then b.1 else bound_in bs name) P
    by true rest = all.0
    by false rest = rest

found_in-each : (P : Leaf → Type 0) (fs : List (Bindings Leaf)) (globals : Bindings Leaf) (name : List ℕ) → AllByRecursion (AllBound P) fs → AllBound P globals → ForSome (found_in fs globals name) P
found_in-each P [] globals name in_frames in_globals = bound_in-each P globals name in_globals
found_in-each P (f ∷ fs) globals name in_frames in_globals = by (declares f name) (found_in-each P fs globals name in_frames.1 in_globals)
  where
    by : (t : Bool) → ForSome (found_in fs globals name) P → ForSome (if t then bound_in f name else found_in fs globals name) P
    by true rest = bound_in-each P f name in_frames.0
    by false rest = rest

pub look_up-each : (P : Leaf → Type 0) (names : Environment Leaf) (name : List ℕ) → EachLeaf P names → ForSome (look_up names name) P
look_up-each P names name each = found_in-each P names.frames names.globals name each.frames each.globals

-- ---- set

pub bound_to-each : (P : Leaf → Type 0) (bs : Bindings Leaf) (name : List ℕ) (a : Option Leaf) → AllBound P bs → ForSome a P → AllBound P (bound_to bs name a)
bound_to-each P [] name a all so = (so, tt)
bound_to-each P (b ∷ bs) name a all so = by (is_same_name b.0 name) (bound_to-each P bs name a all.1 so)
  where
    by : (t : Bool) → AllBound P (bound_to bs name a) → AllBound P (if t then (name, a) ∷ bs else b ∷ bound_to bs name a)
    by true rest = (so, all.1)
    by false rest = (all.0, rest)

-- the leaf is so
so_of_some : (P : Leaf → Type 0) (leaf : Leaf) → P leaf → ForSome (Some leaf) P
so_of_some P leaf so = λ x e. let same : leaf ≡ x = cc in subst P same so

set_in_frames-each : (P : Leaf → Type 0) (fs : List (Bindings Leaf)) (name : List ℕ) (leaf : Leaf) → AllByRecursion (AllBound P) fs → P leaf → AllByRecursion (AllBound P) (set_in_frames fs name leaf)
set_in_frames-each P [] name leaf all so = tt
set_in_frames-each P (f ∷ fs) name leaf all so = by (declares f name) (set_in_frames-each P fs name leaf all.1 so)
  where
    by : (t : Bool) → AllByRecursion (AllBound P) (set_in_frames fs name leaf) → AllByRecursion (AllBound P) (if t then bound_to f name (Some leaf) ∷ fs else f ∷ set_in_frames fs name leaf)
    by true rest = (bound_to-each P f name (Some leaf) all.0 (so_of_some P leaf so), all.1)
    by false rest = (all.0, rest)

pub set_name-each : (P : Leaf → Type 0) (names : Environment Leaf) (name : List ℕ) (leaf : Leaf) → EachLeaf P names → P leaf → EachLeaf P (set_name names name leaf)
set_name-each P names name leaf each so = by (declared_in names.frames name)
  where
    by : (t : Bool) → EachLeaf P (if t then record names { frames = set_in_frames names.frames name leaf } else record names { globals = bound_to names.globals name (Some leaf) })
    by true = record { globals = each.globals; frames = set_in_frames-each P names.frames name leaf each.frames so }
    by false = record { globals = bound_to-each P names.globals name (Some leaf) each.globals (so_of_some P leaf so); frames = each.frames }

pub unset-each : (P : Leaf → Type 0) (globals : Bindings Leaf) (name : List ℕ) → AllBound P globals → AllBound P (unset_global globals name)
unset-each P globals name all = by (declares globals name)
  where
    by : (t : Bool) → AllBound P (if t then bound_to globals name None else globals)
    by true = bound_to-each P globals name None all (λ x e. absurd (cc))
    by false = all

-- ---- set to what it is bound to

again_in : (bs : Bindings Leaf) (name : List ℕ) (leaf : Leaf) → bound_in bs name ≡ Some leaf → bound_to bs name (Some leaf) ≡ bs
again_in [] name leaf found = absurd (cc)
again_in (b ∷ bs) name leaf found = by (is_same_name b.0 name) refl (again_in bs name leaf) found
  where
    by : (t : Bool) → is_same_name b.0 name ≡ t → (bound_in bs name ≡ Some leaf → bound_to bs name (Some leaf) ≡ bs) → (if t then b.1 else bound_in bs name) ≡ Some leaf → (if t then (name, Some leaf) ∷ bs else b ∷ bound_to bs name (Some leaf)) ≡ b ∷ bs
    by true e rest is = ap (λ (x : List ℕ × Option Leaf). x ∷ bs) (ap (λ (n : List ℕ). let x : List ℕ × Option Leaf = (n, Some leaf) in x) (sym (same_text b.0 name (sym e))) ∙ ap (λ (o : Option Leaf). let x : List ℕ × Option Leaf = (b.0, o) in x) (sym is))
    by false e rest is = ap (λ (xs : Bindings Leaf). b ∷ xs) (rest is)

again_in_frames : (fs : List (Bindings Leaf)) (globals : Bindings Leaf) (name : List ℕ) (leaf : Leaf) → declared_in fs name ≡ true → found_in fs globals name ≡ Some leaf → set_in_frames fs name leaf ≡ fs
again_in_frames [] globals name leaf has found = refl
again_in_frames (f ∷ fs) globals name leaf has found = by (declares f name) (again_in_frames fs globals name leaf) has found
  where
    by : (t : Bool) → (declared_in fs name ≡ true → found_in fs globals name ≡ Some leaf → set_in_frames fs name leaf ≡ fs) → t || declared_in fs name ≡ true → (if t then bound_in f name else found_in fs globals name) ≡ Some leaf → (if t then bound_to f name (Some leaf) ∷ fs else f ∷ set_in_frames fs name leaf) ≡ f ∷ fs
    by true rest e is = ap (λ (x : Bindings Leaf). x ∷ fs) (again_in f name leaf is)
    by false rest e is = ap (λ (xs : List (Bindings Leaf)). f ∷ xs) (rest e is)

pub set_again : (names : Environment Leaf) (name : List ℕ) (leaf : Leaf) → look_up names name ≡ Some leaf → set_name names name leaf ≡ names
set_again names name leaf found = by (declared_in names.frames name) refl
  where
    by : (t : Bool) → declared_in names.frames name ≡ t → (if t then record names { frames = set_in_frames names.frames name leaf } else record names { globals = bound_to names.globals name (Some leaf) }) ≡ names
    by true e = ap (λ (fs : List (Bindings Leaf)). record names { frames = fs }) (again_in_frames names.frames names.globals name leaf e found)
    by false e = ap (λ (gs : Bindings Leaf). record names { globals = gs }) (again_in names.globals name leaf (sym (not_in_frames names.frames names.globals name e) ∙ found))

-- ---- set, then found

bound_to-found : (bs : Bindings Leaf) (name : List ℕ) (leaf : Leaf) → bound_in (bound_to bs name (Some leaf)) name ≡ Some leaf
bound_to-found [] name leaf = ap (λ (t : Bool). if t then Some leaf else None) (same_self name)
bound_to-found (b ∷ bs) name leaf = by (is_same_name b.0 name) refl (bound_to-found bs name leaf)
  where
    by : (t : Bool) → is_same_name b.0 name ≡ t → bound_in (bound_to bs name (Some leaf)) name ≡ Some leaf → bound_in (if t then (name, Some leaf) ∷ bs else b ∷ bound_to bs name (Some leaf)) name ≡ Some leaf
    by true e rest = ap (λ (t : Bool). if t then Some leaf else bound_in bs name) (same_self name)
    by false e rest = ap (λ (t : Bool). if t then b.1 else bound_in (bound_to bs name (Some leaf)) name) e ∙ rest

bound_to-declares : (bs : Bindings Leaf) (name : List ℕ) (leaf : Leaf) → declares (bound_to bs name (Some leaf)) name ≡ true
bound_to-declares [] name leaf = ap (λ (t : Bool). t || false) (same_self name)
bound_to-declares (b ∷ bs) name leaf = by (is_same_name b.0 name) refl (bound_to-declares bs name leaf)
  where
    by : (t : Bool) → is_same_name b.0 name ≡ t → declares (bound_to bs name (Some leaf)) name ≡ true → declares (if t then (name, Some leaf) ∷ bs else b ∷ bound_to bs name (Some leaf)) name ≡ true
    by true e rest = ap (λ (t : Bool). t || declares bs name) (same_self name)
    by false e rest = ap (λ (t : Bool). t || declares (bound_to bs name (Some leaf)) name) e ∙ rest

set_in_frames-found : (fs : List (Bindings Leaf)) (globals : Bindings Leaf) (name : List ℕ) (leaf : Leaf) → declared_in fs name ≡ true → found_in (set_in_frames fs name leaf) globals name ≡ Some leaf
set_in_frames-found [] globals name leaf has = absurd (cc)
set_in_frames-found (f ∷ fs) globals name leaf has = by (declares f name) refl (set_in_frames-found fs globals name leaf) has
  where
    by : (t : Bool) → declares f name ≡ t → (declared_in fs name ≡ true → found_in (set_in_frames fs name leaf) globals name ≡ Some leaf) → t || declared_in fs name ≡ true → found_in (if t then bound_to f name (Some leaf) ∷ fs else f ∷ set_in_frames fs name leaf) globals name ≡ Some leaf
    by true e rest h = ap (λ (t : Bool). if t then bound_in (bound_to f name (Some leaf)) name else found_in fs globals name) (bound_to-declares f name leaf) ∙ bound_to-found f name leaf
    by false e rest h = ap (λ (t : Bool). if t then bound_in f name else found_in (set_in_frames fs name leaf) globals name) e ∙ rest h

pub set_name-found : (names : Environment Leaf) (name : List ℕ) (leaf : Leaf) → look_up (set_name names name leaf) name ≡ Some leaf
set_name-found names name leaf = by (declared_in names.frames name) refl
  where
    by : (t : Bool) → declared_in names.frames name ≡ t → look_up (if t then record names { frames = set_in_frames names.frames name leaf } else record names { globals = bound_to names.globals name (Some leaf) }) name ≡ Some leaf
    by true e = set_in_frames-found names.frames names.globals name leaf e
    by false e = not_in_frames names.frames (bound_to names.globals name (Some leaf)) name e ∙ bound_to-found names.globals name leaf

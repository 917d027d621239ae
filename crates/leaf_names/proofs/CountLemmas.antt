-- How often names and an owner go together.
use Rattle.std.proofs.Common.{◌≡◌, ℕ, ◌+◌, ◌≤◌, Bool, true, false, if◌then◌else◌, ◌||◌, List, [], ◌∷◌, Option, Some, None, refl, ap, arith}
use Rattle.std.specs.Prelude.{sum_by}
use Rattle.std.proofs.lemmas.List.Sums.{sum_by-cons}
use Rattle.drag_along.specs.declared.leaves.Leaf.{Leaf}
use Rattle.drag_along.specs.Nodes.{named_by_leaf}
use Rattle.apl_model.specs.Environment.{Bindings, Environment, is_same_name, declares, bound_in, bound_to, found_in, look_up, set_in_frames, declared_in, set_name, unset_global, with_frame}
use Rattle.leaf_names.specs.Variables.{named_by_option, named_by_bindings, named_by_names}

-- one binding more
pub named-cons : (b : List ℕ × Option Leaf) (bs : Bindings Leaf) (key : ℕ) → named_by_bindings (b ∷ bs) key ≡ named_by_option b.1 key + named_by_bindings bs key
named-cons b bs key = sum_by-cons (λ (x : List ℕ × Option Leaf). named_by_option x.1 key) b bs

-- the leaves of the frames
abbrev pub in_frames : List (Bindings Leaf) → ℕ → ℕ
in_frames frames key = sum_by (λ f. named_by_bindings f key) frames

pub frames-cons : (f : Bindings Leaf) (fs : List (Bindings Leaf)) (key : ℕ) → in_frames (f ∷ fs) key ≡ named_by_bindings f key + in_frames fs key
frames-cons f fs key = sum_by-cons (λ (x : Bindings Leaf). named_by_bindings x key) f fs

-- a name bound anew
bound_to-named : (bs : Bindings Leaf) (name : List ℕ) (a : Option Leaf) (key : ℕ) → named_by_bindings (bound_to bs name a) key + named_by_option (bound_in bs name) key ≡ named_by_bindings bs key + named_by_option a key
bound_to-named [] name a key = omega (arith, named-cons (name, a) [] key)
bound_to-named (b ∷ bs) name a key = by (is_same_name b.0 name) (bound_to-named bs name a key)
  where
    by : (t : Bool) → named_by_bindings (bound_to bs name a) key + named_by_option (bound_in bs name) key ≡ named_by_bindings bs key + named_by_option a key → named_by_bindings (if t then (name, a) ∷ bs else b ∷ bound_to bs name a) key + named_by_option (if t then b.1 else bound_in bs name) key ≡ named_by_bindings (b ∷ bs) key + named_by_option a key
    by true rest = omega (arith, named-cons (name, a) bs key, named-cons b bs key)
    by false rest = omega (arith, named-cons b (bound_to bs name a) key, named-cons b bs key)

-- a name that is not among them is bound to nothing
undeclared : (bs : Bindings Leaf) (name : List ℕ) → declares bs name ≡ false → bound_in bs name ≡ None
undeclared [] name lacks = refl
undeclared (b ∷ bs) name lacks = by (is_same_name b.0 name) (undeclared bs name) lacks
  where
    by : (t : Bool) → (declares bs name ≡ false → bound_in bs name ≡ None) → t || declares bs name ≡ false → (if t then b.1 else bound_in bs name) ≡ None
    by true rest e = absurd (cc)
    by false rest e = rest e

-- a name set in the frame that declares it
set_in_frames-named : (fs : List (Bindings Leaf)) (globals : Bindings Leaf) (name : List ℕ) (a : Leaf) (key : ℕ) → declared_in fs name ≡ true → in_frames (set_in_frames fs name a) key + named_by_option (found_in fs globals name) key ≡ in_frames fs key + named_by_leaf a key
set_in_frames-named [] globals name a key has = absurd (cc)
set_in_frames-named (f ∷ fs) globals name a key has = by (declares f name) (set_in_frames-named fs globals name a key) has
  where
    by : (t : Bool) → (declared_in fs name ≡ true → in_frames (set_in_frames fs name a) key + named_by_option (found_in fs globals name) key ≡ in_frames fs key + named_by_leaf a key) → t || declared_in fs name ≡ true → in_frames (if t then bound_to f name (Some a) ∷ fs else f ∷ set_in_frames fs name a) key + named_by_option (if t then bound_in f name else found_in fs globals name) key ≡ in_frames (f ∷ fs) key + named_by_leaf a key
    by true rest e = omega (arith, frames-cons (bound_to f name (Some a)) fs key, frames-cons f fs key, bound_to-named f name (Some a) key)
    by false rest e = omega (arith, frames-cons f (set_in_frames fs name a) key, frames-cons f fs key, rest e)

-- a name that no frame declares is looked for among the globals
pub not_in_frames : (fs : List (Bindings Leaf)) (globals : Bindings Leaf) (name : List ℕ) → declared_in fs name ≡ false → found_in fs globals name ≡ bound_in globals name
not_in_frames [] globals name lacks = refl
not_in_frames (f ∷ fs) globals name lacks = by (declares f name) (not_in_frames fs globals name) lacks
  where
    by : (t : Bool) → (declared_in fs name ≡ false → found_in fs globals name ≡ bound_in globals name) → t || declared_in fs name ≡ false → (if t then bound_in f name else found_in fs globals name) ≡ bound_in globals name
    by true rest e = absurd (cc)
    by false rest e = rest e

pub set_name-named : (names : Environment Leaf) (name : List ℕ) (leaf : Leaf) (key : ℕ) → named_by_names (set_name names name leaf) key + named_by_option (look_up names name) key ≡ named_by_names names key + named_by_leaf leaf key
set_name-named names name leaf key = by (declared_in names.frames name) refl
  where
    by : (t : Bool) → declared_in names.frames name ≡ t → named_by_names (if t then record names { frames = set_in_frames names.frames name leaf } else record names { globals = bound_to names.globals name (Some leaf) }) key + named_by_option (look_up names name) key ≡ named_by_names names key + named_by_leaf leaf key
    by true e = omega (arith, set_in_frames-named names.frames names.globals name leaf key e)
    by false e = omega (arith, bound_to-named names.globals name (Some leaf) key, ap (λ (o : Option Leaf). named_by_option o key) (not_in_frames names.frames names.globals name e))

-- the leaf that is found among bindings
bound_in-named : (bs : Bindings Leaf) (name : List ℕ) (key : ℕ) → named_by_option (bound_in bs name) key ≤ named_by_bindings bs key
bound_in-named bs name key = omega (arith, bound_to-named bs name None key)

found_in-named : (fs : List (Bindings Leaf)) (globals : Bindings Leaf) (name : List ℕ) (key : ℕ) → named_by_option (found_in fs globals name) key ≤ named_by_bindings globals key + in_frames fs key
found_in-named [] globals name key = omega (arith, bound_in-named globals name key)
found_in-named (f ∷ fs) globals name key = by (declares f name) (found_in-named fs globals name key)
  where
    by : (t : Bool) → named_by_option (found_in fs globals name) key ≤ named_by_bindings globals key + in_frames fs key → named_by_option (if t then bound_in f name else found_in fs globals name) key ≤ named_by_bindings globals key + in_frames (f ∷ fs) key
    by true rest = omega (arith, frames-cons f fs key, bound_in-named f name key)
    by false rest = omega (arith, frames-cons f fs key)

pub look_up-named : (names : Environment Leaf) (name : List ℕ) (key : ℕ) → named_by_option (look_up names name) key ≤ named_by_names names key
look_up-named names name key = found_in-named names.frames names.globals name key

pub unset-named : (globals : Bindings Leaf) (name : List ℕ) (key : ℕ) → named_by_bindings (unset_global globals name) key + named_by_option (bound_in globals name) key ≡ named_by_bindings globals key
unset-named globals name key = by (declares globals name) refl
  where
    by : (t : Bool) → declares globals name ≡ t → named_by_bindings (if t then bound_to globals name None else globals) key + named_by_option (bound_in globals name) key ≡ named_by_bindings globals key
    by true e = omega (arith, bound_to-named globals name None key)
    by false e = omega (arith, ap (λ (o : Option Leaf). named_by_option o key) (undeclared globals name e))

pub with_frame-named : (frame : Bindings Leaf) (names : Environment Leaf) (key : ℕ) → named_by_names (with_frame frame names) key ≡ named_by_bindings frame key + named_by_names names key
with_frame-named frame names key = omega (arith, frames-cons frame names.frames key)

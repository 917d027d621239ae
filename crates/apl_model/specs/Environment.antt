-- The variables: globals, the frames of the pending calls, and the origin; for any type of what a name is bound to.
use Rattle.std.specs.Prelude.{ℕ, ℤ, pos, Bool, List, [], ◌∷◌, map, Option, Some, None, nat_eq, if◌then◌else◌}
use Rattle.std.specs.Cmp.Lexicographic.{pointwise}
use Rattle.std.specs.List.{list_any, filter_map, fold}
use Rattle.std.specs.Option.{option_map}

-- names, each bound to an A, or unset
abbrev pub Bindings : Type 0 → Type 0
Bindings A = List (List ℕ × Option A)

-- all variables of a run
pub record Environment (A : Type 0) : Type 0 where
  pub globals : Bindings A
  -- the innermost frame first; a frame has the names that it declares
  pub frames : List (Bindings A)
  -- 0 or 1
  pub origin : ℤ

-- two names are the same text
abbrev pub is_same_name : List ℕ → List ℕ → Bool
is_same_name = pointwise nat_eq

-- the name stands there, bound or unset
abbrev pub declares : {A : Type 0} → Bindings A → List ℕ → Bool
declares bindings name = list_any (λ b. is_same_name b.0 name) bindings

-- what the name is bound to there: nothing where it is unset or not among them
abbrev pub bound_in : {A : Type 0} → Bindings A → List ℕ → Option A
bound_in [] name = None
bound_in (b ∷ bs) name = if is_same_name b.0 name then b.1 else bound_in bs name

-- the name bound to this, or unset: put where the name stands, or at the end
abbrev pub bound_to : {A : Type 0} → Bindings A → List ℕ → Option A → Bindings A
bound_to [] name a = (name, a) ∷ []
bound_to (b ∷ bs) name a = if is_same_name b.0 name then (name, a) ∷ bs else b ∷ bound_to bs name a

-- the innermost frame that declares the name has it, else the globals
abbrev pub found_in : {A : Type 0} → List (Bindings A) → Bindings A → List ℕ → Option A
found_in [] globals name = bound_in globals name
found_in (f ∷ fs) globals name = if declares f name then bound_in f name else found_in fs globals name

-- what the name is bound to
abbrev pub look_up : {A : Type 0} → Environment A → List ℕ → Option A
look_up e name = found_in e.frames e.globals name

-- the frames with the name set in the innermost that declares it
abbrev pub set_in_frames : {A : Type 0} → List (Bindings A) → List ℕ → A → List (Bindings A)
set_in_frames [] name a = []
set_in_frames (f ∷ fs) name a = if declares f name then bound_to f name (Some a) ∷ fs else f ∷ set_in_frames fs name a

-- a frame declares the name
abbrev pub declared_in : {A : Type 0} → List (Bindings A) → List ℕ → Bool
declared_in frames name = list_any (λ f. declares f name) frames

-- the name set where the look-up finds it: in a frame, or among the globals
abbrev pub set_name : {A : Type 0} → Environment A → List ℕ → A → Environment A
set_name e name a =
    if declared_in e.frames name
    then record e { frames = set_in_frames e.frames name a }
    else record e { globals = bound_to e.globals name (Some a) }

-- a global made unset; a name that is unset is passed over
abbrev pub unset_global : {A : Type 0} → Bindings A → List ℕ → Bindings A
unset_global bindings name = if declares bindings name then bound_to bindings name None else bindings

-- the globals of these names made unset
abbrev pub erased : {A : Type 0} → List (List ℕ) → Environment A → Environment A
erased names e = record e { globals = fold unset_global e.globals names }

-- the names that are set
abbrev pub set_names : {A : Type 0} → Bindings A → List (List ℕ)
set_names bindings = filter_map (λ b. option_map (λ a. b.0) b.1) bindings

-- a call's frame put before the others
abbrev pub with_frame : {A : Type 0} → Bindings A → Environment A → Environment A
with_frame frame e = record e { frames = frame ∷ e.frames }

-- the frames but for the innermost
abbrev pub innermost_gone : {A : Type 0} → List (Bindings A) → List (Bindings A)
innermost_gone [] = []
innermost_gone (f ∷ fs) = fs

-- the innermost frame taken away
abbrev pub without_frame : {A : Type 0} → Environment A → Environment A
without_frame e = record e { frames = innermost_gone e.frames }

-- all frames taken away
abbrev pub without_frames : {A : Type 0} → Environment A → Environment A
without_frames e = record e { frames = [] }

-- another origin
abbrev pub with_origin : {A : Type 0} → ℤ → Environment A → Environment A
with_origin o e = record e { origin = o }

-- no variables, no frames, and the origin 1
abbrev pub no_variables : {A : Type 0} → Environment A
no_variables = record { globals = []; frames = []; origin = pos 1 }

-- ---- seen through a map of what names are bound to

-- the same names, each bound to what the function gives
abbrev pub mapped_bindings : {A B : Type 0} → (A → B) → Bindings A → Bindings B
mapped_bindings f bindings = map (λ b. (b.0, option_map f b.1)) bindings

-- so all variables
abbrev pub mapped : {A B : Type 0} → (A → B) → Environment A → Environment B
mapped f e = record { globals = mapped_bindings f e.globals; frames = map (mapped_bindings f) e.frames; origin = e.origin }

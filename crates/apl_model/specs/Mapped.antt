-- What is done with variables is the same before a function of what names are bound to as after it.
use Rattle.std.specs.Prelude.{◌≡◌, ℕ, ℤ, List, Option}
use Rattle.std.specs.Option.{option_map}
use Rattle.apl_model.specs.declared.scripts.Header.{Header}
use Rattle.apl_model.specs.Environment.{Bindings, Environment, look_up, set_name, erased, set_names, with_frame, without_frame, without_frames, with_origin, no_variables, mapped, mapped_bindings}
use Rattle.apl_model.specs.Frames.{frame_of, result_in}

-- what a name is bound to
abbrev pub LookUpIsMapped : Type 0 → Type 0 → Type 0
LookUpIsMapped A B = (f : A → B) (e : Environment A) (name : List ℕ) → look_up (mapped f e) name ≡ option_map f (look_up e name)

-- a name set
abbrev pub SetNameIsMapped : Type 0 → Type 0 → Type 0
SetNameIsMapped A B = (f : A → B) (e : Environment A) (name : List ℕ) (a : A) → set_name (mapped f e) name (f a) ≡ mapped f (set_name e name a)

-- globals made unset
abbrev pub ErasedIsMapped : Type 0 → Type 0 → Type 0
ErasedIsMapped A B = (f : A → B) (names : List (List ℕ)) (e : Environment A) → erased names (mapped f e) ≡ mapped f (erased names e)

-- the same names are set
abbrev pub SetNamesAreMapped : Type 0 → Type 0 → Type 0
SetNamesAreMapped A B = (f : A → B) (bindings : Bindings A) → set_names (mapped_bindings f bindings) ≡ set_names bindings

-- a frame put before the others
abbrev pub WithFrameIsMapped : Type 0 → Type 0 → Type 0
WithFrameIsMapped A B = (f : A → B) (frame : Bindings A) (e : Environment A) → with_frame (mapped_bindings f frame) (mapped f e) ≡ mapped f (with_frame frame e)

-- the innermost frame taken away
abbrev pub WithoutFrameIsMapped : Type 0 → Type 0 → Type 0
WithoutFrameIsMapped A B = (f : A → B) (e : Environment A) → without_frame (mapped f e) ≡ mapped f (without_frame e)

-- all frames taken away
abbrev pub WithoutFramesIsMapped : Type 0 → Type 0 → Type 0
WithoutFramesIsMapped A B = (f : A → B) (e : Environment A) → without_frames (mapped f e) ≡ mapped f (without_frames e)

-- another origin
abbrev pub WithOriginIsMapped : Type 0 → Type 0 → Type 0
WithOriginIsMapped A B = (f : A → B) (o : ℤ) (e : Environment A) → with_origin o (mapped f e) ≡ mapped f (with_origin o e)

-- no variables
abbrev pub NoVariablesAreMapped : Type 0 → Type 0 → Type 0
NoVariablesAreMapped A B = (f : A → B) → mapped f no_variables ≡ no_variables

-- the frame of a call
abbrev pub FrameIsMapped : Type 0 → Type 0 → Type 0
FrameIsMapped A B = (f : A → B) (number : ℕ → A) (header : Header) (labels : List (Option (List ℕ))) (left right : Option A) →
    frame_of (λ k. f (number k)) header labels (option_map f left) (option_map f right) ≡ mapped_bindings f (frame_of number header labels left right)

-- the value of the result's name
abbrev pub ResultIsMapped : Type 0 → Type 0 → Type 0
ResultIsMapped A B = (f : A → B) (e : Environment A) (name : Option (List ℕ)) → result_in (mapped f e) name ≡ option_map f (result_in e name)

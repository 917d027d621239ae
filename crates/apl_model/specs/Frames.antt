-- The frame of a call, and what turns and calls do to the state of a run.
use Rattle.std.specs.Prelude.{ℕ, suc, pos, List, [], ◌∷◌, ◌++◌, map, Option, Some, None}
use Rattle.apl_base.specs.declared.cells.Kind.TheVariants.{Num}
use Rattle.apl_base.specs.Array.{Array}
use Rattle.apl_model.specs.declared.scripts.Header.{Header}
use Rattle.apl_model.specs.Environment.{Environment, Bindings, look_up, with_frame, without_frame}
use Rattle.apl_model.specs.Evaluation.{State, with_variables}
use Rattle.apl_model.specs.Whole.{scalar}

-- ---- the frame of a call, for any type of what a name is bound to

-- a name that isn't set
abbrev pub unset : {A : Type 0} → List ℕ → List ℕ × Option A
unset name = (name, None)

-- a name that the header may have, with the argument that was given
abbrev pub argument_binding : {A : Type 0} → Option (List ℕ) → Option A → Bindings A
argument_binding None a = []
argument_binding (Some name) a = (name, a) ∷ []

-- each label with what stands for the number of its line
abbrev pub label_bindings : {A : Type 0} → (ℕ → A) → ℕ → List (Option (List ℕ)) → Bindings A
label_bindings number k [] = []
label_bindings number k (label ∷ labels) = argument_binding label (Some (number k)) ++ label_bindings number (suc k) labels

-- the names that a call declares: the result and the locals unset, the arguments with their values, the labels
abbrev pub frame_of : {A : Type 0} → (ℕ → A) → Header → List (Option (List ℕ)) → Option A → Option A → Bindings A
frame_of number header labels left right =
    argument_binding header.result None
    ++ argument_binding header.left left
    ++ argument_binding header.right right
    ++ map unset header.locals
    ++ label_bindings number 1 labels

-- the value of the result's name, where the header has one
abbrev pub result_in : {A : Type 0} → Environment A → Option (List ℕ) → Option A
result_in e None = None
result_in e (Some name) = look_up e name

-- ---- the state of a run

-- a statement begins: it takes a turn
abbrev pub with_turn : ℕ → State → State
with_turn left s = record s { turns = left; begun = suc s.begun }

-- a statement ends, and is entered behind those that have
abbrev pub with_ended : ℕ → ℕ → State → State
with_ended line number s = record s { ended = s.ended ++ record { line = line; begun = number } ∷ [] }

-- the value of a label: the number of its line
abbrev pub line_number : ℕ → Array
line_number k = scalar Num (pos k)

-- a call begins, with the frame of the function
abbrev pub with_call : Header → List (Option (List ℕ)) → Option Array → Option Array → State → State
with_call header labels left right s = with_variables (with_frame (frame_of line_number header labels left right) s.variables) s

-- a call ends
abbrev pub without_call : State → State
without_call s = with_variables (without_frame s.variables) s

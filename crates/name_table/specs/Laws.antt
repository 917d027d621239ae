-- The laws of names, each of which a public function's contract states. Those on variables are said for any type of what
-- a name is bound to, so of leaves and of arrays.
use Rattle.std.specs.Prelude.{◌≡◌, ◌≢◌, ℕ, suc, ◌+◌, ◌*◌, ◌^◌, ◌≤◌, List, [], ◌∷◌, ◌++◌, map, length, Option, None, Some}
use Rattle.std.specs.List.{IsDistinct}
use Rattle.std.specs.Option.{option_to_list}
use Rattle.drag_along.specs.declared.leaves.Leaf.{Leaf}
use Rattle.apl_model.specs.declared.scripts.Header.{Header}
use Rattle.apl_model.specs.Environment.{Environment, is_same_name, look_up, set_name, erased, with_frame}
use Rattle.apl_model.specs.Frames.{unset, frame_of}
use Rattle.leaf_names.specs.Variables.{named_by_names}
use Rattle.name_table.specs.Scopes.{AreAllNames}

-- ---- one name and the others

-- a name that was set is found
abbrev pub SetIsFound : Type 0 → Type 0
SetIsFound A = (e : Environment A) (name : List ℕ) (a : A) → look_up (set_name e name a) name ≡ Some a

-- and every other name is bound to what it was bound to
abbrev pub SetLeavesOthers : Type 0 → Type 0
SetLeavesOthers A =
    (e : Environment A) (name other : List ℕ) (a : A) → other ≢ name
    → look_up (set_name e name a) other ≡ look_up e other

-- a global that was erased is unset
abbrev pub ErasedIsUnset : Type 0 → Type 0
ErasedIsUnset A =
    (e : Environment A) (name : List ℕ) → e.frames ≡ [] → look_up (erased (name ∷ []) e) name ≡ None

-- and every other name is bound to what it was bound to
abbrev pub ErasedLeavesOthers : Type 0 → Type 0
ErasedLeavesOthers A =
    (e : Environment A) (name other : List ℕ) → other ≢ name
    → look_up (erased (name ∷ []) e) other ≡ look_up e other

-- ---- the frame of a call

-- the names of labels
abbrev pub label_names : List (Option (List ℕ)) → List (List ℕ)
label_names [] = []
label_names (label ∷ labels) = option_to_list label ++ label_names labels

-- the names that a call declares: the result, the arguments, the locals and the labels
abbrev pub declared_by : Header → List (Option (List ℕ)) → List (List ℕ)
declared_by header labels =
    option_to_list header.result ++ option_to_list header.left ++ option_to_list header.right ++ header.locals
    ++ label_names labels

-- an argument set, where the header has a name for it and it was given
abbrev pub with_argument : {A : Type 0} → Option (List ℕ) → Option A → Environment A → Environment A
with_argument None a e = e
with_argument (Some name) None e = e
with_argument (Some name) (Some a) e = set_name e name a

-- each label set to what stands for its number, one after the other
abbrev pub with_labels : {A : Type 0} → (ℕ → A) → ℕ → List (Option (List ℕ)) → Environment A → Environment A
with_labels number k [] e = e
with_labels number k (label ∷ labels) e = with_labels number (suc k) labels (with_argument label (Some (number k)) e)

-- where these names differ, a frame of them, all unset, becomes the frame of the call by setting the arguments and then
-- the labels
abbrev pub CallFrameIsFilled : Type 0 → Type 0
CallFrameIsFilled A =
    (number : ℕ → A) (header : Header) (labels : List (Option (List ℕ))) (left right : Option A) (e : Environment A)
    → IsDistinct is_same_name (declared_by header labels)
    → with_labels number 1 labels (with_argument header.right right (with_argument header.left left
    (with_frame (map unset (declared_by header labels)) e)))
    ≡ with_frame (frame_of number header labels left right) e

-- ---- how often an owner is named

-- less than 2^64 times by the globals, and by each frame
abbrev pub NamedAtMost : Type 0
NamedAtMost =
    (names : Environment Leaf) (key : ℕ) → AreAllNames names
    → named_by_names names key ≤ (length names.frames + 1) * 2 ^ 64

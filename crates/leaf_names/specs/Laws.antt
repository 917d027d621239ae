-- The laws of variables that are bound to leaves, each of which a public function's contract states.
use Rattle.std.specs.Prelude.{◌≡◌, ℕ, ◌+◌, ◌≤◌, ℤ, List, Some}
use Rattle.std.specs.Option.{ForSome}
use Rattle.array_store.specs.Stores.{StoreView}
use Rattle.drag_along.specs.declared.leaves.Leaf.{Leaf}
use Rattle.drag_along.specs.Nodes.{named_by_leaf}
use Rattle.drag_along.specs.Lawful.{IsLawfulLeaf, SameData}
use Rattle.apl_model.specs.Environment.{Bindings, Environment, bound_in, look_up, set_name, unset_global, with_frame}
use Rattle.leaf_names.specs.Variables.{named_by_option, named_by_bindings, named_by_names, AreLawfulNames, FillsOwner, FillOwners, variables_of}

-- ---- how often an owner is named

-- a name that is set to a leaf lets go of the one that it was bound to
abbrev pub NamedBySet : Type 0
NamedBySet =
    (names : Environment Leaf) (name : List ℕ) (leaf : Leaf) (key : ℕ)
    → named_by_names (set_name names name leaf) key + named_by_option (look_up names name) key
    ≡ named_by_names names key + named_by_leaf leaf key

-- the leaf that a name is bound to is one of them
abbrev pub NamedByFound : Type 0
NamedByFound =
    (names : Environment Leaf) (name : List ℕ) (key : ℕ)
    → named_by_option (look_up names name) key ≤ named_by_names names key

-- a global that is made unset lets go of its leaf
abbrev pub NamedByUnset : Type 0
NamedByUnset =
    (globals : Bindings Leaf) (name : List ℕ) (key : ℕ)
    → named_by_bindings (unset_global globals name) key + named_by_option (bound_in globals name) key
    ≡ named_by_bindings globals key

-- a frame adds its leaves
abbrev pub NamedByFrame : Type 0
NamedByFrame =
    (frame : Bindings Leaf) (names : Environment Leaf) (key : ℕ)
    → named_by_names (with_frame frame names) key ≡ named_by_bindings frame key + named_by_names names key

-- ---- what is so of each leaf

-- the leaf that a name is bound to is lawful
abbrev pub FoundIsLawful : Type 0
FoundIsLawful =
    (store : StoreView) (names : Environment Leaf) (name : List ℕ) → AreLawfulNames store names
    → ForSome (look_up names name) (IsLawfulLeaf store)

-- names stay lawful where one is set to a lawful leaf
abbrev pub SetIsLawful : Type 0
SetIsLawful =
    (store : StoreView) (names : Environment Leaf) (name : List ℕ) (leaf : Leaf)
    → AreLawfulNames store names → IsLawfulLeaf store leaf
    → AreLawfulNames store (set_name names name leaf)

-- and fill their owners where the leaf does
abbrev pub SetFills : Type 0
SetFills =
    (store : StoreView) (names : Environment Leaf) (name : List ℕ) (leaf : Leaf)
    → FillOwners store names → FillsOwner store leaf → FillOwners store (set_name names name leaf)

-- a name that is set to the leaf that it is bound to: all is as it was
abbrev pub SetAgain : Type 0
SetAgain =
    (names : Environment Leaf) (name : List ℕ) (leaf : Leaf) → look_up names name ≡ Some leaf
    → set_name names name leaf ≡ names

-- ---- over another store

-- where the owners that they name have the same data, names are lawful as before, and stand for the same variables
abbrev pub NamesKept : Type 0
NamesKept =
    (old new : StoreView) (names : Environment Leaf) → SameData old new (named_by_names names)
    → AreLawfulNames old names
    → AreLawfulNames new names × ((origin : ℤ) → variables_of new origin names ≡ variables_of old origin names)

-- and fill their owners as before
abbrev pub FillingKept : Type 0
FillingKept =
    (old new : StoreView) (names : Environment Leaf) → SameData old new (named_by_names names)
    → FillOwners old names → FillOwners new names

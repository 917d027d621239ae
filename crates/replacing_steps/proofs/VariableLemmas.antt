-- Variables of which one was written.
use Rattle.std.proofs.Common.{◌≡◌, ℕ, ◌≤◌, Bool, true, false, ◌||◌, ℤ, pos, List, [], ◌∷◌, Option, Some, refl, sym, ap, subst, ◌∙◌, arith}
use Rattle.std.specs.Prelude.{if◌then◌else◌}
use Rattle.apl_base.specs.declared.cells.Kind.TheVariants.{Num}
use Rattle.apl_base.specs.Array.{Array}
use Rattle.array_store.specs.Stores.{StoreView, holders_of}
use Rattle.drag_along.specs.declared.leaves.Leaf.{Leaf}
use Rattle.drag_along.specs.declared.leaves.Leaf.TheVariants.{Gen}
use Rattle.drag_along.specs.Nodes.{named_by_leaf}
use Rattle.drag_along.specs.Lawful.{IsLawfulLeaf, SameData}
use Rattle.apl_model.specs.Environment.{Bindings, Environment, is_same_name, declares, bound_to, look_up, set_in_frames, declared_in, set_name, mapped, with_origin}
use Rattle.apl_model.proofs.Mapped.{set_name_is_mapped}
use Rattle.leaf_names.specs.Variables.{named_by_option, named_by_names, AreLawfulNames, FillOwners, FillsOwner, array_of, variables_of}
use Rattle.leaf_names.proofs.CountLemmas.{set_name-named}
use Rattle.leaf_names.proofs.EachLemmas.{set_again, set_name-each}
use Rattle.leaf_names.proofs.KeptLemmas.{variables_kept, lawful_kept, filling_kept}
use Rattle.drag_along.specs.Segments.{SegmentView}
use Rattle.value_stack.specs.Stacks.{named_on}
use Rattle.replacing_steps.specs.Writes.{WritesCells}
use Rattle.apl_model.proofs.SameNames.{same_self}

-- ---- set twice is set once

module _ {A : Type 0} where
  bound_twice : (bs : Bindings A) (name : List ℕ) (x y : A) → bound_to (bound_to bs name (Some x)) name (Some y) ≡ bound_to bs name (Some y)
  bound_twice [] name x y = ap (λ (t : Bool). if t then (name, Some y) ∷ [] else (name, Some x) ∷ (name, Some y) ∷ []) (same_self name)
  bound_twice (b ∷ bs) name x y = by (is_same_name b.0 name) refl (bound_twice bs name x y)
    where
      by : (t : Bool) → is_same_name b.0 name ≡ t → bound_to (bound_to bs name (Some x)) name (Some y) ≡ bound_to bs name (Some y) → bound_to (if t then (name, Some x) ∷ bs else b ∷ bound_to bs name (Some x)) name (Some y) ≡ (if t then (name, Some y) ∷ bs else b ∷ bound_to bs name (Some y))
      by true e again = ap (λ (t : Bool). if t then (name, Some y) ∷ bs else (name, Some x) ∷ bound_to bs name (Some y)) (same_self name)
      by false e again =
          ap (λ (t : Bool). if t then (name, Some y) ∷ bound_to bs name (Some x) else b ∷ bound_to (bound_to bs name (Some x)) name (Some y)) e
          ∙ ap (λ (cs : Bindings A). b ∷ cs) again

  bound_declares : (bs : Bindings A) (name : List ℕ) (x : A) → declares (bound_to bs name (Some x)) name ≡ true
  bound_declares [] name x = ap (λ (t : Bool). t || false) (same_self name)
  bound_declares (b ∷ bs) name x = by (is_same_name b.0 name) refl (bound_declares bs name x)
    where
      by : (t : Bool) → is_same_name b.0 name ≡ t → declares (bound_to bs name (Some x)) name ≡ true → declares (if t then (name, Some x) ∷ bs else b ∷ bound_to bs name (Some x)) name ≡ true
      by true e again = ap (λ (t : Bool). t || declares bs name) (same_self name)
      by false e again = ap (λ (t : Bool). t || declares (bound_to bs name (Some x)) name) e ∙ again

  frames_declare : (fs : List (Bindings A)) (name : List ℕ) (x : A) → declared_in (set_in_frames fs name x) name ≡ declared_in fs name
  frames_declare [] name x = refl
  frames_declare (f ∷ fs) name x = by (declares f name) refl (frames_declare fs name x)
    where
      by : (t : Bool) → declares f name ≡ t → declared_in (set_in_frames fs name x) name ≡ declared_in fs name → declared_in (if t then bound_to f name (Some x) ∷ fs else f ∷ set_in_frames fs name x) name ≡ t || declared_in fs name
      by true e again = ap (λ (t : Bool). t || declared_in fs name) (bound_declares f name x)
      by false e again = ap (λ (t : Bool). t || declared_in (set_in_frames fs name x) name) e ∙ again

  frames_twice : (fs : List (Bindings A)) (name : List ℕ) (x y : A) → set_in_frames (set_in_frames fs name x) name y ≡ set_in_frames fs name y
  frames_twice [] name x y = refl
  frames_twice (f ∷ fs) name x y = by (declares f name) refl (frames_twice fs name x y)
    where
      by : (t : Bool) → declares f name ≡ t → set_in_frames (set_in_frames fs name x) name y ≡ set_in_frames fs name y → set_in_frames (if t then bound_to f name (Some x) ∷ fs else f ∷ set_in_frames fs name x) name y ≡ (if t then bound_to f name (Some y) ∷ fs else f ∷ set_in_frames fs name y)
      by true e again =
          ap (λ (t : Bool). if t then bound_to (bound_to f name (Some x)) name (Some y) ∷ fs else bound_to f name (Some x) ∷ set_in_frames fs name y) (bound_declares f name x)
          ∙ ap (λ (g : Bindings A). g ∷ fs) (bound_twice f name x y)
      by false e again =
          ap (λ (t : Bool). if t then bound_to f name (Some y) ∷ set_in_frames fs name x else f ∷ set_in_frames (set_in_frames fs name x) name y) e
          ∙ ap (λ (gs : List (Bindings A)). f ∷ gs) again

  pub set_twice : (e : Environment A) (name : List ℕ) (x y : A) → set_name (set_name e name x) name y ≡ set_name e name y
  set_twice e name x y = by (declared_in e.frames name) refl
    where
      by : (t : Bool) → declared_in e.frames name ≡ t → set_name (if t then record e { frames = set_in_frames e.frames name x } else record e { globals = bound_to e.globals name (Some x) }) name y ≡ (if t then record e { frames = set_in_frames e.frames name y } else record e { globals = bound_to e.globals name (Some y) })
      by true is =
          ap (λ (t : Bool). if t then record e { frames = set_in_frames (set_in_frames e.frames name x) name y } else record e { frames = set_in_frames e.frames name x; globals = bound_to e.globals name (Some y) }) (frames_declare e.frames name x ∙ is)
          ∙ ap (λ (fs : List (Bindings A)). record e { frames = fs }) (frames_twice e.frames name x y)
      by false is =
          ap (λ (t : Bool). if t then record e { frames = set_in_frames e.frames name y; globals = bound_to e.globals name (Some x) } else record e { globals = bound_to (bound_to e.globals name (Some x)) name (Some y) }) is
          ∙ ap (λ (gs : Bindings A). record e { globals = gs }) (bound_twice e.globals name x y)

-- ---- the variables

-- a leaf that is not stored
abbrev gen : Leaf
gen = Gen (record { base = pos 0; strides = []; shape = [] }) Num

-- the origin is no name
set_beside : (o : ℤ) (e : Environment Array) (name : List ℕ) (x : Array) → set_name (with_origin o e) name x ≡ with_origin o (set_name e name x)
set_beside o e name x = by (declared_in e.frames name)
  where
    by : (t : Bool) → (if t then record (with_origin o e) { frames = set_in_frames e.frames name x } else record (with_origin o e) { globals = bound_to e.globals name (Some x) }) ≡ with_origin o (if t then record e { frames = set_in_frames e.frames name x } else record e { globals = bound_to e.globals name (Some x) })
    by true = refl
    by false = refl

set_variables : (store : StoreView) (o : ℤ) (names : Environment Leaf) (name : List ℕ) (leaf : Leaf) → set_name (variables_of store o names) name (array_of store leaf) ≡ variables_of store o (set_name names name leaf)
set_variables store o names name leaf =
    set_beside o (mapped (array_of store) names) name (array_of store leaf)
    ∙ ap (with_origin o) (set_name_is_mapped Leaf Array (array_of store) names name leaf)

-- ---- an owner that one name alone names

-- no entry names the owner, one leaf of a name does, and names and entries hold what they name
pub record IsNamedOnce (store : StoreView) (names : Environment Leaf) (stack : List SegmentView) (key : ℕ) : Type 0 where
  pub unread : named_on stack key ≡ 0
  pub once : named_by_names names key ≤ 1
  pub holds : (other : ℕ) → named_by_names names other ≤ holders_of store other
  pub entries : (other : ℕ) → named_on stack other ≤ holders_of store other

-- what follows speaks of the names with a leaf that is not stored in the place of this one
-- nothing that these name was written
rest_same : (old new : StoreView) (names : Environment Leaf) (stack : List SegmentView) (key : ℕ) (cells : List ℤ) (name : List ℕ) (leaf : Leaf) → WritesCells old new key cells → look_up names name ≡ Some leaf → IsNamedOnce old names stack key → named_by_leaf leaf key ≡ 1
    → SameData old new (named_by_names (set_name names name gen))
rest_same old new names stack key cells name leaf w found once mine =
    let rest : Environment Leaf = set_name names name gen in
    let count = λ (other : ℕ). set_name-named names name gen other in
    let named = λ (other : ℕ). ap (λ (l : Option Leaf). named_by_option l other) found in
    let unnamed : named_by_names rest key ≡ 0 = omega (arith, count key, named key, once.once, mine) in
    record {
      live = λ other some. omega (arith, count other, named other, once.holds other, some, w.holders other);
      kept = λ other some. w.others other (λ e. omega (arith, ap (named_by_names rest) e, unnamed, some));
    }

rest_back : (names : Environment Leaf) (name : List ℕ) (leaf : Leaf) → look_up names name ≡ Some leaf → set_name (set_name names name gen) name leaf ≡ names
rest_back names name leaf found = set_twice names name gen leaf ∙ set_again names name leaf found

-- all names are lawful afterwards, where the leaf is
pub written_names : (old new : StoreView) (names : Environment Leaf) (stack : List SegmentView) (key : ℕ) (cells : List ℤ) (name : List ℕ) (leaf : Leaf) → WritesCells old new key cells → look_up names name ≡ Some leaf → IsNamedOnce old names stack key → named_by_leaf leaf key ≡ 1
    → AreLawfulNames old names → FillOwners old names → IsLawfulLeaf new leaf → FillsOwner new leaf → AreLawfulNames new names × FillOwners new names
written_names old new names stack key cells name leaf w found once mine lawful filling this fills =
    let rest : Environment Leaf = set_name names name gen in
    let same : SameData old new (named_by_names rest) = rest_same old new names stack key cells name leaf w found once mine in
    let back : set_name rest name leaf ≡ names = rest_back names name leaf found in (
      subst (AreLawfulNames new) back (set_name-each (IsLawfulLeaf new) rest name leaf (lawful_kept old new rest same (set_name-each (IsLawfulLeaf old) names name gen lawful tt)) this),
      subst (FillOwners new) back (set_name-each (FillsOwner new) rest name leaf (filling_kept old new rest same (set_name-each (FillsOwner old) names name gen filling tt)) fills),
    )

-- all other leaves of names keep their arrays
pub written_variables : (old new : StoreView) (key : ℕ) (cells : List ℤ) (names : Environment Leaf) (stack : List SegmentView) (name : List ℕ) (leaf : Leaf) (o : ℤ) → WritesCells old new key cells → look_up names name ≡ Some leaf → IsNamedOnce old names stack key → named_by_leaf leaf key ≡ 1
    → AreLawfulNames old names → variables_of new o names ≡ set_name (variables_of old o names) name (array_of new leaf)
written_variables old new key cells names stack name leaf o w found once mine lawful =
    let rest : Environment Leaf = set_name names name gen in
    let same : SameData old new (named_by_names rest) = rest_same old new names stack key cells name leaf w found once mine in
    let kept : variables_of new o rest ≡ variables_of old o rest = variables_kept old new rest same (set_name-each (IsLawfulLeaf old) names name gen lawful tt) o in
    let a : Array = array_of new leaf in
    ap (variables_of new o) (sym (rest_back names name leaf found))
    ∙ sym (set_variables new o rest name leaf)
    ∙ ap (λ (e : Environment Array). set_name e name a) (kept ∙ sym (set_variables old o names name gen))
    ∙ set_twice (variables_of old o names) name (array_of old gen) a

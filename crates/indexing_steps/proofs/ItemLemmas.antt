-- Positions that are scalars or numbers in progression, and what they keep of their axes.
use Rattle.std.proofs.Common.{◌≡◌, ◌≢◌, true≢false, ◌==◌, ℕ, zero, suc, ◌+◌, ◌<◌, Bool, true, false, not, ◌&&◌, ◌||◌, ℤ, pos, List, [], ◌∷◌, ◌++◌, length, take, get_or, Option, Some, None, refl, sym, ap, subst, ◌∙◌, arith, add-one}
use Rattle.std.specs.Prelude.{All, IfSome}
use Rattle.std.specs.List.{list_any, list_all}
use Rattle.std.specs.Option.{option_map}
use Rattle.std.proofs.Math.Seq.{take-suc, take-length}
use Rattle.std.proofs.lemmas.Bool.{eqb-true}
use Rattle.std.proofs.lemmas.Int.{ints}
use Rattle.std.proofs.lemmas.List.{get_or-map, length-map, map-append}
use Rattle.apl_base.specs.declared.cells.Kind.{Kind}
use Rattle.apl_base.specs.declared.cells.Kind.TheVariants.{Num, Char}
use Rattle.apl_base.specs.Array.{Array, IsArray, size_of}
use Rattle.apl_base.specs.Number.{IsNumber, IsCell}
use Rattle.apl_base.proofs.Booleans.{by_false, neither_part, list_all-each}
use Rattle.apl_base.proofs.Elements.{tabulated-count}
use Rattle.apl_base.proofs.Lists.{all_place}
use Rattle.array_desc.specs.Desc.{IsDesc}
use Rattle.array_store.specs.Stores.{StoreView, IsStore}
use Rattle.array_store.specs.Counting.{OnlyCounted}
use Rattle.drag_along.specs.declared.leaves.Leaf.{Leaf}
use Rattle.drag_along.specs.Nodes.{leaf_desc, leaf_kind, leaf_shape}
use Rattle.drag_along.specs.Meaning.{leaf_cell}
use Rattle.drag_along.specs.Lawful.{IsLawfulLeaf}
use Rattle.e_machine.proofs.CountedLemmas.{lawful_leaf-counted, leaf_array-counted}
use Rattle.beating.specs.declared.runs.Run.{Run}
use Rattle.beating.specs.declared.selections.Item.{Item}
use Rattle.beating.specs.Runs.{IsRunOf, run_value}
use Rattle.beating.specs.Positions.{ArePositions, OnAxis, LeavesAxis, IsItemOf}
use Rattle.apl_model.specs.Whole.{is_char, is_text, first}
use Rattle.apl_model.specs.Subscript.{is_text_position, is_place, in_axis, in_axes}
use Rattle.apl_model_laws.proofs.Arrays.{first-lawful}
use Rattle.made_leaf.proofs.MadeLemmas.{leaf_is_array}
use Rattle.leaf_names.specs.Variables.{array_of}
use Rattle.pending_laws.specs.Joins.{IsComplete}
use Rattle.pending_laws.specs.Subscripts.{lone_number, KeepsPositions, IsItemAt, AreItems}
use Rattle.pending_laws.proofs.SubscriptLemmas.{place-named, runs_are_in_progression, scalars_are_in_progression}
use Rattle.indexing_steps.specs.Choices.{IsProgression}
use Rattle.indexing_steps.specs.Operands.{arrays_of}
use Rattle.apl_base.proofs.ShapeLemmas.{no_axes}

-- ---- leaves that are no characters

pub complete : (store : StoreView) (leaf : Leaf) → IsComplete (array_of store leaf)
complete store leaf = tabulated-count (leaf_kind leaf) (leaf_shape leaf) (leaf_cell store leaf)

number-by : (k : Kind) (empty : Bool) → is_char k && not empty ≡ false → empty ≡ false → k ≡ Num
number-by Num empty h e = refl
number-by Char empty h e = absurd (cc (ap not e))

pub is_number_leaf : (store : StoreView) (leaf : Leaf) → is_text (array_of store leaf) ≡ false → (size_of (leaf_shape leaf) == 0) ≡ false → leaf_kind leaf ≡ Num
is_number_leaf store leaf h e = number-by (leaf_kind leaf) (size_of (leaf_shape leaf) == 0) h e

pub not_zero : (n : ℕ) → n ≢ 0 → (n == 0) ≡ false
not_zero n h = by_false (n == 0) (n ≡ 0) (eqb-true n 0) (λ e. h e)

-- ---- progressions

one_number : (z : ℤ) (j : ℕ) → j < 1 → run_value (lone_number z) j ≡ z
one_number z zero h = omega (arith, ints)
one_number z (suc j) h = absurd (omega (arith, h))

-- the first cell of a scalar
pub scalar_is : (store : StoreView) (leaf : Leaf) (z : ℤ) → IsStore store → IsDesc (leaf_desc leaf) → IsLawfulLeaf store leaf → is_text (array_of store leaf) ≡ false → length (leaf_shape leaf) ≡ 0 → z ≡ first (array_of store leaf) → IsProgression (array_of store leaf) (lone_number z) true
scalar_is store leaf z ok desc lawful text none is =
    let a : Array = array_of store leaf in
    let one : size_of (leaf_shape leaf) ≡ 1 = no_axes (leaf_shape leaf) none in
    let kind : leaf_kind leaf ≡ Num = is_number_leaf store leaf text (not_zero (size_of (leaf_shape leaf)) (λ e. omega (arith, e, one))) in
    let whole : IsArray a = leaf_is_array store leaf ok desc lawful in
    let number : IsNumber (first a) = subst (λ (k : Kind). IsCell k (first a)) kind (first-lawful a whole.cells) in
    subst (λ (y : ℤ). IsProgression a (lone_number y) true) (sym is) (record {
      progression = scalars_are_in_progression a kind (complete store leaf) none;
      lawful = record {
        numbers = λ j below. subst IsNumber (sym (one_number (first a) j below)) number;
        step = λ h. refl;
        one = λ h. refl;
      };
    })

no_run : Run
no_run = record { from = pos 0; step = pos 0; n = 0 }

axis_of_none : (ns : List ℕ) → length ns ≡ 1 → size_of ns ≡ 0 → ns ≡ 0 ∷ []
axis_of_none [] h e = absurd (omega (arith, h))
axis_of_none (n ∷ []) h e = let same : n ≡ 0 = omega (arith, e) in ap (λ (k : ℕ). k ∷ []) same
axis_of_none (n ∷ k ∷ ns) h e = absurd (omega (arith, h))

-- no positions
pub empty_is : (store : StoreView) (leaf : Leaf) → is_text (array_of store leaf) ≡ false → length (leaf_shape leaf) ≡ 1 → size_of (leaf_shape leaf) ≡ 0 → IsProgression (array_of store leaf) (record { from = pos 0; step = pos 0; n = 0 }) false
empty_is store leaf text one none =
    let empty : length (array_of store leaf).cells ≡ 0 = complete store leaf ∙ none in
    record {
      progression = record {
        numbers = text;
        run = record { count = sym empty; each = λ j below. absurd (omega (arith, below, empty)); step = λ h. refl; from = λ h. refl };
        shape = axis_of_none (leaf_shape leaf) one none;
        complete = complete store leaf;
      };
      lawful = record { numbers = λ j below. absurd (omega (arith, below)); step = λ h. refl; one = λ h. absurd cc };
    }

-- numbers of one axis in progression
pub vector_is : (store : StoreView) (leaf : Leaf) (r : Run) → leaf_kind leaf ≡ Num → length (leaf_shape leaf) ≡ 1 → IsRunOf (array_of store leaf).cells r → ArePositions r false → IsProgression (array_of store leaf) r false
vector_is store leaf r kind one are lawful = record {
  progression = runs_are_in_progression (array_of store leaf) r kind (complete store leaf) one are;
  lawful = lawful;
}

-- ---- on their axes

pub kept_is : (o : ℤ) (n : ℕ) (p : Array) (r : Run) (is_scalar : Bool) (kept : Item) → IsProgression p r is_scalar → OnAxis o n r → IsItemOf o n r is_scalar kept → KeepsPositions o n p kept
kept_is o n p r is_scalar kept h on is = record { run = r; is_scalar = is_scalar; progression = h.progression; on_axis = on; places = is }

pub off_axis : (o : ℤ) (n : ℕ) (p : Array) (r : Run) (is_scalar : Bool) → IsProgression p r is_scalar → LeavesAxis o n r → in_axis o n (Some p) ≡ false
off_axis o n p r is_scalar h off =
    by_false (list_all (is_place o n) p.cells) ⊥ (λ all.
    let run : IsRunOf p.cells r = h.progression.run in
    let below : off.0 < length p.cells = omega (arith, off.1, run.count) in
    let here : is_place o n (get_or p.cells off.0 (pos 0)) ≡ true = all_place (λ v. is_place o n v ≡ true) p.cells off.0 (pos 0) (list_all-each (is_place o n) p.cells all) below in
    off.2 (place-named o n (run_value r off.0) (ap (is_place o n) (sym (run.each off.0 below)) ∙ here))) (λ b. b)

-- ---- one position after the other

pub take_more : {A : Type 0} (xs : List A) (k : ℕ) (d x : A) → k < length xs → x ≡ get_or xs k d → take (k + 1) xs ≡ take k xs ++ x ∷ []
take_more {A} xs k d x below e = rw add-one (take-suc xs k d below ∙ ap (λ (y : A). take k xs ++ y ∷ []) (sym e))

items_push : (o : ℤ) (ns : List ℕ) (ps : List (Option Array)) (items : List Item) (n : ℕ) (p : Option Array) (i : Item) → AreItems o ns ps items → IsItemAt o n p i → AreItems o (ns ++ n ∷ []) (ps ++ p ∷ []) (items ++ i ∷ [])
items_push o [] [] [] n p i h r = (r, tt)
items_push o (m ∷ ns) (q ∷ ps) (j ∷ items) n p i h r = (h.0, items_push o ns ps items n p i h.1 r)
items_push o [] [] (j ∷ items) n p i h r = absurd h
items_push o [] (q ∷ ps) items n p i h r = absurd h
items_push o (m ∷ ns) [] items n p i h r = absurd h
items_push o (m ∷ ns) (q ∷ ps) [] n p i h r = absurd h

-- the items of the first k axes
pub record AreFirst (o : ℤ) (ns : List ℕ) (ps : List (Option Array)) (k : ℕ) (items : List Item) : Type 0 where
  pub items_are : AreItems o (take k ns) (take k ps) items
  pub number : length items ≡ k

pub array_at : (store : StoreView) (leaves : List (Option Leaf)) (k : ℕ) (p : Option Leaf) → k < length leaves → p ≡ get_or leaves k p → option_map (array_of store) p ≡ get_or (arrays_of store leaves) k (option_map (array_of store) p)
array_at store leaves k p below e =
    ap (option_map (array_of store)) e ∙ sym (get_or-map (option_map (array_of store)) leaves k p (option_map (array_of store) p) below)

pub arrays-long : (store : StoreView) (leaves : List (Option Leaf)) → length (arrays_of store leaves) ≡ length leaves
arrays-long store leaves = length-map leaves (option_map (array_of store))

pub first_more : (o : ℤ) (ns : List ℕ) (ps : List (Option Array)) (k n : ℕ) (p : Option Array) (items after : List Item) (i : Item) → AreFirst o ns ps k items → k < length ns → k < length ps → n ≡ get_or ns k 0 → p ≡ get_or ps k p → IsItemAt o n p i → after ≡ items ++ i ∷ [] → AreFirst o ns ps (k + 1) after
first_more o ns ps k n p items after i f low below e g h is =
    let pushed : AreItems o (take k ns ++ n ∷ []) (take k ps ++ p ∷ []) (items ++ i ∷ []) = items_push o (take k ns) (take k ps) items n p i f.items_are h in
    record {
      items_are =
          subst (λ (js : List Item). AreItems o (take (k + 1) ns) (take (k + 1) ps) js) (sym is)
          (subst (λ (qs : List (Option Array)). AreItems o (take (k + 1) ns) qs (items ++ i ∷ [])) (sym (take_more ps k p p below g))
          (subst (λ (ms : List ℕ). AreItems o ms (take k ps ++ p ∷ []) (items ++ i ∷ [])) (sym (take_more ns k 0 n low e)) pushed));
      number = ap (λ (js : List Item). length js) is ∙ length_more items i ∙ ap (λ (m : ℕ). m + 1) f.number;
    }
  where
    length_more : (js : List Item) (j : Item) → length (js ++ j ∷ []) ≡ length js + 1
    length_more [] j = refl
    length_more (x ∷ js) j = omega (arith, length_more js j)

-- no position is characters
pub none_text : (ps : List (Option Array)) (k : ℕ) (p : Option Array) → list_any is_text_position ps ≡ false → k < length ps → p ≡ get_or ps k p → is_text_position p ≡ false
none_text [] k p h below e = absurd (omega (arith, below))
none_text (q ∷ ps) zero p h below e = ap is_text_position e ∙ (neither_part (is_text_position q) (list_any is_text_position ps) h).0
none_text (q ∷ ps) (suc k) p h below e = none_text ps k p (neither_part (is_text_position q) (list_any is_text_position ps) h).1 (omega (arith, below)) e

-- one position that is
pub some_text : (ps : List (Option Array)) (k : ℕ) (p : Option Array) → k < length ps → p ≡ get_or ps k p → is_text_position p ≡ true → list_any is_text_position ps ≡ true
some_text ps k p below e h = by (list_any is_text_position ps) refl
  where
    by : (t : Bool) → list_any is_text_position ps ≡ t → t ≡ true
    by true f = refl
    by false f = absurd (true≢false (sym h ∙ none_text ps k p f below e))

-- one position more that isn't
any_push : (ps : List (Option Array)) (p : Option Array) → list_any is_text_position ps ≡ false → is_text_position p ≡ false → list_any is_text_position (ps ++ p ∷ []) ≡ false
any_push [] p h g = ap (λ (t : Bool). t || false) g
any_push (q ∷ ps) p h g =
    let parts = neither_part (is_text_position q) (list_any is_text_position ps) h in
    ap (λ (t : Bool). t || list_any is_text_position (ps ++ p ∷ [])) parts.0 ∙ any_push ps p parts.1 g

pub no_more_text : (store : StoreView) (leaves : List (Option Leaf)) (k : ℕ) (p : Option Leaf) → list_any is_text_position (arrays_of store (take k leaves)) ≡ false → k < length leaves → p ≡ get_or leaves k p → is_text_position (option_map (array_of store) p) ≡ false → list_any is_text_position (arrays_of store (take (k + 1) leaves)) ≡ false
no_more_text store leaves k p h below e g =
    ap (λ (xs : List (Option Leaf)). list_any is_text_position (arrays_of store xs)) (take_more leaves k p p below e)
    ∙ ap (list_any is_text_position) (map-append (option_map (array_of store)) (take k leaves) (p ∷ []))
    ∙ any_push (arrays_of store (take k leaves)) (option_map (array_of store) p) h g

pub no_text_at_all : (store : StoreView) (leaves : List (Option Leaf)) (k : ℕ) → list_any is_text_position (arrays_of store (take k leaves)) ≡ false → k ≡ length leaves → list_any is_text_position (arrays_of store leaves) ≡ false
no_text_at_all store leaves k h e =
    ap (λ (xs : List (Option Leaf)). list_any is_text_position (arrays_of store xs)) (sym (take-length leaves) ∙ ap (λ (n : ℕ). take n leaves) (sym e)) ∙ h

and_false : (b : Bool) → b && false ≡ false
and_false true = refl
and_false false = refl

-- one position that leaves its axis
pub one_off : (o : ℤ) (ns : List ℕ) (ps : List (Option Array)) (k n : ℕ) (p : Option Array) → k < length ns → k < length ps → n ≡ get_or ns k 0 → p ≡ get_or ps k p → in_axis o n p ≡ false → in_axes o ns ps ≡ false
one_off o [] ps k n p low below e g h = absurd (omega (arith, low))
one_off o (m ∷ ns) [] k n p low below e g h = absurd (omega (arith, below))
one_off o (m ∷ ns) (q ∷ ps) zero n p low below e g h =
    let same : in_axis o m q ≡ false = ap (λ (l : ℕ). in_axis o l q) (sym e) ∙ ap (in_axis o n) (sym g) ∙ h in
    ap (λ (b : Bool). b && in_axes o ns ps) same
one_off o (m ∷ ns) (q ∷ ps) (suc k) n p low below e g h =
    ap (λ (b : Bool). in_axis o m q && b) (one_off o ns ps k n p (omega (arith, low)) (omega (arith, below)) e g h) ∙ and_false (in_axis o m q)

-- ---- over a store that only counted

pub array_counted : (old new : StoreView) (p : Option Leaf) → OnlyCounted old new → option_map (array_of new) p ≡ option_map (array_of old) p
array_counted old new None only = refl
array_counted old new (Some leaf) only = ap (λ (a : Array). Some a) (leaf_array-counted old new (leaf_shape leaf) leaf only)

pub lawful_counted : (old new : StoreView) (leaves : List (Option Leaf)) (k : ℕ) (p : Option Leaf) → OnlyCounted old new → All (λ q. IfSome q (IsLawfulLeaf old)) leaves → k < length leaves → p ≡ get_or leaves k p → IfSome p (IsLawfulLeaf new)
lawful_counted old new leaves k p only all below e = by p (subst (λ (q : Option Leaf). IfSome q (IsLawfulLeaf old)) (sym e) (all k p below))
  where
    by : (q : Option Leaf) → IfSome q (IsLawfulLeaf old) → IfSome q (IsLawfulLeaf new)
    by None h = tt
    by (Some leaf) h = lawful_leaf-counted old new leaf only h

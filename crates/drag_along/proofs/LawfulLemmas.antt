-- Lemmas on what segments have in common, and on lawful ones.
use Rattle.std.proofs.Common.{◌≡◌, ℕ, ◌+◌, ◌<◌, Bool, List, [], ◌∷◌, ◌++◌, length, map, Option, Some, None, refl, sym, ap, ◌∙◌, subst, arith}
use Rattle.std.specs.List.{AllByRecursion, zip}
use Rattle.std.proofs.lemmas.List.{length-map}
use Rattle.std.proofs.lemmas.Slice.Zip.{length-zip}
use Rattle.apl_base.specs.declared.cells.Kind.TheVariants.{Num}
use Rattle.apl_base.specs.declared.cells.Elem.{Elem}
use Rattle.apl_base.specs.declared.cells.Interval.{Interval}
use Rattle.apl_base.specs.declared.faults.Place.{Place}
use Rattle.apl_base.specs.declared.rows.Mon.{Mon}
use Rattle.apl_base.specs.declared.rows.Dya.{Dya}
use Rattle.apl_base.specs.Array.{Array, size_of}
use Rattle.apl_base.specs.Interval.{IsInterval}
use Rattle.apl_base.specs.Elements.{elements, all_defined}
use Rattle.apl_base.specs.Scalar.{scalar1, scalar2}
use Rattle.apl_base.proofs.Elements.{length-elements, all_defined-length, tabulated-count}
use Rattle.array_store.specs.Stores.{StoreView}
use Rattle.drag_along.specs.declared.leaves.Leaf.{Leaf}
use Rattle.drag_along.specs.declared.nodes.Node.{Node}
use Rattle.drag_along.specs.declared.nodes.Node.TheVariants.{Operand, One, Two}
use Rattle.drag_along.specs.Nodes.{leaf_kind, AllLeaves, functions_in, pending_after}
use Rattle.drag_along.specs.Segments.{SegmentView, IsSegment, HasShape}
use Rattle.drag_along.specs.Meaning.{Meaning, Means, Faults, Pending, pending, stopped, put, numbers_or, applied1, applied2, leaf_cell, leaf_array, after_node, after_nodes, newest, entry}
use Rattle.drag_along.proofs.NodeLemmas.{AllLeaves-append, functions_in-append, pending_after-append, pending_after-more, kind_of_nodes-one, kind_of_nodes-two}
use Rattle.drag_along.proofs.MeaningLemmas.{HasCount, after_nodes-count}

-- ---- joins are segments

pub IsSegment-one : (right : SegmentView) (f : Mon) (p : Place) (nodes : List Node) (range : Interval) (m : Bool) → IsSegment right → functions_in right.nodes < 64 → nodes ≡ right.nodes ++ One f p ∷ [] → IsInterval range → IsSegment (record { shape = right.shape; kind = Num; nodes = nodes; range = range; may_fail = m })
IsSegment-one right f p nodes range m g few e lawful =
    let P : List Node → Type 0 = λ ns. IsSegment (record { shape = right.shape; kind = Num; nodes = ns; range = range; may_fail = m }) in
    subst P (sym e) (record {
      shape = g.shape;
      leaves = AllLeaves-append (HasShape right.shape) right.nodes (One f p ∷ []) g.leaves tt;
      whole = pending_after-append right.nodes (One f p ∷ []) 0 1 g.whole;
      functions = omega (arith, functions_in-append right.nodes (One f p ∷ []));
      failing = λ may. omega (arith, functions_in-append right.nodes (One f p ∷ []));
      kind = sym (kind_of_nodes-one right.nodes f p);
      range = lawful;
    })

pub IsSegment-two : (left right : SegmentView) (f : Dya) (p : Place) (nodes : List Node) (range : Interval) (m : Bool) → IsSegment left → IsSegment right → left.shape ≡ right.shape → functions_in right.nodes + functions_in left.nodes < 64 → nodes ≡ (right.nodes ++ left.nodes) ++ Two f p ∷ [] → IsInterval range → IsSegment (record { shape = right.shape; kind = Num; nodes = nodes; range = range; may_fail = m })
IsSegment-two left right f p nodes range m g h same few e lawful =
    let P : List Node → Type 0 = λ ns. IsSegment (record { shape = right.shape; kind = Num; nodes = ns; range = range; may_fail = m }) in
    let both : pending_after (right.nodes ++ left.nodes) 0 ≡ Some 2 =
    pending_after-append right.nodes left.nodes 0 1 h.whole ∙ pending_after-more left.nodes 0 1 g.whole in
    let leaves : AllLeaves (HasShape right.shape) left.nodes =
    subst (λ (ns : List ℕ). AllLeaves (HasShape ns) left.nodes) same g.leaves in
    subst P (sym e) (record {
      shape = h.shape;
      leaves = AllLeaves-append (HasShape right.shape) (right.nodes ++ left.nodes) (Two f p ∷ []) (AllLeaves-append (HasShape right.shape) right.nodes left.nodes h.leaves leaves) tt;
      whole = pending_after-append (right.nodes ++ left.nodes) (Two f p ∷ []) 0 2 both;
      functions = omega (arith, functions_in-append (right.nodes ++ left.nodes) (Two f p ∷ []), functions_in-append right.nodes left.nodes);
      failing = λ may. omega (arith, functions_in-append (right.nodes ++ left.nodes) (Two f p ∷ []));
      kind = sym (kind_of_nodes-two (right.nodes ++ left.nodes) f p);
      range = lawful;
    })

-- the same, as the function that makes the join knows its parts
pub IsSegment-two_parts : (left right v w : SegmentView) (f : Dya) (p : Place) (appended nodes : List Node) (range : Interval) (m : Bool) → IsSegment left → IsSegment right → left ≡ v → right ≡ w → v.shape ≡ w.shape → functions_in w.nodes + functions_in v.nodes < 64 → appended ≡ right.nodes ++ left.nodes → nodes ≡ appended ++ Two f p ∷ [] → IsInterval range → IsSegment (record { shape = right.shape; kind = Num; nodes = nodes; range = range; may_fail = m })
IsSegment-two_parts left right v w f p appended nodes range m g h e i same few both all lawful =
    IsSegment-two left right f p nodes range m g h
    (ap (λ (x : SegmentView). x.shape) e ∙ same ∙ sym (ap (λ (x : SegmentView). x.shape) i))
    (omega (arith, few, ap (λ (x : SegmentView). functions_in x.nodes) e, ap (λ (x : SegmentView). functions_in x.nodes) i))
    (all ∙ ap (λ (ns : List Node). ns ++ Two f p ∷ []) both) lawful

pub IsSegment-one_part : (right w : SegmentView) (f : Mon) (p : Place) (nodes : List Node) (range : Interval) (m : Bool) → IsSegment right → right ≡ w → functions_in w.nodes < 64 → nodes ≡ right.nodes ++ One f p ∷ [] → IsInterval range → IsSegment (record { shape = right.shape; kind = Num; nodes = nodes; range = range; may_fail = m })
IsSegment-one_part right w f p nodes range m g i few all lawful =
    IsSegment-one right f p nodes range m g (omega (arith, few, ap (λ (x : SegmentView). functions_in x.nodes) i)) all lawful

-- ---- the array that a segment means has its shape, as many cells, and its kind

pub record HasForm (sh : List ℕ) (a : Array) : Type 0 where
  pub shape : a.shape ≡ sh
  pub count : length a.cells ≡ size_of sh

abbrev pub FormIf : List ℕ → Meaning → Type 0
FormIf sh (Means a) = HasForm sh a
FormIf sh (Faults p) = Unit {0}

abbrev pub FormsIf : List ℕ → Pending → Type 0
FormsIf sh (pending us) = AllByRecursion (HasForm sh) us
FormsIf sh (stopped p) = Unit {0}

numbers_or-form : (sh : List ℕ) (p : Place) (shape : List ℕ) (o : Option (List Elem)) → shape ≡ sh → ((es : List Elem) → o ≡ Some es → length es ≡ size_of sh) → FormIf sh (numbers_or p shape o)
numbers_or-form sh p shape None e h = tt
numbers_or-form sh p shape (Some es) e h = record { shape = e; count = length-map es (λ (x : Elem). x.cell) ∙ h es refl }

pub applied1-form : (sh : List ℕ) (f : Mon) (p : Place) (b : Array) → HasForm sh b → FormIf sh (applied1 f p b)
applied1-form sh f p b h =
    let values : List (Option Elem) = map (scalar1 f) (elements b) in
    let many : length values ≡ size_of sh = length-map (elements b) (scalar1 f) ∙ length-elements b ∙ h.count in
    numbers_or-form sh p b.shape (all_defined values) h.shape (λ es e. all_defined-length values es e ∙ many)

pub applied2-form : (sh : List ℕ) (f : Dya) (p : Place) (a b : Array) → HasForm sh a → HasForm sh b → FormIf sh (applied2 f p a b)
applied2-form sh f p a b g h =
    let values : List (Option Elem) = map (λ (q : Elem × Elem). scalar2 f q.0 q.1) (zip (elements a) (elements b)) in
    let pairs : length (zip (elements a) (elements b)) ≡ size_of sh =
    omega (arith, length-zip (elements a) (elements b), length-elements a, length-elements b, g.count, h.count) in
    let many : length values ≡ size_of sh = length-map (zip (elements a) (elements b)) (λ (q : Elem × Elem). scalar2 f q.0 q.1) ∙ pairs in
    numbers_or-form sh p b.shape (all_defined values) h.shape (λ es e. all_defined-length values es e ∙ many)

pub leaf_array-form : (s : StoreView) (sh : List ℕ) (leaf : Leaf) → HasForm sh (leaf_array s sh leaf)
leaf_array-form s sh leaf = record { shape = refl; count = tabulated-count (leaf_kind leaf) sh (leaf_cell s leaf) }

put-form : (sh : List ℕ) (v : Meaning) (us : List Array) → FormIf sh v → AllByRecursion (HasForm sh) us → FormsIf sh (put v us)
put-form sh (Means a) us h g = (h, g)
put-form sh (Faults p) us h g = tt

after_node-form : (s : StoreView) (sh : List ℕ) (x : Node) (st : Pending) → FormsIf sh st → FormsIf sh (after_node s sh x st)
after_node-form s sh (Operand leaf) (stopped p) h = tt
after_node-form s sh (One f q) (stopped p) h = tt
after_node-form s sh (Two f q) (stopped p) h = tt
after_node-form s sh (Operand leaf) (pending us) h = (leaf_array-form s sh leaf, h)
after_node-form s sh (One f p) (pending []) h = h
after_node-form s sh (One f p) (pending (b ∷ us)) h = put-form sh (applied1 f p b) us (applied1-form sh f p b h.0) h.1
after_node-form s sh (Two f p) (pending []) h = h
after_node-form s sh (Two f p) (pending (a ∷ [])) h = h
after_node-form s sh (Two f p) (pending (a ∷ b ∷ us)) h = put-form sh (applied2 f p a b) us (applied2-form sh f p a b h.0 h.1.0) h.1.1

pub after_nodes-form : (s : StoreView) (sh : List ℕ) (xs : List Node) (st : Pending) → FormsIf sh st → FormsIf sh (after_nodes s sh xs st)
after_nodes-form s sh [] st h = h
after_nodes-form s sh (x ∷ xs) st h = after_nodes-form s sh xs (after_node s sh x st) (after_node-form s sh x st h)

newest-form : (sh : List ℕ) (st : Pending) → HasCount 1 st → FormsIf sh st → FormIf sh (newest st)
newest-form sh (stopped p) c h = tt
newest-form sh (pending []) c h = absurd (omega (arith, c))
newest-form sh (pending (a ∷ us)) c h = h.0

pub entry-form : (s : StoreView) (g : SegmentView) → IsSegment g → FormIf g.shape (entry s g)
unfolding entry
entry-form s g seg =
    let st : Pending = after_nodes s g.shape g.nodes (pending []) in
    newest-form g.shape st (after_nodes-count s g.shape g.nodes [] 1 seg.whole) (after_nodes-form s g.shape g.nodes (pending []) tt)

-- A segment whose leaves are selections means the selection of what the old one means.
use Rattle.std.proofs.Common.{◌≡◌, ℕ, ℤ, pos, false, IsTrue, List, [], ◌∷◌, length, Option, Some, refl, sym, ap, ◌∙◌, subst, arith}
use Rattle.std.specs.List.{AllByRecursion}
use Rattle.apl_base.specs.declared.cells.Elem.{Elem}
use Rattle.apl_base.specs.declared.cells.Interval.{Interval}
use Rattle.apl_base.specs.Array.{Array, IsShape, IsIndex, size_of, place_at, cell_at}
use Rattle.apl_base.specs.Interval.{InInterval, IsInterval}
use Rattle.apl_base.proofs.Lists.{all_place}
use Rattle.apl_base.proofs.Sizes.{place_at-below}
use Rattle.apl_base.proofs.Elements.{tabulated-count, tabulated-each, gathered-at}
use Rattle.array_desc.specs.Desc.{IsDesc}
use Rattle.array_store.specs.Stores.{StoreView}
use Rattle.drag_along.specs.declared.nodes.Node.{Node}
use Rattle.drag_along.specs.declared.nodes.Node.TheVariants.{Operand, One, Two}
use Rattle.drag_along.specs.Nodes.{leaf_desc, leaf_shape, AllLeaves}
use Rattle.drag_along.specs.Segments.{SegmentView, IsSegment, HasShape}
use Rattle.drag_along.specs.Meaning.{Meaning, Means, Faults, IsItsArray, IsMeaning, entry}
use Rattle.drag_along.specs.Lawful.{IsLawful, MeansWithin}
use Rattle.drag_along.proofs.EntryLemmas.{entry_is_meaning, only_meaning}
use Rattle.beating.specs.declared.selections.Selection.{Selection}
use Rattle.beating.specs.Selecting.{Fits, selected_shape, selected_index, selected, selected_meaning, SelectsNodes}
use Rattle.beating.proofs.NodeLemmas.{FirstLeaf, first_leaf, reads_index, selected_is_shape, selected_values, selected_faults, selected_leaves, selected_shapes, selected_pending, selected_functions, selected_kinds}

-- ---- the cells of a selection

-- at each index a selection has the cell at the index that it reads
selected_cell_at : (by : Selection) (a : Array) (i : List ℕ) → IsIndex (selected_shape by a.shape) i → cell_at (selected by a) i ≡ cell_at a (selected_index by a.shape i)
selected_cell_at by a i q =
    gathered-at (selected_shape by a.shape) (selected_index by a.shape) a i q

-- ---- a segment and its selection

pub record IsSelection (by : Selection) (old new : SegmentView) : Type 0 where
  pub segment : IsSegment old
  pub shape : new.shape ≡ selected_shape by old.shape
  pub kind : new.kind ≡ old.kind
  pub nodes : SelectsNodes by old.nodes new.nodes
  pub range : new.range ≡ old.range
  pub may_fail : new.may_fail ≡ old.may_fail
  pub descs : AllLeaves (λ leaf. IsDesc (leaf_desc leaf)) new.nodes

-- its first leaf
first_of : (by : Selection) (old new : SegmentView) → IsSelection by old new → FirstLeaf by old.shape
first_of by old new h = first_leaf by old.shape old.nodes new.nodes h.segment.whole h.nodes h.segment.leaves h.descs

-- the selection is a segment
pub is_segment : (by : Selection) (old new : SegmentView) → IsSelection by old new → IsSegment new
is_segment by old new h =
    let s = h.segment in
    record {
      shape = subst IsShape (sym h.shape) (selected_is_shape by old.shape (first_of by old new h));
      leaves = subst (λ (ns : List ℕ). AllLeaves (HasShape ns) new.nodes) (sym h.shape) (selected_shapes by old.shape old.nodes new.nodes h.nodes s.leaves h.descs);
      whole = selected_pending by old.nodes new.nodes h.nodes 0 ∙ s.whole;
      functions = omega (arith, selected_functions by old.nodes new.nodes h.nodes, s.functions);
      failing = λ may. omega (arith, selected_functions by old.nodes new.nodes h.nodes, s.failing (sym h.may_fail ∙ may));
      kind = h.kind ∙ s.kind ∙ sym (selected_kinds by old.nodes new.nodes h.nodes);
      range = subst IsInterval (sym h.range) s.range;
    }

-- an index of the new shape, and the one that it reads
index_in : (by : Selection) (old new : SegmentView) (i : List ℕ) → IsSelection by old new → IsIndex new.shape i → IsIndex (selected_shape by old.shape) i
index_in by old new i h q = subst (λ (ns : List ℕ). IsIndex ns i) h.shape q

-- it means the selection of the array
its_array : (store : StoreView) (by : Selection) (old new : SegmentView) (a : Array) → IsSelection by old new → IsItsArray store old a → IsItsArray store new (selected by a)
its_array store by old new a h m = record {
  none = λ k fails.
      let i : List ℕ = fails.0 in
      let q = index_in by old new i h fails.1 in
      let e = selected_faults store by old.shape i q old.nodes new.nodes h.nodes h.segment.leaves k [] in
      m.none k (selected_index by old.shape i, reads_index by old.shape i (first_of by old new h) q, subst IsTrue e fails.2);
  kind = m.kind ∙ sym h.kind;
  shape = ap (selected_shape by) m.shape ∙ sym h.shape;
  count =
      tabulated-count a.kind (selected_shape by a.shape) (λ is. cell_at a (selected_index by a.shape is))
      ∙ ap size_of (ap (selected_shape by) m.shape ∙ sym h.shape);
  cells = λ i index.
      let q = index_in by old new i h index in
      let r = reads_index by old.shape i (first_of by old new h) q in
      let p = subst (λ (ns : List ℕ). IsIndex (selected_shape by ns) i) (sym m.shape) q in
      selected_values store by old.shape i q old.nodes new.nodes h.nodes h.segment.leaves []
      ∙ m.cells (selected_index by old.shape i) r
      ∙ ap (λ (c : ℤ). let o : Option Elem = Some (record { kind = a.kind; cell = c }) in o ∷ [])
      (ap (λ (ns : List ℕ). cell_at a (selected_index by ns i)) (sym m.shape) ∙ sym (selected_cell_at by a i p));
}

-- the cells of a selection are among those of the array
within : (by : Selection) (range : Interval) (a : Array) → FirstLeaf by a.shape → length a.cells ≡ size_of a.shape → AllByRecursion (InInterval range) a.cells → AllByRecursion (InInterval range) (selected by a).cells
within by range a f count all =
    tabulated-each (InInterval range) a.kind (selected_shape by a.shape) (λ is. cell_at a (selected_index by a.shape is)) (λ is q.
    let r = reads_index by a.shape is f q in
    let b = place_at-below a.shape (selected_index by a.shape is) r in
    all_place (InInterval range) a.cells (place_at a.shape (selected_index by a.shape is)) (pos 0) all (omega (arith, b, count)))

-- ---- over a store

-- where the old segment means an array, what the new one means, and that the cells lie in the range
pub record Selected (by : Selection) (store : StoreView) (old new : SegmentView) : Type 0 where
  pub meaning : entry store new ≡ selected_meaning by (entry store old)
  pub sound : MeansWithin new.range (entry store new)

-- by what the old one means
selected_if : (store : StoreView) (by : Selection) (old new : SegmentView) (m : Meaning) → IsSelection by old new → entry store old ≡ m → IsMeaning store old m → MeansWithin old.range m → Selected by store old new
selected_if store by old new (Faults place) h e mean in_range = absurd in_range
selected_if store by old new (Means a) h e mean in_range =
    let same = only_meaning store new (Means (selected by a)) (is_segment by old new h) (its_array store by old new a h mean) in
    let f = subst (FirstLeaf by) (sym mean.shape) (first_of by old new h) in
    let cells = within by old.range a f (mean.count ∙ ap size_of (sym mean.shape)) in_range in
    record {
      meaning = sym same ∙ ap (selected_meaning by) (sym e);
      sound = subst (λ (range : Interval). MeansWithin range (entry store new)) (sym h.range) (subst (MeansWithin old.range) same cells);
    }

-- for a segment that cannot fail
pub selected_over : (store : StoreView) (by : Selection) (old new : SegmentView) → IsSelection by old new → old.may_fail ≡ false → IsLawful store old → Selected by store old new
selected_over store by old new h safe lawful =
    selected_if store by old new (entry store old) h refl (entry_is_meaning store old h.segment) (lawful.sound safe)

-- which stays lawful
pub selected_is_lawful : (store : StoreView) (by : Selection) (old new : SegmentView) → IsSelection by old new → old.may_fail ≡ false → IsLawful store old → IsLawful store new
selected_is_lawful store by old new h safe lawful = record {
  leaves = selected_leaves store by old.nodes new.nodes h.nodes lawful.leaves;
  sound = λ _. (selected_over store by old new h safe lawful).sound;
}

-- ---- as the function that selects knows its parts

-- all leaves have the shape
same_shapes : (ns : List ℕ) (nodes : List Node) → AllLeaves (HasShape ns) nodes → AllLeaves (λ leaf. leaf_shape leaf ≡ ns) nodes
same_shapes ns [] h = tt
same_shapes ns (Operand leaf ∷ nodes) h = (h.0.same, same_shapes ns nodes h.1)
same_shapes ns (One f place ∷ nodes) h = same_shapes ns nodes h
same_shapes ns (Two f place ∷ nodes) h = same_shapes ns nodes h

-- all descriptors are lawful
pub are_lawful : (ns : List ℕ) (nodes : List Node) → AllLeaves (HasShape ns) nodes → AllLeaves (λ leaf. IsDesc (leaf_desc leaf)) nodes
are_lawful ns [] h = tt
are_lawful ns (Operand leaf ∷ nodes) h = (h.0.desc, are_lawful ns nodes h.1)
are_lawful ns (One f place ∷ nodes) h = are_lawful ns nodes h
are_lawful ns (Two f place ∷ nodes) h = are_lawful ns nodes h

-- the selection may be made of each
pub all_fit : (by : Selection) (ns : List ℕ) (nodes : List Node) → Fits by ns → AllLeaves (HasShape ns) nodes → AllLeaves (λ leaf. Fits by (leaf_shape leaf)) nodes
all_fit by ns [] f h = tt
all_fit by ns (Operand leaf ∷ nodes) f h = (subst (Fits by) (sym h.0.same) f, all_fit by ns nodes f h.1)
all_fit by ns (One f place ∷ nodes) g h = all_fit by ns nodes g h
all_fit by ns (Two f place ∷ nodes) g h = all_fit by ns nodes g h

-- so the new segment is a selection
pub selection_is : (by : Selection) (old new : SegmentView) → IsSegment old → new.kind ≡ old.kind → new.range ≡ old.range → new.may_fail ≡ old.may_fail → SelectsNodes by old.nodes new.nodes → AllLeaves (λ leaf. IsDesc (leaf_desc leaf)) new.nodes → ((ns : List ℕ) → AllLeaves (λ leaf. leaf_shape leaf ≡ ns) new.nodes → new.shape ≡ ns) → IsSelection by old new
selection_is by old new s k r m n d h = record {
  segment = s;
  shape = h (selected_shape by old.shape) (same_shapes (selected_shape by old.shape) new.nodes (selected_shapes by old.shape old.nodes new.nodes n s.leaves d));
  kind = k;
  nodes = n;
  range = r;
  may_fail = m;
  descs = d;
}

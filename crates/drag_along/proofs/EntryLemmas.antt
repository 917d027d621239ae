-- The meaning that is computed is the one that each index gives, and the only one.
use Rattle.std.proofs.Common.{◌≡◌, ℕ, zero, suc, ◌<◌, ℤ, pos, Bool, false, IsTrue, List, [], ◌∷◌, get_or, Some, refl, sym, ap, ◌∙◌, subst, arith, inl, inr, ◌⊎◌}
use Rattle.std.specs.Prelude.{slice_get}
use Rattle.std.specs.Option.{option_map}
use Rattle.std.specs.List.{AllByRecursion}
use Rattle.std.proofs.lemmas.List.{ext_get_or}
use Rattle.apl_base.specs.declared.cells.Kind.{Kind}
use Rattle.apl_base.specs.declared.cells.Elem.{Elem}
use Rattle.apl_base.specs.declared.faults.Place.{Place}
use Rattle.apl_base.specs.Array.{Array, IsIndex, size_of, index_at, place_at, cell_at}
use Rattle.apl_base.specs.Elements.{element}
use Rattle.apl_base.proofs.Sizes.{IsIndex-index_at, place_at-index_at}
use Rattle.array_store.specs.Stores.{StoreView}
use Rattle.drag_along.specs.declared.nodes.Node.{Node}
use Rattle.drag_along.specs.Nodes.{node_place}
use Rattle.drag_along.specs.Segments.{SegmentView, IsSegment}
use Rattle.drag_along.specs.Meaning.{Meaning, Means, Faults, Pending, pending, stopped, value_at, values_at, fails_on, fails_at, IsFirstFault, IsItsArray, IsMeaning, after_node, after_nodes, newest, entry}
use Rattle.drag_along.proofs.MeaningLemmas.{after_nodes-stopped, HasCount, after_nodes-count}
use Rattle.drag_along.proofs.LawfulLemmas.{HasForm, FormIf, entry-form}
use Rattle.drag_along.proofs.JoinLemmas.{KindIf, entry-kind}
use Rattle.drag_along.proofs.StepLemmas.{column, StepAgrees, step}

-- what the arrays say of the nodes is what each index says
abbrev pub Agrees : StoreView → List ℕ → List Node → List Array → Pending → Type 0
Agrees s sh xs us (pending vs) =
    (i : List ℕ) → IsIndex sh i → (values_at s i xs (column i us) ≡ column i vs) × ((k : ℕ) → fails_at s i xs k (column i us) ≡ false)
Agrees s sh xs us (stopped p) =
    (k : ℕ) × ((i : List ℕ) × IsIndex sh i × IsTrue (fails_at s i xs k (column i us)))
    × ((j : ℕ) → j < k → (i : List ℕ) → IsIndex sh i → fails_at s i xs j (column i us) ≡ false)
    × (option_map node_place (slice_get xs k) ≡ Some p)

-- a node that fails nowhere, and those behind it
behind : (s : StoreView) (sh : List ℕ) (x : Node) (xs : List Node) (us vs : List Array) → ((i : List ℕ) → IsIndex sh i → (value_at s i x (column i us) ≡ column i vs) × (fails_on x (column i us) ≡ false)) → (r : Pending) → Agrees s sh xs vs r → Agrees s sh (x ∷ xs) us r
behind s sh x xs us vs here (pending ws) rest = λ i index.
    (ap (values_at s i xs) (here i index).0 ∙ (rest i index).0, λ k. no_fault i index k)
  where
    no_fault : (i : List ℕ) → IsIndex sh i → (k : ℕ) → fails_at s i (x ∷ xs) k (column i us) ≡ false
    no_fault i index zero = (here i index).1
    no_fault i index (suc k) = ap (fails_at s i xs k) (here i index).0 ∙ (rest i index).1 k
behind s sh x xs us vs here (stopped p) rest = (
  suc rest.0,
  (rest.1.0, rest.1.1, ap (fails_at s rest.1.0 xs rest.0) (here rest.1.0 rest.1.1).0 ∙ rest.1.2),
  λ j below i index. before j below i index,
  rest.3,
)
  where
    before : (j : ℕ) → j < suc rest.0 → (i : List ℕ) → IsIndex sh i → fails_at s i (x ∷ xs) j (column i us) ≡ false
    before zero below i index = (here i index).1
    before (suc j) below i index = ap (fails_at s i xs j) (here i index).0 ∙ rest.2 j (omega arith) i index

next : (s : StoreView) (sh : List ℕ) (x : Node) (xs : List Node) (us : List Array) (r : Pending) → ((vs : List Array) → AllByRecursion (HasForm sh) vs → Agrees s sh xs vs (after_nodes s sh xs (pending vs))) → StepAgrees s sh x us r → Agrees s sh (x ∷ xs) us (after_nodes s sh xs r)
next s sh x xs us (pending vs) rest here = behind s sh x xs us vs here.1 (after_nodes s sh xs (pending vs)) (rest vs here.0)
next s sh x xs us (stopped p) rest here =
    subst (Agrees s sh (x ∷ xs) us) (sym (after_nodes-stopped s sh xs p))
    (0, (here.0, here.1, here.2), λ j below i index. absurd (omega (arith, below)), ap (λ (q : Place). Some q) here.3)

agrees : (s : StoreView) (sh : List ℕ) (xs : List Node) (us : List Array) → AllByRecursion (HasForm sh) us → Agrees s sh xs us (after_nodes s sh xs (pending us))
agrees s sh [] us forms = λ i index. (refl, λ k. refl)
agrees s sh (x ∷ xs) us forms = next s sh x xs us (after_node s sh x (pending us)) (λ vs h. agrees s sh xs vs h) (step s sh x us forms)

apart : (b : Bool) → IsTrue b → b ≡ false → ⊥
apart b t f = absurd (cc)

whole_meaning : (s : StoreView) (g : SegmentView) (st : Pending) → HasCount 1 st → Agrees s g.shape g.nodes [] st → FormIf g.shape (newest st) → KindIf g.kind (newest st) → IsMeaning s g (newest st)
whole_meaning s g (stopped p) count h form kind =
    (h.0, record { fails = h.1; least = λ j below fails. apart (fails_at s fails.0 g.nodes j []) fails.2 (h.2 j below fails.0 fails.1) }, h.3)
whole_meaning s g (pending []) count h form kind = absurd (omega (arith, count))
whole_meaning s g (pending (a ∷ b ∷ us)) count h form kind = absurd (omega (arith, count))
whole_meaning s g (pending (a ∷ [])) count h form kind = record {
  none = λ k fails. apart (fails_at s fails.0 g.nodes k []) fails.2 ((h fails.0 fails.1).1 k);
  kind = kind;
  shape = form.shape;
  count = form.count;
  cells = λ i index. (h i index).0;
}

pub entry_is_meaning : (s : StoreView) (g : SegmentView) → IsSegment g → IsMeaning s g (entry s g)
unfolding entry
entry_is_meaning s g seg =
    whole_meaning s g (after_nodes s g.shape g.nodes (pending [])) (after_nodes-count s g.shape g.nodes [] 1 seg.whole)
    (agrees s g.shape g.nodes [] tt) (entry-form s g seg) (entry-kind s g seg)

-- ---- one meaning

same_cell : (j k : Kind) (c d : ℤ) → Some (element j c) ∷ [] ≡ Some (element k d) ∷ [] → c ≡ d
same_cell j k c d e = let h : element j c ≡ element k d = cc in ap (λ (x : Elem). x.cell) h

same_array : (a b : Array) → a.kind ≡ b.kind → a.shape ≡ b.shape → a.cells ≡ b.cells → a ≡ b
same_array a b e f h =
    ap (λ (k : Kind). let x : Array = record a { kind = k } in x) e
    ∙ ap (λ (ns : List ℕ). let x : Array = record { kind = b.kind; shape = ns; cells = a.cells } in x) f
    ∙ ap (λ (cs : List ℤ). let x : Array = record b { cells = cs } in x) h

cell_by_place : (sh : List ℕ) (a : Array) (k : ℕ) → a.shape ≡ sh → k < size_of sh → cell_at a (index_at sh k) ≡ get_or a.cells k (pos 0)
cell_by_place sh a k e below =
    ap (λ (n : ℕ). get_or a.cells n (pos 0)) (ap (λ (ns : List ℕ). place_at ns (index_at sh k)) e ∙ place_at-index_at sh k below)

one_array : (s : StoreView) (g : SegmentView) (a b : Array) → IsItsArray s g a → IsItsArray s g b → a ≡ b
one_array s g a b h i =
    same_array a b (h.kind ∙ sym i.kind) (h.shape ∙ sym i.shape)
    (ext_get_or (pos 0) a.cells b.cells (h.count ∙ sym i.count) (λ k below.
    let within : k < size_of g.shape = omega (arith, below, h.count) in
    let index = IsIndex-index_at g.shape k within in
    sym (cell_by_place g.shape a k h.shape within)
    ∙ same_cell a.kind b.kind (cell_at a (index_at g.shape k)) (cell_at b (index_at g.shape k)) (sym (h.cells (index_at g.shape k) index) ∙ i.cells (index_at g.shape k) index)
    ∙ cell_by_place g.shape b k i.shape within))

tell : (m n : ℕ) → (m < n) ⊎ ((m ≡ n) ⊎ (n < m))
tell zero zero = inr (inl refl)
tell zero (suc n) = inl (omega arith)
tell (suc m) zero = inr (inr (omega arith))
tell (suc m) (suc n) = elim (tell m n) [ inl low ↦ inl (omega arith) | inr rest ↦ elim rest [ inl same ↦ inr (inl (ap suc same)) | inr high ↦ inr (inr (omega arith)) ] ]

one_fault : (s : StoreView) (g : SegmentView) (j k : ℕ) → IsFirstFault s g j → IsFirstFault s g k → j ≡ k
one_fault s g j k h i =
    elim (tell j k) [ inl low ↦ absurd (i.least j low h.fails) | inr rest ↦ elim rest [ inl same ↦ same | inr high ↦ absurd (h.least k high i.fails) ] ]

same_place : (p q : Place) → Some p ≡ Some q → p ≡ q
same_place p q e = cc

one_meaning : (s : StoreView) (g : SegmentView) (m n : Meaning) → IsMeaning s g m → IsMeaning s g n → m ≡ n
one_meaning s g (Means a) (Means b) h i = ap Means (one_array s g a b h i)
one_meaning s g (Means a) (Faults q) h i = absurd (h.none i.0 i.1.fails)
one_meaning s g (Faults p) (Means b) h i = absurd (i.none h.0 h.1.fails)
one_meaning s g (Faults p) (Faults q) h i =
    ap Faults (same_place p q (sym h.2 ∙ ap (λ (k : ℕ). option_map node_place (slice_get g.nodes k)) (one_fault s g h.0 i.0 h.1 i.1) ∙ i.2))

pub only_meaning : (s : StoreView) (g : SegmentView) (m : Meaning) → IsSegment g → IsMeaning s g m → m ≡ entry s g
only_meaning s g m seg h = one_meaning s g m (entry s g) h (entry_is_meaning s g seg)

-- What nodes mean whose leaves are selections of others.
use Rattle.std.proofs.Common.{◌≡◌, ℕ, zero, suc, ◌+◌, ℤ, pos, ◌≤ℤ◌, ◌<ℤ◌, unsigned_abs, List, [], ◌∷◌, length, Option, Some, refl, sym, ap, ◌∙◌, subst, arith}
use Rattle.apl_base.specs.declared.cells.Elem.{Elem}
use Rattle.apl_base.specs.declared.cells.Kind.{Kind}
use Rattle.apl_base.specs.declared.cells.Kind.TheVariants.{Num, Char}
use Rattle.apl_base.specs.declared.faults.Place.{Place}
use Rattle.apl_base.specs.declared.rows.Mon.{Mon}
use Rattle.apl_base.specs.declared.rows.Dya.{Dya}
use Rattle.apl_base.specs.Number.{IsCharacter}
use Rattle.apl_base.specs.Array.{IsShape, IsIndex}
use Rattle.array_desc.specs.Desc.{IsDesc, number}
use Rattle.array_store.specs.Stores.{StoreView, cell_of, cells_of}
use Rattle.array_store.specs.Follows.{one_of}
use Rattle.drag_along.specs.declared.leaves.Leaf.{Leaf}
use Rattle.drag_along.specs.declared.leaves.Leaf.TheVariants.{Stored, Gen}
use Rattle.drag_along.specs.declared.nodes.Node.{Node}
use Rattle.drag_along.specs.declared.nodes.Node.TheVariants.{Operand, One, Two}
use Rattle.drag_along.specs.Nodes.{leaf_desc, leaf_kind, leaf_shape, AllLeaves, named_by_leaf, named_by_nodes, functions_in, stored_of_leaf, stored_in, pending_after, kind_of_nodes}
use Rattle.drag_along.specs.Segments.{HasShape}
use Rattle.drag_along.specs.Meaning.{leaf_cell, leaf_element, value_at, values_at, fails_at}
use Rattle.drag_along.specs.Lawful.{LiesIn, AreOfKind, IsLawfulLeaf}
use Rattle.beating.specs.declared.selections.Selection.{Selection}
use Rattle.beating.specs.Selecting.{selected_shape, selected_index, SelectsBy, SelectsLeaf, SelectsNodes}

-- ---- one leaf

-- its descriptor is the selection of the old one
pub leaf_selects : (by : Selection) (old new : Leaf) → SelectsLeaf by old new → SelectsBy by (leaf_desc old) (leaf_desc new)
leaf_selects by (Stored owner d kind) (Stored named e what) h = h.2
leaf_selects by (Gen d kind) (Gen e what) h = h.1
leaf_selects by (Stored owner d kind) (Gen e what) h = absurd h
leaf_selects by (Gen d kind) (Stored named e what) h = absurd h

-- it has the kind of the old one
selected_kind : (by : Selection) (old new : Leaf) → SelectsLeaf by old new → leaf_kind new ≡ leaf_kind old
selected_kind by (Stored owner d kind) (Stored named e what) h = h.1
selected_kind by (Gen d kind) (Gen e what) h = h.0
selected_kind by (Stored owner d kind) (Gen e what) h = absurd h
selected_kind by (Gen d kind) (Stored named e what) h = absurd h

-- and names the same owner
selected_name : (by : Selection) (old new : Leaf) (key : ℕ) → SelectsLeaf by old new → named_by_leaf new key ≡ named_by_leaf old key
selected_name by (Stored owner d kind) (Stored named e what) key h = ap (λ o. one_of o key) h.0
selected_name by (Gen d kind) (Gen e what) key h = refl
selected_name by (Stored owner d kind) (Gen e what) key h = absurd h
selected_name by (Gen d kind) (Stored named e what) key h = absurd h

-- at an index it has what the old one has at the index read
selected_cell : (store : StoreView) (by : Selection) (old new : Leaf) (i : List ℕ) → SelectsLeaf by old new → IsIndex (selected_shape by (leaf_shape old)) i → leaf_cell store new i ≡ leaf_cell store old (selected_index by (leaf_shape old) i)
selected_cell store by (Stored owner d kind) (Stored named e what) i h q =
    ap (λ o. cell_of store o (unsigned_abs (number e i))) h.0 ∙ ap (λ z. cell_of store owner (unsigned_abs z)) (h.2.number i q)
selected_cell store by (Gen d kind) (Gen e what) i h q = h.1.number i q
selected_cell store by (Stored owner d kind) (Gen e what) i h q = absurd h
selected_cell store by (Gen d kind) (Stored named e what) i h q = absurd h

-- elements of equal parts
same_element : (j k : Kind) (c d : ℤ) → j ≡ k → c ≡ d → (let x : Elem = record { kind = j; cell = c } in x) ≡ record { kind = k; cell = d }
same_element j k c d e f = ap (λ (m : Kind). let x : Elem = record { kind = m; cell = c } in x) e ∙ ap (λ z. let x : Elem = record { kind = k; cell = z } in x) f

-- it is lawful where the old one is
selected_lawful : (store : StoreView) (by : Selection) (old new : Leaf) → SelectsLeaf by old new → IsLawfulLeaf store old → IsLawfulLeaf store new
selected_lawful store by (Stored owner d kind) (Stored named e what) h l =
    let s = h.2 in
    let at = λ (i : List ℕ) (q : IsIndex e.shape i). subst (λ (ns : List ℕ). IsIndex ns i) s.shape q in
    let r : LiesIn store owner e kind = record {
      live = l.live;
      kind = l.kind;
      low = λ i q. subst (λ z. pos 0 ≤ℤ z) (sym (s.number i (at i q))) (l.low (selected_index by d.shape i) (s.index i (at i q)));
      high = λ i q. subst (λ z. z <ℤ pos (length (cells_of store owner))) (sym (s.number i (at i q))) (l.high (selected_index by d.shape i) (s.index i (at i q)));
    } in
    subst (λ o. LiesIn store o e what) (sym h.0) (subst (λ k. LiesIn store owner e k) (sym h.1) r)
selected_lawful store by (Gen d Num) (Gen e what) h l = subst (AreOfKind e) (sym h.0) tt
selected_lawful store by (Gen d Char) (Gen e what) h l =
    let s = h.1 in
    let at = λ (i : List ℕ) (q : IsIndex e.shape i). subst (λ (ns : List ℕ). IsIndex ns i) s.shape q in
    let r : AreOfKind e Char = λ i q. subst IsCharacter (sym (s.number i (at i q))) (l (selected_index by d.shape i) (s.index i (at i q))) in
    subst (AreOfKind e) (sym h.0) r
selected_lawful store by (Stored owner d kind) (Gen e what) h l = absurd h
selected_lawful store by (Gen d kind) (Stored named e what) h l = absurd h

-- the same, where the old leaf has the shape of a segment
cell_in : (store : StoreView) (by : Selection) (ns : List ℕ) (old new : Leaf) (i : List ℕ) → SelectsLeaf by old new → leaf_shape old ≡ ns → IsIndex (selected_shape by ns) i → leaf_cell store new i ≡ leaf_cell store old (selected_index by ns i)
cell_in store by ns old new i h e =
    subst (λ (l : List ℕ). IsIndex (selected_shape by l) i → leaf_cell store new i ≡ leaf_cell store old (selected_index by l i)) e (selected_cell store by old new i h)

-- the element is that at the index read
element_in : (store : StoreView) (by : Selection) (ns : List ℕ) (old new : Leaf) (i : List ℕ) → SelectsLeaf by old new → leaf_shape old ≡ ns → IsIndex (selected_shape by ns) i → leaf_element store new i ≡ leaf_element store old (selected_index by ns i)
element_in store by ns old new i h e q =
    same_element (leaf_kind new) (leaf_kind old) (leaf_cell store new i) (leaf_cell store old (selected_index by ns i)) (selected_kind by old new h) (cell_in store by ns old new i h e q)

-- ---- along the nodes

-- what is so of no nodes, and of each pair of nodes in front of others of which it is so
pub along : (by : Selection) (P : List Node → List Node → Type 0) → P [] [] → ((old new : Leaf) (olds news : List Node) → SelectsLeaf by old new → P olds news → P (Operand old ∷ olds) (Operand new ∷ news)) → ((f : Mon) (place : Place) (olds news : List Node) → P olds news → P (One f place ∷ olds) (One f place ∷ news)) → ((f : Dya) (place : Place) (olds news : List Node) → P olds news → P (Two f place ∷ olds) (Two f place ∷ news)) → (olds news : List Node) → SelectsNodes by olds news → P olds news
along by P none leaf mon dya [] [] h = none
along by P none leaf mon dya (Operand old ∷ olds) (Operand new ∷ news) h = leaf old new olds news h.0 (along by P none leaf mon dya olds news h.1)
along by P none leaf mon dya (One f place ∷ olds) (One g at ∷ news) h =
    let r = mon f place olds news (along by P none leaf mon dya olds news h.2) in
    subst (λ (m : Mon). P (One f place ∷ olds) (One m at ∷ news)) (sym h.0) (subst (λ (p : Place). P (One f place ∷ olds) (One f p ∷ news)) (sym h.1) r)
along by P none leaf mon dya (Two f place ∷ olds) (Two g at ∷ news) h =
    let r = dya f place olds news (along by P none leaf mon dya olds news h.2) in
    subst (λ (m : Dya). P (Two f place ∷ olds) (Two m at ∷ news)) (sym h.0) (subst (λ (p : Place). P (Two f place ∷ olds) (Two f p ∷ news)) (sym h.1) r)
along by P none leaf mon dya [] (y ∷ news) h = absurd h
along by P none leaf mon dya (Operand old ∷ olds) [] h = absurd h
along by P none leaf mon dya (Operand old ∷ olds) (One g at ∷ news) h = absurd h
along by P none leaf mon dya (Operand old ∷ olds) (Two g at ∷ news) h = absurd h
along by P none leaf mon dya (One f place ∷ olds) [] h = absurd h
along by P none leaf mon dya (One f place ∷ olds) (Operand new ∷ news) h = absurd h
along by P none leaf mon dya (One f place ∷ olds) (Two g at ∷ news) h = absurd h
along by P none leaf mon dya (Two f place ∷ olds) [] h = absurd h
along by P none leaf mon dya (Two f place ∷ olds) (Operand new ∷ news) h = absurd h
along by P none leaf mon dya (Two f place ∷ olds) (One g at ∷ news) h = absurd h

-- a function takes its operands from the stack, wherever it stands
same_one : (store : StoreView) (i j : List ℕ) (f : Mon) (place : Place) (stack : List (Option Elem)) → value_at store i (One f place) stack ≡ value_at store j (One f place) stack
same_one store i j f place [] = refl
same_one store i j f place (b ∷ stack) = refl

-- and so does one of two arguments
same_two : (store : StoreView) (i j : List ℕ) (f : Dya) (place : Place) (stack : List (Option Elem)) → value_at store i (Two f place) stack ≡ value_at store j (Two f place) stack
same_two store i j f place [] = refl
same_two store i j f place (a ∷ []) = refl
same_two store i j f place (a ∷ b ∷ stack) = refl

-- the values at an index are those of the old nodes at the index read
pub selected_values : (store : StoreView) (by : Selection) (ns i : List ℕ) → IsIndex (selected_shape by ns) i → (olds news : List Node) → SelectsNodes by olds news → AllLeaves (HasShape ns) olds → (stack : List (Option Elem)) → values_at store i news stack ≡ values_at store (selected_index by ns i) olds stack
selected_values store by ns i q olds news h l stack =
    along by (λ olds news. AllLeaves (HasShape ns) olds → (stack : List (Option Elem)) → values_at store i news stack ≡ values_at store (selected_index by ns i) olds stack)
    (λ l stack. refl)
    (λ old new olds news h r l stack.
    r l.1 (Some (leaf_element store new i) ∷ stack)
    ∙ ap (λ (x : Elem). values_at store (selected_index by ns i) olds (Some x ∷ stack)) (element_in store by ns old new i h l.0.same q))
    (λ f place olds news r l stack. r l (value_at store i (One f place) stack) ∙ ap (values_at store (selected_index by ns i) olds) (same_one store i (selected_index by ns i) f place stack))
    (λ f place olds news r l stack. r l (value_at store i (Two f place) stack) ∙ ap (values_at store (selected_index by ns i) olds) (same_two store i (selected_index by ns i) f place stack))
    olds news h l stack

-- a node fails at an index where the old one fails at the index read
abbrev SameFaults : StoreView → List ℕ → List ℕ → List Node → List Node → Type 0
SameFaults store i r olds news = (k : ℕ) (stack : List (Option Elem)) → fails_at store i news k stack ≡ fails_at store r olds k stack

-- behind a leaf
leaf_faults : (store : StoreView) (i r : List ℕ) (old new : Leaf) (olds news : List Node) → leaf_element store new i ≡ leaf_element store old r → SameFaults store i r olds news → SameFaults store i r (Operand old ∷ olds) (Operand new ∷ news)
leaf_faults store i r old new olds news e h zero stack = refl
leaf_faults store i r old new olds news e h (suc k) stack =
    h k (Some (leaf_element store new i) ∷ stack) ∙ ap (λ (x : Elem). fails_at store r olds k (Some x ∷ stack)) e

-- behind a function of one argument
one_faults : (store : StoreView) (i r : List ℕ) (f : Mon) (place : Place) (olds news : List Node) → SameFaults store i r olds news → SameFaults store i r (One f place ∷ olds) (One f place ∷ news)
one_faults store i r f place olds news h zero stack = refl
one_faults store i r f place olds news h (suc k) stack =
    h k (value_at store i (One f place) stack) ∙ ap (fails_at store r olds k) (same_one store i r f place stack)

-- behind a function of two arguments
two_faults : (store : StoreView) (i r : List ℕ) (f : Dya) (place : Place) (olds news : List Node) → SameFaults store i r olds news → SameFaults store i r (Two f place ∷ olds) (Two f place ∷ news)
two_faults store i r f place olds news h zero stack = refl
two_faults store i r f place olds news h (suc k) stack =
    h k (value_at store i (Two f place) stack) ∙ ap (fails_at store r olds k) (same_two store i r f place stack)

-- so for all nodes
pub selected_faults : (store : StoreView) (by : Selection) (ns i : List ℕ) → IsIndex (selected_shape by ns) i → (olds news : List Node) → SelectsNodes by olds news → AllLeaves (HasShape ns) olds → SameFaults store i (selected_index by ns i) olds news
selected_faults store by ns i q olds news h l =
    let r = selected_index by ns i in
    along by (λ olds news. AllLeaves (HasShape ns) olds → SameFaults store i (selected_index by ns i) olds news)
    (λ l k stack. refl)
    (λ old new olds news h s l. leaf_faults store i r old new olds news (element_in store by ns old new i h l.0.same q) (s l.1))
    (λ f place olds news s l. one_faults store i r f place olds news (s l))
    (λ f place olds news s l. two_faults store i r f place olds news (s l))
    olds news h l

-- ---- what else is so of the new nodes

-- the leaves are lawful where the old ones are
pub selected_leaves : (store : StoreView) (by : Selection) (olds news : List Node) → SelectsNodes by olds news → AllLeaves (IsLawfulLeaf store) olds → AllLeaves (IsLawfulLeaf store) news
selected_leaves store by olds news h l =
    along by (λ olds news. AllLeaves (IsLawfulLeaf store) olds → AllLeaves (IsLawfulLeaf store) news)
    (λ l. tt)
    (λ old new olds news h s l. (selected_lawful store by old new h l.0, s l.1))
    (λ f place olds news s l. s l)
    (λ f place olds news s l. s l)
    olds news h l

-- a leaf has the new shape
has_shape : (by : Selection) (ns : List ℕ) (old new : Leaf) → SelectsLeaf by old new → leaf_shape old ≡ ns → IsDesc (leaf_desc new) → HasShape (selected_shape by ns) new
has_shape by ns old new h e d = record {
  desc = d;
  same = (leaf_selects by old new h).shape ∙ ap (selected_shape by) e;
}

-- and so have all
pub selected_shapes : (by : Selection) (ns : List ℕ) (olds news : List Node) → SelectsNodes by olds news → AllLeaves (HasShape ns) olds → AllLeaves (λ leaf. IsDesc (leaf_desc leaf)) news → AllLeaves (HasShape (selected_shape by ns)) news
selected_shapes by ns olds news h l d =
    along by (λ olds news. AllLeaves (HasShape ns) olds → AllLeaves (λ leaf. IsDesc (leaf_desc leaf)) news → AllLeaves (HasShape (selected_shape by ns)) news)
    (λ l d. tt)
    (λ old new olds news h s l d. (has_shape by ns old new h l.0.same d.0, s l.1 d.1))
    (λ f place olds news s l d. s l d)
    (λ f place olds news s l d. s l d)
    olds news h l d

-- they name the same owners
pub selected_names : (by : Selection) (olds news : List Node) → SelectsNodes by olds news → (key : ℕ) → named_by_nodes news key ≡ named_by_nodes olds key
selected_names by olds news h key =
    along by (λ olds news. named_by_nodes news key ≡ named_by_nodes olds key)
    refl
    (λ old new olds news h s.
    let e = selected_name by old new key h in
    ap (λ n. n + named_by_nodes news key) e ∙ ap (λ n. named_by_leaf old key + n) s)
    (λ f place olds news s. s)
    (λ f place olds news s. s)
    olds news h

-- there are as many functions
pub selected_functions : (by : Selection) (olds news : List Node) → SelectsNodes by olds news → functions_in news ≡ functions_in olds
selected_functions by olds news h =
    along by (λ olds news. functions_in news ≡ functions_in olds)
    refl (λ old new olds news h s. s) (λ f place olds news s. ap suc s) (λ f place olds news s. ap suc s) olds news h

-- and as many stored operands
selected_stored_leaf : (by : Selection) (old new : Leaf) → SelectsLeaf by old new → stored_of_leaf new ≡ stored_of_leaf old
selected_stored_leaf by (Stored owner old kind) (Stored named new what) h = refl
selected_stored_leaf by (Gen old kind) (Gen new what) h = refl
selected_stored_leaf by (Stored owner old kind) (Gen new what) h = absurd h
selected_stored_leaf by (Gen old kind) (Stored named new what) h = absurd h

pub selected_stored : (by : Selection) (olds news : List Node) → SelectsNodes by olds news → stored_in news ≡ stored_in olds
selected_stored by olds news h =
    along by (λ olds news. stored_in news ≡ stored_in olds)
    refl
    (λ old new olds news h s. omega (arith, selected_stored_leaf by old new h, s))
    (λ f place olds news s. s)
    (λ f place olds news s. s)
    olds news h

-- as many values are pending
abbrev SamePending : List Node → List Node → Type 0
SamePending olds news = (n : ℕ) → pending_after news n ≡ pending_after olds n

-- after a function of one argument
one_pending : (f : Mon) (place : Place) (olds news : List Node) → SamePending olds news → SamePending (One f place ∷ olds) (One f place ∷ news)
one_pending f place olds news s zero = refl
one_pending f place olds news s (suc n) = s (suc n)

-- after a function of two arguments
two_pending : (f : Dya) (place : Place) (olds news : List Node) → SamePending olds news → SamePending (Two f place ∷ olds) (Two f place ∷ news)
two_pending f place olds news s zero = refl
two_pending f place olds news s (suc zero) = refl
two_pending f place olds news s (suc (suc n)) = s (suc n)

-- after all nodes
pub selected_pending : (by : Selection) (olds news : List Node) → SelectsNodes by olds news → SamePending olds news
selected_pending by olds news h =
    along by SamePending (λ n. refl) (λ old new olds news h s n. s (suc n)) one_pending two_pending olds news h

-- the kind, and that there is a first leaf or none
record SameForm (olds news : List Node) : Type 0 where
  kind : kind_of_nodes news ≡ kind_of_nodes olds
  count : length news ≡ length olds

-- in front of others
leaf_form : (by : Selection) (old new : Leaf) (olds news : List Node) → SelectsLeaf by old new → length news ≡ length olds → SameForm (Operand old ∷ olds) (Operand new ∷ news)
leaf_form by old new [] [] h e = record { kind = selected_kind by old new h; count = refl }
leaf_form by old new (x ∷ olds) (y ∷ news) h e = record { kind = refl; count = ap suc e }
leaf_form by old new [] (y ∷ news) h e = absurd (omega (arith, e))
leaf_form by old new (x ∷ olds) [] h e = absurd (omega (arith, e))

-- the kind is the same
pub selected_kinds : (by : Selection) (olds news : List Node) → SelectsNodes by olds news → kind_of_nodes news ≡ kind_of_nodes olds
selected_kinds by olds news h =
    (along by SameForm
    (record { kind = refl; count = refl })
    (λ old new olds news h s. leaf_form by old new olds news h s.count)
    (λ f place olds news s. record { kind = refl; count = ap suc s.count })
    (λ f place olds news s. record { kind = refl; count = ap suc s.count })
    olds news h).kind

-- ---- the first node is a leaf

pub record FirstLeaf (by : Selection) (ns : List ℕ) : Type 0 where
  pub old : Leaf
  pub new : Leaf
  pub selects : SelectsLeaf by old new
  pub shape : leaf_shape old ≡ ns
  pub desc : IsDesc (leaf_desc new)

-- it is there, since the nodes leave a value
pub first_leaf : (by : Selection) (ns : List ℕ) (olds news : List Node) → pending_after olds 0 ≡ Some 1 → SelectsNodes by olds news → AllLeaves (HasShape ns) olds → AllLeaves (λ leaf. IsDesc (leaf_desc leaf)) news → FirstLeaf by ns
first_leaf by ns (Operand old ∷ olds) (Operand new ∷ news) e h l d = record {
  old = old;
  new = new;
  selects = h.0;
  shape = l.0.same;
  desc = d.0;
}
first_leaf by ns [] news e h l d = absurd (cc)
first_leaf by ns (One f place ∷ olds) news e h l d = absurd (cc)
first_leaf by ns (Two f place ∷ olds) news e h l d = absurd (cc)
first_leaf by ns (Operand old ∷ olds) [] e h l d = absurd h
first_leaf by ns (Operand old ∷ olds) (One g at ∷ news) e h l d = absurd h
first_leaf by ns (Operand old ∷ olds) (Two g at ∷ news) e h l d = absurd h

-- an index of the selection reads an index of the old shape
pub reads_index : (by : Selection) (ns i : List ℕ) → FirstLeaf by ns → IsIndex (selected_shape by ns) i → IsIndex ns (selected_index by ns i)
reads_index by ns i f =
    subst (λ (l : List ℕ). IsIndex (selected_shape by l) i → IsIndex l (selected_index by l i)) f.shape ((leaf_selects by f.old f.new f.selects).index i)

-- and its lengths make a shape
pub selected_is_shape : (by : Selection) (ns : List ℕ) → FirstLeaf by ns → IsShape (selected_shape by ns)
selected_is_shape by ns f =
    subst IsShape ((leaf_selects by f.old f.new f.selects).shape ∙ ap (selected_shape by) f.shape) f.desc.shape

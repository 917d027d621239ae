-- What is computed by whole arrays is what each index says.
use Rattle.std.proofs.Common.{◌≡◌, ℕ, zero, suc, ◌<◌, ℤ, pos, false, IsTrue, List, [], ◌∷◌, length, map, get_or, Option, Some, None, refl, sym, ap, ◌∙◌, arith}
use Rattle.std.specs.Prelude.{is_none}
use Rattle.std.specs.Option.{option_map, option_and_then}
use Rattle.std.specs.List.{AllByRecursion, zip}
use Rattle.apl_base.specs.declared.cells.Kind.{Kind}
use Rattle.apl_base.specs.declared.cells.Kind.TheVariants.{Num}
use Rattle.apl_base.specs.declared.cells.Elem.{Elem}
use Rattle.apl_base.specs.declared.faults.Place.{Place}
use Rattle.apl_base.specs.declared.rows.Mon.{Mon}
use Rattle.apl_base.specs.declared.rows.Dya.{Dya}
use Rattle.apl_base.specs.declared.rows.Dya.TheVariants as dya
use Rattle.apl_base.specs.Array.{Array, IsIndex, index_at, place_at, cell_at}
use Rattle.apl_base.specs.Elements.{element, elements, all_defined}
use Rattle.apl_base.specs.Scalar.{scalar1, scalar2, number as number_element}
use Rattle.apl_base.proofs.Sizes.{IsIndex-index_at, place_at-below, place_at-index_at}
use Rattle.apl_base.proofs.Elements.{tabulated-at}
use Rattle.array_store.specs.Stores.{StoreView}
use Rattle.drag_along.specs.declared.nodes.Node.{Node}
use Rattle.drag_along.specs.declared.nodes.Node.TheVariants.{Operand, One, Two}
use Rattle.drag_along.specs.Nodes.{leaf_kind, node_place}
use Rattle.drag_along.specs.Meaning.{Pending, pending, stopped, put, numbers_or, leaf_cell, value_at, fails_on, after_node}
use Rattle.drag_along.proofs.LawfulLemmas.{HasForm, FormIf, applied1-form, applied2-form, leaf_array-form}

-- ---- a scalar function's value is a number

abbrev pub OnlyNumber : Option Elem → Type 0
OnlyNumber None = Unit {0}
OnlyNumber (Some v) = v.kind ≡ Num

mapped-number : (o : Option ℤ) → OnlyNumber (option_map number_element o)
mapped-number None = tt
mapped-number (Some z) = refl

pub scalar1-number : (f : Mon) (y : Elem) → OnlyNumber (scalar1 f y)
scalar1-number f y = mapped-number _

pub scalar2-number : (f : Dya) (x y : Elem) → OnlyNumber (scalar2 f x y)
scalar2-number dya.Eq x y = refl
scalar2-number dya.Ne x y = refl
scalar2-number f x y = mapped-number _

-- ---- the values of a list of cells, each or one missing

abbrev pub Each1 : (Elem → Option Elem) → Kind → List ℤ → Option (List Elem) → Type 0
Each1 g kind cells None = (k : ℕ) × (k < length cells) × (g (element kind (get_or cells k (pos 0))) ≡ None)
Each1 g kind cells (Some es) =
    (k : ℕ) → k < length cells → g (element kind (get_or cells k (pos 0))) ≡ Some (element Num (get_or (map (λ e. e.cell) es) k (pos 0)))

each1-cons : (g : Elem → Option Elem) (kind : Kind) (c : ℤ) (cs : List ℤ) (o : Option Elem) (r : Option (List Elem)) → g (element kind c) ≡ o → OnlyNumber o → Each1 g kind cs r → Each1 g kind (c ∷ cs) (option_and_then (λ v. option_map (λ vs. v ∷ vs) r) o)
each1-cons g kind c cs None r e n h = (0, omega arith, e)
each1-cons g kind c cs (Some v) None e n h = (suc h.0, omega (arith, h.1), h.2)
each1-cons g kind c cs (Some v) (Some es) e n h = λ k. at k
  where
    at : (k : ℕ) → k < suc (length cs) → g (element kind (get_or (c ∷ cs) k (pos 0))) ≡ Some (element Num (get_or (v.cell ∷ map (λ (e : Elem). e.cell) es) k (pos 0)))
    at zero below = e ∙ ap (λ (q : Kind). Some (element q v.cell)) n
    at (suc k) below = h k (omega arith)

each1 : (g : Elem → Option Elem) (kind : Kind) → ((y : Elem) → OnlyNumber (g y)) → (cells : List ℤ) → Each1 g kind cells (all_defined (map g (map (element kind) cells)))
each1 g kind numbers [] = λ k below. absurd (omega (arith, below))
each1 g kind numbers (c ∷ cs) =
    each1-cons g kind c cs (g (element kind c)) (all_defined (map g (map (element kind) cs))) refl (numbers (element kind c)) (each1 g kind numbers cs)

abbrev pub Each2 : (Elem → Elem → Option Elem) → Kind → Kind → List ℤ → List ℤ → Option (List Elem) → Type 0
Each2 g j kind bs cells None = (k : ℕ) × (k < length cells) × (g (element j (get_or bs k (pos 0))) (element kind (get_or cells k (pos 0))) ≡ None)
Each2 g j kind bs cells (Some es) =
    (k : ℕ) → k < length cells → g (element j (get_or bs k (pos 0))) (element kind (get_or cells k (pos 0))) ≡ Some (element Num (get_or (map (λ e. e.cell) es) k (pos 0)))

each2-cons : (g : Elem → Elem → Option Elem) (j kind : Kind) (b : ℤ) (bs : List ℤ) (c : ℤ) (cs : List ℤ) (o : Option Elem) (r : Option (List Elem)) → g (element j b) (element kind c) ≡ o → OnlyNumber o → Each2 g j kind bs cs r → Each2 g j kind (b ∷ bs) (c ∷ cs) (option_and_then (λ v. option_map (λ vs. v ∷ vs) r) o)
each2-cons g j kind b bs c cs None r e n h = (0, omega arith, e)
each2-cons g j kind b bs c cs (Some v) None e n h = (suc h.0, omega (arith, h.1), h.2)
each2-cons g j kind b bs c cs (Some v) (Some es) e n h = λ k. at k
  where
    at : (k : ℕ) → k < suc (length cs) → g (element j (get_or (b ∷ bs) k (pos 0))) (element kind (get_or (c ∷ cs) k (pos 0))) ≡ Some (element Num (get_or (v.cell ∷ map (λ (e : Elem). e.cell) es) k (pos 0)))
    at zero below = e ∙ ap (λ (q : Kind). Some (element q v.cell)) n
    at (suc k) below = h k (omega arith)

each2 : (g : Elem → Elem → Option Elem) (j kind : Kind) → ((x y : Elem) → OnlyNumber (g x y)) → (bs cells : List ℤ) → length bs ≡ length cells → Each2 g j kind bs cells (all_defined (map (λ (p : Elem × Elem). g p.0 p.1) (zip (map (element j) bs) (map (element kind) cells))))
each2 g j kind numbers [] [] same = λ k below. absurd (omega (arith, below))
each2 g j kind numbers [] (c ∷ cs) same = absurd (omega (arith, same))
each2 g j kind numbers (b ∷ bs) [] same = absurd (omega (arith, same))
each2 g j kind numbers (b ∷ bs) (c ∷ cs) same =
    each2-cons g j kind b bs c cs (g (element j b) (element kind c))
    (all_defined (map (λ (p : Elem × Elem). g p.0 p.1) (zip (map (element j) bs) (map (element kind) cs))))
    refl (numbers (element j b) (element kind c)) (each2 g j kind numbers bs cs (omega (arith, same)))

-- ---- one node

-- what the arrays pending have at an index
abbrev pub column : List ℕ → List Array → List (Option Elem)
column i us = map (λ (a : Array). Some (element a.kind (cell_at a i))) us

abbrev pub StepAgrees : StoreView → List ℕ → Node → List Array → Pending → Type 0
StepAgrees s sh x us (pending vs) =
    AllByRecursion (HasForm sh) vs × ((i : List ℕ) → IsIndex sh i → (value_at s i x (column i us) ≡ column i vs) × (fails_on x (column i us) ≡ false))
StepAgrees s sh x us (stopped p) =
    (i : List ℕ) × IsIndex sh i × IsTrue (fails_on x (column i us)) × (node_place x ≡ p)

-- the place of an index is a place of an array of that shape
place_within : (sh : List ℕ) (a b : Array) (i : List ℕ) → HasForm sh a → HasForm sh b → IsIndex sh i → place_at a.shape i < length b.cells
place_within sh a b i h g index =
    let below = place_at-below sh i index in
    let e : place_at a.shape i ≡ place_at sh i = ap (λ (ns : List ℕ). place_at ns i) h.shape in
    omega (arith, below, e, g.count)

place_of_index : (sh : List ℕ) (a b : Array) (k : ℕ) → HasForm sh a → HasForm sh b → k < length b.cells → place_at a.shape (index_at sh k) ≡ k
place_of_index sh a b k h g below =
    ap (λ (ns : List ℕ). place_at ns (index_at sh k)) h.shape ∙ place_at-index_at sh k (omega (arith, below, g.count))

step1 : (s : StoreView) (sh : List ℕ) (f : Mon) (p : Place) (b : Array) (us : List Array) (o : Option (List Elem)) → HasForm sh b → AllByRecursion (HasForm sh) us → Each1 (scalar1 f) b.kind b.cells o → FormIf sh (numbers_or p b.shape o) → StepAgrees s sh (One f p) (b ∷ us) (put (numbers_or p b.shape o) us)
step1 s sh f p b us (Some es) h hs each form = (
  (form, hs),
  λ i index.
      let found = each (place_at b.shape i) (place_within sh b b i h h index) in
      (ap (λ (o : Option Elem). o ∷ column i us) found, ap (λ (o : Option Elem). is_none o) found),
)
step1 s sh f p b us None h hs each form =
    let k = each.0 in
    let at : scalar1 f (element b.kind (cell_at b (index_at sh k))) ≡ None =
    ap (λ (n : ℕ). scalar1 f (element b.kind (get_or b.cells n (pos 0)))) (place_of_index sh b b k h h each.1) ∙ each.2 in
    (index_at sh k, IsIndex-index_at sh k (omega (arith, each.1, h.count)), ap (λ (o : Option Elem). is_none o) at, refl)

step2 : (s : StoreView) (sh : List ℕ) (f : Dya) (p : Place) (a b : Array) (us : List Array) (o : Option (List Elem)) → HasForm sh a → HasForm sh b → AllByRecursion (HasForm sh) us → Each2 (scalar2 f) a.kind b.kind a.cells b.cells o → FormIf sh (numbers_or p b.shape o) → StepAgrees s sh (Two f p) (a ∷ b ∷ us) (put (numbers_or p b.shape o) us)
step2 s sh f p a b us (Some es) g h hs each form = (
  (form, hs),
  λ i index.
      let found : scalar2 f (element a.kind (cell_at a i)) (element b.kind (cell_at b i)) ≡ Some (element Num (get_or (map (λ e. e.cell) es) (place_at b.shape i) (pos 0))) =
      ap (λ (ns : List ℕ). scalar2 f (element a.kind (get_or a.cells (place_at ns i) (pos 0))) (element b.kind (cell_at b i))) (g.shape ∙ sym h.shape)
      ∙ each (place_at b.shape i) (place_within sh b b i h h index) in
      (ap (λ (o : Option Elem). o ∷ column i us) found, ap (λ (o : Option Elem). is_none o) found),
)
step2 s sh f p a b us None g h hs each form =
    let k = each.0 in
    let at : scalar2 f (element a.kind (cell_at a (index_at sh k))) (element b.kind (cell_at b (index_at sh k))) ≡ None =
    ap (λ (n : ℕ). scalar2 f (element a.kind (get_or a.cells n (pos 0))) (element b.kind (cell_at b (index_at sh k)))) (place_of_index sh a b k g h each.1)
    ∙ ap (λ (n : ℕ). scalar2 f (element a.kind (get_or a.cells k (pos 0))) (element b.kind (get_or b.cells n (pos 0)))) (place_of_index sh b b k h h each.1)
    ∙ each.2 in
    (index_at sh k, IsIndex-index_at sh k (omega (arith, each.1, h.count)), ap (λ (o : Option Elem). is_none o) at, refl)

pub step : (s : StoreView) (sh : List ℕ) (x : Node) (us : List Array) → AllByRecursion (HasForm sh) us → StepAgrees s sh x us (after_node s sh x (pending us))
step s sh (Operand leaf) us h = (
  (leaf_array-form s sh leaf, h),
  λ i index.
      (ap (λ (c : ℤ). let o : Option Elem = Some (element (leaf_kind leaf) c) in o ∷ column i us) (sym (tabulated-at (leaf_kind leaf) sh (leaf_cell s leaf) i index)), refl),
)
step s sh (One f p) [] h = (h, λ i index. (refl, refl))
step s sh (One f p) (b ∷ us) h =
    step1 s sh f p b us (all_defined (map (scalar1 f) (elements b))) h.0 h.1 (each1 (scalar1 f) b.kind (scalar1-number f) b.cells) (applied1-form sh f p b h.0)
step s sh (Two f p) [] h = (h, λ i index. (refl, refl))
step s sh (Two f p) (a ∷ []) h = (h, λ i index. (refl, refl))
step s sh (Two f p) (a ∷ b ∷ us) h =
    step2 s sh f p a b us (all_defined (map (λ (q : Elem × Elem). scalar2 f q.0 q.1) (zip (elements a) (elements b)))) h.0 h.1.0 h.1.1
    (each2 (scalar2 f) a.kind b.kind (scalar2-number f) a.cells b.cells (h.0.count ∙ sym h.1.0.count)) (applied2-form sh f p a b h.0 h.1.0)

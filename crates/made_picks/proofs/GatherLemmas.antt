-- Subscripts: their answer, and the cells that tracks pick for them.
use Rattle.std.proofs.Common.{◌≡◌, ℕ, zero, suc, ◌*◌, ◌<◌, ◌==◌, true, false, not, ℤ, pos, ◌+ℤ◌, ◌≤ℤ◌, ◌<ℤ◌, List, [], ◌∷◌, ◌++◌, length, map, Option, Some, None, Ok, Err, refl, sym, ap, ◌∙◌, subst, arith}
use Rattle.std.specs.List.{AllByRecursion, list_any}
use Rattle.std.proofs.lemmas.Bool.{eq-eqb, ne_eqb}
use Rattle.std.proofs.lemmas.Int.{ints}
use Rattle.std.proofs.lemmas.List.{length-map}
use Rattle.std.proofs.Math.Nat.{mul-pos}
use Rattle.apl_base.specs.declared.faults.ErrorKind.TheVariants as error
use Rattle.apl_base.specs.Array.{Array, IsShape, IsIndex, size_of, cell_at}
use Rattle.apl_base.specs.Elements.{gathered}
use Rattle.apl_base.specs.Selection.{only_index}
use Rattle.apl_base.proofs.Booleans.{both_parts}
use Rattle.apl_base.proofs.Elements.{tabulated-cells, tabulated-at, tabulated-count}
use Rattle.apl_base.proofs.Sizes.{size_of-append}
use Rattle.apl_base.proofs.Upward.{length-map-upward}
use Rattle.array_desc.specs.Desc.{DescView, IsDesc, number}
use Rattle.array_desc.proofs.Indices.{index_with_size}
use Rattle.array_store.specs.Stores.{StoreView}
use Rattle.array_store.specs.Counting.{OnlyCounted}
use Rattle.drag_along.specs.declared.leaves.Leaf.{Leaf}
use Rattle.drag_along.specs.declared.leaves.Leaf.TheVariants.{Stored, Gen}
use Rattle.drag_along.specs.Nodes.{leaf_desc, leaf_kind, leaf_shape}
use Rattle.drag_along.specs.Meaning.{leaf_cell}
use Rattle.drag_along.specs.Lawful.{IsLawfulLeaf}
use Rattle.leaf_names.specs.Variables.{array_of}
use Rattle.apl_model.specs.Whole.{rank}
use Rattle.apl_model.specs.Subscript.{is_text_position, in_axis, in_axes, axes_of, positions_shape, positions_index, subscript}
use Rattle.made_fns.proofs.Lengths.{array_of-counted}
use Rattle.made_fns.proofs.Tests.{no_error, an_error, within_shape, over_limit}
use Rattle.made_picks.specs.Picks.{cell_by, IsReadable, IsReached, lengths_on, picked, positions_of}
use Rattle.made_picks.specs.declared.tracks.Track.{Track}
use Rattle.made_picks.specs.Tracks.{places_on, named_on, named_along}
use Rattle.made_picks.proofs.NamedLemmas.{IsFilled, cell-named, picked-named}
use Rattle.made_picks.proofs.PositionLemmas.{positions-filled, positions-counted, length-positions}
use Rattle.made_picks.proofs.WalkLemmas.{picked-counted}

-- ---- the answer

pub subscript_rank : (o : ℤ) (a : Array) (ps : List (Option Array)) → (length ps ≡ rank a → ⊥) → subscript o a ps ≡ Err error.Rank
subscript_rank o a ps h = an_error error.Rank (not (length ps == rank a)) _ (ap not (ne_eqb (length ps) (rank a) h))

passes_rank : (a : Array) (ps : List (Option Array)) → length ps ≡ rank a → not (length ps == rank a) ≡ false
passes_rank a ps h = ap not (eq-eqb (length ps) (rank a) h)

pub subscript_domain : (o : ℤ) (a : Array) (ps : List (Option Array)) → length ps ≡ rank a → list_any is_text_position ps ≡ true → subscript o a ps ≡ Err error.Domain
subscript_domain o a ps h text =
    no_error error.Rank (not (length ps == rank a)) _ (passes_rank a ps h)
    ∙ an_error error.Domain (list_any is_text_position ps) _ text

pub subscript_index : (o : ℤ) (a : Array) (ps : List (Option Array)) → length ps ≡ rank a → list_any is_text_position ps ≡ false → in_axes o a.shape ps ≡ false → subscript o a ps ≡ Err error.Index
subscript_index o a ps h text within =
    no_error error.Rank (not (length ps == rank a)) _ (passes_rank a ps h)
    ∙ no_error error.Domain (list_any is_text_position ps) _ text
    ∙ an_error error.Index (not (in_axes o a.shape ps)) _ (ap not within)

pub subscript_limit : (o : ℤ) (a : Array) (ps : List (Option Array)) → length ps ≡ rank a → list_any is_text_position ps ≡ false → in_axes o a.shape ps ≡ true → (IsShape (positions_shape a.shape ps) → ⊥) → subscript o a ps ≡ Err error.Limit
subscript_limit o a ps h text within over =
    no_error error.Rank (not (length ps == rank a)) _ (passes_rank a ps h)
    ∙ no_error error.Domain (list_any is_text_position ps) _ text
    ∙ no_error error.Index (not (in_axes o a.shape ps)) _ (ap not within)
    ∙ over_limit (positions_shape a.shape ps) _ over

pub subscript_is : (o : ℤ) (a : Array) (ps : List (Option Array)) (shape : List ℕ) → length ps ≡ rank a → list_any is_text_position ps ≡ false → in_axes o a.shape ps ≡ true → IsShape shape → shape ≡ positions_shape a.shape ps → subscript o a ps ≡ Ok (gathered shape (positions_index o a.shape ps) a)
subscript_is o a ps shape h text within lawful is =
    no_error error.Rank (not (length ps == rank a)) _ (passes_rank a ps h)
    ∙ no_error error.Domain (list_any is_text_position ps) _ text
    ∙ no_error error.Index (not (in_axes o a.shape ps)) _ (ap not within)
    ∙ within_shape (positions_shape a.shape ps) _ (subst IsShape is lawful)
    ∙ ap (λ (ns : List ℕ). Ok (gathered ns (positions_index o a.shape ps) a)) (sym is)

-- ---- a leaf by its numbers

by_number : (s : StoreView) (leaf : Leaf) (is : List ℕ) → cell_by s leaf (number (leaf_desc leaf) is) ≡ leaf_cell s leaf is
by_number s (Stored owner desc kind) is = refl
by_number s (Gen desc kind) is = refl

pub number_cell : (s : StoreView) (leaf : Leaf) (is : List ℕ) → IsIndex (leaf_shape leaf) is → cell_by s leaf (number (leaf_desc leaf) is) ≡ cell_at (array_of s leaf) is
number_cell s leaf is index = by_number s leaf is ∙ sym (tabulated-at (leaf_kind leaf) (leaf_shape leaf) (leaf_cell s leaf) is index)

pub number_reached : (s : StoreView) (leaf : Leaf) (is : List ℕ) → IsDesc (leaf_desc leaf) → IsLawfulLeaf s leaf → IsIndex (leaf_shape leaf) is → IsReadable s leaf (number (leaf_desc leaf) is)
number_reached s (Stored owner desc kind) is lawful h index = record { number = lawful.numbers is index; cell = (h.live, h.low is index, h.high is index) }
number_reached s (Gen desc kind) is lawful h index = record { number = lawful.numbers is index; cell = tt }

pub leaf_reached : (s : StoreView) (leaf : Leaf) → IsDesc (leaf_desc leaf) → IsLawfulLeaf s leaf → IsReached s leaf (leaf_shape leaf) (leaf_desc leaf).strides (leaf_desc leaf).base
leaf_reached s leaf lawful h = λ is index. number_reached s leaf is lawful h index

-- ---- how many elements positions name

product : (n m : ℕ) → 0 < n * m → (0 < n) × (0 < m)
product zero m h = absurd (omega (arith, h))
product (suc n) zero h = absurd (omega (arith, h))
product (suc n) (suc m) h = (omega arith, omega arith)

axis_some : (o : ℤ) (n : ℕ) (p : Option Array) → IsFilled p → in_axis o n p ≡ true → 0 < size_of (axes_of n p) → 0 < n
axis_some o n None filled within some = (product n 1 some).0
axis_some o n (Some a) filled within some =
    let named = cell-named o n a (only_index a.shape) filled within (index_with_size a.shape some) in
    by n named.0 named.1
  where
    by : (m : ℕ) → o ≤ℤ cell_at a (only_index a.shape) → cell_at a (only_index a.shape) <ℤ (o +ℤ pos m) → 0 < m
    by zero low high = absurd (omega (arith, ints, low, high))
    by (suc m) low high = omega arith

-- where there is an element, no axis is without any
pub positions_some : (o : ℤ) (ns : List ℕ) (ps : List (Option Array)) → length ns ≡ length ps → AllByRecursion IsFilled ps → in_axes o ns ps ≡ true → 0 < size_of (positions_shape ns ps) → 0 < size_of ns
positions_some o [] ps same filled within some = omega arith
positions_some o (n ∷ ns) [] same filled within some = absurd (omega (arith, same))
positions_some o (n ∷ ns) (p ∷ ps) same filled within some =
    let parts = both_parts (in_axis o n p) (in_axes o ns ps) within in
    let sizes = product (size_of (axes_of n p)) (size_of (positions_shape ns ps)) (subst (λ (k : ℕ). 0 < k) (size_of-append (axes_of n p) (positions_shape ns ps)) some) in
    let first = axis_some o n p filled.0 parts.0 sizes.0 in
    let rest = positions_some o ns ps (omega (arith, same)) filled.1 parts.1 sizes.1 in
    mul-pos first rest

length-named : (o : ℤ) (n : ℕ) (p : Option Array) → IsFilled p → length (named_on o n p) ≡ size_of (axes_of n p)
length-named o n None filled = length-map-upward (λ i. Some (pos i)) 0 n ∙ omega arith
length-named o n (Some a) filled = length-map a.cells _ ∙ filled

pub size-named : (o : ℤ) (ns : List ℕ) (ps : List (Option Array)) → length ns ≡ length ps → AllByRecursion IsFilled ps → size_of (lengths_on (named_along o ns ps)) ≡ size_of (positions_shape ns ps)
size-named o [] [] same filled = refl
size-named o [] (p ∷ ps) same filled = absurd (omega (arith, same))
size-named o (n ∷ ns) [] same filled = absurd (omega (arith, same))
size-named o (n ∷ ns) (p ∷ ps) same filled =
    let here = length-named o n p filled.0 in
    let rest = size-named o ns ps (omega (arith, same)) filled.1 in
    ap (λ (k : ℕ). k * size_of (lengths_on (named_along o ns ps))) here
    ∙ ap (λ (k : ℕ). size_of (axes_of n p) * k) rest
    ∙ sym (size_of-append (axes_of n p) (positions_shape ns ps))

-- ---- the cells

pub gathered_are : (s : StoreView) (leaf : Leaf) (positions : List (Option Leaf)) (o : ℤ) → IsDesc (leaf_desc leaf) → length (leaf_shape leaf) ≡ length positions → in_axes o (leaf_shape leaf) (positions_of s positions) ≡ true
    → picked (cell_by s leaf) (pos 0) (leaf_desc leaf).strides (named_along o (leaf_shape leaf) (positions_of s positions)) (leaf_desc leaf).base
    ≡ (gathered (positions_shape (leaf_shape leaf) (positions_of s positions)) (positions_index o (leaf_shape leaf) (positions_of s positions)) (array_of s leaf)).cells
gathered_are s leaf positions o lawful same within =
    picked-named (cell_by s leaf) (pos 0) o (leaf_shape leaf) (positions_of s positions) (leaf_desc leaf).strides (leaf_desc leaf).base (cell_at (array_of s leaf))
    lawful.strides (same ∙ sym (length-positions s positions)) (positions-filled s positions) within (λ is index. number_cell s leaf is index)
    ∙ sym (tabulated-cells (leaf_kind leaf) (positions_shape (leaf_shape leaf) (positions_of s positions)) (λ is. cell_at (array_of s leaf) (positions_index o (leaf_shape leaf) (positions_of s positions) is)))

pub length-gathered : (ns : List ℕ) (read : List ℕ → List ℕ) (a : Array) → length (gathered ns read a).cells ≡ size_of ns
length-gathered ns read a = tabulated-count a.kind ns (λ is. cell_at a (read is))

-- ---- what is asked before the walk

-- how many elements the tracks of positions pick
pub gathered_size : (s : StoreView) (leaf : Leaf) (shape : List ℕ) (positions : List (Option Leaf)) (o : ℤ) (tracks all : List Track) (size : ℕ) → shape ≡ leaf_shape leaf → all ≡ tracks → map places_on tracks ≡ named_along o shape (positions_of s positions)
    → length (leaf_shape leaf) ≡ length positions → size ≡ size_of (positions_shape (leaf_shape leaf) (positions_of s positions)) → size_of (lengths_on (map places_on all)) ≡ size
gathered_size s leaf shape positions o tracks all size of same are fit is =
    ap (λ (ts : List Track). size_of (lengths_on (map places_on ts))) same
    ∙ ap (λ (xs : List (List (Option ℤ))). size_of (lengths_on xs)) (are ∙ ap (λ (ns : List ℕ). named_along o ns (positions_of s positions)) of)
    ∙ size-named o (leaf_shape leaf) (positions_of s positions) (fit ∙ sym (length-positions s positions)) (positions-filled s positions)
    ∙ sym is

pub gathered_some : (s : StoreView) (leaf : Leaf) (shape : List ℕ) (positions : List (Option Leaf)) (o : ℤ) (size : ℕ) → shape ≡ leaf_shape leaf → length (leaf_shape leaf) ≡ length positions → in_axes o (leaf_shape leaf) (positions_of s positions) ≡ true
    → size ≡ size_of (positions_shape (leaf_shape leaf) (positions_of s positions)) → 0 < size → 0 < size_of shape
gathered_some s leaf shape positions o size of fit within is some =
    subst (λ (ns : List ℕ). 0 < size_of ns) (sym of)
    (positions_some o (leaf_shape leaf) (positions_of s positions) (fit ∙ sym (length-positions s positions)) (positions-filled s positions) within (subst (λ (n : ℕ). 0 < n) is some))

-- the cells that were picked
pub gathered_cells : (s now : StoreView) (leaf : Leaf) (d : DescView) (base : ℤ) (positions : List (Option Leaf)) (o : ℤ) (tracks all : List Track) (old new : List ℤ) → d ≡ leaf_desc leaf → base ≡ d.base → IsDesc (leaf_desc leaf) → OnlyCounted s now → all ≡ tracks
    → map places_on tracks ≡ named_along o d.shape (positions_of s positions) → length (leaf_shape leaf) ≡ length positions → in_axes o (leaf_shape leaf) (positions_of s positions) ≡ true → old ≡ [] → new ≡ old ++ picked (cell_by now leaf) (pos 0) d.strides (map places_on all) base
    → new ≡ (gathered (positions_shape (leaf_shape leaf) (positions_of s positions)) (positions_index o (leaf_shape leaf) (positions_of s positions)) (array_of s leaf)).cells
gathered_cells s now leaf d base positions o tracks all old new same from lawful only listed are fit within none is =
    is ∙ ap (λ (xs : List ℤ). xs ++ picked (cell_by now leaf) (pos 0) d.strides (map places_on all) base) none
    ∙ picked-counted s now leaf (pos 0) d.strides (map places_on all) base only
    ∙ ap (λ (z : ℤ). picked (cell_by s leaf) (pos 0) d.strides (map places_on all) z) from
    ∙ ap (λ (ts : List Track). picked (cell_by s leaf) (pos 0) d.strides (map places_on ts) d.base) listed
    ∙ ap (λ (xs : List (List (Option ℤ))). picked (cell_by s leaf) (pos 0) d.strides xs d.base) are
    ∙ ap (λ (e : DescView). picked (cell_by s leaf) (pos 0) e.strides (named_along o e.shape (positions_of s positions)) e.base) same
    ∙ gathered_are s leaf positions o lawful fit within

-- over a store that only counted they are the same
pub gathered_same : (s t : StoreView) (leaf : Leaf) (positions : List (Option Leaf)) (o : ℤ) (made : List ℕ) (cells : List ℤ) → OnlyCounted s t → made ≡ positions_shape (leaf_shape leaf) (positions_of s positions)
    → cells ≡ (gathered (positions_shape (leaf_shape leaf) (positions_of t positions)) (positions_index o (leaf_shape leaf) (positions_of t positions)) (array_of t leaf)).cells
    → cells ≡ (gathered made (positions_index o (leaf_shape leaf) (positions_of s positions)) (array_of s leaf)).cells
gathered_same s t leaf positions o made cells only shape are =
    are ∙ ap (λ (ps : List (Option Array)). (gathered (positions_shape (leaf_shape leaf) ps) (positions_index o (leaf_shape leaf) ps) (array_of t leaf)).cells) (positions-counted s t positions only)
    ∙ ap (λ (a : Array). (gathered (positions_shape (leaf_shape leaf) (positions_of s positions)) (positions_index o (leaf_shape leaf) (positions_of s positions)) a).cells) (array_of-counted s t leaf only)
    ∙ ap (λ (ns : List ℕ). (gathered ns (positions_index o (leaf_shape leaf) (positions_of s positions)) (array_of s leaf)).cells) (sym shape)

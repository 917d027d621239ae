-- Rows that are reduced one after the other, from the last one.
use Rattle.std.proofs.Common.{◌≡◌, ℕ, suc, ◌+◌, ◌-◌, ◌*◌, ◌<◌, ◌≤◌, ◌==◌, Bool, true, false, cond, ℤ, pos, List, [], ◌∷◌, ◌++◌, length, map, take, get_or, All, Option, Some, None, IfSome, refl, sym, ap, ◌∙◌, subst, arith}
use Rattle.std.specs.Option.{option_and_then}
use Rattle.std.proofs.lemmas.List.{map-append, length-take}
use Rattle.std.proofs.lemmas.Bool.{eqb-true}
use Rattle.apl_base.specs.declared.cells.Kind.{Kind}
use Rattle.apl_base.specs.declared.cells.Kind.TheVariants.{Num}
use Rattle.apl_base.specs.declared.cells.Elem.{Elem}
use Rattle.apl_base.specs.Array.{size_of, index_at}
use Rattle.apl_base.specs.Elements.{element}
use Rattle.apl_base.specs.Number.{IsCell, IsNumber}
use Rattle.apl_base.specs.Scalar.{scalar2}
use Rattle.apl_base.specs.Selection.{upward}
use Rattle.apl_base.proofs.Upward.{upward-append, length-map-upward, get_or-map-upward, get_or-map-places}
use Rattle.array_store.specs.Stores.{StoreView}
use Rattle.array_store.specs.Counting.{OnlyCounted}
use Rattle.drag_along.specs.declared.leaves.Leaf.{Leaf}
use Rattle.drag_along.specs.Nodes.{leaf_shape}
use Rattle.drag_along.specs.Meaning.{leaf_cell}
use Rattle.e_machine.specs.Forced.{cells_from}
use Rattle.e_machine.proofs.CountedLemmas.{leaf_cell-counted}
use Rattle.leaf_names.specs.Variables.{array_of}
use Rattle.apl_model.specs.Product.{reduced}
use Rattle.scalar_table.specs.Columns.{cell_in, element_in, IsColumn}
use Rattle.product_fns.specs.Folding.{Rows, folded, reduced_kind, IsReduced, IsUndefined, IsLine, HasNoLine}
use Rattle.product_fns.proofs.CountLemmas.{row_within}
use Rattle.product_fns.proofs.FoldLemmas.{reduced-more, reduced-append, reduced-none}

-- ---- cells that were read

-- a block that was read has the cells of the leaf's array from a place on
pub block-cells : (old now : StoreView) (leaf : Leaf) (place count : ℕ) (block : List ℤ) → OnlyCounted old now → place + count ≤ size_of (leaf_shape leaf) → block ≡ cells_from now leaf place count →
    (j : ℕ) → j < count → cell_in block j ≡ cell_in (array_of old leaf).cells (place + j)
block-cells old now leaf place count block only within is j below =
    let cell : StoreView → ℕ → ℤ = λ s p. leaf_cell s leaf (index_at (leaf_shape leaf) p) in
    ap (λ (zs : List ℤ). cell_in zs j) is
    ∙ get_or-map-upward (cell now) place count j (pos 0) below
    ∙ leaf_cell-counted old now leaf (index_at (leaf_shape leaf) (place + j)) only
    ∙ sym (get_or-map-places (cell old) (size_of (leaf_shape leaf)) (place + j) (pos 0) (omega arith))

-- and as many as were asked for
pub block-many : (now : StoreView) (leaf : Leaf) (place count : ℕ) (block : List ℤ) → block ≡ cells_from now leaf place count → length block ≡ count
block-many now leaf place count block is = ap length is ∙ length-map-upward (λ p. leaf_cell now leaf (index_at (leaf_shape leaf) p)) place count

-- ---- kinds

pub reduced_kind-many : (kind : Kind) (n : ℕ) → 1 < n → reduced_kind kind n ≡ Num
reduced_kind-many kind n h = by (n == 1) refl
  where
    by : (t : Bool) → (n == 1) ≡ t → cond t kind Num ≡ Num
    by true e = absurd (omega (arith, h, eqb-true n 1 e))
    by false e = refl

pub reduced_kind-one : (kind : Kind) (n : ℕ) → n ≡ 1 → reduced_kind kind n ≡ kind
reduced_kind-one kind n h = ap (reduced_kind kind) h

-- ---- rows

-- the element of row k in column j
abbrev pub element_on : Rows → ℕ → ℕ → Elem
element_on r place k = element_in r.kind r.cells (place + k * r.q)

-- the rows from `left` on were reduced to these results
pub record RowsFrom (r : Rows) (first left : ℕ) (kind : Kind) (results : List ℤ) : Type 0 where
  pub within : left < r.n
  pub many : length results ≡ r.q
  pub kind_is : kind ≡ reduced_kind r.kind (r.n - left)
  pub values : (j : ℕ) → j < r.q → reduced r.f (map (element_on r (first + j)) (upward left (r.n - left))) ≡ Some (element kind (cell_in results j))
  pub lawful : All (IsCell kind) results

pub rows_start : (r : Rows) (first left : ℕ) (results : List ℤ) → left + 1 ≡ r.n → length results ≡ r.q → ((j : ℕ) → j < r.q → cell_in results j ≡ cell_in r.cells ((first + left * r.q) + j)) → All (IsCell r.kind) results → RowsFrom r first left r.kind results
rows_start r first left results last many cells lawful =
    let one : r.n - left ≡ 1 = omega arith in
    record {
      within = omega arith;
      many = many;
      kind_is = sym (reduced_kind-one r.kind (r.n - left) one);
      values = λ j below.
          let place : (first + j) + left * r.q ≡ (first + left * r.q) + j = omega arith in
          ap (λ (m : ℕ). reduced r.f (map (element_on r (first + j)) (upward left m))) one
          ∙ ap (λ (p : ℕ). Some (element_in r.kind r.cells p)) place
          ∙ ap (λ (z : ℤ). Some (element r.kind z)) (sym (cells j below));
      lawful = lawful;
    }

-- the value of one column with the row before
row_value : (r : Rows) (first left : ℕ) (kind : Kind) (results row : List ℤ) (j : ℕ) → 0 < left → j < r.q → RowsFrom r first left kind results → cell_in row j ≡ cell_in r.cells ((first + (left - 1) * r.q) + j) →
    reduced r.f (map (element_on r (first + j)) (upward (left - 1) (r.n - (left - 1)))) ≡ scalar2 r.f (element_in r.kind row j) (element kind (cell_in results j))
row_value r first left kind results row j some below from read =
    let e : ℕ → Elem = element_on r (first + j) in
    let more : r.n - (left - 1) ≡ suc (r.n - left) = omega (arith, from.within) in
    let next : suc (left - 1) ≡ left = omega arith in
    let place : (first + j) + (left - 1) * r.q ≡ (first + (left - 1) * r.q) + j = omega arith in
    let has : 0 < length (map e (upward left (r.n - left))) = omega (arith, from.within, length-map-upward e left (r.n - left)) in
    ap (λ (m : ℕ). reduced r.f (map e (upward (left - 1) m))) more
    ∙ ap (λ (m : ℕ). reduced r.f (e (left - 1) ∷ map e (upward m (r.n - left)))) next
    ∙ reduced-more r.f (e (left - 1)) (map e (upward left (r.n - left))) has
    ∙ ap (option_and_then (scalar2 r.f (e (left - 1)))) (from.values j below)
    ∙ ap (λ (p : ℕ). scalar2 r.f (element_in r.kind r.cells p) (element kind (cell_in results j))) place
    ∙ ap (λ (z : ℤ). scalar2 r.f (element r.kind z) (element kind (cell_in results j))) (sym read)

-- one row more
pub rows_next : (r : Rows) (first left : ℕ) (kind : Kind) (results row new : List ℤ) (answer : Option ℕ) → 0 < left → RowsFrom r first left kind results → ((j : ℕ) → j < r.q → cell_in row j ≡ cell_in r.cells ((first + (left - 1) * r.q) + j)) → answer ≡ None → IsColumn (λ j. scalar2 r.f (element_in r.kind row j) (element_in kind results j)) new answer → (answer ≡ None → All IsNumber new) → length new ≡ length results → RowsFrom r first (left - 1) Num new
rows_next r first left kind results row new answer some from read none column numbers many =
    let values = subst (IsColumn (λ j. scalar2 r.f (element_in r.kind row j) (element_in kind results j)) new) none column in
    record {
      within = omega (arith, from.within);
      many = many ∙ from.many;
      kind_is = sym (reduced_kind-many r.kind (r.n - (left - 1)) (omega (arith, from.within)));
      values = λ j below. row_value r first left kind results row j some below from (read j below) ∙ values j (omega (arith, below, many, from.many));
      lawful = numbers none;
    }

-- a column of the row before is undefined
pub rows_none : (r : Rows) (first left : ℕ) (kind : Kind) (results row new : List ℤ) (answer : Option ℕ) (p : ℕ) → 0 < left → RowsFrom r first left kind results → ((j : ℕ) → j < r.q → cell_in row j ≡ cell_in r.cells ((first + (left - 1) * r.q) + j)) → answer ≡ Some p → IsColumn (λ j. scalar2 r.f (element_in r.kind row j) (element_in kind results j)) new answer → length new ≡ length results → IsUndefined r first
rows_none r first left kind results row new answer p some from read is column many =
    let without = subst (IsColumn (λ j. scalar2 r.f (element_in r.kind row j) (element_in kind results j)) new) is column in
    let below : p < r.q = omega (arith, without.within, many, from.many) in
    let all : (left - 1) + (r.n - (left - 1)) ≡ r.n = omega (arith, from.within) in
    record {
      j = p;
      within = below;
      none = ap (λ (m : ℕ). reduced r.f (map (element_on r (first + p)) (upward 0 m))) (sym all)
          ∙ reduced-none r.f (element_on r (first + p)) (left - 1) (r.n - (left - 1)) (omega (arith, from.within))
          (row_value r first left kind results row p some below from (read p below) ∙ without.without);
    }

-- all rows
pub rows_end : (r : Rows) (first left : ℕ) (kind : Kind) (results : List ℤ) → left ≡ 0 → RowsFrom r first left kind results → IsReduced r first results
rows_end r first left kind results none from =
    let all : r.n - left ≡ r.n = omega arith in
    let same : kind ≡ reduced_kind r.kind r.n = from.kind_is ∙ ap (reduced_kind r.kind) all in
    record {
      many = from.many;
      values = λ j below.
          ap (λ (m : ℕ). reduced r.f (map (element_on r (first + j)) (upward 0 m))) (sym all)
          ∙ ap (λ (m : ℕ). reduced r.f (map (element_on r (first + j)) (upward m (r.n - left)))) (sym none)
          ∙ from.values j below ∙ ap (λ (k : Kind). Some (element k (cell_in results j))) same;
      lawful = subst (λ (k : Kind). All (IsCell k) results) same from.lawful;
    }

-- ---- a line, whose rows have one cell

-- the elements from `left` on were reduced to this one
pub record LineFrom (r : Rows) (first left : ℕ) (value : Elem) : Type 0 where
  pub within : left < r.n
  pub folds : reduced r.f (map (element_on r first) (upward left (r.n - left))) ≡ Some value
  pub kind : value.kind ≡ reduced_kind r.kind (r.n - left)
  pub lawful : IsCell value.kind value.cell

pub line_start : (r : Rows) (first left place : ℕ) (value : Elem) → left + 1 ≡ r.n → r.q ≡ 1 → place ≡ first + left → value ≡ element_in r.kind r.cells place → IsCell value.kind value.cell → LineFrom r first left value
line_start r first left place value last one at is lawful =
    let only : r.n - left ≡ 1 = omega arith in
    let there : first + left * r.q ≡ place = rw one (omega arith) in
    record {
      within = omega arith;
      folds = ap (λ (m : ℕ). reduced r.f (map (element_on r first) (upward left m))) only ∙ ap (λ (p : ℕ). Some (element_in r.kind r.cells p)) there ∙ ap Some (sym is);
      kind = ap (λ (e : Elem). e.kind) is ∙ sym (reduced_kind-one r.kind (r.n - left) only);
      lawful = lawful;
    }

-- a block has the elements of so many rows
block-elements : (r : Rows) (first s : ℕ) (block : List ℤ) → r.q ≡ 1 → ((j : ℕ) → j < length block → cell_in block j ≡ cell_in r.cells ((first + s) + j)) → map (element r.kind) block ≡ map (element_on r first) (upward s (length block))
block-elements r first s [] one cells = refl
block-elements r first s (z ∷ zs) one cells =
    let there : first + s * r.q ≡ (first + s) + 0 = rw one (omega arith) in
    let here : element r.kind z ≡ element_on r first s = ap (element r.kind) (cells 0 (omega arith)) ∙ ap (λ (p : ℕ). element_in r.kind r.cells p) (sym there) in
    let rest = block-elements r first (suc s) zs one (λ j below. let p : (first + s) + suc j ≡ (first + suc s) + j = omega arith in cells (suc j) (omega arith) ∙ ap (cell_in r.cells) p) in
    ap (λ (e : Elem). e ∷ map (element r.kind) zs) here ∙ ap (λ (es : List Elem). element_on r first s ∷ es) rest

-- the value with a block more
block_value : (r : Rows) (first left now : ℕ) (value : Elem) (block : List ℤ) → r.q ≡ 1 → now + length block ≡ left → LineFrom r first left value → ((j : ℕ) → j < length block → cell_in block j ≡ cell_in r.cells ((first + now) + j)) →
    reduced r.f (map (element_on r first) (upward now (r.n - now))) ≡ folded (scalar2 r.f) (map (element r.kind) block) value
block_value r first left now value block one sum from cells =
    let e : ℕ → Elem = element_on r first in
    let more : r.n - now ≡ length block + (r.n - left) = omega (arith, from.within) in
    let has : 0 < length (map e (upward left (r.n - left))) = omega (arith, from.within, length-map-upward e left (r.n - left)) in
    ap (λ (m : ℕ). reduced r.f (map e (upward now m))) more
    ∙ ap (λ (ks : List ℕ). reduced r.f (map e ks)) (upward-append now (length block) (r.n - left))
    ∙ ap (reduced r.f) (map-append e (upward now (length block)) (upward (now + length block) (r.n - left)))
    ∙ ap (λ (m : ℕ). reduced r.f (map e (upward now (length block)) ++ map e (upward m (r.n - left)))) sum
    ∙ reduced-append r.f (map e (upward now (length block))) (map e (upward left (r.n - left))) value has from.folds
    ∙ ap (λ (es : List Elem). folded (scalar2 r.f) es value) (sym (block-elements r first now block one cells))

pub line_next : (r : Rows) (first left now : ℕ) (value next : Elem) (answer : Option Elem) (block : List ℤ) → r.q ≡ 1 → 0 < length block → now + length block ≡ left → LineFrom r first left value → ((j : ℕ) → j < length block → cell_in block j ≡ cell_in r.cells ((first + now) + j)) → answer ≡ folded (scalar2 r.f) (map (element r.kind) block) value → answer ≡ Some next → IfSome answer (λ e. 0 < length block → e.kind ≡ Num) → IfSome answer (λ e. IsCell e.kind e.cell) → LineFrom r first now next
line_next r first left now value next answer block one some sum from cells exact is num lawful =
    let number_is : next.kind ≡ Num = subst (λ (o : Option Elem). IfSome o (λ e. 0 < length block → e.kind ≡ Num)) is num some in
    record {
      within = omega (arith, from.within);
      folds = block_value r first left now value block one sum from cells ∙ sym exact ∙ is;
      kind = number_is ∙ sym (reduced_kind-many r.kind (r.n - now) (omega (arith, from.within)));
      lawful = subst (λ (o : Option Elem). IfSome o (λ e. IsCell e.kind e.cell)) is lawful;
    }

pub line_none : (r : Rows) (first left now : ℕ) (value : Elem) (answer : Option Elem) (block : List ℤ) → r.q ≡ 1 → now + length block ≡ left → LineFrom r first left value → ((j : ℕ) → j < length block → cell_in block j ≡ cell_in r.cells ((first + now) + j)) → answer ≡ folded (scalar2 r.f) (map (element r.kind) block) value → answer ≡ None → HasNoLine r first
line_none r first left now value answer block one sum from cells exact is =
    let all : now + (r.n - now) ≡ r.n = omega (arith, from.within) in
    ap (λ (m : ℕ). reduced r.f (map (element_on r first) (upward 0 m))) (sym all)
    ∙ reduced-none r.f (element_on r first) now (r.n - now) (omega (arith, from.within))
    (block_value r first left now value block one sum from cells ∙ sym exact ∙ is)

pub line_end : (r : Rows) (first left : ℕ) (value : Elem) → left ≡ 0 → LineFrom r first left value → IsLine r first value
line_end r first left value none from =
    let all : r.n - left ≡ r.n = omega arith in
    record {
      value = ap (λ (m : ℕ). reduced r.f (map (element_on r first) (upward 0 m))) (sym all)
          ∙ ap (λ (m : ℕ). reduced r.f (map (element_on r first) (upward m (r.n - left)))) (sym none) ∙ from.folds;
      kind = from.kind ∙ ap (reduced_kind r.kind) all;
      lawful = from.lawful;
    }

-- ---- what was read on the way

-- a row
pub row_read : (old now : StoreView) (leaf : Leaf) (first left n q : ℕ) (row new : List ℤ) → 0 < left → left < n → length row ≡ q → first + n * q ≤ size_of (leaf_shape leaf) → OnlyCounted old now → new ≡ cells_from now leaf (first + (left - 1) * q) (length row) →
    (j : ℕ) → j < q → cell_in new j ≡ cell_in (array_of old leaf).cells ((first + (left - 1) * q) + j)
row_read old now leaf first left n q row new some within many places only is j below =
    let fits : first + (left - 1) * q + length row ≤ size_of (leaf_shape leaf) = omega (arith, many, row_within first left n q some (omega (arith, within)), places) in
    block-cells old now leaf (first + (left - 1) * q) (length row) new only fits is j (omega (arith, below, many))

-- a block of the buffer
pub record BlockRead (old : StoreView) (leaf : Leaf) (place count : ℕ) (block : List ℤ) : Type 0 where
  pub many : length block ≡ count
  pub cells : (j : ℕ) → j < length block → cell_in block j ≡ cell_in (array_of old leaf).cells (place + j)

pub block_read : (old now : StoreView) (leaf : Leaf) (place count : ℕ) (buffer block : List ℤ) → count ≤ length buffer → place + count ≤ size_of (leaf_shape leaf) → OnlyCounted old now → block ≡ cells_from now leaf place (length (take count buffer)) → BlockRead old leaf place count block
block_read old now leaf place count buffer block fits within only is =
    let part : length (take count buffer) ≡ count = length-take count buffer ∙ omega arith in
    let cells : block ≡ cells_from now leaf place count = is ∙ ap (cells_from now leaf place) part in
    let many : length block ≡ count = block-many now leaf place count block cells in
    record {
      many = many;
      cells = λ j below. block-cells old now leaf place count block only within cells j (omega (arith, below, many));
    }

-- the first cell of what was read into the buffer's front
pub front-cell : (block rest : List ℤ) → 0 < length block → get_or (block ++ rest) 0 (pos 0) ≡ cell_in block 0
front-cell [] rest h = absurd (omega arith)
front-cell (z ∷ zs) rest h = refl

-- The text of an array is that of its elements in its grid.
use Rattle.std.proofs.Common.{◌≡◌, ℕ, zero, suc, ◌-◌, ◌*◌, ◌<◌, ◌≤◌, ◌==◌, nat_lt, Bool, true, false, ℤ, List, [], ◌∷◌, ◌++◌, length, map, replicate, slice_index_or, if◌then◌else◌, refl, sym, ap, ◌∙◌, subst, arith}
use Rattle.std.specs.List.{flat_map}
use Rattle.std.proofs.lemmas.Bool.{eq-eqb, le-ltb, ne_eqb}
use Rattle.apl_base.specs.declared.cells.Kind.{Kind}
use Rattle.apl_base.specs.Array.{size_of}
use Rattle.apl_model.specs.Printed.{between_cells, cell_text, newline, planes_of, row_text, rows_of, shaped_text, vector_text, widths_of}
use Rattle.apl_print.specs.declared.grids.Grid.{Grid}
use Rattle.apl_print.specs.Layout.{columns_in, elements_text, grid_of, rows_in, start, text_of_none, widened}
use Rattle.apl_print.proofs.ColumnWidths.{widths_by_rows}
use Rattle.apl_print.proofs.Layouts.{elements_by_planes, elements_of_row}

positive_left : (a b : ℕ) → 0 < a * b → 0 < a
positive_left zero b h = absurd (omega (arith, h))
positive_left (suc a) b h = omega arith

positive_right : (a b : ℕ) → 0 < a * b → 0 < b
positive_right a zero h = absurd (omega (arith, h))
positive_right a (suc b) h = omega arith

-- ---- two axes and more

-- the first of three axes and more does not matter
grid_tail : (kind : Kind) (m n k : ℕ) (ns : List ℕ) → grid_of kind (n ∷ k ∷ ns) ≡ grid_of kind (m ∷ n ∷ k ∷ ns)
grid_tail kind m n k ns =
    let rest : List ℕ = k ∷ ns in
    let L : ℕ = length ns in
    let a : suc (suc L) - 1 ≡ suc L = omega arith in
    let b : suc (suc (suc L)) - 1 ≡ suc (suc L) = omega arith in
    let c : suc (suc L) - 2 ≡ L = omega arith in
    let d : suc (suc (suc L)) - 2 ≡ suc L = omega arith in
    let few : nat_lt (suc (suc L)) 2 ≡ false = le-ltb (suc (suc L)) 2 (omega arith) in
    let fewer : nat_lt (suc (suc (suc L))) 2 ≡ false = le-ltb (suc (suc (suc L))) 2 (omega arith) in
    let columns : columns_in (n ∷ rest) ≡ columns_in (m ∷ n ∷ rest) =
    ap (λ i. slice_index_or (n ∷ rest) i 1) a ∙ ap (λ i. slice_index_or (m ∷ n ∷ rest) i 1) (sym b) in
    let rows : rows_in (n ∷ rest) ≡ rows_in (m ∷ n ∷ rest) =
    ap (λ (v : Bool). if v then 1 else slice_index_or (n ∷ rest) (suc (suc L) - 2) 1) few
    ∙ ap (λ i. slice_index_or (n ∷ rest) i 1) c
    ∙ ap (λ i. slice_index_or (m ∷ n ∷ rest) i 1) (sym d)
    ∙ ap (λ (v : Bool). if v then 1 else slice_index_or (m ∷ n ∷ rest) (suc (suc (suc L)) - 2) 1) (sym fewer) in
    ap (λ r. let g : Grid = record { kind = kind; rows = r; columns = columns_in (n ∷ rest) } in g) rows
    ∙ ap (λ c. let g : Grid = record { kind = kind; rows = rows_in (m ∷ n ∷ rest); columns = c } in g) columns

-- an array's elements, in columns as wide as their widest element
in_columns : Kind → List ℕ → List ℤ → List ℕ
in_columns kind shape cells = elements_text (grid_of kind shape) (widened (grid_of kind shape) 0 (replicate (grid_of kind shape).columns 0) cells) start cells

planes_by_elements : (kind : Kind) (p m n : ℕ) (ns : List ℕ) (cells : List ℤ) → length cells ≡ p * size_of (m ∷ n ∷ ns) → 0 < length cells →
    planes_of kind p (m ∷ n ∷ ns) cells ≡ in_columns kind (m ∷ n ∷ ns) cells
unfolding in_columns
planes_by_elements kind p m n [] cells e some =
    let g : Grid = record { kind = kind; rows = m; columns = n } in
    let all : 0 < p * (m * n) = omega (arith, e, some) in
    let planes : 0 < p = positive_left p (m * n) all in
    let table : 0 < m * n = positive_right p (m * n) all in
    let rows : 0 < m = positive_left m n table in
    let columns : 0 < n = positive_right m n table in
    let count : length cells ≡ (p * m) * n = omega (arith, e) in
    let most : 0 < (p * m) * n = omega (arith, all) in
    let texts : List (List (List ℕ)) = map (map (cell_text kind)) (rows_of (p * m) n cells) in
    sym (elements_by_planes g (widths_of texts) p cells rows columns planes count)
    ∙ ap (λ ws. elements_text g ws start cells) (sym (widths_by_rows g (p * m) cells (positive_left (p * m) n most) columns count))
planes_by_elements kind p m n (k ∷ ns) cells e some =
    let count : length cells ≡ (p * m) * size_of (n ∷ k ∷ ns) = e ∙ omega arith in
    planes_by_elements kind (p * m) n k ns cells count some
    ∙ ap (λ (g : Grid). elements_text g (widened g 0 (replicate g.columns 0) cells) start cells) (grid_tail kind m n k ns)

-- ---- below two axes

joined_texts : (kind : Kind) (cells : List ℤ) → flat_map (λ t. between_cells kind ++ t) (map (cell_text kind) cells) ≡ flat_map (λ c. between_cells kind ++ cell_text kind c) cells
joined_texts kind [] = refl
joined_texts kind (c ∷ cs) = ap (λ xs. (between_cells kind ++ cell_text kind c) ++ xs) (joined_texts kind cs)

vector_is_row : (kind : Kind) (cells : List ℤ) → row_text kind [] (map (cell_text kind) cells) ≡ vector_text kind cells
vector_is_row kind [] = refl
vector_is_row kind (c ∷ cs) = ap (λ xs. (cell_text kind c ++ xs) ++ newline) (joined_texts kind cs)

-- ---- by the number of axes

not_empty : (n : ℕ) → 0 < n → (n == 0) ≡ false
not_empty n h = ne_eqb n 0 (λ e. omega (arith, e, h))

empty : (n : ℕ) → n ≡ 0 → (n == 0) ≡ true
empty n e = eq-eqb n 0 e

no_cells : (cells : List ℤ) → length cells ≡ 0 → cells ≡ []
no_cells [] e = refl
no_cells (c ∷ cs) e = absurd (omega (arith, e))

pub text_empty : (kind : Kind) (shape : List ℕ) (cells : List ℤ) → length cells ≡ size_of shape → size_of shape ≡ 0 → shaped_text (size_of shape == 0) kind shape cells ≡ text_of_none shape
text_empty kind [] cells e none = absurd (omega (arith, none))
text_empty kind (n ∷ []) cells e none = let zero_cells : length cells ≡ 0 = e ∙ none in ap (vector_text kind) (no_cells cells zero_cells)
text_empty kind (m ∷ n ∷ ns) cells e none =
    let few : nat_lt (suc (suc (length ns))) 2 ≡ false = le-ltb (suc (suc (length ns))) 2 (omega arith) in
    ap (λ (b : Bool). shaped_text b kind (m ∷ n ∷ ns) cells) (empty (size_of (m ∷ n ∷ ns)) none)
    ∙ ap (λ (b : Bool). if b then newline else []) (sym few)

pub text_of_line : (kind : Kind) (shape : List ℕ) (cells : List ℤ) → length cells ≡ size_of shape → 0 < size_of shape → length shape < 2 →
    shaped_text (size_of shape == 0) kind shape cells ≡ elements_text (grid_of kind shape) [] start cells
text_of_line kind [] cells e some few =
    let one : length cells ≡ 1 = e in
    sym (elements_of_row (grid_of kind []) [] cells refl (omega arith) one ∙ vector_is_row kind cells)
text_of_line kind (n ∷ []) cells e some few =
    let long : length cells ≡ n = omega (arith, e) in
    let wide : 0 < n = omega (arith, some) in
    sym (elements_of_row (grid_of kind (n ∷ [])) [] cells refl wide long ∙ vector_is_row kind cells)
text_of_line kind (m ∷ n ∷ ns) cells e some few = absurd (omega (arith, few))

pub text_of_table : (kind : Kind) (shape : List ℕ) (cells : List ℤ) → length cells ≡ size_of shape → 0 < size_of shape → 2 ≤ length shape →
    shaped_text (size_of shape == 0) kind shape cells ≡ elements_text (grid_of kind shape) (widened (grid_of kind shape) 0 (replicate (grid_of kind shape).columns 0) cells) start cells
unfolding in_columns
text_of_table kind [] cells e some many = absurd (omega (arith, many))
text_of_table kind (n ∷ []) cells e some many = absurd (omega (arith, many))
text_of_table kind (m ∷ n ∷ ns) cells e some many =
    let count : length cells ≡ 1 * size_of (m ∷ n ∷ ns) = omega (arith, e) in
    ap (λ (b : Bool). shaped_text b kind (m ∷ n ∷ ns) cells) (not_empty (size_of (m ∷ n ∷ ns)) some)
    ∙ planes_by_elements kind 1 m n ns cells count (omega (arith, e, some))

-- ---- grids

-- a grid of elements has rows and columns
pub grid_has : (kind : Kind) (shape : List ℕ) → 0 < size_of shape → (0 < (grid_of kind shape).rows) × (0 < (grid_of kind shape).columns)
grid_has kind [] some = (omega arith, omega arith)
grid_has kind (n ∷ []) some = let wide : 0 < n = omega (arith, some) in (omega arith, wide)
grid_has kind (m ∷ n ∷ []) some =
    let table : 0 < m * n = omega (arith, some) in
    (positive_left m n table, positive_right m n table)
grid_has kind (m ∷ n ∷ k ∷ ns) some =
    let rest : 0 < size_of (n ∷ k ∷ ns) = positive_right m (size_of (n ∷ k ∷ ns)) some in
    subst (λ (g : Grid). (0 < g.rows) × (0 < g.columns)) (grid_tail kind m n k ns) (grid_has kind (n ∷ k ∷ ns) rest)

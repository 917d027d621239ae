-- The text of an array is that of its elements, one after the other, each in its place.
use Rattle.std.proofs.Common.{◌≡◌, ℕ, zero, suc, ◌+◌, ◌-◌, ◌*◌, ◌<◌, ◌≤◌, ◌==◌, Bool, true, false, ℤ, pos, get_or, List, [], ◌∷◌, ◌++◌, length, map, replicate, take, drop, slice_index_or, if◌then◌else◌, refl, sym, ap, ◌∙◌, append_assoc, append-nil, length-drop, arith}
use Rattle.std.specs.List.{flat_map, join_by}
use Rattle.std.proofs.lemmas.Bool.{eq-eqb, ne_eqb}
use Rattle.std.proofs.lemmas.List.{length-map, length-take-le, take_more, take-append-drop}
use Rattle.std.proofs.Math.Seq.{take-length}
use Rattle.apl_model.specs.Printed.{between_cells, cell_text, justified, newline, planes_text, right_justified, row_text, rows_of}
use Rattle.apl_print.specs.declared.grids.Grid.{Grid}
use Rattle.apl_print.specs.declared.grids.Spot.{Spot}
use Rattle.apl_print.proofs.Utf8.{Adds, adds-as, adds-then}
use Rattle.apl_print.specs.Layout.{element_text, elements_text, field_text, next_spot, rows_above, spot_after, text_before}

-- ---- elements one after the other

pub elements-append : (g : Grid) (ws : List ℕ) (at : Spot) (xs ys : List ℤ) → elements_text g ws at (xs ++ ys) ≡ elements_text g ws at xs ++ elements_text g ws (spot_after g at xs) ys
elements-append g ws at [] ys = refl
elements-append g ws at (x ∷ xs) ys =
    ap (λ t. element_text g ws at x ++ t) (elements-append g ws (next_spot g at) xs ys)
    ∙ sym (append_assoc (element_text g ws at x) (elements_text g ws (next_spot g at) xs) (elements_text g ws (spot_after g (next_spot g at) xs) ys))

pub spot_after-append : (g : Grid) (at : Spot) (xs ys : List ℤ) → spot_after g at (xs ++ ys) ≡ spot_after g (spot_after g at xs) ys
spot_after-append g at [] ys = refl
spot_after-append g at (x ∷ xs) ys = spot_after-append g (next_spot g at) xs ys

-- one element more
pub elements_more : (g : Grid) (ws : List ℕ) (at here : Spot) (cells : List ℤ) (i : ℕ) (t t1 t2 : List ℕ) → i < length cells → here ≡ spot_after g at (take i cells) →
    Adds t t1 (elements_text g ws at (take i cells)) → Adds t1 t2 (element_text g ws here (get_or cells i (pos 0))) → Adds t t2 (elements_text g ws at (take (i + 1) cells))
elements_more g ws at here cells i t t1 t2 h place p q =
    let c : ℤ = get_or cells i (pos 0) in
    let before : List ℤ = take i cells in
    adds-as t t2 (elements_text g ws at before ++ element_text g ws here c) (elements_text g ws at (take (i + 1) cells))
    (adds-then t t1 t2 (elements_text g ws at before) (element_text g ws here c) p q)
    (ap (λ (s : Spot). elements_text g ws at before ++ element_text g ws s c) place
    ∙ ap (λ xs. elements_text g ws at before ++ xs) (sym (append-nil (element_text g ws (spot_after g at before) c)))
    ∙ sym (elements-append g ws at before (c ∷ []))
    ∙ ap (elements_text g ws at) (sym (take_more cells i (pos 0) h)))

pub spot_more : (g : Grid) (at here next : Spot) (cells : List ℤ) (i : ℕ) → i < length cells → here ≡ spot_after g at (take i cells) → next ≡ next_spot g here → next ≡ spot_after g at (take (i + 1) cells)
spot_more g at here next cells i h place e =
    e ∙ ap (next_spot g) place ∙ sym (spot_after-append g at (take i cells) (get_or cells i (pos 0) ∷ [])) ∙ ap (spot_after g at) (sym (take_more cells i (pos 0) h))

-- ---- where an element stands

spot : ℕ → ℕ → Spot
spot row column = record { row = row; column = column }

if_true : {A : Type 0} (b : Bool) (x y : A) → b ≡ true → (if b then x else y) ≡ x
if_true b x y e = rw e refl

if_false : {A : Type 0} (b : Bool) (x y : A) → b ≡ false → (if b then x else y) ≡ y
if_false b x y e = rw e refl

-- the empty line before a row that begins a further plane, and the row's number in its plane
lead : ℕ → ℕ → List ℕ
lead rows row = if row == rows then newline else []

row_in : ℕ → ℕ → ℕ
row_in rows row = if row == rows then 0 else row

row_in-below : (rows row : ℕ) → row < rows → row_in rows row ≡ row
unfolding row_in
row_in-below rows row h = if_false (row == rows) 0 row (ne_eqb row rows (λ e. omega (arith, e, h)))

lead-below : (rows row : ℕ) → row < rows → lead rows row ≡ []
unfolding lead
lead-below rows row h = if_false (row == rows) newline [] (ne_eqb row rows (λ e. omega (arith, e, h)))

row_in-end : (rows : ℕ) → row_in rows rows ≡ 0
unfolding row_in
row_in-end rows = if_true (rows == rows) 0 rows (eq-eqb rows rows refl)

lead-end : (rows : ℕ) → lead rows rows ≡ newline
unfolding lead
lead-end rows = if_true (rows == rows) newline [] (eq-eqb rows rows refl)

row_in-lt : (rows row : ℕ) → 0 < rows → row ≤ rows → row_in rows row < rows
unfolding row_in
row_in-lt rows row some within = grind (arith, ne_eqb, eq-eqb)

pub length-rows_of : (k n : ℕ) (cells : List ℤ) → length (rows_of k n cells) ≡ k
length-rows_of zero n cells = refl
length-rows_of (suc k) n cells = ap suc (length-rows_of k n (drop n cells))

-- ---- one element, by where it stands

module _ (g : Grid) (ws : List ℕ) where
  field : ℕ → ℤ → List ℕ
  field column c = right_justified (slice_index_or ws column 0) (cell_text g.kind c)

  -- the last of a row
  last_in_row : (row column : ℕ) (c : ℤ) (cs : List ℤ) → suc column ≡ g.columns →
      elements_text g ws (spot row column) (c ∷ cs) ≡ (text_before g (spot row column) ++ (field column c ++ newline)) ++ elements_text g ws (spot (suc (row_in g.rows row)) 0) cs
  unfolding field row_in spot
  last_in_row row column c cs e =
      ap (λ (b : Bool). element_text g ws (spot row column) c ++ elements_text g ws (if b then spot (suc (rows_above g (spot row column))) 0 else spot (rows_above g (spot row column)) (suc column)) cs) (eq-eqb (suc column) g.columns e)
      ∙ ap (λ (b : Bool). (text_before g (spot row column) ++ (field_text g ws (spot row column) c ++ (if b then newline else []))) ++ elements_text g ws (spot (suc (rows_above g (spot row column))) 0) cs) (eq-eqb (suc column) g.columns e)

  -- one that is followed by others in its row
  more_in_row : (row column : ℕ) (c : ℤ) (cs : List ℤ) → suc column < g.columns →
      elements_text g ws (spot row column) (c ∷ cs) ≡ (text_before g (spot row column) ++ (field column c ++ [])) ++ elements_text g ws (spot (row_in g.rows row) (suc column)) cs
  unfolding field row_in spot
  more_in_row row column c cs h =
      let ne : (suc column == g.columns) ≡ false = ne_eqb (suc column) g.columns (λ e. omega (arith, e, h)) in
      ap (λ (b : Bool). element_text g ws (spot row column) c ++ elements_text g ws (if b then spot (suc (rows_above g (spot row column))) 0 else spot (rows_above g (spot row column)) (suc column)) cs) ne
      ∙ ap (λ (b : Bool). (text_before g (spot row column) ++ (field_text g ws (spot row column) c ++ (if b then newline else []))) ++ elements_text g ws (spot (rows_above g (spot row column)) (suc column)) cs) ne

  -- what stands before the first of a row, and before the others
  before_first : (row : ℕ) → text_before g (spot row 0) ≡ lead g.rows row
  unfolding lead spot
  before_first row = refl

  before_others : (row column : ℕ) → text_before g (spot row (suc column)) ≡ between_cells g.kind
  unfolding spot
  before_others row column =
      if_false (suc column == 0) (if row == g.rows then newline else []) (between_cells g.kind) (ne_eqb (suc column) 0 (λ e. omega (arith, e)))

  -- ---- one row

  -- a column whose width isn't told is as wide as its texts
  unjustified : (ts : List (List ℕ)) → justified [] ts ≡ ts
  unjustified [] = refl
  unjustified (t ∷ ts) = refl

  nothing : (vs : List ℕ) → justified vs [] ≡ []
  nothing [] = refl
  nothing (v ∷ vs) = refl

  justified_at : (vs : List ℕ) (column : ℕ) (t : List ℕ) (ts : List (List ℕ)) →
      justified (drop column vs) (t ∷ ts) ≡ right_justified (slice_index_or vs column 0) t ∷ justified (drop (suc column) vs) ts
  justified_at [] zero t ts =
      let none : 0 ≡ 0 - length t = omega arith in
      ap (λ n. (replicate n 32 ++ t) ∷ ts) none ∙ ap (λ xs. right_justified 0 t ∷ xs) (sym (unjustified ts))
  justified_at [] (suc column) t ts =
      let none : 0 ≡ 0 - length t = omega arith in
      ap (λ n. (replicate n 32 ++ t) ∷ ts) none ∙ ap (λ xs. right_justified 0 t ∷ xs) (sym (unjustified ts))
  justified_at (v ∷ vs) zero t ts = refl
  justified_at (v ∷ vs) (suc column) t ts = justified_at vs column t ts

  -- the rest of a row from a column on that is not the first
  row_rest : (row column : ℕ) (c : ℤ) (cs rest : List ℤ) → row < g.rows → suc column + length (c ∷ cs) ≡ g.columns →
      elements_text g ws (spot row (suc column)) ((c ∷ cs) ++ rest)
      ≡ flat_map (λ t. between_cells g.kind ++ t) (justified (drop (suc column) ws) (map (cell_text g.kind) (c ∷ cs))) ++ (newline ++ elements_text g ws (spot (suc row) 0) rest)
  unfolding field
  row_rest row column c [] rest h e =
      let sep : List ℕ = between_cells g.kind in
      let f : List ℕ = field (suc column) c in
      let after : List ℕ = elements_text g ws (spot (suc row) 0) rest in
      let last : suc (suc column) ≡ g.columns = omega (arith, e) in
      last_in_row row (suc column) c rest last
      ∙ ap (λ r. (text_before g (spot row (suc column)) ++ (f ++ newline)) ++ elements_text g ws (spot (suc r) 0) rest) (row_in-below g.rows row h)
      ∙ ap (λ b. (b ++ (f ++ newline)) ++ after) (before_others row column)
      ∙ append_assoc sep (f ++ newline) after
      ∙ ap (λ xs. sep ++ xs) (append_assoc f newline after)
      ∙ sym (append_assoc sep f (newline ++ after))
      ∙ ap (λ xs. xs ++ (newline ++ after)) (sym (append-nil (sep ++ f)))
      ∙ ap (λ ts. flat_map (λ t. sep ++ t) ts ++ (newline ++ after)) (sym (justified_at ws (suc column) (cell_text g.kind c) [] ∙ ap (λ xs. f ∷ xs) (nothing (drop (suc (suc column)) ws))))
  row_rest row column c (d ∷ ds) rest h e =
      let sep : List ℕ = between_cells g.kind in
      let f : List ℕ = field (suc column) c in
      let after : List ℕ = newline ++ elements_text g ws (spot (suc row) 0) rest in
      let more : suc (suc column) < g.columns = omega (arith, e) in
      let e2 : suc (suc column) + length (d ∷ ds) ≡ g.columns = omega (arith, e) in
      let others : List (List ℕ) = justified (drop (suc (suc column)) ws) (map (cell_text g.kind) (d ∷ ds)) in
      more_in_row row (suc column) c ((d ∷ ds) ++ rest) more
      ∙ ap (λ r. (text_before g (spot row (suc column)) ++ (f ++ [])) ++ elements_text g ws (spot r (suc (suc column))) ((d ∷ ds) ++ rest)) (row_in-below g.rows row h)
      ∙ ap (λ b. (b ++ (f ++ [])) ++ elements_text g ws (spot row (suc (suc column))) ((d ∷ ds) ++ rest)) (before_others row column)
      ∙ ap (λ xs. (sep ++ xs) ++ elements_text g ws (spot row (suc (suc column))) ((d ∷ ds) ++ rest)) (append-nil f)
      ∙ ap (λ xs. (sep ++ f) ++ xs) (row_rest row (suc column) d ds rest h e2)
      ∙ sym (append_assoc (sep ++ f) (flat_map (λ t. sep ++ t) others) after)
      ∙ ap (λ ts. flat_map (λ t. sep ++ t) ts ++ after) (sym (justified_at ws (suc column) (cell_text g.kind c) (map (cell_text g.kind) (d ∷ ds))))

  -- a row whole
  row_whole : (row : ℕ) (cs rest : List ℤ) → 0 < g.rows → 0 < g.columns → row ≤ g.rows → length cs ≡ g.columns →
      elements_text g ws (spot row 0) (cs ++ rest)
      ≡ lead g.rows row ++ (row_text g.kind ws (map (cell_text g.kind) cs) ++ elements_text g ws (spot (suc (row_in g.rows row)) 0) rest)
  unfolding field
  row_whole row [] rest some wide within e = absurd (omega (arith, wide, e))
  row_whole row (c ∷ []) rest some wide within e =
      let f : List ℕ = field 0 c in
      let after : List ℕ = elements_text g ws (spot (suc (row_in g.rows row)) 0) rest in
      let last : suc 0 ≡ g.columns = omega (arith, e) in
      last_in_row row 0 c rest last
      ∙ ap (λ b. (b ++ (f ++ newline)) ++ after) (before_first row)
      ∙ append_assoc (lead g.rows row) (f ++ newline) after
      ∙ ap (λ xs. lead g.rows row ++ ((xs ++ newline) ++ after)) (sym (append-nil f))
      ∙ ap (λ ts. lead g.rows row ++ ((join_by (λ t. t) (between_cells g.kind) ts ++ newline) ++ after)) (sym (justified_at ws 0 (cell_text g.kind c) [] ∙ ap (λ xs. f ∷ xs) (nothing (drop (suc 0) ws))))
  row_whole row (c ∷ d ∷ ds) rest some wide within e =
      let sep : List ℕ = between_cells g.kind in
      let f : List ℕ = field 0 c in
      let r : ℕ = row_in g.rows row in
      let after : List ℕ = elements_text g ws (spot (suc r) 0) rest in
      let more : suc 0 < g.columns = omega (arith, e) in
      let e2 : suc 0 + length (d ∷ ds) ≡ g.columns = omega (arith, e) in
      let others : List (List ℕ) = justified (drop (suc 0) ws) (map (cell_text g.kind) (d ∷ ds)) in
      more_in_row row 0 c ((d ∷ ds) ++ rest) more
      ∙ ap (λ b. (b ++ (f ++ [])) ++ elements_text g ws (spot r (suc 0)) ((d ∷ ds) ++ rest)) (before_first row)
      ∙ ap (λ xs. (lead g.rows row ++ xs) ++ elements_text g ws (spot r (suc 0)) ((d ∷ ds) ++ rest)) (append-nil f)
      ∙ ap (λ xs. (lead g.rows row ++ f) ++ xs) (row_rest r 0 d ds rest (row_in-lt g.rows row some within) e2)
      ∙ append_assoc (lead g.rows row) f (flat_map (λ t. sep ++ t) others ++ (newline ++ after))
      ∙ ap (λ xs. lead g.rows row ++ xs) (sym (append_assoc f (flat_map (λ t. sep ++ t) others) (newline ++ after)) ∙ sym (append_assoc (f ++ flat_map (λ t. sep ++ t) others) newline after))
      ∙ ap (λ ts. lead g.rows row ++ ((join_by (λ t. t) sep ts ++ newline) ++ after)) (sym (justified_at ws 0 (cell_text g.kind c) (map (cell_text g.kind) (d ∷ ds))))

  -- ---- rows

  -- rows one after the other, from a row of a plane on
  lines_text : ℕ → List (List ℕ) → List ℕ
  lines_text row [] = []
  lines_text row (l ∷ ls) = lead g.rows row ++ (l ++ lines_text (suc (row_in g.rows row)) ls)

  rows_text : ℕ → List ℤ → List (List ℕ)
  rows_text k cells = map (row_text g.kind ws) (map (map (cell_text g.kind)) (rows_of k g.columns cells))

  elements_by_rows : (k row : ℕ) (cells : List ℤ) → 0 < g.rows → 0 < g.columns → row ≤ g.rows → length cells ≡ k * g.columns →
      elements_text g ws (spot row 0) cells ≡ lines_text row (rows_text k cells)
  unfolding lines_text rows_text
  elements_by_rows zero row [] some wide within e = refl
  elements_by_rows zero row (c ∷ cs) some wide within e = absurd (omega (arith, e))
  elements_by_rows (suc k) row cells some wide within e =
      let n : ℕ = g.columns in
      let enough : n ≤ length cells = omega (arith, e) in
      let rest : length (drop n cells) ≡ k * n = length-drop n cells ∙ omega (arith, e) in
      let r : ℕ = suc (row_in g.rows row) in
      let here : r ≤ g.rows = omega (arith, row_in-lt g.rows row some within) in
      ap (elements_text g ws (spot row 0)) (sym (take-append-drop n cells))
      ∙ row_whole row (take n cells) (drop n cells) some wide within (length-take-le n cells enough)
      ∙ ap (λ xs. lead g.rows row ++ (row_text g.kind ws (map (cell_text g.kind) (take n cells)) ++ xs)) (elements_by_rows k r (drop n cells) some wide here rest)

  -- ---- planes

  joined : (ls : List (List ℕ)) → join_by (λ t. t) [] ls ≡ flat_map (λ y. [] ++ y) ls
  joined [] = refl
  joined (l ∷ ls) = refl

  joined-cons : (l : List ℕ) (ls : List (List ℕ)) → join_by (λ t. t) [] (l ∷ ls) ≡ l ++ join_by (λ t. t) [] ls
  joined-cons l ls = ap (λ xs. l ++ xs) (sym (joined ls))

  -- the rest of a plane, and what comes after it
  plane_rest : (row : ℕ) (ls more : List (List ℕ)) → row + length ls ≡ g.rows →
      lines_text row (ls ++ more) ≡ join_by (λ t. t) [] ls ++ lines_text g.rows more
  unfolding lines_text
  plane_rest row [] more e = let all : row ≡ g.rows = omega (arith, e) in ap (λ r. lines_text r more) all
  plane_rest row (l ∷ ls) more e =
      let below : row < g.rows = omega (arith, e) in
      let e2 : suc row + length ls ≡ g.rows = omega (arith, e) in
      ap (λ r. lead g.rows row ++ (l ++ lines_text (suc r) (ls ++ more))) (row_in-below g.rows row below)
      ∙ ap (λ b. b ++ (l ++ lines_text (suc row) (ls ++ more))) (lead-below g.rows row below)
      ∙ ap (λ xs. l ++ xs) (plane_rest (suc row) ls more e2)
      ∙ sym (append_assoc l (join_by (λ t. t) [] ls) (lines_text g.rows more))
      ∙ ap (λ xs. xs ++ lines_text g.rows more) (sym (joined-cons l ls))

  -- a further plane
  plane_next : (ls : List (List ℕ)) → 0 < g.rows → 0 < length ls → lines_text g.rows ls ≡ newline ++ lines_text 0 ls
  unfolding lines_text
  plane_next [] some h = absurd (omega (arith, h))
  plane_next (l ∷ ls) some h =
      ap (λ r. lead g.rows g.rows ++ (l ++ lines_text (suc r) ls)) (row_in-end g.rows ∙ sym (row_in-below g.rows 0 some))
      ∙ ap (λ b. b ++ (l ++ lines_text (suc (row_in g.rows 0)) ls)) (lead-end g.rows)
      ∙ ap (λ b. newline ++ (b ++ (l ++ lines_text (suc (row_in g.rows 0)) ls))) (sym (lead-below g.rows 0 some))

  lines_by_planes : (k : ℕ) (ls : List (List ℕ)) → 0 < g.rows → length ls ≡ suc k * g.rows → lines_text 0 ls ≡ planes_text (suc k) g.rows ls
  unfolding lines_text
  lines_by_planes zero ls some e =
      let one : length ls ≡ g.rows = omega (arith, e) in
      let all : 0 + length ls ≡ g.rows = omega (arith, e) in
      ap (lines_text 0) (sym (append-nil ls)) ∙ plane_rest 0 ls [] all ∙ append-nil (join_by (λ t. t) [] ls)
      ∙ ap (λ xs. join_by (λ t. t) [] xs) (sym (take-length ls) ∙ ap (λ n. take n ls) one)
  lines_by_planes (suc k) ls some e =
      let n : ℕ = g.rows in
      let enough : n ≤ length ls = omega (arith, e) in
      let rest : length (drop n ls) ≡ suc k * n = length-drop n ls ∙ omega (arith, e) in
      let others : 0 < length (drop n ls) = omega (arith, rest, some) in
      let taken : length (take n ls) ≡ n = length-take-le n ls enough in
      let all : 0 + length (take n ls) ≡ n = omega (arith, taken) in
      ap (lines_text 0) (sym (take-append-drop n ls))
      ∙ plane_rest 0 (take n ls) (drop n ls) all
      ∙ ap (λ xs. join_by (λ t. t) [] (take n ls) ++ xs) (plane_next (drop n ls) some others ∙ ap (λ xs. newline ++ xs) (lines_by_planes k (drop n ls) some rest))
      ∙ sym (append_assoc (join_by (λ t. t) [] (take n ls)) newline (planes_text (suc k) n (drop n ls)))

  -- ---- arrays

  -- the elements of planes of rows are those rows, in planes
  pub elements_by_planes : (planes : ℕ) (cells : List ℤ) → 0 < g.rows → 0 < g.columns → 0 < planes → length cells ≡ (planes * g.rows) * g.columns →
      elements_text g ws (record { row = 0; column = 0 }) cells ≡ planes_text planes g.rows (map (row_text g.kind ws) (map (map (cell_text g.kind)) (rows_of (planes * g.rows) g.columns cells)))
  unfolding spot rows_text
  elements_by_planes zero cells some wide there e = absurd (omega arith)
  elements_by_planes (suc k) cells some wide there e =
      elements_by_rows (suc k * g.rows) 0 cells some wide (omega arith) e
      ∙ lines_by_planes k (rows_text (suc k * g.rows) cells) some
      (length-map (map (map (cell_text g.kind)) (rows_of (suc k * g.rows) g.columns cells)) (row_text g.kind ws) ∙ length-map (rows_of (suc k * g.rows) g.columns cells) (map (cell_text g.kind)) ∙ length-rows_of (suc k * g.rows) g.columns cells)

  -- the elements of one row
  pub elements_of_row : (cells : List ℤ) → g.rows ≡ 1 → 0 < g.columns → length cells ≡ g.columns →
      elements_text g ws (record { row = 0; column = 0 }) cells ≡ row_text g.kind ws (map (cell_text g.kind) cells)
  unfolding spot
  elements_of_row cells one wide e =
      let some : 0 < g.rows = omega (arith, one) in
      let text : List ℕ = row_text g.kind ws (map (cell_text g.kind) cells) in
      ap (elements_text g ws (spot 0 0)) (sym (append-nil cells))
      ∙ row_whole 0 cells [] some wide (omega arith) e
      ∙ ap (λ b. b ++ (text ++ [])) (lead-below g.rows 0 some)
      ∙ append-nil text

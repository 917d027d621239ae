-- The rows by which a leaf is read.
use Rattle.std.proofs.Common.{◌≡◌, ℕ, zero, suc, ◌+◌, ◌<◌, ◌≤◌, ℤ, pos, ◌+ℤ◌, ◌*ℤ◌, ◌≤ℤ◌, ◌<ℤ◌, List, [], ◌∷◌, ◌++◌, length, map, get_or, refl, sym, ap, ◌∙◌, subst, All, append_assoc, append-nil, length-append, arith}
use Rattle.std.specs.Prelude.{unsigned_abs}
use Rattle.std.proofs.lemmas.List.{map-append}
use Rattle.std.proofs.lemmas.List.Elements.{All-nil, All-append}
use Rattle.apl_base.specs.declared.cells.Kind.TheVariants.{Num, Char}
use Rattle.apl_base.specs.Array.{IsIndex, size_of, index_at}
use Rattle.apl_base.specs.Number.{IsNumber, IsCharacter, IsCell}
use Rattle.apl_base.proofs.Sizes.{IsIndex-index_at}
use Rattle.array_desc.specs.Desc.{DescView, IsDesc}
use Rattle.array_desc.specs.Rows.{WalkView, number_on}
use Rattle.array_store.specs.Stores.{StoreView, AreCounts, cells_of, counted}
use Rattle.array_store.specs.Counting.{OnlyCounted, after_fetches}
use Rattle.array_store.proofs.CountingLemmas.{after_fetches-then}
use Rattle.drag_along.specs.declared.leaves.Leaf.{Leaf}
use Rattle.drag_along.specs.declared.leaves.Leaf.TheVariants.{Stored, Gen}
use Rattle.drag_along.specs.Nodes.{leaf_desc, leaf_kind, leaf_shape}
use Rattle.drag_along.specs.Meaning.{leaf_cell}
use Rattle.drag_along.specs.Lawful.{IsLawfulLeaf}
use Rattle.e_machine.specs.Forced.{AreRead, cells_from}
use Rattle.e_machine.proofs.CountedLemmas.{lawful_leaf-counted, leaf_cell-counted}
use Rattle.apl_base.specs.Selection.{upward}
use Rattle.apl_base.proofs.Upward.{upward-append, length-map-upward, get_or-map-upward, map-upward-same, list_by_places}
use Rattle.e_machine.specs.Rows.{row_cells, CanRead}

-- ---- the rows of a leaf

-- so many places were read from a first one on, and the walk stands behind them
pub record ReadTo (old now : StoreView) (leaf : Leaf) (first done : ℕ) (before after : List ℤ) (walk : WalkView) : Type 0 where
  pub desc : walk.desc ≡ leaf_desc leaf
  pub place : walk.place ≡ first + done
  pub cells : after ≡ before ++ cells_from old leaf first done
  pub lawful : All (IsCell (leaf_kind leaf)) (cells_from old leaf first done)
  pub counted : AreRead old now leaf done

pub read_nothing : (s : StoreView) (leaf : Leaf) → AreCounts s.counts → AreRead s s leaf 0
read_nothing s (Stored owner desc kind) small =
    let none : counted s.counts.fetched 0 ≡ s.counts.fetched = omega (arith, small.fetched) in
    ap (λ (n : ℕ). let t : StoreView = record s { counts = record s.counts { fetched = n } } in t) (sym none)
read_nothing s (Gen desc kind) small = refl

pub read_starts : (s : StoreView) (leaf : Leaf) (first : ℕ) (cells : List ℤ) (walk : WalkView) → AreCounts s.counts → walk.desc ≡ leaf_desc leaf → walk.place ≡ first → ReadTo s s leaf first 0 cells cells walk
read_starts s leaf first cells walk small desc place = record {
  desc = desc;
  place = omega (arith, place);
  cells = sym (append-nil cells);
  lawful = All-nil _;
  counted = read_nothing s leaf small;
}

-- a leaf over a store that only counted
read_only : (old now : StoreView) (leaf : Leaf) (n : ℕ) → AreRead old now leaf n → OnlyCounted old now
read_only old now (Stored owner desc kind) n read = subst (OnlyCounted old) (sym read) refl
read_only old now (Gen desc kind) n read = subst (OnlyCounted old) (sym read) refl

read_more : (old now after : StoreView) (leaf : Leaf) (m n : ℕ) → AreRead old now leaf m → AreRead now after leaf n → AreRead old after leaf (m + n)
read_more old now after (Stored owner desc kind) m n p q =
    q ∙ ap (λ (s : StoreView). after_fetches s n) p ∙ after_fetches-then old m n
read_more old now after (Gen desc kind) m n p q = q ∙ p

-- each place of a row has an index
row_index : (shape : List ℕ) (place count j : ℕ) → j < count → place + count ≤ size_of shape → IsIndex shape (index_at shape (place + j))
row_index shape place count j h within =
    let below : place + j < size_of shape = omega (arith, h, within) in
    IsIndex-index_at shape (place + j) below

-- the row at a place can be read, and is that of the leaf's cells from there on
pub row_can : (s : StoreView) (leaf : Leaf) (from step : ℤ) (count place : ℕ) → IsLawfulLeaf s leaf → IsDesc (leaf_desc leaf) → place + count ≤ size_of (leaf_shape leaf) → ((j : ℕ) → j < count → from +ℤ (step *ℤ pos j) ≡ number_on (leaf_desc leaf) (place + j)) → CanRead s leaf from step count
row_can s (Stored owner desc kind) from step count place lawful is within numbers = (
  record {
    live = lawful.live;
    places = record {
      low = λ j h. subst (λ (z : ℤ). pos 0 ≤ℤ z) (sym (numbers j h)) (lawful.low (index_at desc.shape (place + j)) (row_index desc.shape place count j h within));
      high = λ j h. subst (λ (z : ℤ). z <ℤ pos (length (cells_of s owner))) (sym (numbers j h)) (lawful.high (index_at desc.shape (place + j)) (row_index desc.shape place count j h within));
    };
  },
  lawful.kind,
)
row_can s (Gen desc Num) from step count place lawful is within numbers = λ j h.
    let number : IsNumber (from +ℤ (step *ℤ pos j)) = subst IsNumber (sym (numbers j h)) (is.numbers (index_at desc.shape (place + j)) (row_index desc.shape place count j h within)) in
    (number, number)
row_can s (Gen desc Char) from step count place lawful is within numbers = λ j h.
    let at : IsIndex desc.shape (index_at desc.shape (place + j)) = row_index desc.shape place count j h within in (
      subst IsNumber (sym (numbers j h)) (is.numbers (index_at desc.shape (place + j)) at),
      subst IsCharacter (sym (numbers j h)) (lawful (index_at desc.shape (place + j)) at),
    )

row_is : (s : StoreView) (leaf : Leaf) (from step : ℤ) (count place : ℕ) → ((j : ℕ) → j < count → from +ℤ (step *ℤ pos j) ≡ number_on (leaf_desc leaf) (place + j)) → row_cells s leaf from step count ≡ cells_from s leaf place count
row_is s (Stored owner desc kind) from step count place numbers =
    let cell : ℕ → ℤ = λ p. leaf_cell s (Stored owner desc kind) (index_at desc.shape p) in
    list_by_places (λ j. get_or (cells_of s owner) (unsigned_abs (from +ℤ (step *ℤ pos j))) (pos 0)) (map cell (upward place count)) count (pos 0)
    (length-map-upward cell place count)
    (λ j h. ap (λ (z : ℤ). get_or (cells_of s owner) (unsigned_abs z) (pos 0)) (numbers j h) ∙ sym (get_or-map-upward cell place count j (pos 0) h))
row_is s (Gen desc kind) from step count place numbers =
    let cell : ℕ → ℤ = λ p. leaf_cell s (Gen desc kind) (index_at desc.shape p) in
    list_by_places (λ j. from +ℤ (step *ℤ pos j)) (map cell (upward place count)) count (pos 0)
    (length-map-upward cell place count)
    (λ j h. numbers j h ∙ sym (get_or-map-upward cell place count j (pos 0) h))

pub cells_from-counted : (old now : StoreView) (leaf : Leaf) (first count : ℕ) → OnlyCounted old now → cells_from now leaf first count ≡ cells_from old leaf first count
cells_from-counted old now leaf first count only =
    map-upward-same (λ p. leaf_cell now leaf (index_at (leaf_shape leaf) p)) (λ p. leaf_cell old leaf (index_at (leaf_shape leaf) p)) first count
    (λ p low high. leaf_cell-counted old now leaf (index_at (leaf_shape leaf) p) only)

cells_from-more : (s : StoreView) (leaf : Leaf) (first m n : ℕ) → cells_from s leaf first (m + n) ≡ cells_from s leaf first m ++ cells_from s leaf (first + m) n
cells_from-more s leaf first m n =
    let cell : ℕ → ℤ = λ p. leaf_cell s leaf (index_at (leaf_shape leaf) p) in
    ap (map cell) (upward-append first m n) ∙ map-append cell (upward first m) (upward (first + m) n)

-- one row more
pub read_row_more : (old now after : StoreView) (leaf : Leaf) (first done count : ℕ) (from step : ℤ) (before cells more : List ℤ) (walk next : WalkView) → ReadTo old now leaf first done before cells walk → ((j : ℕ) → j < count → from +ℤ (step *ℤ pos j) ≡ number_on walk.desc (walk.place + j)) → next ≡ record walk { place = walk.place + count } → more ≡ cells ++ row_cells now leaf from step count → All (IsCell (leaf_kind leaf)) (row_cells now leaf from step count) → AreRead now after leaf count → ReadTo old after leaf first (done + count) before more next
read_row_more old now after leaf first done count from step before cells more walk next read numbers moved pushed lawful counts =
    let only : OnlyCounted old now = read_only old now leaf done read.counted in
    let here : (j : ℕ) → j < count → from +ℤ (step *ℤ pos j) ≡ number_on (leaf_desc leaf) ((first + done) + j) =
    λ j h. numbers j h ∙ ap (λ (d : DescView). number_on d (walk.place + j)) read.desc ∙ ap (λ (p : ℕ). number_on (leaf_desc leaf) (p + j)) read.place in
    let row : row_cells now leaf from step count ≡ cells_from old leaf (first + done) count =
    row_is now leaf from step count (first + done) here ∙ cells_from-counted old now leaf (first + done) count only in
    record {
      desc = ap (λ (w : WalkView). w.desc) moved ∙ read.desc;
      place = ap (λ (w : WalkView). w.place) moved ∙ omega (arith, read.place);
      cells = pushed ∙ ap (λ (cs : List ℤ). cells ++ cs) row ∙ ap (λ (cs : List ℤ). cs ++ cells_from old leaf (first + done) count) read.cells
          ∙ append_assoc before (cells_from old leaf first done) (cells_from old leaf (first + done) count)
          ∙ ap (λ (cs : List ℤ). before ++ cs) (sym (cells_from-more old leaf first done count));
      lawful = subst (All (IsCell (leaf_kind leaf))) (sym (cells_from-more old leaf first done count))
          (All-append (IsCell (leaf_kind leaf)) (cells_from old leaf first done) (cells_from old leaf (first + done) count) read.lawful (subst (All (IsCell (leaf_kind leaf))) row lawful));
      counted = read_more old now after leaf done count read.counted counts;
    }

-- what the next row asks for
pub row_next : (old now : StoreView) (leaf : Leaf) (first done count most : ℕ) (from step : ℤ) (before cells : List ℤ) (walk : WalkView) → ReadTo old now leaf first done before cells walk → IsLawfulLeaf old leaf → IsDesc walk.desc → count ≤ most → first + done + most ≤ size_of (leaf_shape leaf) → ((j : ℕ) → j < count → from +ℤ (step *ℤ pos j) ≡ number_on walk.desc (walk.place + j)) → CanRead now leaf from step count
row_next old now leaf first done count most from step before cells walk read lawful is few within numbers =
    row_can now leaf from step count walk.place (lawful_leaf-counted old now leaf (read_only old now leaf done read.counted) lawful)
    (subst IsDesc read.desc is) (omega (arith, read.place, few, within))
    (λ j h. numbers j h ∙ ap (λ (d : DescView). number_on d (walk.place + j)) read.desc)

-- a row has as many cells as numbers
length-row_cells : (s : StoreView) (leaf : Leaf) (from step : ℤ) (count : ℕ) → length (row_cells s leaf from step count) ≡ count
length-row_cells s (Stored owner desc kind) from step count =
    length-map-upward (λ j. get_or (cells_of s owner) (unsigned_abs (from +ℤ (step *ℤ pos j))) (pos 0)) 0 count
length-row_cells s (Gen desc kind) from step count = length-map-upward (λ j. from +ℤ (step *ℤ pos j)) 0 count

pub length-read : (s : StoreView) (leaf : Leaf) (from step : ℤ) (count : ℕ) (cells more : List ℤ) → more ≡ cells ++ row_cells s leaf from step count → length more ≡ length cells + count
length-read s leaf from step count cells more e =
    ap length e ∙ length-append cells (row_cells s leaf from step count) ∙ ap (λ (n : ℕ). length cells + n) (length-row_cells s leaf from step count)

-- ---- a leaf without axes

-- its cells are its only one
pub single_cells : (s : StoreView) (leaf : Leaf) (first : ℕ) → leaf_shape leaf ≡ [] → cells_from s leaf first 1 ≡ leaf_cell s leaf [] ∷ []
single_cells s leaf first single = ap (λ (ns : List ℕ). leaf_cell s leaf (index_at ns first) ∷ []) single

-- a list of one element of which a fact holds
pub one_has : (P : ℤ → Type 0) (z : ℤ) → P z → All P (z ∷ [])
one_has P z p = λ k d below. at_place k d below
  where
    at_place : (k : ℕ) (d : ℤ) → k < 1 → P (get_or (z ∷ []) k d)
    at_place zero d below = p
    at_place (suc k) d below = absurd (omega (arith, below))

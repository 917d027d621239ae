-- Cells that are written one after the other.
use Rattle.std.proofs.Common.{◌≡◌, ◌≢◌, ◌==◌, ℕ, zero, suc, ◌+◌, ◌<◌, ◌≤◌, Bool, true, false, ℤ, pos, ◌+ℤ◌, ◌≤ℤ◌, ◌<ℤ◌, inl, inr, List, [], ◌∷◌, ◌++◌, length, map, get_or, Option, Some, None, refl, sym, ap, subst, ◌∙◌, arith, add-one}
use Rattle.std.specs.Prelude.{All, slice_set, unsigned_abs, if◌then◌else◌}
use Rattle.std.proofs.lemmas.Int.{ints}
use Rattle.std.proofs.Math.ListN.{length-set}
use Rattle.apl_base.specs.declared.cells.Kind.{Kind}
use Rattle.apl_base.specs.Array.{Array, IsIndex, size_of, place_at, index_at, cell_at}
use Rattle.apl_base.specs.Elements.{indices}
use Rattle.apl_base.specs.Number.{IsCell}
use Rattle.apl_base.specs.Selection.{upward}
use Rattle.apl_base.proofs.Sizes.{place_at-index_at}
use Rattle.array_store.specs.Stores.{StoreView, OwnerView, holders_of, cells_of, kind_of, data_at, owner_of, with_cell, WritesOnly}
use Rattle.array_store.specs.Counting.{OnlyCounted}
use Rattle.array_store.specs.declared.ids.Counts.{Counts}
use Rattle.array_store.proofs.StoreLemmas.{owner_found, owner_at-with_cell, owner_of-found, written_is_only}
use Rattle.apl_model.specs.Subscript.{positions_index, value_at, replaced}
use Rattle.apl_model.specs.Whole.{is_single, first}
use Rattle.made_picks.specs.Picks.{IsReadable, IsReached}
use Rattle.replacing_steps.specs.Checks.{FitsSelected}
use Rattle.replacing_steps.specs.Writes.{written, value_by, owner_leaf, WritesCells}

-- ---- lists

pub written-append : (v : ℕ → ℤ) (q : ℕ) (xs ys : List ℤ) (cells : List ℤ) → written v q (xs ++ ys) cells ≡ written v (q + length xs) ys (written v q xs cells)
written-append v q [] ys cells =
    let e : q ≡ q + 0 = omega arith in
    ap (λ (k : ℕ). written v k ys cells) e
written-append v q (x ∷ xs) ys cells =
    let e : (q + 1) + length xs ≡ q + suc (length xs) = omega arith in
    written-append v (q + 1) xs ys (slice_set cells (unsigned_abs x) (v q))
    ∙ ap (λ (k : ℕ). written v k ys (written v (q + 1) xs (slice_set cells (unsigned_abs x) (v q)))) e

pub written-length : (v : ℕ → ℤ) (q : ℕ) (xs : List ℤ) (cells : List ℤ) → length (written v q xs cells) ≡ length cells
written-length v q [] cells = refl
written-length v q (x ∷ xs) cells = written-length v (q + 1) xs (slice_set cells (unsigned_abs x) (v q)) ∙ length-set cells (unsigned_abs x) (v q)

-- ---- a replacement

-- the value at number q of the shape selected
pub value_is : (b : Array) (ns : List ℕ) (q : ℕ) → length b.cells ≡ size_of b.shape → FitsSelected b ns → q < size_of ns → value_at b (index_at ns q) ≡ value_by b.cells q
value_is b ns q many (inl one) h =
    let single : (length b.cells == 1) ≡ true = ap (λ (k : ℕ). k == 1) many ∙ one in
    ap (λ (t : Bool). if t then first b else cell_at b (index_at ns q)) one
    ∙ sym (ap (λ (t : Bool). get_or b.cells (if t then 0 else q) (pos 0)) single)
value_is b ns q many (inr same) h =
    let single : (length b.cells == 1) ≡ false = ap (λ (k : ℕ). k == 1) many ∙ same.0 in
    ap (λ (t : Bool). if t then first b else cell_at b (index_at ns q)) same.0
    ∙ ap (λ (ms : List ℕ). get_or b.cells (place_at ms (index_at ns q)) (pos 0)) same.1
    ∙ ap (λ (k : ℕ). get_or b.cells k (pos 0)) (place_at-index_at ns q h)
    ∙ sym (ap (λ (t : Bool). get_or b.cells (if t then 0 else q) (pos 0)) single)

-- the place that is written for an index
abbrev pub place_for : ℤ → Array → List (Option Array) → List ℕ → ℤ
place_for o a ps is = pos (place_at a.shape (positions_index o a.shape ps is))

replaced_from : (o : ℤ) (a b : Array) (ps : List (Option Array)) (ns : List ℕ) → length b.cells ≡ size_of b.shape → FitsSelected b ns → (q k : ℕ) → q + k ≡ size_of ns → (cells : List ℤ)
    → replaced o a ps b (map (index_at ns) (upward q k)) cells ≡ written (value_by b.cells) q (map (place_for o a ps) (map (index_at ns) (upward q k))) cells
replaced_from o a b ps ns many fits q zero h cells = refl
replaced_from o a b ps ns many fits q (suc k) h cells =
    let place : ℕ = place_at a.shape (positions_index o a.shape ps (index_at ns q)) in
    let e : suc q ≡ q + 1 = omega arith in
    let value : value_at b (index_at ns q) ≡ value_by b.cells q = value_is b ns q many fits (omega (arith, h)) in
    ap (λ (z : ℤ). replaced o a ps b (map (index_at ns) (upward (suc q) k)) (slice_set cells place z)) value
    ∙ replaced_from o a b ps ns many fits (suc q) k (omega (arith, h)) (slice_set cells place (value_by b.cells q))
    ∙ ap (λ (i : ℕ). written (value_by b.cells) i (map (place_for o a ps) (map (index_at ns) (upward (suc q) k))) (slice_set cells place (value_by b.cells q))) e

-- places are replaced as they are written one after the other
pub replaced_is : (o : ℤ) (a b : Array) (ps : List (Option Array)) (ns : List ℕ) (cells : List ℤ) → length b.cells ≡ size_of b.shape → FitsSelected b ns
    → replaced o a ps b (indices ns) cells ≡ written (value_by b.cells) 0 (map (place_for o a ps) (indices ns)) cells
replaced_is o a b ps ns cells many fits = replaced_from o a b ps ns many fits 0 (size_of ns) (omega arith) cells

-- ---- the store

pub writes_none : (s : StoreView) (key : ℕ) (cells : List ℤ) → cells ≡ cells_of s key → WritesCells s s key cells
writes_none s key cells e = record {
  written = sym e;
  count = ap (λ (zs : List ℤ). length zs) e;
  kind = refl;
  holders = λ other. refl;
  others = λ other differs. refl;
  limit = refl;
}

pub writes_same : (s t : StoreView) (key : ℕ) (cells more : List ℤ) → WritesCells s t key cells → cells ≡ more → WritesCells s t key more
writes_same s t key cells more w e = subst (WritesCells s t key) e w

pub writes_then : (r s t : StoreView) (key : ℕ) (cells more : List ℤ) → WritesCells r s key cells → WritesCells s t key more → WritesCells r t key more
writes_then r s t key cells more w v = record {
  written = v.written;
  count = v.count ∙ ap (λ (zs : List ℤ). length zs) w.written ∙ w.count;
  kind = v.kind ∙ w.kind;
  holders = λ other. v.holders other ∙ w.holders other;
  others = λ other differs. v.others other differs ∙ w.others other differs;
  limit = v.limit ∙ w.limit;
}

-- where the store counted before
pub counted_writes : (r s t : StoreView) (key : ℕ) (cells : List ℤ) → OnlyCounted r s → WritesCells s t key cells → WritesCells r t key cells
counted_writes r s t key cells only w =
    let v : WritesCells (record r { counts = s.counts }) t key cells = subst (λ (x : StoreView). WritesCells x t key cells) only w in
    record {
      written = v.written;
      count = v.count;
      kind = v.kind;
      holders = v.holders;
      others = v.others;
      limit = v.limit;
    }

pub writes_one : (s t : StoreView) (key place : ℕ) (c : ℤ) → 0 < holders_of s key → place < length (cells_of s key) → t ≡ with_cell s key place c → WritesCells s t key (slice_set (cells_of s key) place c)
writes_one s t key place c held within is =
    let found = owner_found s key held in
    let here : owner_of (with_cell s key place c) key ≡ record (owner_of s key) { cells = slice_set (cells_of s key) place c; interval = _ } = owner_of-found (with_cell s key place c) key _ (owner_at-with_cell s key place c (owner_of s key) found) in
    let only : WritesOnly s (with_cell s key place c) key place c = written_is_only s key place c held within in
    subst (λ (x : StoreView). WritesCells s x key (slice_set (cells_of s key) place c)) (sym is) (record {
      written = ap (λ (o : OwnerView). o.cells) here;
      count = length-set (cells_of s key) place c;
      kind = only.kind;
      holders = only.holders;
      others = only.others;
      limit = only.limit;
    })

-- ---- what stays so of a store that was written

pub readable_written : (old new : StoreView) (key : ℕ) (cells : List ℤ) (z : ℤ) → WritesCells old new key cells → IsReadable old (owner_leaf key) z → IsReadable new (owner_leaf key) z
readable_written old new key cells z w h =
    let long : length (cells_of old key) ≡ length (cells_of new key) = sym w.count ∙ sym (ap (λ (zs : List ℤ). length zs) w.written) in
    record {
      number = h.number;
      cell = (
        subst (λ (n : ℕ). 0 < n) (sym (w.holders key)) h.cell.0,
        h.cell.1,
        subst (λ (n : ℕ). z <ℤ pos n) long h.cell.2,
      );
    }

pub reached_written : (old new : StoreView) (key : ℕ) (cells : List ℤ) (ns : List ℕ) (ss : List ℤ) (at : ℤ) → WritesCells old new key cells → IsReached old (owner_leaf key) ns ss at → IsReached new (owner_leaf key) ns ss at
reached_written old new key cells ns ss at w h = λ is index. readable_written old new key cells _ w (h is index)

pub cells_written : (old new : StoreView) (key : ℕ) (cells values : List ℤ) → WritesCells old new key cells → All (IsCell (kind_of old key)) values → All (IsCell (kind_of new key)) values
cells_written old new key cells values w h = subst (λ (k : Kind). All (IsCell k) values) (sym w.kind) h

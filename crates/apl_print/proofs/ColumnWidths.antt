-- The widths of columns, cell by cell and row by row.
use Rattle.std.proofs.Common.{◌≡◌, ℕ, zero, suc, ◌+◌, ◌*◌, ◌<◌, ◌≤◌, ◌==◌, max, Bool, false, ℤ, pos, List, [], ◌∷◌, ◌++◌, length, map, replicate, take, drop, set, get_or, if◌then◌else◌, refl, sym, ap, ◌∙◌, append_assoc, length-append, length-drop, arith}
use Rattle.std.specs.List.{fold}
use Rattle.std.proofs.lemmas.Bool.{eq-eqb, ne_eqb}
use Rattle.std.proofs.lemmas.List.{length-map, length-replicate, length-take-le, take_more, take-append-drop}
use Rattle.std.proofs.Math.Seq.{get_or-append_seam, set-append_seam}
use Rattle.apl_model.specs.Printed.{cell_text, rows_of, wider, widths_of}
use Rattle.apl_print.specs.declared.grids.Grid.{Grid}
use Rattle.apl_print.specs.Layout.{column_after, next_column, widened, widened_by}

-- ---- cells one after the other

pub widened-append : (g : Grid) (column : ℕ) (ws : List ℕ) (xs ys : List ℤ) → widened g column ws (xs ++ ys) ≡ widened g (column_after g column xs) (widened g column ws xs) ys
widened-append g column ws [] ys = refl
widened-append g column ws (x ∷ xs) ys = widened-append g (next_column g column) (widened_by g column ws x) xs ys

pub column_after-append : (g : Grid) (column : ℕ) (xs ys : List ℤ) → column_after g column (xs ++ ys) ≡ column_after g (column_after g column xs) ys
column_after-append g column [] ys = refl
column_after-append g column (x ∷ xs) ys = column_after-append g (next_column g column) xs ys

-- one cell more
pub widened_more : (g : Grid) (column here : ℕ) (ws now after : List ℕ) (width : ℕ) (cells : List ℤ) (i : ℕ) → i < length cells → here ≡ column_after g column (take i cells) →
    now ≡ widened g column ws (take i cells) → width ≡ max (get_or now here 0) (length (cell_text g.kind (get_or cells i (pos 0)))) → after ≡ set now here width →
    after ≡ widened g column ws (take (i + 1) cells)
widened_more g column here ws now after width cells i h place e m s =
    let c : ℤ = get_or cells i (pos 0) in
    s ∙ ap (λ n. set now here n) m ∙ ap (λ n. widened_by g n now c) place
    ∙ ap (λ vs. widened_by g (column_after g column (take i cells)) vs c) e
    ∙ sym (widened-append g column ws (take i cells) (c ∷ []))
    ∙ ap (widened g column ws) (sym (take_more cells i (pos 0) h))

pub column_more : (g : Grid) (column here next : ℕ) (cells : List ℤ) (i : ℕ) → i < length cells → here ≡ column_after g column (take i cells) → next ≡ next_column g here → next ≡ column_after g column (take (i + 1) cells)
column_more g column here next cells i h place e =
    e ∙ ap (next_column g) place ∙ sym (column_after-append g column (take i cells) (get_or cells i (pos 0) ∷ [])) ∙ ap (column_after g column) (sym (take_more cells i (pos 0) h))

-- ---- row by row

module _ (g : Grid) where
  lengths : List ℤ → List ℕ
  lengths cs = map length (map (cell_text g.kind) cs)

  widen_one : (front : List ℕ) (b : ℕ) (back : List ℕ) (c : ℤ) → widened_by g (length front) (front ++ (b ∷ back)) c ≡ front ++ (max b (length (cell_text g.kind c)) ∷ back)
  widen_one front b back c =
      ap (λ n. set (front ++ (b ∷ back)) (length front) (max n (length (cell_text g.kind c)))) (get_or-append_seam front b back 0)
      ∙ set-append_seam front b back (max b (length (cell_text g.kind c)))

  -- the rest of a row
  widen_rest : (front back : List ℕ) (c : ℤ) (cs rest : List ℤ) → length back ≡ length (c ∷ cs) → length front + length (c ∷ cs) ≡ g.columns →
      widened g (length front) (front ++ back) ((c ∷ cs) ++ rest) ≡ widened g 0 (front ++ wider back (map length (map (cell_text g.kind) (c ∷ cs)))) rest
  widen_rest front [] c cs rest e all = absurd (omega (arith, e))
  widen_rest front (b ∷ []) c [] rest e all =
      let last : suc (length front) ≡ g.columns = omega (arith, all) in
      ap (λ (end : Bool). widened g (if end then 0 else suc (length front)) (widened_by g (length front) (front ++ (b ∷ [])) c) rest) (eq-eqb (suc (length front)) g.columns last)
      ∙ ap (λ ws. widened g 0 ws rest) (widen_one front b [] c)
  widen_rest front (b ∷ b2 ∷ bs) c [] rest e all = absurd (omega (arith, e))
  widen_rest front (b ∷ []) c (d ∷ ds) rest e all = absurd (omega (arith, e))
  widen_rest front (b ∷ b2 ∷ bs) c (d ∷ ds) rest e all =
      let ne : (suc (length front) == g.columns) ≡ false = ne_eqb (suc (length front)) g.columns (λ same. omega (arith, same, all)) in
      let m : ℕ = max b (length (cell_text g.kind c)) in
      let front2 : List ℕ = front ++ (m ∷ []) in
      let back : List ℕ = b2 ∷ bs in
      let longer : length front2 ≡ suc (length front) = length-append front (m ∷ []) ∙ omega arith in
      let e2 : length back ≡ length (d ∷ ds) = omega (arith, e) in
      let all2 : length front2 + length (d ∷ ds) ≡ g.columns = omega (arith, longer, all) in
      let seam : front ++ (m ∷ back) ≡ front2 ++ back = sym (append_assoc front (m ∷ []) back) in
      ap (λ (end : Bool). widened g (if end then 0 else suc (length front)) (widened_by g (length front) (front ++ (b ∷ back)) c) ((d ∷ ds) ++ rest)) ne
      ∙ ap (λ ws. widened g (suc (length front)) ws ((d ∷ ds) ++ rest)) (widen_one front b back c ∙ seam)
      ∙ ap (λ n. widened g n (front2 ++ back) ((d ∷ ds) ++ rest)) (sym longer)
      ∙ widen_rest front2 back d ds rest e2 all2
      ∙ ap (λ ws. widened g 0 ws rest) (append_assoc front (m ∷ []) (wider back (map length (map (cell_text g.kind) (d ∷ ds)))))

  widen_row : (ws : List ℕ) (row rest : List ℤ) → 0 < g.columns → length ws ≡ g.columns → length row ≡ g.columns →
      widened g 0 ws (row ++ rest) ≡ widened g 0 (wider ws (map length (map (cell_text g.kind) row))) rest
  widen_row ws [] rest wide long e = absurd (omega (arith, wide, e))
  widen_row ws (c ∷ cs) rest wide long e =
      let same : length ws ≡ length (c ∷ cs) = long ∙ sym e in
      let all : 0 + length (c ∷ cs) ≡ g.columns = omega (arith, e) in
      widen_rest [] ws c cs rest same all

  length-wider : (ws ls : List ℕ) → length ws ≡ length ls → length (wider ws ls) ≡ length ws
  length-wider [] [] e = refl
  length-wider [] (l ∷ ls) e = absurd (omega (arith, e))
  length-wider (w ∷ ws) [] e = refl
  length-wider (w ∷ ws) (l ∷ ls) e = let e2 : length ws ≡ length ls = omega (arith, e) in ap suc (length-wider ws ls e2)

  widen_rows : (k : ℕ) (ws : List ℕ) (cells : List ℤ) → 0 < g.columns → length ws ≡ g.columns → length cells ≡ k * g.columns →
      widened g 0 ws cells ≡ fold (λ widest row. wider widest (map length row)) ws (map (map (cell_text g.kind)) (rows_of k g.columns cells))
  widen_rows zero ws [] wide long e = refl
  widen_rows zero ws (c ∷ cs) wide long e = absurd (omega (arith, e))
  widen_rows (suc k) ws cells wide long e =
      let n : ℕ = g.columns in
      let enough : n ≤ length cells = omega (arith, e) in
      let rest : length (drop n cells) ≡ k * n = length-drop n cells ∙ omega (arith, e) in
      let row : List ℤ = take n cells in
      let here : length row ≡ n = length-take-le n cells enough in
      let ls : List ℕ = map length (map (cell_text g.kind) row) in
      let counted : length ls ≡ n = length-map (map (cell_text g.kind) row) length ∙ length-map row (cell_text g.kind) ∙ here in
      let long2 : length (wider ws ls) ≡ n = length-wider ws ls (long ∙ sym counted) ∙ long in
      ap (widened g 0 ws) (sym (take-append-drop n cells))
      ∙ widen_row ws row (drop n cells) wide long here
      ∙ widen_rows k (wider ws ls) (drop n cells) wide long2 rest

  wider-none : (n : ℕ) (ls : List ℕ) → length ls ≡ n → wider (replicate n 0) ls ≡ ls
  wider-none zero [] e = refl
  wider-none zero (l ∷ ls) e = absurd (omega (arith, e))
  wider-none (suc n) [] e = absurd (omega (arith, e))
  wider-none (suc n) (l ∷ ls) e =
      let most : max 0 l ≡ l = omega arith in
      let e2 : length ls ≡ n = omega (arith, e) in
      ap (λ m. m ∷ wider (replicate n 0) ls) most ∙ ap (λ ms. l ∷ ms) (wider-none n ls e2)

  wider-first : (ls : List ℕ) → wider [] ls ≡ ls
  wider-first [] = refl
  wider-first (l ∷ ls) = refl

  -- the widths by cells, from nothing on, are those of the rows
  pub widths_by_rows : (k : ℕ) (cells : List ℤ) → 0 < k → 0 < g.columns → length cells ≡ k * g.columns →
      widened g 0 (replicate g.columns 0) cells ≡ widths_of (map (map (cell_text g.kind)) (rows_of k g.columns cells))
  widths_by_rows zero cells some wide e = absurd (omega arith)
  widths_by_rows (suc k) cells some wide e =
      let n : ℕ = g.columns in
      let enough : n ≤ length cells = omega (arith, e) in
      let row : List ℤ = take n cells in
      let ls : List ℕ = map length (map (cell_text g.kind) row) in
      let counted : length ls ≡ n = length-map (map (cell_text g.kind) row) length ∙ length-map row (cell_text g.kind) ∙ length-take-le n cells enough in
      widen_rows (suc k) (replicate n 0) cells wide (length-replicate n 0) e
      ∙ ap (λ ws. fold (λ widest row. wider widest (map length row)) ws (map (map (cell_text g.kind)) (rows_of k n (drop n cells))))
      (wider-none n ls counted ∙ sym (wider-first ls))

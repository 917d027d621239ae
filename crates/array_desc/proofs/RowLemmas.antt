-- The numbers of a row, and where a walk stands behind it.
use Rattle.std.proofs.Common.{◌≡◌, ℕ, zero, suc, ◌+◌, ◌-◌, ◌*◌, ◌/◌, ◌%◌, ◌<◌, ◌≤◌, inl, inr, ℤ, pos, ◌+ℤ◌, ◌-ℤ◌, ◌*ℤ◌, List, [], ◌∷◌, ◌++◌, length, take, drop, refl, ap, sym, subst, ◌∙◌, arith}
use Rattle.std.specs.Int.{int_wrap}
use Rattle.std.proofs.lemmas.Int.{ints, int_wrap-add_right}
use Rattle.std.proofs.lemmas.Bool.{cases_lt}
use Rattle.std.proofs.lemmas.Nat.{mod-mul-add}
use Rattle.std.specs.List.{refill}
use Rattle.std.proofs.lemmas.List.{append-nil, take_all, take-append-drop}
use Rattle.std.proofs.Math.ListN.{drop_of_length-le}
use Rattle.std.proofs.Math.Nat.{mul-le-mul_right, div-add-mod, mod-lt}
use Rattle.std.proofs.Math.IntN.{*ℤ-zero}
use mir.Syntax.{w128}
use Rattle.apl_base.specs.Number.{IsNumber}
use Rattle.apl_base.specs.Array.{IsIndex, size_of, place_at, index_at}
use Rattle.apl_base.proofs.Sizes.{IsIndex-index_at, place_at-index_at, index_at-place_at, place_at-below}
use Rattle.array_desc.specs.Desc.{DescView, IsDesc, dot, number}
use Rattle.array_desc.specs.Rows.{IsRun, Walks, Carries, number_on, row_length, left_in_row}
use Rattle.apl_base.proofs.Integers.{mul_add}
use Rattle.array_desc.proofs.Sums.{number_fits}
use Rattle.array_desc.proofs.RunLemmas.{IsIndex-join, place_at-join, dot-join, size_of-parts}

-- the number r places into the run at an index
pub number_in_run : (d : DescView) (outer run : ℕ) (step : ℤ) (index : List ℕ) (first : ℤ) → IsDesc d → IsRun d outer run step → IsIndex (take outer d.shape) index → first ≡ d.base +ℤ dot (take outer d.strides) index → (r : ℕ) → r < run → number_on d (place_at (take outer d.shape) index * run + r) ≡ first +ℤ (step *ℤ pos r)
number_in_run d outer run step index first w u q f r b =
    let c : r < size_of (drop outer d.shape) = omega (arith, b, u.size) in
    let j = index_at (drop outer d.shape) r in
    let o = IsIndex-index_at (drop outer d.shape) r c in
    let i = index ++ j in
    let at : place_at d.shape i ≡ place_at (take outer d.shape) index * run + r =
    place_at-join outer d.shape index j q
    ∙ ap (λ v. place_at (take outer d.shape) index * v + place_at (drop outer d.shape) j) (sym u.size)
    ∙ ap (λ v. place_at (take outer d.shape) index * run + v) (place_at-index_at (drop outer d.shape) r c) in
    let e : number d i ≡ first +ℤ (step *ℤ pos r) =
    omega (arith, ints, f, dot-join outer d.strides d.shape index j w.strides q, u.numbers j o, ap (λ v. step *ℤ pos v) (place_at-index_at (drop outer d.shape) r c)) in
    ap (number_on d) (sym at) ∙ ap (number d) (index_at-place_at d.shape i (IsIndex-join outer d.shape index j q o)) ∙ e

-- it is a number of the language, so it is kept in 128 bits
pub fits_in_run : (d : DescView) (outer run : ℕ) (step : ℤ) (index : List ℕ) (first : ℤ) → IsDesc d → IsRun d outer run step → IsIndex (take outer d.shape) index → first ≡ d.base +ℤ dot (take outer d.strides) index → (r : ℕ) → r < run → int_wrap w128 (first +ℤ (step *ℤ pos r)) ≡ first +ℤ (step *ℤ pos r)
fits_in_run d outer run step index first w u q f r b =
    let c : r < size_of (drop outer d.shape) = omega (arith, b, u.size) in
    let j = index_at (drop outer d.shape) r in
    let o = IsIndex-index_at (drop outer d.shape) r c in
    let e : number d (index ++ j) ≡ first +ℤ (step *ℤ pos r) =
    omega (arith, ints, f, dot-join outer d.strides d.shape index j w.strides q, u.numbers j o, ap (λ v. step *ℤ pos v) (place_at-index_at (drop outer d.shape) r c)) in
    number_fits _ (subst IsNumber e (w.numbers (index ++ j) (IsIndex-join outer d.shape index j q o)))

row_sum : (first step : ℤ) (done j : ℕ) → (first +ℤ (step *ℤ pos done)) +ℤ (step *ℤ pos j) ≡ first +ℤ (step *ℤ pos (done + j))
row_sum first step done j =
    let e : pos (done + j) ≡ pos done +ℤ pos j = omega (arith, ints) in
    omega (arith, ints, ap (λ v. step *ℤ v) e, mul_add step (pos done) (pos j))

-- the numbers of a row are those at the places from where the walk stands
pub walk_numbers : (d : DescView) (outer run : ℕ) (step : ℤ) (index : List ℕ) (done place : ℕ) (first from : ℤ) → IsDesc d → Walks d outer run step index done place first → from ≡ int_wrap w128 (first +ℤ int_wrap w128 (step *ℤ pos done)) → (count : ℕ) → done + count ≤ run → (j : ℕ) → j < count → from +ℤ (step *ℤ pos j) ≡ number_on d (place + j)
walk_numbers d outer run step index done place first from w k f count c j b =
    let u = k.runs in
    let s = k.stands in
    let e = f ∙ int_wrap-add_right w128 first (step *ℤ pos done) ∙ fits_in_run d outer run step index first w u s.is s.number done s.left in
    let r : done + j < run = omega (arith, b, c) in
    let at : place_at (take outer d.shape) index * run + (done + j) ≡ place + j = omega (arith, s.at) in
    ap (λ v. v +ℤ (step *ℤ pos j)) e ∙ row_sum first step done j ∙ sym (number_in_run d outer run step index first w u s.is s.number (done + j) r) ∙ ap (number_on d) at

next_below : (q a run done : ℕ) → q < a → done ≤ run → q * run + done ≤ a * run
next_below q a run done p b =
    let h = mul-le-mul_right run p in omega (arith, b, h)

-- a row ends within the places
pub walk_within : (d : DescView) (outer run : ℕ) (step : ℤ) (index : List ℕ) (done place : ℕ) (first : ℤ) → Walks d outer run step index done place first → (count : ℕ) → done + count ≤ run → place + count ≤ size_of d.shape
walk_within d outer run step index done place first k count c =
    let s = k.stands in
    let p = next_below (place_at (take outer d.shape) index) (size_of (take outer d.shape)) run (done + count) (place_at-below (take outer d.shape) index s.is) c in
    let e = size_of-parts outer d.shape ∙ ap (λ v. size_of (take outer d.shape) * v) (sym k.runs.size) in
    omega (arith, p, e, s.at)

-- so many rows lie in the axes from one on
rows_of : (ns : List ℕ) (k : ℕ) → k < length ns → (m : ℕ) × (size_of (drop k ns) ≡ m * row_length ns)
rows_of [] k p = absurd (omega (arith, p))
rows_of (n ∷ []) zero p = (1, omega arith)
rows_of (n ∷ o ∷ ns) zero p =
    let h = rows_of (o ∷ ns) 0 (omega arith) in
    (n * h.0, rw h.1 (omega arith))
rows_of (n ∷ []) (suc k) p = absurd (omega (arith, p))
rows_of (n ∷ o ∷ ns) (suc k) p = rows_of (o ∷ ns) k (omega (arith, p))

no_axes : (ns : List ℕ) (run : ℕ) → length ns ≡ 0 → run ≡ run * row_length ns
no_axes [] run e = omega arith
no_axes (n ∷ ns) run e = absurd (omega (arith, e))

run_is_rows : (d : DescView) (outer run : ℕ) (step : ℤ) → IsRun d outer run step → (m : ℕ) × (run ≡ m * row_length d.shape)
run_is_rows d outer run step u = elim u.row [
  | inl p ↦ (let h = rows_of d.shape outer p in (h.0, u.size ∙ h.1))
  | inr e ↦ (run, no_axes d.shape run e)
]

below_rows : (x m l r : ℕ) → x * l + r < m * l → x < m
below_rows x m l r p = elim (cases_lt x m) [
  | inl a ↦ a
  | inr b ↦ (let h = mul-le-mul_right l b in absurd (omega (arith, h, p)))
]

rest_of_rows : (q m l done place : ℕ) → place ≡ q * (m * l) + done → done < m * l → l - place % l ≤ m * l - done
rest_of_rows q m zero done place e p = absurd (omega (arith, p))
rest_of_rows q m (suc l) done place e p =
    let d = div-add-mod done (suc l) in
    let b : done % suc l < suc l = mod-lt done (omega arith) in
    let f : place ≡ (q * m + done / suc l) * suc l + done % suc l = e ∙ omega (arith, d) in
    let g : place % suc l ≡ done % suc l = ap (λ v. v % suc l) f ∙ mod-mul-add (q * m + done / suc l) (suc l) (done % suc l) b in
    let c : done / suc l < m = below_rows (done / suc l) m (suc l) (done % suc l) (omega (arith, d, p)) in
    let h = mul-le-mul_right (suc l) c in
    omega (arith, d, g, h)

-- a walk has at least the rest of its row before it
pub walk_reach : (d : DescView) (outer run : ℕ) (step : ℤ) (index : List ℕ) (done place : ℕ) (first : ℤ) → Walks d outer run step index done place first → left_in_row d.shape place ≤ run - done
walk_reach d outer run step index done place first k =
    let h = run_is_rows d outer run step k.runs in
    let e = h.1 in
    let s = k.stands in
    let at = s.at ∙ ap (λ v. place_at (take outer d.shape) index * v + done) e in
    let p = rest_of_rows (place_at (take outer d.shape) index) h.0 (row_length d.shape) done place at (rw e at s.left) in
    rw e p

-- the first number of the run at an index is kept in 128 bits
pub first_fits : (d : DescView) (outer run : ℕ) (step : ℤ) (index : List ℕ) (z : ℤ) → IsDesc d → IsRun d outer run step → 0 < run → IsIndex (take outer d.shape) index → z ≡ int_wrap w128 (d.base +ℤ dot (take outer d.strides) index) → z ≡ d.base +ℤ dot (take outer d.strides) index
first_fits d outer run step index z w u b q e =
    let first = d.base +ℤ dot (take outer d.strides) index in
    let o = *ℤ-zero step in
    let same : first ≡ first +ℤ (step *ℤ pos 0) = omega (arith, ints, o) in
    e ∙ ap (int_wrap w128) same ∙ fits_in_run d outer run step index first w u q refl 0 b ∙ sym same

moved_sum : (b x y : ℤ) → (b +ℤ x) +ℤ (y -ℤ x) ≡ b +ℤ y
moved_sum b x y = omega (arith, ints)

-- behind the last number of a run the walk stands at the next index
pub walk_carries : (d : DescView) (outer run : ℕ) (step : ℤ) (index new : List ℕ) (done place : ℕ) (first after : ℤ) → IsDesc d → Walks d outer run step index done place first → Carries (take outer d.strides) (take outer d.shape) index new first after → (count : ℕ) → done + count ≡ run → place + count < size_of d.shape → Walks d outer run step new 0 (place + count) after
walk_carries d outer run step index new done place first after w k c count e p =
    let s = k.stands in
    let u = k.runs in
    let ns = take outer d.shape in
    let size = size_of-parts outer d.shape ∙ ap (λ v. size_of ns * v) (sym u.size) in
    let next : place + count ≡ (place_at ns index + 1) * run = omega (arith, s.at, e) in
    let left : place_at ns index + 1 < size_of ns = below_rows (place_at ns index + 1) (size_of ns) run 0 (omega (arith, next, size, p)) in
    let some : 0 < run = omega (arith, s.left) in
    record {
      runs = u;
      stands = record {
        is = c.is left;
        at = rw (c.next left) (omega (arith, next));
        left = some;
        number = first_fits d outer run step new after w u some (c.is left)
            (c.number left ∙ ap (λ v. int_wrap w128 (v +ℤ (dot (take outer d.strides) new -ℤ dot (take outer d.strides) index))) s.number
            ∙ ap (int_wrap w128) (moved_sum d.base (dot (take outer d.strides) index) (dot (take outer d.strides) new)));
      };
    }

IsIndex-take : (k : ℕ) (ns is : List ℕ) → IsIndex ns is → IsIndex (take k ns) (take k is)
IsIndex-take zero ns is q = tt
IsIndex-take (suc k) [] [] q = tt
IsIndex-take (suc k) (n ∷ ns) (i ∷ is) q = (q.0, IsIndex-take k ns is q.1)
IsIndex-take (suc k) [] (i ∷ is) q = absurd q
IsIndex-take (suc k) (n ∷ ns) [] q = absurd q

IsIndex-drop : (k : ℕ) (ns is : List ℕ) → IsIndex ns is → IsIndex (drop k ns) (drop k is)
IsIndex-drop zero ns is q = q
IsIndex-drop (suc k) [] [] q = tt
IsIndex-drop (suc k) (n ∷ ns) (i ∷ is) q = IsIndex-drop k ns is q.1
IsIndex-drop (suc k) [] (i ∷ is) q = absurd q
IsIndex-drop (suc k) (n ∷ ns) [] q = absurd q

-- a walk begins at the index of the place that it is given
pub walk_begins : (d : DescView) (outer run : ℕ) (step : ℤ) (index : List ℕ) (place : ℕ) (z : ℤ) → IsDesc d → IsRun d outer run step → place < size_of d.shape → index ≡ take outer (index_at d.shape place) → z ≡ int_wrap w128 (d.base +ℤ dot (take outer d.strides) index) → Walks d outer run step index (place % run) place z
walk_begins d outer run step index place z w u p e f =
    let ns = d.shape in
    let i = index_at ns place in
    let q = IsIndex-index_at ns place p in
    let a = take outer i in
    let b = drop outer i in
    let qa = IsIndex-take outer ns i q in
    let qb = IsIndex-drop outer ns i q in
    let at : place ≡ place_at (take outer ns) a * run + place_at (drop outer ns) b =
    sym (place_at-index_at ns place p) ∙ ap (place_at ns) (sym (take-append-drop outer i)) ∙ place_at-join outer ns a b qa
    ∙ ap (λ v. place_at (take outer ns) a * v + place_at (drop outer ns) b) (sym u.size) in
    let below : place_at (drop outer ns) b < run = omega (arith, place_at-below (drop outer ns) b qb, u.size) in
    let rest : place % run ≡ place_at (drop outer ns) b = ap (λ v. v % run) at ∙ mod-mul-add (place_at (take outer ns) a) run (place_at (drop outer ns) b) below in
    let P : List ℕ → Type 0 = λ v. z ≡ int_wrap w128 (d.base +ℤ dot (take outer d.strides) v) → Walks d outer run step v (place % run) place z in
    subst P (sym e) (λ g. record {
      runs = u;
      stands = record {
        is = qa;
        at = rw rest at;
        left = rw rest below;
        number = first_fits d outer run step a z w u (omega (arith, below)) qa g;
      };
    }) f

run_some : (a b p : ℕ) → p < a * b → 0 < b
run_some a zero p h = absurd (omega (arith, h))
run_some a (suc b) p h = omega arith

-- where there is a place, a run has an element
pub run_has_some : (d : DescView) (outer run : ℕ) (step : ℤ) → IsRun d outer run step → (place : ℕ) → place < size_of d.shape → 0 < run
run_has_some d outer run step u place p =
    let e = size_of-parts outer d.shape ∙ ap (λ v. size_of (take outer d.shape) * v) (sym u.size) in
    run_some (size_of (take outer d.shape)) run place (omega (arith, e, p))

-- a list that is filled up with as many elements is those elements
pub refill_all : (xs new : List ℕ) → length new ≡ length xs → refill (length xs) xs new ≡ new
refill_all xs new l =
    ap (λ v. take (length xs) (new ++ v)) (drop_of_length-le xs {i = length new} (omega (arith, l)))
    ∙ ap (take (length xs)) (append-nil new) ∙ take_all (length xs) new (omega (arith, l))

-- The run that the last axes of a descriptor make, axis by axis from the last one.
use Rattle.std.proofs.Common.{◌≡◌, ℕ, zero, suc, ◌+◌, ◌-◌, ◌*◌, ◌^◌, ◌<◌, ◌≤◌, ◌⊎◌, inl, inr, ℤ, pos, ◌+ℤ◌, ◌*ℤ◌, List, [], ◌∷◌, ◌++◌, length, get_or, take, drop, drop-cons, refl, ap, sym, subst, ◌∙◌, arith}
use Rattle.std.specs.Int.{int_wrap}
use Rattle.std.specs.Int.RustNames.{FitsSigned}
use Rattle.std.proofs.lemmas.Int.{ints, int_wrap_fits}
use Rattle.std.proofs.Math.IntN.{*ℤ-zero}
use Rattle.std.proofs.Math.ListN.{drop_of_length-le}
use Rattle.std.proofs.lemmas.Bool.{cases_lt}
use mir.Syntax.{w128}
use Rattle.apl_base.specs.Number.{IsNumber}
use Rattle.apl_base.specs.Array.{IsIndex, size_of, place_at, index_at}
use Rattle.apl_base.specs.Selection.{only_index}
use Rattle.apl_base.proofs.Sizes.{IsIndex-index_at, place_at-index_at, place_at-below}
use Rattle.array_desc.specs.Desc.{DescView, IsDesc, dot, number}
use Rattle.array_desc.specs.Rows.{IsRun, Joins, one_behind, one_before, goes_on}
use Rattle.apl_base.proofs.Integers.{mul_add, mul_assoc}
use Rattle.array_desc.proofs.Indices.{index_with_size}
use Rattle.array_desc.proofs.Sums.{dot-zeros}
use Rattle.array_desc.proofs.Wholes.{size_of-drop_below}

-- an index of the first axes and one of the others make an index
pub IsIndex-join : (k : ℕ) (ns a b : List ℕ) → IsIndex (take k ns) a → IsIndex (drop k ns) b → IsIndex ns (a ++ b)
IsIndex-join zero ns [] b p q = q
IsIndex-join zero ns (i ∷ a) b p q = absurd p
IsIndex-join (suc k) [] [] b p q = q
IsIndex-join (suc k) [] (i ∷ a) b p q = absurd p
IsIndex-join (suc k) (n ∷ ns) (i ∷ a) b p q = (p.0, IsIndex-join k ns a b p.1 q)
IsIndex-join (suc k) (n ∷ ns) [] b p q = absurd p

pub size_of-parts : (k : ℕ) (ns : List ℕ) → size_of ns ≡ size_of (take k ns) * size_of (drop k ns)
size_of-parts zero ns = omega arith
size_of-parts (suc k) [] = omega arith
size_of-parts (suc k) (n ∷ ns) = rw (size_of-parts k ns) (omega arith)

-- its place is that of the first part, as often as the other axes have elements, and that of the second
pub place_at-join : (k : ℕ) (ns a b : List ℕ) → IsIndex (take k ns) a → place_at ns (a ++ b) ≡ place_at (take k ns) a * size_of (drop k ns) + place_at (drop k ns) b
place_at-join zero ns [] b p = omega arith
place_at-join zero ns (i ∷ a) b p = absurd p
place_at-join (suc k) [] [] b p = omega arith
place_at-join (suc k) [] (i ∷ a) b p = absurd p
place_at-join (suc k) (n ∷ ns) (i ∷ a) b p = rw (size_of-parts k ns, place_at-join k ns a b p.1) (omega arith)
place_at-join (suc k) (n ∷ ns) [] b p = absurd p

-- the sum of stride times index is that of the two parts
pub dot-join : (k : ℕ) (ss : List ℤ) (ns a b : List ℕ) → length ss ≡ length ns → IsIndex (take k ns) a → dot ss (a ++ b) ≡ dot (take k ss) a +ℤ dot (drop k ss) b
dot-join zero ss ns [] b l p = omega (arith, ints)
dot-join zero ss ns (i ∷ a) b l p = absurd p
dot-join (suc k) [] [] a b l p = omega (arith, ints)
dot-join (suc k) (s ∷ ss) (n ∷ ns) (i ∷ a) b l p =
    let e = dot-join k ss ns a b (omega (arith, l)) p.1 in omega (arith, ints, e)
dot-join (suc k) (s ∷ ss) (n ∷ ns) [] b l p = absurd p
dot-join (suc k) [] (n ∷ ns) a b l p = absurd (omega (arith, l))
dot-join (suc k) (s ∷ ss) [] a b l p = absurd (omega (arith, l))

-- what the loop from the last axis on keeps
pub record RunFrom (d : DescView) (k outer run : ℕ) (step : ℤ) : Type 0 where
  pub here : outer ≡ k
  pub axes : k ≤ length d.shape
  pub size : run ≡ size_of (drop k d.shape)
  pub numbers : (i : List ℕ) → IsIndex (drop k d.shape) i
      → dot (drop k d.strides) i ≡ step *ℤ pos (place_at (drop k d.shape) i)

none_there : (step z : ℤ) (ns i : List ℕ) → z ≡ pos 0 → ns ≡ [] → z ≡ step *ℤ pos (place_at ns i)
none_there step z [] i p q = omega (arith, ints, p, *ℤ-zero step)
none_there step z (n ∷ ns) i p q = absurd (cc)

pub run_begins : (d : DescView) → IsDesc d → RunFrom d (length d.shape) (length d.shape) 1 (pos 0)
run_begins d w =
    let e = drop_of_length-le d.shape {i = length d.shape} (omega arith) in
    let f = drop_of_length-le d.strides {i = length d.shape} (omega (arith, w.strides)) in
    record {
      here = refl;
      axes = omega arith;
      size = ap size_of (sym e);
      numbers = λ i q. none_there (pos 0) (dot (drop (length d.shape) d.strides) i) (drop (length d.shape) d.shape) i (ap (λ v. dot v i) f) e;
    }

-- the strides of these lengths make one run with this step
pub record OneRun (ss : List ℤ) (ns : List ℕ) (step : ℤ) : Type 0 where
  pub numbers : (i : List ℕ) → IsIndex ns i → dot ss i ≡ step *ℤ pos (place_at ns i)

first_number : (s step x : ℤ) (i r p : ℕ) → r ≡ 1 → p < r → x ≡ step *ℤ pos p → (s *ℤ pos i) +ℤ x ≡ s *ℤ pos (i * r + p)
first_number s step x i r zero e b h =
    let f : i * r + 0 ≡ i = rw e (omega arith) in omega (arith, ints, h, *ℤ-zero step, ap (λ v. s *ℤ pos v) f)
first_number s step x i r (suc p) e b h = absurd (omega (arith, e, b))

-- before axes of one element comes any axis
first_axis : (s step : ℤ) (ss : List ℤ) (n : ℕ) (ns : List ℕ) → size_of ns ≡ 1 → OneRun ss ns step → (i : List ℕ) → IsIndex (n ∷ ns) i → dot (s ∷ ss) i ≡ s *ℤ pos (place_at (n ∷ ns) i)
first_axis s step ss n ns e h (i ∷ is) q = first_number s step (dot ss is) i (size_of ns) (place_at ns is) e (place_at-below ns is q.1) (h.numbers is q.1)
first_axis s step ss n ns e h [] q = absurd q

-- an axis of one element changes nothing
short_axis : (s step : ℤ) (ss : List ℤ) (n : ℕ) (ns : List ℕ) → n ≤ 1 → OneRun ss ns step → (i : List ℕ) → IsIndex (n ∷ ns) i → dot (s ∷ ss) i ≡ step *ℤ pos (place_at (n ∷ ns) i)
short_axis s step ss n ns p h (zero ∷ is) q =
    let e = h.numbers is q.1 in
    let f : 0 * size_of ns + place_at ns is ≡ place_at ns is = omega arith in
    omega (arith, ints, e, ap (λ v. step *ℤ pos v) f)
short_axis s step ss n ns p h (suc i ∷ is) q = absurd (omega (arith, q.0, p))
short_axis s step ss n ns p h [] q = absurd q

next_number : (step : ℤ) (i r p : ℕ) → ((step *ℤ pos r) *ℤ pos i) +ℤ (step *ℤ pos p) ≡ step *ℤ pos (i * r + p)
next_number step i r p =
    let e : pos (i * r + p) ≡ (pos r *ℤ pos i) +ℤ pos p = omega (arith, ints) in
    omega (arith, ints, ap (λ v. step *ℤ v) e, mul_add step (pos r *ℤ pos i) (pos p), mul_assoc step (pos r) (pos i))

-- an axis whose stride is the step times the elements behind it goes on with the run
next_axis : (s step : ℤ) (ss : List ℤ) (n : ℕ) (ns : List ℕ) → s ≡ step *ℤ pos (size_of ns) → OneRun ss ns step → (i : List ℕ) → IsIndex (n ∷ ns) i → dot (s ∷ ss) i ≡ step *ℤ pos (place_at (n ∷ ns) i)
next_axis s step ss n ns e h (i ∷ is) q =
    let f = h.numbers is q.1 in
    rw (e, f) (next_number step i (size_of ns) (place_at ns is))
next_axis s step ss n ns e h [] q = absurd q

with_axis : (d : DescView) (j outer run : ℕ) (step step' : ℤ) → IsDesc d → suc j ≤ length d.shape → RunFrom d (suc j) outer run step → ((i : List ℕ) → IsIndex (get_or d.shape j 0 ∷ drop (suc j) d.shape) i → dot (get_or d.strides j (pos 0) ∷ drop (suc j) d.strides) i ≡ step' *ℤ pos (place_at (get_or d.shape j 0 ∷ drop (suc j) d.shape) i)) → RunFrom d j j (run * get_or d.shape j 0) step'
with_axis d j outer run step step' w p h n =
    let e = drop-cons d.shape j 0 p in
    let f = drop-cons d.strides j (pos 0) (omega (arith, w.strides)) in
    let P : List ℕ → Type 0 = λ ns. (i : List ℕ) → IsIndex ns i → dot (get_or d.strides j (pos 0) ∷ drop (suc j) d.strides) i ≡ step' *ℤ pos (place_at ns i) in
    record {
      here = refl;
      axes = omega (arith, p);
      size = omega (arith, ap size_of e, ap (λ v. get_or d.shape j 0 * v) h.size);
      numbers = λ i q. ap (λ v. dot v i) f ∙ subst P (sym e) n i q;
    }

left_factor : (n m : ℕ) → 0 < n * m → 0 < n
left_factor zero m p = absurd (omega (arith, p))
left_factor (suc n) m p = omega arith

-- the numbers of the run that begins at the base
run_number : (d : DescView) (k outer run : ℕ) (step : ℤ) → IsDesc d → 0 < size_of d.shape → RunFrom d k outer run step → (r : ℕ) → r < run → IsNumber (d.base +ℤ (step *ℤ pos r))
run_number d k outer run step w z h r b =
    let f : 0 < size_of (take k d.shape) * size_of (drop k d.shape) = rw (← size_of-parts k d.shape) z in
    let some : 0 < size_of (take k d.shape) = left_factor (size_of (take k d.shape)) (size_of (drop k d.shape)) f in
    let c : r < size_of (drop k d.shape) = omega (arith, b, h.size) in
    let a = index_with_size (take k d.shape) some in
    let q = IsIndex-index_at (drop k d.shape) r c in
    let i = only_index (take k d.shape) ++ index_at (drop k d.shape) r in
    let e : number d i ≡ d.base +ℤ (step *ℤ pos r) =
    omega (arith, ints, dot-join k d.strides d.shape (only_index (take k d.shape)) (index_at (drop k d.shape) r) w.strides a, dot-zeros (take k d.strides) (take k d.shape), h.numbers (index_at (drop k d.shape) r) q, ap (λ v. step *ℤ pos v) (place_at-index_at (drop k d.shape) r c)) in
    subst IsNumber e (w.numbers i (IsIndex-join k d.shape _ _ a q))

-- the step times the elements of the run is kept in 128 bits
pub step_fits : (d : DescView) (k outer run : ℕ) (step : ℤ) → IsDesc d → 0 < size_of d.shape → RunFrom d k outer run step → 1 < run → int_wrap w128 (step *ℤ pos run) ≡ step *ℤ pos run
step_fits d k outer run step w z h p =
    let x = run_number d k outer run step w z h 0 (omega (arith, p)) in
    let y = run_number d k outer run step w z h 1 p in
    let v = run_number d k outer run step w z h (run - 1) (omega (arith, p)) in
    let e : pos run ≡ pos (run - 1) +ℤ pos 1 = omega (arith, ints, p) in
    let g = ap (λ u. step *ℤ u) e ∙ mul_add step (pos (run - 1)) (pos 1) in
    let o = *ℤ-zero step in
    let f : FitsSigned w128 (step *ℤ pos run) = omega (arith, ints, x.least, x.most, y.least, y.most, v.least, v.most, g, o) in
    int_wrap_fits w128 (step *ℤ pos run) f

-- the elements from the axis before on are no more than all
pub run_fits : (d : DescView) (k outer run : ℕ) (step : ℤ) → IsDesc d → 0 < k → k ≤ length d.shape → 0 < size_of d.shape → RunFrom d k outer run step → run * get_or d.shape (k - 1) 0 ≤ 2 ^ 40
run_fits d zero outer run step w z p s h = absurd (omega (arith, z))
run_fits d (suc k) outer run step w z p s h =
    let e : suc k - 1 ≡ k = omega arith in
    let f = ap size_of (drop-cons d.shape k 0 p) in
    let g = size_of-drop_below d.shape k (2 ^ 40) s w.shape.product in
    rw (e, h.size) (omega (arith, f, g))

ends_before : (d : DescView) (k run : ℕ) (step : ℤ) → RunFrom d k k run step → (run ≡ 1 → ⊥) → k < length d.shape
ends_before d k run step h p = elim (cases_lt k (length d.shape)) [
  | inl a ↦ a
  | inr b ↦ absurd (p (h.size ∙ ap size_of (drop_of_length-le d.shape b)))
]

right_factor : (n m : ℕ) → 0 < n * m → 0 < m
right_factor n zero p = absurd (omega (arith, p))
right_factor n (suc m) p = omega arith

above_one : (n : ℕ) → 0 < n → (n ≡ 1 → ⊥) → 1 < n
above_one zero p q = absurd (omega (arith, p))
above_one (suc zero) p q = absurd (q refl)
above_one (suc (suc n)) p q = omega arith

joined : (d : DescView) (j outer run : ℕ) (step step' : ℤ) → IsDesc d → 0 < size_of d.shape → suc j ≤ length d.shape → RunFrom d (suc j) outer run step → Joins (get_or d.strides j (pos 0)) (get_or d.shape j 0) run step step' → RunFrom d j j (run * get_or d.shape j 0) step'
joined d j outer run step step' w z p h (one_behind e f) =
    let r : OneRun (drop (suc j) d.strides) (drop (suc j) d.shape) step = record { numbers = h.numbers } in
    with_axis d j outer run step step' w p h (rw f (first_axis (get_or d.strides j (pos 0)) step (drop (suc j) d.strides) (get_or d.shape j 0) (drop (suc j) d.shape) (sym h.size ∙ e) r))
joined d j outer run step step' w z p h (one_before e f) =
    let r : OneRun (drop (suc j) d.strides) (drop (suc j) d.shape) step = record { numbers = h.numbers } in
    with_axis d j outer run step step' w p h (rw f (short_axis (get_or d.strides j (pos 0)) step (drop (suc j) d.strides) (get_or d.shape j 0) (drop (suc j) d.shape) e r))
joined d j outer run step step' w z p h (goes_on o e f) =
    let r : OneRun (drop (suc j) d.strides) (drop (suc j) d.shape) step = record { numbers = h.numbers } in
    let some : 0 < size_of (take (suc j) d.shape) * size_of (drop (suc j) d.shape) = rw (← size_of-parts (suc j) d.shape) z in
    let g = step_fits d (suc j) outer run step w z h (above_one run (rw h.size (right_factor (size_of (take (suc j) d.shape)) (size_of (drop (suc j) d.shape)) some)) o) in
    with_axis d j outer run step step' w p h (rw f (next_axis (get_or d.strides j (pos 0)) step (drop (suc j) d.strides) (get_or d.shape j 0) (drop (suc j) d.shape) (e ∙ g ∙ ap (λ v. step *ℤ pos v) h.size) r))

-- one turn of the loop
pub run_round : (d : DescView) (k outer run : ℕ) (step step' : ℤ) → IsDesc d → 0 < size_of d.shape → 0 < k → k ≤ length d.shape → RunFrom d k outer run step → Joins (get_or d.strides (k - 1) (pos 0)) (get_or d.shape (k - 1) 0) run step step' → RunFrom d (k - 1) (k - 1) (run * get_or d.shape (k - 1) 0) step'
run_round d zero outer run step step' w z y p h j = absurd (omega (arith, y))
run_round d (suc k) outer run step step' w z y p h j = let e : suc k - 1 ≡ k = omega arith in rw e (joined d k outer run step step' w z p h (rw e at j))

-- the loop ends before an axis that doesn't join, or at the first one
pub run_ends : (d : DescView) (k outer run : ℕ) (step : ℤ) → RunFrom d k outer run step → (run ≡ 1 → ⊥) → IsRun d outer run step
run_ends d k outer run step h p =
    let P : ℕ → Type 0 = λ v. RunFrom d v outer run step in
    let g = subst P (sym h.here) h in
    record { axes = g.axes; row = inl (ends_before d outer run step g p); size = g.size; numbers = g.numbers }

all_before : (n outer : ℕ) → outer ≡ 0 → (outer < n) ⊎ (n ≡ 0)
all_before zero outer e = inr refl
all_before (suc n) outer e = inl (omega (arith, e))

pub run_is_all : (d : DescView) (k outer run : ℕ) (step : ℤ) → k ≤ 0 → RunFrom d k outer run step → IsRun d outer run step
run_is_all d k outer run step z h =
    let P : ℕ → Type 0 = λ v. RunFrom d v outer run step in
    let g = subst P (sym h.here) h in
    record { axes = g.axes; row = all_before (length d.shape) outer (omega (arith, z, h.here)); size = g.size; numbers = g.numbers }

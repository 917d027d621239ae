-- Vectors of numbers, and the fetches that read them.
use Rattle.std.proofs.Common.{◌≡◌, ℕ, zero, suc, ◌+◌, ◌/◌, ◌^◌, ◌<◌, ◌≤◌, ℤ, pos, negsuc, ◌+ℤ◌, ◌-ℤ◌, ◌*ℤ◌, ◌≤ℤ◌, ◌<ℤ◌, List, [], ◌∷◌, length, get_or, Fits, w64, FitsSigned, to_z, of_z, below_more, refl, sym, ap, subst, ◌∙◌, arith}
use Rattle.std.specs.Prelude.{unsigned_abs}
use Rattle.std.proofs.lemmas.Int.{ints, to_z-of_z}
use mir.Syntax.{w128}
use Rattle.apl_base.specs.declared.cells.Kind.TheVariants.{Num}
use Rattle.apl_base.specs.Array.{IsIndex, size_of, index_at}
use Rattle.apl_base.specs.Number.{IsNumber}
use Rattle.apl_base.specs.Elements.{tabulated}
use Rattle.apl_base.proofs.Elements.{tabulated-count, tabulated-place}
use Rattle.array_desc.specs.Desc.{DescView, IsDesc, ShortAxesRest, dot, number}
use Rattle.array_store.specs.Stores.{StoreView, cells_of}
use Rattle.array_store.specs.Counting.{after_fetches}
use Rattle.array_store.proofs.CountingLemmas.{after_fetches-then}
use Rattle.drag_along.specs.declared.leaves.Leaf.TheVariants.{Stored}
use Rattle.drag_along.specs.Meaning.{leaf_cell, leaf_array}
use Rattle.drag_along.specs.Lawful.{LiesIn}
use Rattle.beating.specs.declared.runs.Run.{Run}
use Rattle.beating.specs.Runs.{IsRunOf, numbers_of, vector_cell}

-- ---- one cell

pub vector_index : (ns : List ℕ) (j : ℕ) → length ns ≡ 1 → j < size_of ns → IsIndex ns (j ∷ [])
vector_index [] j h q = absurd (omega (arith, h))
vector_index (n ∷ []) j h q = (omega (arith, q), tt)
vector_index (n ∷ m ∷ ns) j h q = absurd (omega (arith, h))

-- the place is one of the owner's cells
pub place_cast : (z : ℤ) (n : ℕ) → pos 0 ≤ℤ z → z <ℤ pos n → n < 2 ^ 64 → lib.Dec.T (lib.Signed.non_neg z) × Fits w64 (lib.IntN.nat_abs z)
place_cast (pos m) n h k few = (tt, record { fits = omega (arith, ints, k) })
place_cast (negsuc m) n h k few = absurd (omega (arith, ints, h))

-- what a place of a lawful vector is, as a number of 128 bits gives it back
pub place_lies : (store : StoreView) (owner : ℕ) (d : DescView) (i : List ℕ) (z : ℤ) → LiesIn store owner d Num → IsIndex d.shape i → z ≡ number d i → (pos 0 ≤ℤ z) × (z <ℤ pos (length (cells_of store owner)))
place_lies store owner d i z lies q e =
    (subst (λ (x : ℤ). pos 0 ≤ℤ x) (sym e) (lies.low i q), subst (λ (x : ℤ). x <ℤ pos (length (cells_of store owner))) (sym e) (lies.high i q))

-- ---- a vector's numbers

-- the numbers are those that a function has at 0 to n - 1
pub record IsVector (numbers : List ℤ) (cell : ℕ → ℤ) (n : ℕ) : Type 0 where
  pub count : length numbers ≡ n
  pub each : (j : ℕ) → j < n → get_or numbers j (pos 0) ≡ cell j

index_at_place : (ns : List ℕ) (p : ℕ) → length ns ≡ 1 → index_at ns p ≡ p ∷ []
index_at_place [] p h = absurd (omega (arith, h))
index_at_place (n ∷ []) p h = let e : p / 1 ≡ p = omega arith in ap (λ (x : ℕ). let is : List ℕ = x ∷ [] in is) e
index_at_place (n ∷ m ∷ ns) p h = absurd (omega (arith, h))

-- of a vector's shape the index at each place is that place
pub places_vector : (ns : List ℕ) (f : List ℕ → ℤ) → length ns ≡ 1 → IsVector (tabulated Num ns f).cells (λ j. f (j ∷ [])) (size_of ns)
places_vector ns f h = record {
  count = tabulated-count Num ns f;
  each = λ j below. tabulated-place Num ns f j (pos 0) below ∙ ap f (index_at_place ns j h);
}

-- ---- what makes them a progression

abbrev pub run_of : ℤ → ℤ → ℕ → Run
run_of from step n = record { from = from; step = step; n = n }

pub run_is : (numbers : List ℤ) (cell : ℕ → ℤ) (from step : ℤ) (n : ℕ) → IsVector numbers cell n → ((k : ℕ) → k < n → cell k ≡ from +ℤ (step *ℤ pos k)) → (n < 2 → step ≡ pos 0) → (n ≡ 0 → from ≡ pos 0) → IsRunOf numbers (run_of from step n)
run_is numbers cell from step n v each short none = record {
  count = sym v.count;
  each = λ j below. let within : j < n = omega (arith, below, v.count) in v.each j within ∙ each j within;
  step = λ few. short (omega (arith, few, v.count));
  from = λ empty. none (sym v.count ∙ empty);
}

-- none, one, and two or more
pub run_of_none : (numbers : List ℤ) (cell : ℕ → ℤ) (n : ℕ) → IsVector numbers cell n → n ≡ 0 → IsRunOf numbers (run_of (pos 0) (pos 0) n)
run_of_none numbers cell n v e = run_is numbers cell (pos 0) (pos 0) n v (λ k below. absurd (omega (arith, below, e))) (λ h. refl) (λ h. refl)

only_place : (cell : ℕ → ℤ) (from : ℤ) (k : ℕ) → from ≡ cell 0 → k < 1 → cell k ≡ from +ℤ (pos 0 *ℤ pos k)
only_place cell from zero e below = omega (arith, ints, e)
only_place cell from (suc k) e below = absurd (omega (arith, below))

pub run_of_one : (numbers : List ℤ) (cell : ℕ → ℤ) (from : ℤ) (n : ℕ) → IsVector numbers cell n → n ≡ 1 → from ≡ cell 0 → IsRunOf numbers (run_of from (pos 0) n)
run_of_one numbers cell from n v e f =
    run_is numbers cell from (pos 0) n v (λ k below. only_place cell from k f (omega (arith, below, e))) (λ h. refl) (λ h. absurd (omega (arith, h, e)))

pub run_of_many : (numbers : List ℤ) (cell : ℕ → ℤ) (from step : ℤ) (n : ℕ) → IsVector numbers cell n → 2 ≤ n → ((k : ℕ) → k < n → cell k ≡ from +ℤ (step *ℤ pos k)) → IsRunOf numbers (run_of from step n)
run_of_many numbers cell from step n v many each =
    run_is numbers cell from step n v each (λ h. absurd (omega (arith, h, many))) (λ h. absurd (omega (arith, h, many)))

times_suc : (x : ℤ) (k : ℕ) → x *ℤ pos (suc k) ≡ (x *ℤ pos k) +ℤ x
times_suc x k = omega (arith, ints)

-- in a progression each number is the step more than the one before
step_between : (numbers : List ℤ) (cell : ℕ → ℤ) (n k : ℕ) (r : Run) → IsVector numbers cell n → suc k < n → IsRunOf numbers r → cell (suc k) -ℤ cell k ≡ r.step
step_between numbers cell n k r v below h =
    let low : k < length numbers = omega (arith, below, v.count) in
    let high : suc k < length numbers = omega (arith, below, v.count) in
    let a : cell k ≡ r.from +ℤ (r.step *ℤ pos k) = sym (v.each k (omega (arith, below))) ∙ h.each k low in
    let b : cell (suc k) ≡ r.from +ℤ (r.step *ℤ pos (suc k)) = sym (v.each (suc k) below) ∙ h.each (suc k) high in
    let s = times_suc r.step k in
    omega (arith, ints, a, b, s)

-- so numbers with two differences between neighbours are none
pub run_broken : (numbers : List ℤ) (cell : ℕ → ℤ) (n k : ℕ) (step : ℤ) → IsVector numbers cell n → suc k < n → step ≡ cell 1 -ℤ cell 0 → ¬ (cell (suc k) -ℤ cell k ≡ step) → (r : Run) → ¬ (IsRunOf numbers r)
run_broken numbers cell n k step v below e differs = λ r h.
    differs (step_between numbers cell n k r v below h ∙ sym (step_between numbers cell n 0 r v (omega (arith, below)) h) ∙ sym e)

-- ---- a vector's descriptor

first_of : (b : ℤ) (ss : List ℤ) (ns : List ℕ) (j : ℕ) → length ss ≡ length ns → length ns ≡ 1 → b +ℤ dot ss (j ∷ []) ≡ b +ℤ (get_or ss 0 (pos 0) *ℤ pos j)
first_of b [] ns j e h = absurd (omega (arith, e, h))
first_of b (s ∷ ss) ns j e h = ap (λ (x : ℤ). b +ℤ x) (plus_none (s *ℤ pos j) (dot ss []) (none_left ss))
  where
    none_left : (ss : List ℤ) → dot ss [] ≡ pos 0
    none_left [] = refl
    none_left (s ∷ ss) = refl

    plus_none : (x y : ℤ) → y ≡ pos 0 → x +ℤ y ≡ x
    plus_none x y e = omega (arith, ints, e)

short_first : (ss : List ℤ) (ns : List ℕ) → length ss ≡ length ns → length ns ≡ 1 → ShortAxesRest ss ns → size_of ns < 2 → get_or ss 0 (pos 0) ≡ pos 0
short_first [] ns e h r few = refl
short_first (s ∷ ss) [] e h r few = absurd (omega (arith, h))
short_first (s ∷ ss) (n ∷ []) e h r few = r.0 (omega (arith, few))
short_first (s ∷ ss) (n ∷ m ∷ ns) e h r few = absurd (omega (arith, h))

pub run_of_desc : (d : DescView) (from step : ℤ) (n : ℕ) → IsDesc d → length d.shape ≡ 1 → from ≡ d.base → step ≡ get_or d.strides 0 (pos 0) → n ≡ size_of d.shape → IsRunOf (numbers_of d) (run_of from step n)
run_of_desc d from step n lawful h e f g =
    let v = places_vector d.shape (number d) h in
    let whole : IsRunOf (numbers_of d) (run_of d.base (get_or d.strides 0 (pos 0)) (size_of d.shape)) =
    run_is (numbers_of d) (λ j. number d (j ∷ [])) d.base (get_or d.strides 0 (pos 0)) (size_of d.shape) v
    (λ k below. first_of d.base d.strides d.shape k lawful.strides h)
    (λ few. short_first d.strides d.shape lawful.strides h lawful.short few)
    (λ none. (lawful.empty none).base) in
    rw (e, f, g) whole

-- ---- the fetches, one after another

pub fetch_more : (s now new : StoreView) (j : ℕ) → now ≡ after_fetches s j → new ≡ after_fetches now 1 → new ≡ after_fetches s (j + 1)
fetch_more s now new j e f =
    f ∙ ap (λ (x : StoreView). after_fetches x 1) e ∙ after_fetches-then s j 1

pub lies_after : (s now : StoreView) (j owner : ℕ) (d : DescView) → now ≡ after_fetches s j → LiesIn s owner d Num → LiesIn now owner d Num
lies_after s now j owner d e lies =
    let same : LiesIn (after_fetches s j) owner d Num = record { live = lies.live; kind = lies.kind; low = lies.low; high = lies.high } in
    subst (λ (x : StoreView). LiesIn x owner d Num) (sym e) same

pub cells_after : (s now : StoreView) (j owner : ℕ) → now ≡ after_fetches s j → length (cells_of s owner) < 2 ^ 64 → length (cells_of now owner) < 2 ^ 64
cells_after s now j owner e few = subst (λ (x : StoreView). length (cells_of x owner) < 2 ^ 64) (sym e) few

pub cell_after : (s now : StoreView) (j owner : ℕ) (d : DescView) (k : ℕ) (x : ℤ) → now ≡ after_fetches s j → x ≡ vector_cell now owner d k → x ≡ vector_cell s owner d k
cell_after s now j owner d k x e f = f ∙ ap (λ (y : StoreView). vector_cell y owner d k) e

-- ---- the loop

-- the first j cells were fetched, and are as far apart as the first two
pub record Rising (old now : StoreView) (owner : ℕ) (d : DescView) (from step last : ℤ) (j : ℕ) : Type 0 where
  pub store : now ≡ after_fetches old j
  pub second : step ≡ vector_cell old owner d 1 -ℤ vector_cell old owner d 0
  pub each : (k : ℕ) → k < j → vector_cell old owner d k ≡ from +ℤ (step *ℤ pos k)
  pub newest : (k : ℕ) → suc k ≡ j → last ≡ vector_cell old owner d k
  pub number : IsNumber last

-- the difference of two numbers, as its bits give it back
pub difference_is : (x y : ℤ) → IsNumber x → IsNumber y → to_z w128 (of_z w128 (x -ℤ y)) ≡ x -ℤ y
difference_is x y n m =
    let f : FitsSigned w128 (x -ℤ y) = omega (arith, ints, n.least, n.most, m.least, m.most) in to_z-of_z w128 (x -ℤ y) f

-- a number, as its bits give it back
pub number_is : (x : ℤ) → IsNumber x → to_z w128 (of_z w128 x) ≡ x
number_is x n = let f : FitsSigned w128 x = omega (arith, ints, n.least, n.most) in to_z-of_z w128 x f

-- the cells of a vector
pub vector_of : (s : StoreView) (owner : ℕ) (d : DescView) (n : ℕ) → length d.shape ≡ 1 → n ≡ size_of d.shape → IsVector (leaf_array s d.shape (Stored owner d Num)).cells (vector_cell s owner d) n
vector_of s owner d n h e =
    let v = places_vector d.shape (leaf_cell s (Stored owner d Num)) h in
    subst (IsVector (leaf_array s d.shape (Stored owner d Num)).cells (vector_cell s owner d)) (sym e) v

first_two : (cell : ℕ → ℤ) (from step : ℤ) (k : ℕ) → from ≡ cell 0 → step ≡ cell 1 -ℤ cell 0 → k < 2 → cell k ≡ from +ℤ (step *ℤ pos k)
first_two cell from step zero e f below = omega (arith, ints, e, f)
first_two cell from step (suc zero) e f below = omega (arith, ints, e, f)
first_two cell from step (suc (suc k)) e f below = absurd (omega (arith, below))

second_is : (cell : ℕ → ℤ) (last : ℤ) (k : ℕ) → last ≡ cell 1 → suc k ≡ 2 → last ≡ cell k
second_is cell last zero e f = absurd (omega (arith, f))
second_is cell last (suc zero) e f = e
second_is cell last (suc (suc k)) e f = absurd (omega (arith, f))

pub rising_start : (old one two : StoreView) (owner : ℕ) (d : DescView) (from step last x y : ℤ) → one ≡ after_fetches old 1 → two ≡ after_fetches one 1 → IsNumber x → IsNumber y → x ≡ vector_cell old owner d 0 → y ≡ vector_cell one owner d 1 → from ≡ x → last ≡ y → step ≡ y -ℤ x → Rising old two owner d from step last 2
rising_start old one two owner d from step last x y e f n m a b p q r =
    let cell : ℕ → ℤ = vector_cell old owner d in
    let c : y ≡ cell 1 = cell_after old one 1 owner d 1 y e b in
    let second : step ≡ cell 1 -ℤ cell 0 = omega (arith, ints, r, a, c) in
    record {
      store = fetch_more old one two 1 e f;
      second = second;
      each = λ k below. first_two cell from step k (p ∙ a) second below;
      newest = λ k h. second_is cell last k (q ∙ c) h;
      number = subst IsNumber (sym q) m;
    }

next_is : (cell : ℕ → ℤ) (from step last next : ℤ) (j : ℕ) → 2 ≤ j → ((k : ℕ) → k < j → cell k ≡ from +ℤ (step *ℤ pos k)) → ((k : ℕ) → suc k ≡ j → last ≡ cell k) → next -ℤ last ≡ step → next ≡ from +ℤ (step *ℤ pos j)
next_is cell from step last next zero h each newest e = absurd (omega (arith, h))
next_is cell from step last next (suc k) h each newest e =
    let a = newest k refl in
    let b = each k (omega arith) in
    let s = times_suc step k in
    omega (arith, ints, a, b, s, e)

newest_is : (cell : ℕ → ℤ) (next : ℤ) (j k : ℕ) → next ≡ cell j → suc k ≡ j + 1 → next ≡ cell k
newest_is cell next j k e h = let f : j ≡ k = omega (arith, h) in e ∙ ap cell f

pub rising_more : (old now new : StoreView) (owner : ℕ) (d : DescView) (from step last next x : ℤ) (j : ℕ) → Rising old now owner d from step last j → 2 ≤ j → new ≡ after_fetches now 1 → IsNumber x → x ≡ vector_cell now owner d j → next ≡ x → x -ℤ last ≡ step → Rising old new owner d from step next (j + 1)
rising_more old now new owner d from step last next x j r h f n a p e =
    let cell : ℕ → ℤ = vector_cell old owner d in
    let here : x ≡ cell j = cell_after old now j owner d j x r.store a in
    record {
      store = fetch_more old now new j r.store f;
      second = r.second;
      each = below_more (λ k. cell k ≡ from +ℤ (step *ℤ pos k)) j r.each (sym here ∙ next_is cell from step last x j h r.each r.newest e);
      newest = λ k q. newest_is cell next j k (p ∙ here) q;
      number = subst IsNumber (sym p) n;
    }

broken_at : (numbers : List ℤ) (cell : ℕ → ℤ) (n j : ℕ) (step last next : ℤ) → IsVector numbers cell n → 2 ≤ j → j < n → step ≡ cell 1 -ℤ cell 0 → next ≡ cell j → ((k : ℕ) → suc k ≡ j → last ≡ cell k) → ¬ (next -ℤ last ≡ step) → (r : Run) → ¬ (IsRunOf numbers r)
broken_at numbers cell n zero step last next v h below e here newest differs = absurd (omega (arith, h))
broken_at numbers cell n (suc k) step last next v h below e here newest differs =
    let a = newest k refl in
    run_broken numbers cell n k step v below e (λ same. differs (omega (arith, ints, a, here, same)))

pub rising_broken : (old now : StoreView) (owner : ℕ) (d : DescView) (from step last x : ℤ) (n j : ℕ) → Rising old now owner d from step last j → length d.shape ≡ 1 → n ≡ size_of d.shape → 2 ≤ j → j < n → x ≡ vector_cell now owner d j → ¬ (x -ℤ last ≡ step) → (r : Run) → ¬ (IsRunOf (leaf_array old d.shape (Stored owner d Num)).cells r)
rising_broken old now owner d from step last x n j rising vector size h below a differs =
    broken_at (leaf_array old d.shape (Stored owner d Num)).cells (vector_cell old owner d) n j step last x (vector_of old owner d n vector size) h below
    rising.second (cell_after old now j owner d j x rising.store a) rising.newest differs

pub rising_end : (old now : StoreView) (owner : ℕ) (d : DescView) (from step last : ℤ) (n j : ℕ) → Rising old now owner d from step last j → length d.shape ≡ 1 → n ≡ size_of d.shape → 2 ≤ n → n ≤ j → IsRunOf (leaf_array old d.shape (Stored owner d Num)).cells (run_of from step n)
rising_end old now owner d from step last n j rising vector size many end =
    run_of_many (leaf_array old d.shape (Stored owner d Num)).cells (vector_cell old owner d) from step n (vector_of old owner d n vector size) many
    (λ k below. rising.each k (omega arith))

-- the code compares differences by their bits: equal bits are equal differences
read_back : (x y : ℤ) → IsNumber x → of_z w128 (to_z w128 (of_z w128 x) -ℤ y) ≡ of_z w128 (x -ℤ y)
read_back x y n = ap (λ (z : ℤ). of_z w128 (z -ℤ y)) (number_is x n)

pub same_difference : (x last step : ℤ) → IsNumber x → IsNumber last → of_z w128 (to_z w128 (of_z w128 x) -ℤ last) ≡ of_z w128 step → x -ℤ last ≡ to_z w128 (of_z w128 step)
same_difference x last step n m e =
    sym (difference_is x last n m) ∙ ap (to_z w128) (sym (read_back x last n) ∙ e)

pub other_difference : (x last y z : ℤ) → IsNumber x → IsNumber y → IsNumber z → ¬ (of_z w128 (to_z w128 (of_z w128 x) -ℤ last) ≡ of_z w128 (to_z w128 (of_z w128 y) -ℤ to_z w128 (of_z w128 z))) → ¬ (x -ℤ last ≡ to_z w128 (of_z w128 (to_z w128 (of_z w128 y) -ℤ to_z w128 (of_z w128 z))))
other_difference x last y z n m o differs = λ e.
    let step : of_z w128 (to_z w128 (of_z w128 y) -ℤ to_z w128 (of_z w128 z)) ≡ of_z w128 (y -ℤ z) =
    read_back y (to_z w128 (of_z w128 z)) m ∙ ap (λ (w : ℤ). of_z w128 (y -ℤ w)) (number_is z o) in
    let same : x -ℤ last ≡ y -ℤ z = e ∙ ap (to_z w128) step ∙ difference_is y z m o in
    differs (read_back x last n ∙ ap (of_z w128) same ∙ sym step)

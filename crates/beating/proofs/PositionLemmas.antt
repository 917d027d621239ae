-- Positions that are a progression: which places they name, and the item that they are.
use Rattle.std.proofs.Common.{◌≡◌, ℕ, zero, suc, ◌-◌, ◌^◌, ◌<◌, ◌≤◌, ℤ, pos, negsuc, ◌+ℤ◌, ◌-ℤ◌, ◌*ℤ◌, ◌≤ℤ◌, Bool, true, false, List, [], ◌∷◌, length, w64, FitsSigned, to_z, of_z, refl, sym, ap, subst, ◌∙◌, arith}
use Rattle.std.specs.Prelude.{unsigned_abs}
use Rattle.std.proofs.lemmas.Int.{ints, to_z-of_z}
use Rattle.std.proofs.Math.Nat.{mul-le-mul_left}
use mir.Syntax.{w128}
use Rattle.apl_base.specs.Number.{IsNumber}
use Rattle.apl_base.specs.declared.cells.Kind.TheVariants.{Num}
use Rattle.apl_base.specs.Array.{IsIndex, size_of, index_at}
use Rattle.apl_base.specs.Elements.{tabulated}
use Rattle.apl_base.proofs.Sizes.{IsIndex-index_at}
use Rattle.apl_base.proofs.Elements.{tabulated-count, tabulated-place}
use Rattle.array_desc.specs.Desc.{DescView, IsDesc}
use Rattle.array_store.specs.Stores.{StoreView, IsStore}
use Rattle.drag_along.specs.declared.leaves.Leaf.TheVariants.{Stored}
use Rattle.drag_along.specs.Meaning.{leaf_cell, leaf_array}
use Rattle.drag_along.specs.Lawful.{LiesIn}
use Rattle.drag_along.proofs.LeafLemmas.{leaf_cells_lawful}
use Rattle.beating.specs.declared.runs.Run.{Run}
use Rattle.beating.specs.declared.selections.Item.TheVariants as item
use Rattle.beating.specs.Runs.{run_value, IsRunOf}
use Rattle.beating.proofs.RunLemmas.{number_is}
use Rattle.beating.specs.Positions.{ArePositions, NamesPlace, OnAxis, LeavesAxis, IsItemOf}

-- ---- the first, the second and the last of them

pub first_number : (r : Run) → 0 < r.n → ((j : ℕ) → j < r.n → IsNumber (run_value r j)) → IsNumber r.from
first_number r some numbers =
    let e : run_value r 0 ≡ r.from = omega (arith, ints) in subst IsNumber e (numbers 0 some)

-- a step is small: 0 where there is no second, else the difference of the first two
few_or_more : (r : Run) (n : ℕ) → n ≡ r.n → ((j : ℕ) → j < r.n → IsNumber (run_value r j)) → (r.n < 2 → r.step ≡ pos 0) → FitsSigned w128 r.step
few_or_more r zero e numbers still = let s : r.step ≡ pos 0 = still (omega arith) in omega (arith, ints, s)
few_or_more r (suc zero) e numbers still = let s : r.step ≡ pos 0 = still (omega arith) in omega (arith, ints, s)
few_or_more r (suc (suc n)) e numbers still =
    let a = numbers 0 (omega arith) in
    let b = numbers 1 (omega arith) in
    omega (arith, ints, a.least, a.most, b.least, b.most)

pub step_read : (r : Run) (scalar : Bool) → ArePositions r scalar → to_z w128 (of_z w128 r.step) ≡ r.step
step_read r scalar h = let f : FitsSigned w128 r.step = few_or_more r r.n refl h.numbers h.step in to_z-of_z w128 r.step f

-- ---- what lies between the first and the last

-- a product lies between 0 and that of the last
rises : (m j last : ℕ) → j ≤ last → (pos m *ℤ pos j) ≤ℤ (pos m *ℤ pos last)
rises m j last below = let h = mul-le-mul_left m below in omega (arith, ints, h)

falls : (m j last : ℕ) → j ≤ last → (negsuc m *ℤ pos last) ≤ℤ (negsuc m *ℤ pos j)
falls m j last below = let h = mul-le-mul_left (suc m) below in omega (arith, ints, h)

at_most : (m j : ℕ) → (negsuc m *ℤ pos j) ≤ℤ pos 0
at_most m j = omega (arith, ints)

-- between two places of the axis there are only such
between : (step : ℤ) (from o : ℤ) (n j last : ℕ) → j ≤ last → NamesPlace o n from → NamesPlace o n (from +ℤ (step *ℤ pos last)) → NamesPlace o n (from +ℤ (step *ℤ pos j))
between (pos m) from o n j last below first end =
    let h = rises m j last below in (omega (arith, ints, first.0), omega (arith, ints, h, end.1))
between (negsuc m) from o n j last below first end =
    let h = falls m j last below in (omega (arith, ints, h, end.0), omega (arith, ints, at_most m j, first.1))

pub on_axis : (r : Run) (o : ℤ) (n : ℕ) → 0 < r.n → NamesPlace o n r.from → NamesPlace o n (run_value r (r.n - 1)) → OnAxis o n r
on_axis r o n some first last = λ j below. between r.step r.from o n j (r.n - 1) (omega arith) first last

-- so the step is that of an axis
axis_step : (r : Run) (o : ℤ) (n m : ℕ) → m ≡ r.n → n ≤ 2 ^ 40 → OnAxis o n r → (r.n < 2 → r.step ≡ pos 0) → FitsSigned w64 r.step
axis_step r o n zero e short on still = let s : r.step ≡ pos 0 = still (omega arith) in omega (arith, ints, s)
axis_step r o n (suc zero) e short on still = let s : r.step ≡ pos 0 = still (omega arith) in omega (arith, ints, s)
axis_step r o n (suc (suc m)) e short on still =
    let a = on 0 (omega arith) in
    let b = on 1 (omega arith) in
    omega (arith, ints, a.0, a.1, b.0, b.1)

pub step_fits : (r : Run) (scalar : Bool) (o : ℤ) (n : ℕ) → n ≤ 2 ^ 40 → ArePositions r scalar → OnAxis o n r → FitsSigned w64 r.step
step_fits r scalar o n short h on = axis_step r o n r.n refl short on h.step

-- ---- a place that was found

pub names_it : (v o : ℤ) (n p : ℕ) → pos p ≡ v -ℤ o → p < n → NamesPlace o n v
names_it v o n p e below = (omega (arith, ints, e), omega (arith, ints, e))

place_of_number : (z : ℤ) (p : ℕ) → pos p ≡ z → p ≡ unsigned_abs z
place_of_number z p e = ap unsigned_abs e

-- ---- the items

pub no_item : (r : Run) (scalar : Bool) (o : ℤ) (n : ℕ) → r.n ≡ 0 → ArePositions r scalar → IsItemOf o n r scalar (item.Run 0 (pos 0) 0)
no_item r true o n none h = let one = h.one refl in absurd (omega (arith, one, none))
no_item r false o n none h = record {
  fits = (record { low = λ j below. absurd (omega (arith, below)); high = λ j below. absurd (omega (arith, below)) }, tt);
  shape = ap (λ (k : ℕ). k ∷ []) (sym none);
  places = λ j below. absurd (omega (arith, below, none));
}

item_at : (r : Run) (scalar : Bool) (o : ℤ) (n p : ℕ) → scalar ≡ true → ArePositions r scalar → pos p ≡ r.from -ℤ o → p < n → IsItemOf o n r scalar (item.At p)
item_at r false o n p is h e below = absurd (cc)
item_at r true o n p is h e below =
    let one = h.one refl in
    record {
      fits = (below, tt);
      shape = refl;
      places = λ j within.
          let first : j ≡ 0 = omega (arith, within, one) in
          let value : pos p ≡ run_value r 0 -ℤ o = omega (arith, ints, e) in
          ap (λ (k : ℕ). k ∷ []) (place_of_number (run_value r 0 -ℤ o) p value ∙ ap (λ (k : ℕ). unsigned_abs (run_value r k -ℤ o)) (sym first));
    }

item_run : (r : Run) (scalar : Bool) (o step : ℤ) (n p : ℕ) → scalar ≡ false → step ≡ r.step → pos p ≡ r.from -ℤ o → OnAxis o n r → IsItemOf o n r scalar (item.Run p step r.n)
item_run r true o step n p is same e on = absurd (cc)
item_run r false o step n p is same e on =
    let value : (j : ℕ) → pos p +ℤ (step *ℤ pos j) ≡ run_value r j -ℤ o = λ j.
    ap (λ (s : ℤ). pos p +ℤ (s *ℤ pos j)) same ∙ (let h : pos p +ℤ (r.step *ℤ pos j) ≡ run_value r j -ℤ o = omega (arith, ints, e) in h) in
    record {
      fits = (
        record {
          low = λ j below. let v = value j in let k = on j below in omega (arith, ints, v, k.0);
          high = λ j below. let v = value j in let k = on j below in omega (arith, ints, v, k.1);
        },
        tt,
      );
      shape = refl;
      places = λ j below. ap (λ (z : ℤ). unsigned_abs z ∷ []) (value j);
    }

-- ---- what the code knows: numbers as their bits give them back

place_read : (x o : ℤ) (p : ℕ) → IsNumber x → IsNumber o → pos p ≡ to_z w128 (of_z w128 x) -ℤ to_z w128 (of_z w128 o) → pos p ≡ x -ℤ o
place_read x o p n m e = e ∙ ap (λ (z : ℤ). z -ℤ to_z w128 (of_z w128 o)) (number_is x n) ∙ ap (λ (z : ℤ). x -ℤ z) (number_is o m)

off_read : (x o : ℤ) (n : ℕ) → IsNumber x → IsNumber o → ¬ (NamesPlace (to_z w128 (of_z w128 o)) n (to_z w128 (of_z w128 x))) → ¬ (NamesPlace o n x)
off_read x o n h k off = λ named.
    off (subst (λ (z : ℤ). NamesPlace z n (to_z w128 (of_z w128 x))) (sym (number_is o k)) (subst (NamesPlace o n) (sym (number_is x h)) named))

-- a place of the axis that was found for the first position, and one for the last
pub record FoundFirst (r : Run) (scalar : Bool) (o : ℤ) (n p : ℕ) : Type 0 where
  pub some : 0 < r.n
  pub are : ArePositions r scalar
  pub origin : IsNumber o
  pub is : pos p ≡ to_z w128 (of_z w128 r.from) -ℤ to_z w128 (of_z w128 o)
  pub below : p < n

pub record FoundLast (r : Run) (o last : ℤ) (n q : ℕ) : Type 0 where
  pub value : last ≡ run_value r (r.n - 1)
  pub is : pos q ≡ to_z w128 (of_z w128 last) -ℤ to_z w128 (of_z w128 o)
  pub below : q < n

last_number : (r : Run) (scalar : Bool) (last : ℤ) → 0 < r.n → ArePositions r scalar → last ≡ run_value r (r.n - 1) → IsNumber last
last_number r scalar last some h e = subst IsNumber (sym e) (h.numbers (r.n - 1) (omega arith))

first_place : (r : Run) (scalar : Bool) (o : ℤ) (n p : ℕ) → FoundFirst r scalar o n p → pos p ≡ r.from -ℤ o
first_place r scalar o n p h = place_read r.from o p (first_number r h.some h.are.numbers) h.origin h.is

pub leaves_first : (r : Run) (scalar : Bool) (o : ℤ) (n : ℕ) → 0 < r.n → ArePositions r scalar → IsNumber o → ¬ (NamesPlace (to_z w128 (of_z w128 o)) n (to_z w128 (of_z w128 r.from))) → LeavesAxis o n r
leaves_first r scalar o n some h origin off =
    let e : r.from ≡ run_value r 0 = omega (arith, ints) in
    (0, some, subst (λ (v : ℤ). ¬ (NamesPlace o n v)) e (off_read r.from o n (first_number r some h.numbers) origin off))

pub leaves_last : (r : Run) (scalar : Bool) (o last : ℤ) (n : ℕ) → 0 < r.n → ArePositions r scalar → IsNumber o → last ≡ run_value r (r.n - 1) → ¬ (NamesPlace (to_z w128 (of_z w128 o)) n (to_z w128 (of_z w128 last))) → LeavesAxis o n r
leaves_last r scalar o last n some h origin e off =
    (r.n - 1, omega arith, subst (λ (w : ℤ). ¬ (NamesPlace o n w)) e (off_read last o n (last_number r scalar last some h e) origin off))

pub found_on_axis : (r : Run) (scalar : Bool) (o last : ℤ) (n p q : ℕ) → FoundFirst r scalar o n p → FoundLast r o last n q → OnAxis o n r
found_on_axis r scalar o last n p q first end =
    on_axis r o n first.some (names_it r.from o n p (first_place r scalar o n p first) first.below)
    (subst (NamesPlace o n) end.value (names_it last o n q (place_read last o q (last_number r scalar last first.some first.are end.value) first.origin end.is) end.below))

pub scalar_item : (r : Run) (scalar : Bool) (o : ℤ) (n p : ℕ) → scalar ≡ true → FoundFirst r scalar o n p → IsItemOf o n r scalar (item.At p)
scalar_item r scalar o n p one first = item_at r scalar o n p one first.are (first_place r scalar o n p first) first.below

pub step_casts : (r : Run) (scalar : Bool) (o last : ℤ) (n p q : ℕ) → n ≤ 2 ^ 40 → FoundFirst r scalar o n p → FoundLast r o last n q → FitsSigned w64 (to_z w128 (of_z w128 r.step))
step_casts r scalar o last n p q short first end =
    subst (FitsSigned w64) (sym (step_read r scalar first.are)) (step_fits r scalar o n short first.are (found_on_axis r scalar o last n p q first end))

pub vector_item : (r : Run) (scalar : Bool) (o last : ℤ) (n p q : ℕ) → n ≤ 2 ^ 40 → scalar ≡ false → FoundFirst r scalar o n p → FoundLast r o last n q → IsItemOf o n r scalar (item.Run p (to_z w64 (of_z w64 (to_z w128 (of_z w128 r.step)))) r.n)
vector_item r scalar o last n p q short many first end =
    let on = found_on_axis r scalar o last n p q first end in
    item_run r scalar o (to_z w64 (of_z w64 (to_z w128 (of_z w128 r.step)))) n p many
    (ap (λ (z : ℤ). to_z w64 (of_z w64 z)) (step_read r scalar first.are) ∙ to_z-of_z w64 r.step (step_fits r scalar o n short first.are on))
    (first_place r scalar o n p first) on

-- ---- progressions of numbers are positions

pub are_positions : (ns : List ℕ) (cell : List ℕ → ℤ) (r : Run) → IsRunOf (tabulated Num ns cell).cells r → ((i : List ℕ) → IsIndex ns i → IsNumber (cell i)) → ArePositions r false
are_positions ns cell r h numbers = record {
  numbers = λ j below.
      let many = tabulated-count Num ns cell in
      let listed : j < length (tabulated Num ns cell).cells = omega (arith, below, h.count) in
      let inside : j < size_of ns = omega (arith, listed, many) in
      subst IsNumber (sym (tabulated-place Num ns cell j (pos 0) inside) ∙ h.each j listed) (numbers (index_at ns j) (IsIndex-index_at ns j inside));
  step = λ few. h.step (omega (arith, few, h.count));
  one = λ yes. absurd (cc);
}

pub cells_positions : (s : StoreView) (owner : ℕ) (d : DescView) (r : Run) → IsStore s → IsDesc d → LiesIn s owner d Num → IsRunOf (leaf_array s d.shape (Stored owner d Num)).cells r → ArePositions r false
cells_positions s owner d r store lawful lies h =
    are_positions d.shape (leaf_cell s (Stored owner d Num)) r h (λ i q. leaf_cells_lawful s (Stored owner d Num) i store lawful lies q)

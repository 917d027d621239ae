-- Places of two shapes that differ in the length of one axis.
use Rattle.std.proofs.Common.{◌≡◌, ℕ, zero, suc, ◌+◌, ◌*◌, ◌/◌, ◌%◌, ◌<◌, ◌≤◌, ℤ, Option, Some, None, IfSome, List, [], ◌∷◌, length, take, get_or, set, sym, ap, ◌∙◌, subst, arith}
use Rattle.std.proofs.Math.Nat.{div-add-mod, mod-lt, div-eq_of_lt, div-lt_iff_lt-mul, mul-pos, mul-le-mul_right}
use Rattle.apl_base.specs.Array.{size_of, place_at, index_at}
use Rattle.apl_base.proofs.Sizes.{size_of-rest, place_at-index_at}
use Rattle.made_fns.specs.Lines.{run_of, placed, spread_cell}
use Rattle.made_fns.proofs.AxisLemmas.{along, behind, size_by, some_factors, stretches}
use Rattle.made_fns.proofs.TurnLemmas.{below_product, at_least}

-- the size with another length of an axis
pub size_set : (ns : List ℕ) (k n : ℕ) → k < length ns → size_of (set ns k n) ≡ size_of (take k ns) * (n * behind ns k)
size_set [] k n h = absurd (omega arith)
size_set (m ∷ ns) zero n h = omega arith
size_set (m ∷ ns) (suc k) n h = rw (size_set ns k n (omega arith)) (omega arith)

-- where the index at a place lies in the other shape with another number on that axis
abbrev pub moved_place : List ℕ → ℕ → ℕ → ℕ → ℕ → ℕ
moved_place ns k n p v = (p / (along ns k * behind ns k) * (n * behind ns k) + p % behind ns k) + v * behind ns k

moved_first : (m : ℕ) (ns : List ℕ) (n p v : ℕ) → p < m * size_of ns → place_at (n ∷ ns) (v ∷ index_at ns (p % size_of ns)) ≡ moved_place (m ∷ ns) 0 n p v
moved_first m ns n p v h =
    let some : 0 < size_of ns = size_of-rest m (size_of ns) p h in
    let rest : place_at ns (index_at ns (p % size_of ns)) ≡ p % size_of ns = place_at-index_at ns (p % size_of ns) (mod-lt p some) in
    let none : p / (m * size_of ns) ≡ 0 = div-eq_of_lt h in
    rw (rest, none) (omega arith)

pub moved_across : (ns : List ℕ) (k n p v : ℕ) → k < length ns → p < size_of ns → place_at (set ns k n) (set (index_at ns p) k v) ≡ moved_place ns k n p v
moved_across [] k n p v h less = absurd (omega arith)
moved_across (m ∷ ns) zero n p v h less = moved_first m ns n p v less
moved_across (m ∷ ns) (suc k) n p v h less =
    let below : k < length ns = omega arith in
    let some : 0 < size_of ns = size_of-rest m (size_of ns) p less in
    let whole : size_of ns * (p / size_of ns) + p % size_of ns ≡ p = div-add-mod p (size_of ns) in
    let st = stretches (p / size_of ns) (size_of (take k ns)) (along ns k) (behind ns k) (p % size_of ns) p (size_of ns) (size_by ns k below) whole (mod-lt p some) in
    ap (λ (x : ℕ). (p / size_of ns) * size_of (set ns k n) + x) (moved_across ns k n (p % size_of ns) v below (mod-lt p some))
    ∙ ap (λ (x : ℕ). (p / size_of ns) * x + moved_place ns k n (p % size_of ns) v) (size_set ns k n below)
    ∙ rw (st.line, st.rest) (omega arith)

-- ---- what the code knows of a place

pub record SpreadFacts (ns : List ℕ) (k run n p : ℕ) : Type 0 where
  pub some : 0 < run
  pub axis : 0 < get_or ns k 0
  pub short : run ≤ size_of ns
  pub line : 0 < get_or ns k 0 * run
  pub lines : get_or ns k 0 * run ≤ size_of ns
  pub wide : n * run ≤ size_of (set ns k n)
  pub outer : p / (get_or ns k 0 * run) * (n * run) ≤ size_of (set ns k n)
  pub number : p / run % get_or ns k 0 < get_or ns k 0
  pub rest : p % run < run
  pub source : (v : ℕ) → v < n → (p / (get_or ns k 0 * run) * (n * run) + p % run) + v * run < size_of (set ns k n)

times_least : (a b w s : ℕ) → s ≡ b * w → a ≤ b → a * w ≤ s
times_least a b w s e h =
    let m : a * w ≤ b * w = mul-le-mul_right w h in
    omega (arith, m, e)

one_run : (m r : ℕ) → 0 < m → r ≤ m * r
one_run zero r h = absurd (omega (arith, h))
one_run (suc m) r h = omega arith

pub spread_facts : (ns : List ℕ) (k run n p : ℕ) → run ≡ behind ns k → k < length ns → p < size_of ns → SpreadFacts ns k run n p
spread_facts ns k run n p is h less =
    let size = size_by ns k h in
    let other = size_set ns k n h in
    let some = some_factors (size_of (take k ns)) (along ns k) (behind ns k) (size_of ns) p size less in
    let outer : p / (along ns k * behind ns k) < size_of (take k ns) =
    (div-lt_iff_lt-mul (mul-pos some.1 some.0)).1 (omega (arith, less, size)) in
    let lines : along ns k * behind ns k ≤ size_of ns = at_least (size_of (take k ns)) (along ns k * behind ns k) (size_of ns) size (omega (arith, less)) in
    let runs : behind ns k ≤ along ns k * behind ns k = one_run (along ns k) (behind ns k) some.1 in
    let rest : p % behind ns k < behind ns k = mod-lt p some.0 in
    let wide : 1 * (n * behind ns k) ≤ size_of (set ns k n) = times_least 1 (size_of (take k ns)) (n * behind ns k) (size_of (set ns k n)) other (omega (arith, outer)) in
    subst (λ (r : ℕ). SpreadFacts ns k r n p) (sym is) (record {
      some = some.0;
      axis = some.1;
      short = omega (arith, lines, runs);
      line = mul-pos some.1 some.0;
      lines = lines;
      wide = omega (arith, wide);
      outer = times_least (p / (along ns k * behind ns k)) (size_of (take k ns)) (n * behind ns k) (size_of (set ns k n)) other (omega (arith, outer));
      number = mod-lt (p / behind ns k) some.1;
      rest = rest;
      source = λ v few.
          let inner : v * behind ns k + p % behind ns k < n * behind ns k = below_product v (behind ns k) (p % behind ns k) n few rest in
          let all : p / (along ns k * behind ns k) * (n * behind ns k) + (v * behind ns k + p % behind ns k) < size_of (take k ns) * (n * behind ns k) =
          below_product (p / (along ns k * behind ns k)) (n * behind ns k) (v * behind ns k + p % behind ns k) (size_of (take k ns)) outer inner in
          omega (arith, all, other);
    })

-- an element at a source lies within the other shape
pub source_within : (ns : List ℕ) (k run n p m : ℕ) (items : List ℤ) (source : Option ℕ) → SpreadFacts ns k run n p → m ≡ get_or ns k 0 → length items ≡ size_of (set ns k n) → IfSome source (λ v. v < n) → IfSome source (λ v. p / (m * run) * (n * run) + p % run + v * run < length items)
source_within ns k run n p m items None f is many h = tt
source_within ns k run n p m items (Some v) f is many h =
    let e : p / (m * run) * (n * run) ≡ p / (get_or ns k 0 * run) * (n * run) = ap (λ (x : ℕ). p / (x * run) * (n * run)) is in
    omega (arith, f.source v h, many, e)

-- the cell by the run and the length that the code knows
pub spread_is : (ns : List ℕ) (k run n p m : ℕ) (sources : List (Option ℕ)) (items : List ℤ) (blank : ℤ) → run ≡ run_of ns k → m ≡ get_or ns k 0 → placed items blank (p / (m * run) * (n * run) + p % run) run (get_or sources (p / run % m) None) ≡ spread_cell ns k n sources items blank p
spread_is ns k run n p m sources items blank is long =
    ap (λ (r : ℕ). placed items blank (p / (m * r) * (n * r) + p % r) r (get_or sources (p / r % m) None)) is
    ∙ ap (λ (x : ℕ). placed items blank (p / (x * run_of ns k) * (n * run_of ns k) + p % run_of ns k) (run_of ns k) (get_or sources (p / run_of ns k % x) None)) long

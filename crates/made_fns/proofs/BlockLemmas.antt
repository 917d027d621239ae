-- Blocks of an array, from one number on an axis before it to the next, that are turned as a whole.
use Rattle.std.proofs.Common.{◌≡◌, ℕ, ◌+◌, ◌-◌, ◌*◌, ◌/◌, ◌%◌, ◌<◌, ◌≤◌, ◌==◌, ◌⊎◌, inl, inr, if◌then◌else◌, ℤ, pos, negsuc, ◌+ℤ◌, List, ◌++◌, length, length-append, map, take, drop, get_or, refl, sym, ap, ◌∙◌, arith}
use Rattle.std.specs.Prelude.{unsigned_abs}
use Rattle.std.specs.Int.{int_rem_euclid}
use Rattle.std.proofs.Math.Nat.{div-add-mod, mod-lt, mod-eq_of_lt, add-mod_right, add-mod-mod, div-eq_of_lt, div-lt_iff_lt-mul, mul-le-mul_right, mul-pos, mul-add-div_right}
use Rattle.std.proofs.lemmas.Bool.{eq-eqb, cases_lt}
use Rattle.std.proofs.lemmas.Int.{ints, int_rem_euclid_is}
use Rattle.std.proofs.lemmas.List.{map-append, ext_get_or, get_or_append_left, get_or-append_right, get_or-drop, get_or-take, length-take, length-drop}
use Rattle.apl_base.specs.Selection.{upward}
use Rattle.apl_base.specs.Array.{size_of}
use Rattle.apl_base.proofs.Upward.{upward-append, length-map-upward, get_or-map-upward}
use Rattle.made_fns.specs.Lines.{run_of, turned_cell}
use Rattle.made_fns.proofs.AxisLemmas.{stretches, size_by}
use Rattle.made_fns.proofs.TurnLemmas.{cell_is, line_facts}

-- ---- numbers that go round the end of an axis

turned_from : (x m : ℕ) (by : ℤ) → 0 < m → unsigned_abs (int_rem_euclid (pos x +ℤ by) (pos m)) ≡ (x + unsigned_abs (int_rem_euclid by (pos m))) % m
turned_from x m (pos b) some = sym (add-mod-mod x b m)
turned_from x m (negsuc b) some =
    let whole : m * (b / m) + b % m ≡ b = div-add-mod b m in
    let rest : b % m < m = mod-lt b some in
    let product : (b / m + 1) * m ≡ m * (b / m) + m = omega arith in
    ap unsigned_abs (int_rem_euclid_is (pos x +ℤ negsuc b) (pos m) m (b / m + 1) (x + (m - 1 - b % m)) some refl (omega (arith, ints, whole, rest, product)))

before_end : (m i q v : ℕ) → q / i + v < m → q % i + (q / i + v) % m * i ≡ q + v * i
before_end m i q v h =
    let whole : i * (q / i) + q % i ≡ q = div-add-mod q i in
    ap (λ (n : ℕ). q % i + n * i) (mod-eq_of_lt h) ∙ omega (arith, whole)

after_end : (m i q v : ℕ) → m ≤ q / i + v → q / i < m → v < m → q % i + (q / i + v) % m * i + m * i ≡ q + v * i
after_end m i q v h low less =
    let whole : i * (q / i) + q % i ≡ q = div-add-mod q i in
    let there : (q / i + v) - m + m ≡ q / i + v = omega (arith, h) in
    let is : (q / i + v) % m ≡ (q / i + v) - m =
    ap (λ (n : ℕ). n % m) (sym there) ∙ add-mod_right ((q / i + v) - m) m ∙ mod-eq_of_lt (omega (arith, h, low, less)) in
    let product : ((q / i + v) - m) * i + m * i ≡ (q / i + v) * i = omega (arith, ap (λ (n : ℕ). n * i) there) in
    ap (λ (n : ℕ). q % i + n * i + m * i) is ∙ omega (arith, whole, product)

-- ---- a block

-- a stretch more
pub grown_by : (f : ℕ → ℤ) (p s : ℕ) (old new part : List ℤ) → old ≡ map f (upward 0 p) → new ≡ old ++ part → length part ≡ s → ((q : ℕ) → q < s → get_or part q (pos 0) ≡ f (p + q)) → new ≡ map f (upward 0 (p + s))
grown_by f p s old new part before appended many each =
    let rest : part ≡ map f (upward (0 + p) s) =
    ext_get_or (pos 0) part (map f (upward (0 + p) s)) (many ∙ sym (length-map-upward f (0 + p) s)) (λ q below.
    let less : q < s = omega (arith, below, many) in
    let e : p + q ≡ (0 + p) + q = omega arith in
    each q less ∙ ap f e ∙ sym (get_or-map-upward f (0 + p) s q (pos 0) less)) in
    appended ∙ ap (λ (xs : List ℤ). xs ++ part) before ∙ ap (λ (xs : List ℤ). map f (upward 0 p) ++ xs) rest
    ∙ sym (ap (map f) (upward-append 0 p s) ∙ map-append f (upward 0 p) (upward (0 + p) s))

-- what is known of a place that lies q behind the start of a block
record InBlock (m i block q p : ℕ) : Type 0 where
  number : p / i % m ≡ q / i
  line : p / (m * i) ≡ block
  rest : p % i ≡ q % i
  few : q / i < m

in_block : (m i block q p : ℕ) → 0 < i → p ≡ block * (m * i) + q → q < m * i → InBlock m i block q p
in_block m i block q p some is less =
    let one : m * i ≡ 1 * (m * i) = omega arith in
    let whole : m * i * block + q ≡ p = omega (arith, is) in
    let st = stretches block 1 m i q p (m * i) one whole less in
    let few : q / i < m = (div-lt_iff_lt-mul some).1 less in
    let none : q / (m * i) ≡ 0 = div-eq_of_lt less in
    record {
      number = st.place ∙ mod-eq_of_lt few;
      line = st.line ∙ omega (arith, none);
      rest = st.rest;
      few = few;
    }

-- the turn of a place is that of its block's start
turn_alike : (turns : List ℤ) (m i block q p : ℕ) → 0 < i → p ≡ block * (m * i) + q → q < m * i → ((length turns ≡ 1) ⊎ (i ≡ 1)) → get_or turns (if length turns == 1 then 0 else p / (m * i) * i + p % i) (pos 0) ≡ get_or turns (if length turns == 1 then 0 else (block * (m * i)) / (m * i) * i + (block * (m * i)) % i) (pos 0)
turn_alike turns m i block q p some is less (inl one) =
    let e = eq-eqb (length turns) 1 one in
    rw e refl
turn_alike turns m i block q p some is less (inr one) =
    let here = in_block m i block q p some is less in
    let start = in_block m i block 0 (block * (m * i)) some (omega arith) (omega (arith, less)) in
    let rest : p % i ≡ (block * (m * i)) % i = omega (arith, mod-lt p some, mod-lt (block * (m * i)) some, one) in
    ap (λ (n : ℕ). get_or turns (if length turns == 1 then 0 else n * i + p % i) (pos 0)) (here.line ∙ sym start.line)
    ∙ ap (λ (n : ℕ). get_or turns (if length turns == 1 then 0 else (block * (m * i)) / (m * i) * i + n) (pos 0)) rest

from_is : (x m v : ℕ) (by : ℤ) → 0 < m → v ≡ unsigned_abs (int_rem_euclid (pos 0 +ℤ by) (pos m)) → unsigned_abs (int_rem_euclid (pos x +ℤ by) (pos m)) ≡ (x + v) % m
from_is x m v by some is =
    let r = unsigned_abs (int_rem_euclid by (pos m)) in
    let zero_and : 0 + r ≡ r = omega arith in
    let e : v ≡ r % m = is ∙ turned_from 0 m by some ∙ ap (λ (n : ℕ). n % m) zero_and in
    turned_from x m by some ∙ sym (add-mod-mod x r m) ∙ ap (λ (n : ℕ). (x + n) % m) (sym e)

-- the cell that a block has at a place once it is turned: it stands so many runs on, or as many less the block's length
read_at : (m i start q v : ℕ) (items front back : List ℤ) → 0 < i → v < m → q < m * i
    → length front ≡ m * i - v * i → ((j : ℕ) → j < m * i - v * i → get_or front j (pos 0) ≡ get_or items (start + v * i + j) (pos 0))
    → ((j : ℕ) → j < v * i → get_or back j (pos 0) ≡ get_or items (start + j) (pos 0))
    → get_or (front ++ back) q (pos 0) ≡ get_or items (start + (q % i + (q / i + v) % m * i)) (pos 0)
read_at m i start q v items front back some low less long at_front at_back =
    let whole : i * (q / i) + q % i ≡ q = div-add-mod q i in
    let rest : q % i < i = mod-lt q some in
    let few : q / i < m = (div-lt_iff_lt-mul some).1 less in
    let short : v * i ≤ m * i = mul-le-mul_right i (omega (arith, low)) in
    elim (cases_lt (q / i + v) m) [
      | inl h ↦
          let more : (q / i + v + 1) * i ≤ m * i = mul-le-mul_right i (omega (arith, h)) in
          let within : q < m * i - v * i = omega (arith, whole, rest, more) in
          get_or_append_left front back (pos 0) q (omega (arith, within, long)) ∙ at_front q within
          ∙ ap (λ (n : ℕ). get_or items n (pos 0)) (let e : start + v * i + q ≡ start + (q % i + (q / i + v) % m * i) = omega (arith, before_end m i q v h) in e)
      | inr h ↦
          let more : m * i ≤ (q / i + v) * i = mul-le-mul_right i h in
          let beyond : m * i - v * i ≤ q = omega (arith, whole, more) in
          get_or-append_right front back (m * i - v * i) q (pos 0) long beyond ∙ at_back (q - (m * i - v * i)) (omega (arith, less, short, beyond))
          ∙ ap (λ (n : ℕ). get_or items n (pos 0)) (let e : start + (q - (m * i - v * i)) ≡ start + (q % i + (q / i + v) % m * i) = omega (arith, after_end m i q v h few low, beyond, short) in e)
    ]

module _ (ns : List ℕ) (k run block : ℕ) (turns items : List ℤ) (v : ℕ) (by : ℤ) where
  abbrev axis : ℕ
  axis = get_or ns k 0

  abbrev start : ℕ
  start = block * (axis * run)

  pub block_cell : (front back : List ℤ) (q : ℕ) → run ≡ run_of ns k → 0 < run → 0 < get_or ns k 0 → ((length turns ≡ 1) ⊎ (run ≡ 1))
      → by ≡ get_or turns (if length turns == 1 then 0 else start / (axis * run) * run + start % run) (pos 0)
      → v ≡ unsigned_abs (int_rem_euclid (pos 0 +ℤ by) (pos axis)) → v < axis → q < axis * run
      → length front ≡ axis * run - v * run → ((j : ℕ) → j < axis * run - v * run → get_or front j (pos 0) ≡ get_or items (start + v * run + j) (pos 0))
      → ((j : ℕ) → j < v * run → get_or back j (pos 0) ≡ get_or items (start + j) (pos 0))
      → get_or (front ++ back) q (pos 0) ≡ turned_cell ns k turns items (start + q)
  block_cell front back q is some long alike turn turned low less many at_front at_back =
      let p = start + q in
      let here = in_block axis run block q p some refl less in
      let whole : run * (q / run) + q % run ≡ q = div-add-mod q run in
      let product : p / run % axis * run ≡ run * (q / run) = ap (λ (n : ℕ). n * run) here.number ∙ omega arith in
      let from : (q / run + v) % axis ≡ unsigned_abs (int_rem_euclid (pos (p / run % axis) +ℤ by) (pos axis)) =
      ap (λ (n : ℕ). (n + v) % axis) (sym here.number) ∙ sym (from_is (p / run % axis) axis v by long turned) in
      read_at axis run start q v items front back some low less many at_front at_back
      ∙ ap (λ (n : ℕ). get_or items n (pos 0)) (let e : start + (q % run + (q / run + v) % axis * run) ≡ (p - p / run % axis * run) + (q / run + v) % axis * run = omega (arith, whole, product) in e)
      ∙ cell_is ns k run p ((q / run + v) % axis) by turns items is (turn ∙ sym (turn_alike turns axis run block q p some refl less alike)) from

-- ---- what the code knows of a block

pub record BlockFacts (ns : List ℕ) (k run block : ℕ) : Type 0 where
  pub some : 0 < run
  pub axis : 0 < get_or ns k 0
  pub short : get_or ns k 0 ≤ size_of ns
  pub size : 0 < get_or ns k 0 * run
  pub wide : get_or ns k 0 * run ≤ size_of ns
  pub start : block * (get_or ns k 0 * run) < size_of ns
  pub end : block * (get_or ns k 0 * run) + get_or ns k 0 * run ≤ size_of ns
  pub middle : (v : ℕ) → v < get_or ns k 0 → v * run ≤ get_or ns k 0 * run

pub size_facts : (ns : List ℕ) (k run : ℕ) → run ≡ run_of ns k → k < length ns → 0 < size_of ns → (0 < get_or ns k 0 * run) × (get_or ns k 0 * run ≤ size_of ns)
size_facts ns k run is h some =
    let f = line_facts ns k run 0 is h some in
    (mul-pos f.axis f.some, f.lines)

pub block_facts : (ns : List ℕ) (k run block many : ℕ) → run ≡ run_of ns k → k < length ns → many ≡ size_of ns → block < many / (get_or ns k 0 * run) → 0 < size_of ns → BlockFacts ns k run block
block_facts ns k run block many is h all less some =
    let f = line_facts ns k run 0 is h some in
    let whole : get_or ns k 0 * run * (many / (get_or ns k 0 * run)) + many % (get_or ns k 0 * run) ≡ many = div-add-mod many (get_or ns k 0 * run) in
    let size : 0 < get_or ns k 0 * run = mul-pos f.axis f.some in
    let next : (block + 1) * (get_or ns k 0 * run) ≤ many / (get_or ns k 0 * run) * (get_or ns k 0 * run) = mul-le-mul_right (get_or ns k 0 * run) (omega (arith, less)) in
    let end : block * (get_or ns k 0 * run) + get_or ns k 0 * run ≤ size_of ns = omega (arith, whole, next, all) in
    record {
      some = f.some;
      axis = f.axis;
      short = f.short;
      size = size;
      wide = f.lines;
      start = omega (arith, end, size);
      end = end;
      middle = λ v low. mul-le-mul_right run (omega (arith, low));
    }

-- one block more
pub block_step : (ns : List ℕ) (k run block number : ℕ) (by : ℤ) (turns items old new : List ℤ) → BlockFacts ns k run block → run ≡ run_of ns k → length items ≡ size_of ns → ((length turns ≡ 1) ⊎ (run_of ns k ≡ 1))
    → by ≡ get_or turns (if length turns == 1 then 0 else (block * (get_or ns k 0 * run)) / (get_or ns k 0 * run) * run + (block * (get_or ns k 0 * run)) % run) (pos 0)
    → number ≡ unsigned_abs (int_rem_euclid (pos 0 +ℤ by) (pos (get_or ns k 0))) → number < get_or ns k 0
    → old ≡ map (turned_cell ns k turns items) (upward 0 (block * (get_or ns k 0 * run)))
    → (let start = block * (get_or ns k 0 * run) in let middle = start + number * run in let end = start + get_or ns k 0 * run in
    new ≡ old ++ (take (end - middle) (drop middle items) ++ take (middle - start) (drop start items)))
    → new ≡ map (turned_cell ns k turns items) (upward 0 ((block + 1) * (get_or ns k 0 * run)))
block_step ns k run block number by turns items old new f is many alike turn there low before appended =
    let size = get_or ns k 0 * run in
    let start = block * size in
    let middle = start + number * run in
    let end = start + size in
    let front = take (end - middle) (drop middle items) in
    let back = take (middle - start) (drop start items) in
    let short : number * run ≤ size = f.middle number low in
    let long_front : length front ≡ size - number * run = length-take (end - middle) (drop middle items) ∙ omega (arith, length-drop middle items, f.end, many, short) in
    let long_back : length back ≡ number * run = length-take (middle - start) (drop start items) ∙ omega (arith, length-drop start items, f.end, many, short) in
    let one : (length turns ≡ 1) ⊎ (run ≡ 1) = elim alike [ inl e ↦ inl e | inr e ↦ inr (is ∙ e) ] in
    let next : start + size ≡ (block + 1) * size = omega arith in
    grown_by (turned_cell ns k turns items) start size old new (front ++ back) before appended (length-append front back ∙ omega (arith, long_front, long_back, short))
    (λ q less. block_cell ns k run block turns items number by front back q is f.some f.axis one turn there low less long_front
    (λ j h. get_or-take (end - middle) (drop middle items) j (pos 0) (omega (arith, h)) ∙ get_or-drop middle items j (pos 0))
    (λ j h. get_or-take (middle - start) (drop start items) j (pos 0) (omega (arith, h)) ∙ get_or-drop start items j (pos 0)))
    ∙ ap (λ (n : ℕ). map (turned_cell ns k turns items) (upward 0 n)) next

-- after the last block
pub blocks_all : (ns : List ℕ) (k run block many : ℕ) → run ≡ run_of ns k → k < length ns → 0 < size_of ns → many ≡ size_of ns → many / (get_or ns k 0 * run) ≤ block → block ≤ many / (get_or ns k 0 * run) → block * (get_or ns k 0 * run) ≡ size_of ns
blocks_all ns k run block many is h some all most least =
    let size = get_or ns k 0 * run in
    let outer = size_of (take k ns) in
    let up : 0 < size = (size_facts ns k run is h some).0 in
    let whole : many ≡ outer * size + 0 = all ∙ size_by ns k h ∙ ap (λ (r : ℕ). outer * (get_or ns k 0 * r)) (sym is) ∙ omega arith in
    let same : many / size ≡ outer = ap (λ (n : ℕ). n / size) whole ∙ mul-add-div_right up outer 0 ∙ omega (arith, div-eq_of_lt up) in
    let e : block ≡ outer = omega (arith, most, least, same) in
    ap (λ (n : ℕ). n * size) e ∙ omega (arith, whole, all)

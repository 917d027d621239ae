-- A pass over the axes: the parts of the items so far, and the rest of the axes whole.
use Rattle.std.proofs.Common.{◌≡◌, ℕ, zero, suc, ◌+◌, ◌<◌, ◌≤◌, Bool, true, false, List, [], ◌∷◌, length, get_or, set, refl, sym, ap, ◌∙◌, subst, add-one, arith, ltb-true, ltb-false}
use Rattle.std.specs.Prelude.{nat_lt, if◌then◌else◌}
use Rattle.std.proofs.lemmas.Int.{ints}
use Rattle.apl_base.specs.Array.{IsShape}
use Rattle.apl_base.specs.Selection.{only_index}
use Rattle.array_desc.specs.Desc.{DescView, IsDesc, Selects}
use Rattle.array_desc.specs.Steps.{paired, WindowFits}
use Rattle.apl_base.proofs.Sizes.{IsIndex-length}
use Rattle.array_desc.proofs.Maps.{window_is_shape}
use Rattle.beating.specs.declared.selections.Item.{Item}
use Rattle.beating.specs.declared.selections.Item.TheVariants as item
use Rattle.beating.specs.Passes.{Passable, part_of, part_length, part_place, PartFits, parts_of, PartsFit}
use Rattle.beating.proofs.SelectsLemmas.{selects_itself, selects_then, selects_same}

-- the first k parts, and the rest of the axes whole
abbrev pub first : ℕ → List Item → List Item
first k [] = []
first zero (p ∷ ps) = item.All ∷ first zero ps
first (suc k) (p ∷ ps) = p ∷ first k ps

-- ---- what is so of lengths and of places: f of a whole axis changes nothing

module _ (f : Item → ℕ → ℕ) (rests : (n : ℕ) → f item.All n ≡ n) where
  -- no part yet
  paired-none : (ps : List Item) (ns : List ℕ) → length ps ≡ length ns → paired f (first 0 ps) ns ≡ ns
  paired-none [] [] e = refl
  paired-none (p ∷ ps) (n ∷ ns) e = let a = rests n in let b = paired-none ps ns (omega (arith, e)) in rw (a, b) refl
  paired-none [] (n ∷ ns) e = absurd (omega (arith, e))
  paired-none (p ∷ ps) [] e = absurd (omega (arith, e))

  -- one part more changes the length of its axis
  paired-set : (k : ℕ) (ps : List Item) (ns : List ℕ) → length ps ≡ length ns → k < length ps → paired f (first (suc k) ps) ns ≡ set (paired f (first k ps) ns) k (f (get_or ps k item.All) (get_or ns k 0))
  paired-set zero (p ∷ ps) (n ∷ ns) e h = refl
  paired-set (suc k) (p ∷ ps) (n ∷ ns) e h = ap (λ r. f p n ∷ r) (paired-set k ps ns (omega (arith, e)) (omega (arith, h)))
  paired-set k [] ns e h = absurd (omega (arith, h))
  paired-set k (p ∷ ps) [] e h = absurd (omega (arith, e))

  -- and reads one place of it
  paired-read : (k : ℕ) (ps : List Item) (is : List ℕ) → length ps ≡ length is → k < length ps → paired f (first (suc k) ps) is ≡ paired f (first k ps) (set is k (f (get_or ps k item.All) (get_or is k 0)))
  paired-read zero (p ∷ ps) (i ∷ is) e h = let a = rests (f p i) in rw a refl
  paired-read (suc k) (p ∷ ps) (i ∷ is) e h = ap (λ r. f p i ∷ r) (paired-read k ps is (omega (arith, e)) (omega (arith, h)))
  paired-read k [] is e h = absurd (omega (arith, h))
  paired-read k (p ∷ ps) [] e h = absurd (omega (arith, e))

  -- the next axis is as it was
  paired-at : (k : ℕ) (ps : List Item) (ns : List ℕ) → length ps ≡ length ns → get_or (paired f (first k ps) ns) k 0 ≡ get_or ns k 0
  paired-at zero (p ∷ ps) (n ∷ ns) e = rests n
  paired-at (suc k) (p ∷ ps) (n ∷ ns) e = paired-at k ps ns (omega (arith, e))
  paired-at k [] [] e = refl
  paired-at k [] (n ∷ ns) e = absurd (omega (arith, e))
  paired-at k (p ∷ ps) [] e = absurd (omega (arith, e))

-- all parts
first-all : (k : ℕ) (ps : List Item) → k ≡ length ps → first k ps ≡ ps
first-all k [] e = refl
first-all zero (p ∷ ps) e = absurd (omega (arith, e))
first-all (suc k) (p ∷ ps) e = ap (λ r. p ∷ r) (first-all k ps (omega (arith, e)))

-- as many lengths as before
pub length-paired : (f : Item → ℕ → ℕ) (ps : List Item) (ns : List ℕ) → length ps ≡ length ns → length (paired f ps ns) ≡ length ns
length-paired f [] [] e = refl
length-paired f (p ∷ ps) (n ∷ ns) e = ap suc (length-paired f ps ns (omega (arith, e)))
length-paired f [] (n ∷ ns) e = absurd (omega (arith, e))
length-paired f (p ∷ ps) [] e = absurd (omega (arith, e))

-- as many parts with the rest whole
length-first : (k : ℕ) (ps : List Item) → length (first k ps) ≡ length ps
length-first k [] = refl
length-first zero (p ∷ ps) = ap suc (length-first zero ps)
length-first (suc k) (p ∷ ps) = ap suc (length-first k ps)

-- as many parts as axes
pub length-parts : (longer : Bool) (items : List Item) (ns : List ℕ) → length items ≡ length ns → length (parts_of longer items ns) ≡ length ns
length-parts longer [] [] e = refl
length-parts longer (i ∷ items) (n ∷ ns) e = ap suc (length-parts longer items ns (omega (arith, e)))
length-parts longer [] (n ∷ ns) e = absurd (omega (arith, e))
length-parts longer (i ∷ items) [] e = absurd (omega (arith, e))

-- ---- the lengths between are lawful

-- a part of the pass that makes no axis longer
shorter_part : (i : Item) (n : ℕ) → PartFits (part_of false i n) n → part_length (part_of false i n) n ≤ n
shorter_part item.All n h = omega arith
shorter_part (item.At i) n h = let q = h.high 0 (omega arith) in omega (arith, ints, q)
shorter_part (item.Run from step count) n h =
    elim (nat_lt n count) as (λ b. nat_lt n count ≡ b → part_length (if b then item.All else item.Run from step count) n ≤ n) [
      | true ↦ λ e. omega arith
      | false ↦ λ e. ltb-false n count e
    ] refl

-- a part of the pass that makes axes longer
longer_part : (i : Item) (n : ℕ) → n ≤ part_length (part_of true i n) n
longer_part item.All n = omega arith
longer_part (item.At i) n = omega arith
longer_part (item.Run from step count) n =
    elim (nat_lt n count) as (λ b. nat_lt n count ≡ b → n ≤ part_length (if b then item.Run from step count else item.All) n) [
      | true ↦ λ e. let h = ltb-true n count e in omega arith
      | false ↦ λ e. omega arith
    ] refl

-- no axis is longer than it was
shorter-fits : (k : ℕ) (items : List Item) (ns : List ℕ) → PartsFit (parts_of false items ns) ns → WindowFits ns (only_index ns) (paired part_length (first k (parts_of false items ns)) ns)
shorter-fits k [] [] h = tt
shorter-fits zero (i ∷ items) (n ∷ ns) h = (omega arith, shorter-fits zero items ns h.1)
shorter-fits (suc k) (i ∷ items) (n ∷ ns) h = let e = shorter_part i n h.0 in (omega (arith, e), shorter-fits k items ns h.1)
shorter-fits k [] (n ∷ ns) h = absurd h
shorter-fits k (i ∷ items) [] h = tt

-- no axis is longer than it will be
longer-fits : (k : ℕ) (items : List Item) (ns : List ℕ) → length items ≡ length ns → WindowFits (paired part_length (parts_of true items ns) ns) (only_index (paired part_length (parts_of true items ns) ns)) (paired part_length (first k (parts_of true items ns)) ns)
longer-fits k [] [] h = tt
longer-fits zero (i ∷ items) (n ∷ ns) h = let e = longer_part i n in (omega (arith, e), longer-fits zero items ns (omega (arith, h)))
longer-fits (suc k) (i ∷ items) (n ∷ ns) h = (omega arith, longer-fits k items ns (omega (arith, h)))
longer-fits k [] (n ∷ ns) h = absurd (omega (arith, h))
longer-fits k (i ∷ items) [] h = absurd (omega (arith, h))

-- after the first k parts of a pass the lengths make a shape
pub between : (longer : Bool) (k : ℕ) (items : List Item) (ns : List ℕ) → length items ≡ length ns → PartsFit (parts_of longer items ns) ns → IsShape ns → IsShape (paired part_length (parts_of longer items ns) ns) → IsShape (paired part_length (first k (parts_of longer items ns)) ns)
between false k items ns e h s t = window_is_shape ns (only_index ns) (paired part_length (first k (parts_of false items ns)) ns) (shorter-fits k items ns h) s
between true k items ns e h s t =
    let full : List ℕ = paired part_length (parts_of true items ns) ns in
    window_is_shape full (only_index full) (paired part_length (first k (parts_of true items ns)) ns) (longer-fits k items ns e) t

-- after all parts of the pass that makes no axis longer, too
pub all_shorter : (items : List Item) (ns : List ℕ) → PartsFit (parts_of false items ns) ns → IsShape ns → IsShape (paired part_length (parts_of false items ns) ns)
all_shorter items ns h s =
    let parts : List Item = parts_of false items ns in
    let w = shorter-fits (length parts) items ns h in
    let l : paired part_length (first (length parts) parts) ns ≡ paired part_length parts ns = ap (λ (ps : List Item). paired part_length ps ns) (first-all (length parts) parts refl) in
    subst IsShape l (window_is_shape ns (only_index ns) (paired part_length (first (length parts) parts) ns) w s)

-- ---- what a pass has done when it comes to axis k

pub record Passed (old now : DescView) (parts : List Item) (k : ℕ) : Type 0 where
  pub selects : Selects old now (paired part_length (first k parts) old.shape) (paired part_place (first k parts))

-- all of an axis keeps its length
rests_length : (n : ℕ) → part_length item.All n ≡ n
rests_length n = refl

-- and its places
rests_place : (n : ℕ) → part_place item.All n ≡ n
rests_place n = refl

-- before the first axis
pub passed_none : (old : DescView) (parts : List Item) → length parts ≡ length old.shape → Passed old old parts 0
passed_none old parts e = record {
  selects =
      let l = paired-none part_length rests_length parts old.shape e in
      selects_same old old old.shape (paired part_length (first 0 parts) old.shape) (λ i. i) (paired part_place (first 0 parts)) (selects_itself old) (sym l) (λ i q.
      let c = IsIndex-length (paired part_length (first 0 parts) old.shape) i q in
      sym (paired-none part_place rests_place parts i (omega (arith, e, ap length l, c))));
}

-- after the last axis
pub passed_all : (old now : DescView) (parts : List Item) (k : ℕ) → k ≡ length parts → Passed old now parts k → Selects old now (paired part_length parts old.shape) (paired part_place parts)
passed_all old now parts k e h =
    subst (λ (ps : List Item). Selects old now (paired part_length ps old.shape) (paired part_place ps)) (first-all k parts e) h.selects

-- the axis that comes next has the length that it had
pub passed_at : (old now : DescView) (parts : List Item) (k : ℕ) → length parts ≡ length old.shape → Passed old now parts k → get_or now.shape k 0 ≡ get_or old.shape k 0
passed_at old now parts k e h =
    ap (λ (ns : List ℕ). get_or ns k 0) h.selects.shape ∙ paired-at part_length rests_length k parts old.shape e

-- there are as many axes as before
pub passed_rank : (old now : DescView) (parts : List Item) (k : ℕ) → length parts ≡ length old.shape → Passed old now parts k → length now.shape ≡ length old.shape
passed_rank old now parts k e h =
    ap length h.selects.shape ∙ length-paired part_length (first k parts) old.shape (length-first k parts ∙ e)

-- the lengths after the next part
passed_lengths : (old now : DescView) (parts : List Item) (k : ℕ) (p : Item) → length parts ≡ length old.shape → k < length parts → p ≡ get_or parts k item.All → Passed old now parts k → set now.shape k (part_length p (get_or now.shape k 0)) ≡ paired part_length (first (suc k) parts) old.shape
passed_lengths old now parts k p e b is h =
    ap (λ n. set now.shape k (part_length p n)) (passed_at old now parts k e h)
    ∙ ap (λ (ns : List ℕ). set ns k (part_length p (get_or old.shape k 0))) h.selects.shape
    ∙ ap (λ (q : Item). set (paired part_length (first k parts) old.shape) k (part_length q (get_or old.shape k 0))) is
    ∙ sym (paired-set part_length rests_length k parts old.shape e b)

-- one axis more
pub passed_more : (old now new : DescView) (parts : List Item) (k : ℕ) (p : Item) → length parts ≡ length old.shape → k < length parts → p ≡ get_or parts k item.All → Passed old now parts k → Selects now new (set now.shape k (part_length p (get_or now.shape k 0))) (λ is. set is k (part_place p (get_or is k 0))) → Passed old new parts (k + 1)
passed_more old now new parts k p e b is h s =
    subst (Passed old new parts) (sym (add-one k)) (record {
      selects =
          let l = passed_lengths old now parts k p e b is h in
          let full : List ℕ = paired part_length (first (suc k) parts) old.shape in
          let many : length full ≡ length old.shape = length-paired part_length (first (suc k) parts) old.shape (length-first (suc k) parts ∙ e) in
          let both = selects_then old now new (paired part_length (first k parts) old.shape) (set now.shape k (part_length p (get_or now.shape k 0))) (paired part_place (first k parts)) (λ is. set is k (part_place p (get_or is k 0))) h.selects s in
          selects_same old new (set now.shape k (part_length p (get_or now.shape k 0))) full (λ i. paired part_place (first k parts) (set i k (part_place p (get_or i k 0)))) (paired part_place (first (suc k) parts)) both l (λ i q.
          let c = IsIndex-length full i q in
          ap (λ (r : Item). paired part_place (first k parts) (set i k (part_place r (get_or i k 0)))) is
          ∙ sym (paired-read part_place rests_place k parts i (omega (arith, e, many, c)) b));
    })

-- what the next part asks for
parts-at : (longer : Bool) (items : List Item) (ns : List ℕ) (k : ℕ) → length items ≡ length ns → k < length items → get_or (parts_of longer items ns) k item.All ≡ part_of longer (get_or items k item.All) (get_or ns k 0)
parts-at longer (i ∷ items) (n ∷ ns) zero e h = refl
parts-at longer (i ∷ items) (n ∷ ns) (suc k) e h = parts-at longer items ns k (omega (arith, e)) (omega (arith, h))
parts-at longer [] ns k e h = absurd (omega (arith, h))
parts-at longer (i ∷ items) [] k e h = absurd (omega (arith, e))

-- it fits its axis
part_at : (parts : List Item) (ns : List ℕ) (k : ℕ) → PartsFit parts ns → k < length parts → PartFits (get_or parts k item.All) (get_or ns k 0)
part_at (p ∷ parts) (n ∷ ns) zero h b = h.0
part_at (p ∷ parts) (n ∷ ns) (suc k) h b = part_at parts ns k h.1 (omega (arith, b))
part_at [] ns k h b = absurd (omega (arith, b))
part_at (p ∷ parts) [] k h b = absurd h

-- what is applied next is the next part
pub next_part : (longer : Bool) (items : List Item) (old now : DescView) (k : ℕ) (p : Item) → Passable longer items old.shape → Passed old now (parts_of longer items old.shape) k → k < length items → p ≡ part_of longer (get_or items k item.All) (get_or now.shape k 0) → p ≡ get_or (parts_of longer items old.shape) k item.All
next_part longer items old now k p a h b is =
    is ∙ ap (part_of longer (get_or items k item.All)) (passed_at old now (parts_of longer items old.shape) k (length-parts longer items old.shape a.count) h)
    ∙ sym (parts-at longer items old.shape k a.count b)

-- its places are on the axis
pub next_fits : (longer : Bool) (items : List Item) (old now : DescView) (k : ℕ) (p : Item) → Passable longer items old.shape → Passed old now (parts_of longer items old.shape) k → k < length items → p ≡ part_of longer (get_or items k item.All) (get_or now.shape k 0) → PartFits p (get_or now.shape k 0)
next_fits longer items old now k p a h b is =
    let parts : List Item = parts_of longer items old.shape in
    let many : length parts ≡ length old.shape = length-parts longer items old.shape a.count in
    let f = part_at parts old.shape k a.fit (omega (arith, many, a.count, b)) in
    let g = subst (λ (q : Item). PartFits q (get_or old.shape k 0)) (sym (next_part longer items old now k p a h b is)) f in
    subst (PartFits p) (sym (passed_at old now parts k many h)) g

-- the lengths with it make a shape
pub next_lengths : (longer : Bool) (items : List Item) (old now : DescView) (k : ℕ) (p : Item) → Passable longer items old.shape → Passed old now (parts_of longer items old.shape) k → k < length items → p ≡ part_of longer (get_or items k item.All) (get_or now.shape k 0) → IsShape (set now.shape k (part_length p (get_or now.shape k 0)))
next_lengths longer items old now k p a h b is =
    let parts : List Item = parts_of longer items old.shape in
    let many : length parts ≡ length old.shape = length-parts longer items old.shape a.count in
    let l = passed_lengths old now parts k p many (omega (arith, many, a.count, b)) (next_part longer items old now k p a h b is) h in
    subst IsShape (sym l) (between longer (suc k) items old.shape a.count a.fit a.before a.after)

-- the axis is there
pub next_rank : (longer : Bool) (items : List Item) (old now : DescView) (k : ℕ) → Passable longer items old.shape → Passed old now (parts_of longer items old.shape) k → k < length items → k < length now.shape
next_rank longer items old now k a h b =
    let parts : List Item = parts_of longer items old.shape in
    let many : length parts ≡ length old.shape = length-parts longer items old.shape a.count in
    omega (arith, passed_rank old now parts k many h, a.count, b)

-- ---- the loop over the axes

pub record InPass (longer : Bool) (items : List Item) (old now : DescView) (k : ℕ) : Type 0 where
  pub done : Passed old now (parts_of longer items old.shape) k
  pub lawful : IsDesc now

-- at the first axis
pub pass_begins : (longer : Bool) (items : List Item) (old : DescView) → Passable longer items old.shape → IsDesc old → InPass longer items old old 0
pass_begins longer items old a d = record {
  done = passed_none old (parts_of longer items old.shape) (length-parts longer items old.shape a.count);
  lawful = d;
}

-- from an axis to the next
pub next_round : (longer : Bool) (items : List Item) (old now new : DescView) (k : ℕ) (p : Item) → Passable longer items old.shape → InPass longer items old now k → k < length items → p ≡ part_of longer (get_or items k item.All) (get_or now.shape k 0) → Selects now new (set now.shape k (part_length p (get_or now.shape k 0))) (λ is. set is k (part_place p (get_or is k 0))) → IsDesc new → InPass longer items old new (k + 1)
next_round longer items old now new k p a h b is s d =
    let parts : List Item = parts_of longer items old.shape in
    let many : length parts ≡ length old.shape = length-parts longer items old.shape a.count in
    record {
      done = passed_more old now new parts k p many (omega (arith, many, a.count, b)) (next_part longer items old now k p a h.done b is) h.done s;
      lawful = d;
    }

-- after the last axis
pub pass_ends : (longer : Bool) (items : List Item) (old now : DescView) (k : ℕ) → Passable longer items old.shape → InPass longer items old now k → k ≡ length items → Selects old now (paired part_length (parts_of longer items old.shape) old.shape) (paired part_place (parts_of longer items old.shape))
pass_ends longer items old now k a h e =
    let many = length-parts longer items old.shape a.count in
    passed_all old now (parts_of longer items old.shape) k (omega (arith, many, a.count, e)) h.done

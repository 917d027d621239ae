-- The axes of which one place is kept go away, from the last one to the first.
use Rattle.std.proofs.Common.{◌≡◌, ℕ, zero, suc, ◌-◌, ◌<◌, ◌≤◌, List, [], ◌∷◌, length, get_or, map, refl, sym, ap, ◌∙◌, subst, arith}
use Rattle.std.specs.Prelude.{insert, remove}
use Rattle.apl_base.specs.Array.{IsIndex}
use Rattle.apl_base.specs.Selection.{Position, whole, one, subscript_shape, subscript_index, at_shape, at_index}
use Rattle.array_desc.specs.Desc.{DescView, IsDesc, Selects}
use Rattle.apl_base.proofs.Sizes.{IsIndex-length}
use Rattle.beating.specs.declared.selections.Item.{Item}
use Rattle.beating.specs.declared.selections.Item.TheVariants as item
use Rattle.beating.specs.Passes.{end_of, OneLeft}
use Rattle.beating.proofs.SelectsLemmas.{selects_itself, selects_then, selects_same}

-- the first k axes whole, and the ends of the items of the others
abbrev pub onward : ℕ → List Item → List Position
onward k [] = []
onward zero (i ∷ items) = end_of i ∷ onward zero items
onward (suc k) (i ∷ items) = whole ∷ onward k items

-- all ends
onward-none : (items : List Item) → onward 0 items ≡ map end_of items
onward-none [] = refl
onward-none (i ∷ items) = ap (λ r. end_of i ∷ r) (onward-none items)

-- with no end, the lengths stay
onward-shape : (k : ℕ) (items : List Item) (ns : List ℕ) → length items ≡ k → length items ≡ length ns → subscript_shape (onward k items) ns ≡ ns
onward-shape k [] [] e h = refl
onward-shape (suc k) (i ∷ items) (n ∷ ns) e h = ap (λ r. n ∷ r) (onward-shape k items ns (omega (arith, e)) (omega (arith, h)))
onward-shape zero (i ∷ items) ns e h = absurd (omega (arith, e))
onward-shape k [] (n ∷ ns) e h = absurd (omega (arith, h))
onward-shape k (i ∷ items) [] e h = absurd (omega (arith, h))

-- and so does the index that is read
onward-index : (k : ℕ) (items : List Item) (is : List ℕ) → length items ≡ k → length items ≡ length is → subscript_index (onward k items) is ≡ is
onward-index k [] [] e h = refl
onward-index (suc k) (i ∷ items) (n ∷ ns) e h = ap (λ r. n ∷ r) (onward-index k items ns (omega (arith, e)) (omega (arith, h)))
onward-index zero (i ∷ items) ns e h = absurd (omega (arith, e))
onward-index k [] (n ∷ ns) e h = absurd (omega (arith, h))
onward-index k (i ∷ items) [] e h = absurd (omega (arith, h))

-- an axis that stays
onward-same : (k : ℕ) (items : List Item) → k < length items → end_of (get_or items k item.All) ≡ whole → onward (suc k) items ≡ onward k items
onward-same zero (i ∷ items) h e = ap (λ p. p ∷ onward zero items) (sym e)
onward-same (suc k) (i ∷ items) h e = ap (λ r. whole ∷ r) (onward-same k items (omega (arith, h)) e)
onward-same k [] h e = absurd (omega (arith, h))

-- an axis that goes away: the lengths, and the index that is read
onward-removed : (k : ℕ) (items : List Item) (ns : List ℕ) → k < length items → length items ≡ length ns → end_of (get_or items k item.All) ≡ one 0 → remove (subscript_shape (onward (suc k) items) ns) k ≡ subscript_shape (onward k items) ns
onward-removed zero (i ∷ items) (n ∷ ns) h g e = ap (λ p. subscript_shape (p ∷ onward zero items) (n ∷ ns)) (sym e)
onward-removed (suc k) (i ∷ items) (n ∷ ns) h g e = ap (λ r. n ∷ r) (onward-removed k items ns (omega (arith, h)) (omega (arith, g)) e)
onward-removed k [] ns h g e = absurd (omega (arith, h))
onward-removed k (i ∷ items) [] h g e = absurd (omega (arith, g))

-- the index that is read
onward-inserted : (k : ℕ) (items : List Item) (ns is : List ℕ) → k < length items → length items ≡ length ns → end_of (get_or items k item.All) ≡ one 0 → IsIndex (subscript_shape (onward k items) ns) is → subscript_index (onward (suc k) items) (insert is k 0) ≡ subscript_index (onward k items) is
onward-inserted zero (i ∷ items) (n ∷ ns) is h g e q = ap (λ p. subscript_index (p ∷ onward zero items) is) (sym e)
onward-inserted (suc k) (i ∷ items) (n ∷ ns) (j ∷ is) h g e q = ap (λ r. j ∷ r) (onward-inserted k items ns is (omega (arith, h)) (omega (arith, g)) e q.1)
onward-inserted (suc k) (i ∷ items) (n ∷ ns) [] h g e q = absurd q
onward-inserted k [] ns is h g e q = absurd (omega (arith, h))
onward-inserted k (i ∷ items) [] is h g e q = absurd (omega (arith, g))

-- there is such an axis, and it has a place
onward-length : (k : ℕ) (items : List Item) (ns : List ℕ) → k < length items → length items ≡ length ns → k < length (subscript_shape (onward (suc k) items) ns)
onward-length zero (i ∷ items) (n ∷ ns) h g = omega arith
onward-length (suc k) (i ∷ items) (n ∷ ns) h g = let e = onward-length k items ns (omega (arith, h)) (omega (arith, g)) in omega (arith, e)
onward-length k [] ns h g = absurd (omega (arith, h))
onward-length k (i ∷ items) [] h g = absurd (omega (arith, g))

-- it has the length that it had
onward-at : (k : ℕ) (items : List Item) (ns : List ℕ) → k < length items → length items ≡ length ns → get_or (subscript_shape (onward (suc k) items) ns) k 0 ≡ get_or ns k 0
onward-at zero (i ∷ items) (n ∷ ns) h g = refl
onward-at (suc k) (i ∷ items) (n ∷ ns) h g = onward-at k items ns (omega (arith, h)) (omega (arith, g))
onward-at k [] ns h g = absurd (omega (arith, h))
onward-at k (i ∷ items) [] h g = absurd (omega (arith, g))

-- where one place is kept, the length is 1
one_at_end : (i : Item) (n : ℕ) (items : List Item) (ns : List ℕ) → OneLeft (i ∷ items) (n ∷ ns) → end_of i ≡ one 0 → n ≡ 1
one_at_end item.All n items ns h e = absurd (cc)
one_at_end (item.Run from step count) n items ns h e = absurd (cc)
one_at_end (item.At i) n items ns h e = h.0

-- the same of the axes behind
pub one_left : (i : Item) (n : ℕ) (items : List Item) (ns : List ℕ) → OneLeft (i ∷ items) (n ∷ ns) → OneLeft items ns
one_left item.All n items ns h = h
one_left (item.Run from step count) n items ns h = h
one_left (item.At i) n items ns h = h.1

-- and of each axis
one_at : (k : ℕ) (items : List Item) (ns : List ℕ) → k < length items → OneLeft items ns → end_of (get_or items k item.All) ≡ one 0 → get_or ns k 0 ≡ 1
one_at zero (i ∷ items) (n ∷ ns) h o e = one_at_end i n items ns o e
one_at (suc k) (i ∷ items) (n ∷ ns) h o e = one_at k items ns (omega (arith, h)) (one_left i n items ns o) e
one_at k [] ns h o e = absurd (omega (arith, h))
one_at k (i ∷ items) [] h o e = absurd o

-- an item for each axis
pub length-one_left : (items : List Item) (ns : List ℕ) → OneLeft items ns → length items ≡ length ns
length-one_left [] [] o = refl
length-one_left (i ∷ items) (n ∷ ns) o = ap suc (length-one_left items ns (one_left i n items ns o))
length-one_left [] (n ∷ ns) o = absurd o
length-one_left (i ∷ items) [] o = absurd o

-- ---- what has been done when the axes from k on have their ends

pub record Ended (old now : DescView) (items : List Item) (k : ℕ) : Type 0 where
  pub selects : Selects old now (subscript_shape (onward k items) old.shape) (subscript_index (onward k items))

-- before the last axis
pub ended_none : (old : DescView) (items : List Item) (k : ℕ) → k ≡ length items → OneLeft items old.shape → Ended old old items k
ended_none old items k e o = record {
  selects =
      let many = length-one_left items old.shape o in
      let l = onward-shape k items old.shape (sym e) many in
      selects_same old old old.shape (subscript_shape (onward k items) old.shape) (λ i. i) (subscript_index (onward k items)) (selects_itself old) (sym l) (λ i q.
      let c = IsIndex-length (subscript_shape (onward k items) old.shape) i q in
      sym (onward-index k items i (sym e) (omega (arith, many, ap length l, c))));
}

-- after the first axis
pub ended_all : (old now : DescView) (items : List Item) → Ended old now items 0 → Selects old now (subscript_shape (map end_of items) old.shape) (subscript_index (map end_of items))
ended_all old now items h =
    subst (λ (ps : List Position). Selects old now (subscript_shape ps old.shape) (subscript_index ps)) (onward-none items) h.selects

-- an axis that stays
pub ended_same : (old now : DescView) (items : List Item) (k : ℕ) → k < length items → end_of (get_or items k item.All) ≡ whole → Ended old now items (suc k) → Ended old now items k
ended_same old now items k b e h = record {
  selects = subst (λ (ps : List Position). Selects old now (subscript_shape ps old.shape) (subscript_index ps)) (onward-same k items b e) h.selects;
}

-- an axis that goes away
pub ended_rank : (old now : DescView) (items : List Item) (k : ℕ) → k < length items → OneLeft items old.shape → Ended old now items (suc k) → k < length now.shape
ended_rank old now items k b o h =
    omega (arith, ap length h.selects.shape, onward-length k items old.shape b (length-one_left items old.shape o))

-- it has a place
pub ended_place : (old now : DescView) (items : List Item) (k : ℕ) → k < length items → OneLeft items old.shape → end_of (get_or items k item.All) ≡ one 0 → Ended old now items (suc k) → 0 < get_or now.shape k 0
ended_place old now items k b o e h =
    let l = ap (λ (ns : List ℕ). get_or ns k 0) h.selects.shape ∙ onward-at k items old.shape b (length-one_left items old.shape o) ∙ one_at k items old.shape b o e in
    omega (arith, l)

-- without it
pub ended_more : (old now new : DescView) (items : List Item) (k : ℕ) → k < length items → OneLeft items old.shape → end_of (get_or items k item.All) ≡ one 0 → Ended old now items (suc k) → Selects now new (at_shape k now.shape) (at_index k 0) → Ended old new items k
ended_more old now new items k b o e h s =
    let many = length-one_left items old.shape o in
    let here : List ℕ = subscript_shape (onward (suc k) items) old.shape in
    let full : List ℕ = subscript_shape (onward k items) old.shape in
    let both = selects_then old now new here (at_shape k now.shape) (subscript_index (onward (suc k) items)) (at_index k 0) h.selects s in
    let l : at_shape k now.shape ≡ full = ap (at_shape k) h.selects.shape ∙ onward-removed k items old.shape b many e in
    record {
      selects =
          selects_same old new (at_shape k now.shape) full (λ i. subscript_index (onward (suc k) items) (at_index k 0 i)) (subscript_index (onward k items)) both l
          (λ i q. onward-inserted k items old.shape i b many e q);
    }

-- ---- the loop over the axes, from the last one: m are left

pub record AtEnd (items : List Item) (old now : DescView) (m : ℕ) : Type 0 where
  pub done : Ended old now items m
  pub lawful : IsDesc now

-- at the last axis
pub end_begins : (items : List Item) (old : DescView) → OneLeft items old.shape → IsDesc old → AtEnd items old old (length items)
end_begins items old o d = record { done = ended_none old items (length items) refl o; lawful = d }

-- after the first axis
pub end_ends : (items : List Item) (old now : DescView) (m : ℕ) → m ≡ 0 → AtEnd items old now m → Selects old now (subscript_shape (map end_of items) old.shape) (subscript_index (map end_of items))
end_ends items old now m e h = ended_all old now items (subst (Ended old now items) e h.done)

-- the next axis is the last of those left
last_axis : (items : List Item) (old now : DescView) (m : ℕ) → 0 < m → AtEnd items old now m → Ended old now items (suc (m - 1))
last_axis items old now m b h = let e : m ≡ suc (m - 1) = omega arith in subst (Ended old now items) e h.done

-- it is there
pub last_rank : (items : List Item) (old now : DescView) (m : ℕ) → 0 < m → m ≤ length items → OneLeft items old.shape → AtEnd items old now m → m - 1 < length now.shape
last_rank items old now m b t o h = ended_rank old now items (m - 1) (omega arith) o (last_axis items old now m b h)

-- one place of it is kept
pub last_place : (items : List Item) (old now : DescView) (m i : ℕ) → 0 < m → m ≤ length items → OneLeft items old.shape → get_or items (m - 1) item.All ≡ item.At i → AtEnd items old now m → 0 < get_or now.shape (m - 1) 0
last_place items old now m i b t o e h = ended_place old now items (m - 1) (omega arith) o (ap end_of e) (last_axis items old now m b h)

-- it is removed
pub last_removed : (items : List Item) (old now new : DescView) (m i : ℕ) → 0 < m → m ≤ length items → OneLeft items old.shape → get_or items (m - 1) item.All ≡ item.At i → AtEnd items old now m → Selects now new (at_shape (m - 1) now.shape) (at_index (m - 1) 0) → IsDesc new → AtEnd items old new (m - 1)
last_removed items old now new m i b t o e h s d = record {
  done = ended_more old now new items (m - 1) (omega arith) o (ap end_of e) (last_axis items old now m b h) s;
  lawful = d;
}

-- more of it is kept
stays : (i : Item) → ((p : ℕ) → i ≡ item.At p → ⊥) → end_of i ≡ whole
stays item.All h = refl
stays (item.Run from step count) h = refl
stays (item.At p) h = absurd (h p refl)

-- and it stays
pub last_stays : (items : List Item) (old now : DescView) (m : ℕ) → 0 < m → m ≤ length items → ((p : ℕ) → get_or items (m - 1) item.All ≡ item.At p → ⊥) → AtEnd items old now m → AtEnd items old now (m - 1)
last_stays items old now m b t n h = record {
  done = ended_same old now items (m - 1) (omega arith) (stays (get_or items (m - 1) item.All) n) (last_axis items old now m b h);
  lawful = h.lawful;
}

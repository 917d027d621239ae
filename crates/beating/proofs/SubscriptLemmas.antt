-- The two passes and the end together are the subscript.
use Rattle.std.proofs.Common.{◌≡◌, ℕ, suc, ◌*◌, ◌^◌, ◌<◌, ◌≤◌, Bool, true, false, ℤ, pos, List, [], ◌∷◌, length, map, refl, sym, ap, ◌∙◌, subst, arith, le-ltb, lit≤}
use Rattle.std.specs.Prelude.{nat_lt}
use Rattle.std.specs.List.{AllByRecursion}
use Rattle.std.proofs.lemmas.Int.{ints}
use Rattle.apl_base.specs.Array.{IsShape, IsIndex, size_of}
use Rattle.apl_base.specs.Selection.{run_place, subscript_shape, subscript_index}
use Rattle.array_desc.specs.Desc.{DescView, Selects, RunFits}
use Rattle.array_desc.specs.Steps.{paired}
use Rattle.beating.specs.declared.selections.Item.{Item}
use Rattle.beating.specs.declared.selections.Item.TheVariants as item
use Rattle.beating.specs.Selecting.{position_of, ItemsFit}
use Rattle.beating.specs.Passes.{Passable, part_of, part_length, part_place, PartFits, parts_of, PartsFit, end_of, OneLeft}
use Rattle.beating.proofs.SelectsLemmas.{selects_then, selects_same}
use Rattle.beating.proofs.PassLemmas.{length-paired, length-parts, all_shorter}

-- the lengths after the first pass, and after the second
abbrev pub shortened : List Item → List ℕ → List ℕ
shortened items ns = paired part_length (parts_of false items ns) ns

abbrev pub lengthened : List Item → List ℕ → List ℕ
lengthened items ns = paired part_length (parts_of true items (shortened items ns)) (shortened items ns)

-- ---- one axis

-- the length that an axis has after one pass, and after both
abbrev after_one : Item → ℕ → ℕ
after_one i n = part_length (part_of false i n) n

abbrev after_both : Item → ℕ → ℕ
after_both i n = part_length (part_of true i (after_one i n)) (after_one i n)

abbrev read_both : Item → ℕ → ℕ → ℕ
read_both i n j = part_place (part_of false i n) (part_place (part_of true i (after_one i n)) j)

-- a run is applied in one of the passes, and the other leaves its axis whole
record Applied (from : ℕ) (step : ℤ) (count n : ℕ) : Type 0 where
  length : after_both (item.Run from step count) n ≡ count
  place : (j : ℕ) → read_both (item.Run from step count) n j ≡ run_place from step j
  first_fits : RunFits n from step count → PartFits (part_of false (item.Run from step count) n) n
  second_fits : RunFits n from step count → PartFits (part_of true (item.Run from step count) (after_one (item.Run from step count) n)) (after_one (item.Run from step count) n)

-- where it makes the axis longer
applied_longer : (from : ℕ) (step : ℤ) (count n : ℕ) → nat_lt n count ≡ true → Applied from step count n
applied_longer from step count n e = record {
  length = rw (e, e) refl;
  place = λ j. rw (e, e) refl;
  first_fits = λ h. rw e tt;
  second_fits = λ h. rw (e, e) h;
}

-- where it doesn't
applied_shorter : (from : ℕ) (step : ℤ) (count n : ℕ) → nat_lt n count ≡ false → nat_lt count count ≡ false → Applied from step count n
applied_shorter from step count n e g = record {
  length = rw (e, g) refl;
  place = λ j. rw (e, g) refl;
  first_fits = λ h. rw e h;
  second_fits = λ h. rw (e, g) tt;
}

-- in either case
applied : (from : ℕ) (step : ℤ) (count n : ℕ) → Applied from step count n
applied from step count n = by (nat_lt n count) refl
  where
    by : (b : Bool) → nat_lt n count ≡ b → Applied from step count n
    by true e = applied_longer from step count n e
    by false e = applied_shorter from step count n e (le-ltb count count (omega arith))

-- one place is a run of one
one_fits : (i n : ℕ) → i < n → RunFits n i (pos 0) 1
one_fits i n h = record {
  low = λ j b. omega (arith, ints);
  high = λ j b. omega (arith, ints);
}

-- whose place is the one
one_place : (i : ℕ) → run_place i (pos 0) 0 ≡ i
one_place i = omega (arith, ints)

-- ---- all axes

-- an item for each axis
pub length-items : (items : List Item) (ns : List ℕ) → ItemsFit items ns → length items ≡ length ns
length-items [] [] h = refl
length-items (item.All ∷ items) (n ∷ ns) h = ap suc (length-items items ns h)
length-items (item.At i ∷ items) (n ∷ ns) h = ap suc (length-items items ns h.1)
length-items (item.Run from step count ∷ items) (n ∷ ns) h = ap suc (length-items items ns h.1)
length-items [] (n ∷ ns) h = absurd h
length-items (item.All ∷ items) [] h = absurd h
length-items (item.At i ∷ items) [] h = absurd h
length-items (item.Run from step count ∷ items) [] h = absurd h

-- the parts of the first pass fit
first_pass : (items : List Item) (ns : List ℕ) → ItemsFit items ns → PartsFit (parts_of false items ns) ns
first_pass [] [] h = tt
first_pass (item.All ∷ items) (n ∷ ns) h = (tt, first_pass items ns h)
first_pass (item.At i ∷ items) (n ∷ ns) h = (one_fits i n h.0, first_pass items ns h.1)
first_pass (item.Run from step count ∷ items) (n ∷ ns) h = ((applied from step count n).first_fits h.0, first_pass items ns h.1)
first_pass [] (n ∷ ns) h = absurd h
first_pass (item.All ∷ items) [] h = absurd h
first_pass (item.At i ∷ items) [] h = absurd h
first_pass (item.Run from step count ∷ items) [] h = absurd h

-- and those of the second
second_pass : (items : List Item) (ns : List ℕ) → ItemsFit items ns → PartsFit (parts_of true items (shortened items ns)) (shortened items ns)
second_pass [] [] h = tt
second_pass (item.All ∷ items) (n ∷ ns) h = (tt, second_pass items ns h)
second_pass (item.At i ∷ items) (n ∷ ns) h = (tt, second_pass items ns h.1)
second_pass (item.Run from step count ∷ items) (n ∷ ns) h = ((applied from step count n).second_fits h.0, second_pass items ns h.1)
second_pass [] (n ∷ ns) h = absurd h
second_pass (item.All ∷ items) [] h = absurd h
second_pass (item.At i ∷ items) [] h = absurd h
second_pass (item.Run from step count ∷ items) [] h = absurd h

-- an axis of which one place is kept has length 1 then
one_left : (items : List Item) (ns : List ℕ) → ItemsFit items ns → OneLeft items (lengthened items ns)
one_left [] [] h = tt
one_left (item.All ∷ items) (n ∷ ns) h = one_left items ns h
one_left (item.At i ∷ items) (n ∷ ns) h = (refl, one_left items ns h.1)
one_left (item.Run from step count ∷ items) (n ∷ ns) h = one_left items ns h.1
one_left [] (n ∷ ns) h = absurd h
one_left (item.All ∷ items) [] h = absurd h
one_left (item.At i ∷ items) [] h = absurd h
one_left (item.Run from step count ∷ items) [] h = absurd h

-- the final lengths are those of the subscript
final_shape : (items : List Item) (ns : List ℕ) → ItemsFit items ns → subscript_shape (map end_of items) (lengthened items ns) ≡ subscript_shape (map position_of items) ns
final_shape [] [] h = refl
final_shape (item.All ∷ items) (n ∷ ns) h = ap (λ r. n ∷ r) (final_shape items ns h)
final_shape (item.At i ∷ items) (n ∷ ns) h = final_shape items ns h.1
final_shape (item.Run from step count ∷ items) (n ∷ ns) h =
    ap (λ m. m ∷ subscript_shape (map end_of items) (lengthened items ns)) (applied from step count n).length ∙ ap (λ r. count ∷ r) (final_shape items ns h.1)
final_shape [] (n ∷ ns) h = absurd h
final_shape (item.All ∷ items) [] h = absurd h
final_shape (item.At i ∷ items) [] h = absurd h
final_shape (item.Run from step count ∷ items) [] h = absurd h

-- and the index that is read is that of the subscript
final_index : (items : List Item) (ns is : List ℕ) → ItemsFit items ns → IsIndex (subscript_shape (map position_of items) ns) is → paired part_place (parts_of false items ns) (paired part_place (parts_of true items (shortened items ns)) (subscript_index (map end_of items) is)) ≡ subscript_index (map position_of items) is
final_index [] [] is h q = refl
final_index (item.All ∷ items) (n ∷ ns) (i ∷ is) h q = ap (λ r. i ∷ r) (final_index items ns is h q.1)
final_index (item.At p ∷ items) (n ∷ ns) is h q =
    ap (λ m. m ∷ paired part_place (parts_of false items ns) (paired part_place (parts_of true items (shortened items ns)) (subscript_index (map end_of items) is))) (one_place p)
    ∙ ap (λ r. p ∷ r) (final_index items ns is h.1 q)
final_index (item.Run from step count ∷ items) (n ∷ ns) (i ∷ is) h q =
    ap (λ m. m ∷ paired part_place (parts_of false items ns) (paired part_place (parts_of true items (shortened items ns)) (subscript_index (map end_of items) is))) ((applied from step count n).place i)
    ∙ ap (λ r. run_place from step i ∷ r) (final_index items ns is h.1 q.1)
final_index (item.All ∷ items) (n ∷ ns) [] h q = absurd q
final_index (item.Run from step count ∷ items) (n ∷ ns) [] h q = absurd q
final_index [] (n ∷ ns) is h q = absurd h
final_index (item.All ∷ items) [] is h q = absurd h
final_index (item.At i ∷ items) [] is h q = absurd h
final_index (item.Run from step count ∷ items) [] is h q = absurd h

-- ---- the lengths between

-- axes of length 1 may be put in
ends_size : (items : List Item) (ns : List ℕ) → OneLeft items ns → size_of (subscript_shape (map end_of items) ns) ≡ size_of ns
ends_size [] [] o = refl
ends_size (item.All ∷ items) (n ∷ ns) o = ap (λ m. n * m) (ends_size items ns o)
ends_size (item.Run from step count ∷ items) (n ∷ ns) o = ap (λ m. n * m) (ends_size items ns o)
ends_size (item.At i ∷ items) (n ∷ ns) o = rw o.0 (omega (arith, ends_size items ns o.1))
ends_size [] (n ∷ ns) o = absurd o
ends_size (item.All ∷ items) [] o = absurd o
ends_size (item.At i ∷ items) [] o = absurd o
ends_size (item.Run from step count ∷ items) [] o = absurd o

-- and so may be bounded
ends_each : (b : ℕ) (items : List Item) (ns : List ℕ) → 1 ≤ b → OneLeft items ns → AllByRecursion (λ n. n ≤ b) (subscript_shape (map end_of items) ns) → AllByRecursion (λ n. n ≤ b) ns
ends_each b [] [] p o h = tt
ends_each b (item.All ∷ items) (n ∷ ns) p o h = (h.0, ends_each b items ns p o h.1)
ends_each b (item.Run from step count ∷ items) (n ∷ ns) p o h = (h.0, ends_each b items ns p o h.1)
ends_each b (item.At i ∷ items) (n ∷ ns) p o h = (omega (arith, p, o.0), ends_each b items ns p o.1 h)
ends_each b [] (n ∷ ns) p o h = absurd o
ends_each b (item.All ∷ items) [] p o h = absurd o
ends_each b (item.At i ∷ items) [] p o h = absurd o
ends_each b (item.Run from step count ∷ items) [] p o h = absurd o

-- as many axes after the first pass
length-shortened : (items : List Item) (ns : List ℕ) → length items ≡ length ns → length (shortened items ns) ≡ length ns
length-shortened items ns e = length-paired part_length (parts_of false items ns) ns (length-parts false items ns e)

-- and after the second
length-lengthened : (items : List Item) (ns : List ℕ) → length items ≡ length ns → length (lengthened items ns) ≡ length ns
length-lengthened items ns e =
    let m = length-shortened items ns e in
    length-paired part_length (parts_of true items (shortened items ns)) (shortened items ns) (length-parts true items (shortened items ns) (omega (arith, e, m))) ∙ m

-- the lengths after the second pass make a shape
lengthened_is_shape : (items : List Item) (ns : List ℕ) → ItemsFit items ns → IsShape ns → IsShape (subscript_shape (map position_of items) ns) → IsShape (lengthened items ns)
lengthened_is_shape items ns h s t =
    let ends : IsShape (subscript_shape (map end_of items) (lengthened items ns)) = subst IsShape (sym (final_shape items ns h)) t in
    record {
      rank = omega (arith, length-lengthened items ns (length-items items ns h), s.rank);
      each = ends_each (2 ^ 40) items (lengthened items ns) (lit≤ tt) (one_left items ns h) ends.each;
      product = omega (arith, ends_size items (lengthened items ns) (one_left items ns h), ends.product);
    }

-- ---- what the calls ask for, and what they come to

-- the first pass may be made
pub first_passable : (items : List Item) (ns : List ℕ) → ItemsFit items ns → IsShape ns → Passable false items ns
first_passable items ns h s = record {
  count = length-items items ns h;
  fit = first_pass items ns h;
  before = s;
  after = all_shorter items ns (first_pass items ns h) s;
}

-- after the first pass
abbrev pub Shortened : List Item → DescView → DescView → Type 0
Shortened items a b = Selects a b (shortened items a.shape) (paired part_place (parts_of false items a.shape))

-- the second pass may be made
pub second_passable : (items : List Item) (a b : DescView) → ItemsFit items a.shape → IsShape a.shape → IsShape (subscript_shape (map position_of items) a.shape) → Shortened items a b → Passable true items b.shape
second_passable items a b h s t first =
    let ns : List ℕ = a.shape in
    let e = length-items items ns h in
    subst (Passable true items) (sym first.shape) (record {
      count = omega (arith, e, length-shortened items ns e);
      fit = second_pass items ns h;
      before = all_shorter items ns (first_pass items ns h) s;
      after = lengthened_is_shape items ns h s t;
    })

-- after the second
abbrev pub Lengthened : List Item → DescView → DescView → Type 0
Lengthened items b c = Selects b c (paired part_length (parts_of true items b.shape) b.shape) (paired part_place (parts_of true items b.shape))

-- the lengths after both
lengths_are : (items : List Item) (a b c : DescView) → Shortened items a b → Lengthened items b c → c.shape ≡ lengthened items a.shape
lengths_are items a b c first second = second.shape ∙ ap (λ (ns : List ℕ). paired part_length (parts_of true items ns) ns) first.shape

-- the axes that go away have length 1
pub ones_left : (items : List Item) (a b c : DescView) → ItemsFit items a.shape → Shortened items a b → Lengthened items b c → OneLeft items c.shape
ones_left items a b c h first second = subst (OneLeft items) (sym (lengths_are items a b c first second)) (one_left items a.shape h)

-- and after the end
pub subscripted : (items : List Item) (a b c d : DescView) → ItemsFit items a.shape → Shortened items a b → Lengthened items b c → Selects c d (subscript_shape (map end_of items) c.shape) (subscript_index (map end_of items)) → Selects a d (subscript_shape (map position_of items) a.shape) (subscript_index (map position_of items))
subscripted items a b c d h first second last =
    let f : List ℕ → List ℕ = paired part_place (parts_of false items a.shape) in
    let g : List ℕ → List ℕ = paired part_place (parts_of true items (shortened items a.shape)) in
    let t = subst (λ (ns : List ℕ). Selects b c (paired part_length (parts_of true items ns) ns) (paired part_place (parts_of true items ns))) first.shape second in
    let u = subst (λ (ns : List ℕ). Selects c d (subscript_shape (map end_of items) ns) (subscript_index (map end_of items))) (lengths_are items a b c first second) last in
    let two = selects_then a b c (shortened items a.shape) (lengthened items a.shape) f g first t in
    let ends : List ℕ = subscript_shape (map end_of items) (lengthened items a.shape) in
    let all = selects_then a c d (lengthened items a.shape) ends (λ i. f (g i)) (subscript_index (map end_of items)) two u in
    selects_same a d ends (subscript_shape (map position_of items) a.shape) (λ i. f (g (subscript_index (map end_of items) i))) (subscript_index (map position_of items)) all (final_shape items a.shape h) (λ i q. final_index items a.shape i h q)

use Rattle.std.proofs.Common.{◌≡◌, ◌∙◌, ◌+◌, ◌<◌, ◌≤◌, ℤ, Some, Option, length, ap, sym, subst, arith, rules, to_z-of_z, FitsSigned}
use Rattle.std.specs.Int.{w128}
use Rattle.apl_base.specs.Array.{size_of}
use Rattle.apl_base.specs.Number.{IsNumber}
use Rattle.apl_base.proofs.Elements.{tabulated-count}
use Rattle.array_desc.specs.Desc.{DescView}
use Rattle.array_store.proofs.CountingLemmas.{OnlyFetched-then}
use Rattle.drag_along.specs.Nodes.{leaf_shape}
use Rattle.drag_along.specs.Meaning.{leaf_cell}
use Rattle.apl_model.specs.Whole.{count}
use Rattle.apl_model.specs.Made.{matched}
use Rattle.leaf_names.specs.Variables.{array_of}
use Rattle.value_fns.proofs.Decoding.{places_of, places_single, places_other, left_length, right_length, matched_at, matched_number, decoded_step, decoded_stop, decoded_end, fetched_on, fetched_all}
use Rattle.value_fns.proofs.decodes.decode_leaves.Goals as goal
use Rattle.value_fns.proofs.decodes.decode_leaves.Goals.{then-bases-eq1, else-bases-eq1}

pub next_number-requires : goal.next_number-requires
next_number-requires c =
    let s = c.args.store.now in
    let a = array_of s c.args.a.now in
    let b = array_of s c.args.b.now in
    let bases : c.size-bases.result ≡ size_of (leaf_shape c.args.a.now) = c.size-bases.ensures.value ∙ ap (λ (d : DescView). size_of d.shape) c.desc.ensures in
    let places : c.if-bases-eq1.places ≡ places_of a b = elim c.if-bases-eq1.branch [
      | then-bases-eq1 w ↦ places_single a b c.size-bases.result w.size-places.result c.if-bases-eq1.places bases w.if-bases-eq1.true w.places-is (w.size-places.ensures.value ∙ ap (λ (d : DescView). size_of d.shape) w.desc-then-bases-eq1.ensures)
      | else-bases-eq1 w ↦ places_other a b c.size-bases.result c.if-bases-eq1.places bases w.if-bases-eq1.false w.places-is
    ] in
    let below : c.loop-place.place < places_of a b = omega (arith, places, c.loop-place-test.true) in
    let long_a : length a.cells ≡ count a = tabulated-count a.kind a.shape (leaf_cell s c.args.a.now) in
    let long_b : length b.cells ≡ count b = tabulated-count b.kind b.shape (leaf_cell s c.args.b.now) in
    let left : c.loop-place.place < length (matched a (places_of a b)) = omega (arith, below, left_length a b long_a) in
    let right : c.loop-place.place < length (matched b (places_of a b)) = omega (arith, below, right_length a b long_b c.requires.lengths) in
    let base = matched_at s c.loop-place.store c.args.a.now _ c.loop-place.place (places_of a b) c.matched_cell-base.result c.loop-place.invariant.counted c.matched_cell-base.ensures.cell below in
    let first = OnlyFetched-then s c.loop-place.store c.matched_cell-base.new.store _ _ c.loop-place.invariant.counted c.matched_cell-base.ensures.counted in
    let digit = matched_at s c.matched_cell-base.new.store c.args.b.now _ c.loop-place.place (places_of a b) c.matched_cell-digit.result first c.matched_cell-digit.ensures.cell below in
    let base_fits : FitsSigned w128 c.matched_cell-base.result = search rules in
    let digit_fits : FitsSigned w128 c.matched_cell-digit.result = search rules in
    let number : IsNumber c.matched_cell-digit.result = subst IsNumber (sym digit) (matched_number b (places_of a b) c.loop-place.place c.requires.digits) in
    subst IsNumber (sym (to_z-of_z {w = w128} {z = c.matched_cell-digit.result} digit_fits)) number

pub returns-in_err-number-clause-number : goal.returns-in_err-number-clause-number
returns-in_err-number-clause-number c =
    let s = c.args.store.now in
    let a = array_of s c.args.a.now in
    let b = array_of s c.args.b.now in
    let bases : c.size-bases.result ≡ size_of (leaf_shape c.args.a.now) = c.size-bases.ensures.value ∙ ap (λ (d : DescView). size_of d.shape) c.desc.ensures in
    let places : c.if-bases-eq1.places ≡ places_of a b = elim c.if-bases-eq1.branch [
      | then-bases-eq1 w ↦ places_single a b c.size-bases.result w.size-places.result c.if-bases-eq1.places bases w.if-bases-eq1.true w.places-is (w.size-places.ensures.value ∙ ap (λ (d : DescView). size_of d.shape) w.desc-then-bases-eq1.ensures)
      | else-bases-eq1 w ↦ places_other a b c.size-bases.result c.if-bases-eq1.places bases w.if-bases-eq1.false w.places-is
    ] in
    let below : c.loop-place.place < places_of a b = omega (arith, places, c.loop-place-test.true) in
    let long_a : length a.cells ≡ count a = tabulated-count a.kind a.shape (leaf_cell s c.args.a.now) in
    let long_b : length b.cells ≡ count b = tabulated-count b.kind b.shape (leaf_cell s c.args.b.now) in
    let left : c.loop-place.place < length (matched a (places_of a b)) = omega (arith, below, left_length a b long_a) in
    let right : c.loop-place.place < length (matched b (places_of a b)) = omega (arith, below, right_length a b long_b c.requires.lengths) in
    let base = matched_at s c.loop-place.store c.args.a.now _ c.loop-place.place (places_of a b) c.matched_cell-base.result c.loop-place.invariant.counted c.matched_cell-base.ensures.cell below in
    let first = OnlyFetched-then s c.loop-place.store c.matched_cell-base.new.store _ _ c.loop-place.invariant.counted c.matched_cell-base.ensures.counted in
    let digit = matched_at s c.matched_cell-base.new.store c.args.b.now _ c.loop-place.place (places_of a b) c.matched_cell-digit.result first c.matched_cell-digit.ensures.cell below in
    let base_fits : FitsSigned w128 c.matched_cell-base.result = search rules in
    let digit_fits : FitsSigned w128 c.matched_cell-digit.result = search rules in
    c.from_residual.ensures ∙ decoded_stop (matched a (places_of a b)) (matched b (places_of a b)) c.loop-place.place _ c.matched_cell-base.result c.matched_cell-digit.result left right c.loop-place.invariant.so_far base digit (simp to_z-of_z at c.in_err-number.ensures.value)

pub returns-in_err-number-clause-counted : goal.returns-in_err-number-clause-counted
returns-in_err-number-clause-counted c =
    let s = c.args.store.now in
    let a = array_of s c.args.a.now in
    let b = array_of s c.args.b.now in
    let bases : c.size-bases.result ≡ size_of (leaf_shape c.args.a.now) = c.size-bases.ensures.value ∙ ap (λ (d : DescView). size_of d.shape) c.desc.ensures in
    let places : c.if-bases-eq1.places ≡ places_of a b = elim c.if-bases-eq1.branch [
      | then-bases-eq1 w ↦ places_single a b c.size-bases.result w.size-places.result c.if-bases-eq1.places bases w.if-bases-eq1.true w.places-is (w.size-places.ensures.value ∙ ap (λ (d : DescView). size_of d.shape) w.desc-then-bases-eq1.ensures)
      | else-bases-eq1 w ↦ places_other a b c.size-bases.result c.if-bases-eq1.places bases w.if-bases-eq1.false w.places-is
    ] in
    let below : c.loop-place.place < places_of a b = omega (arith, places, c.loop-place-test.true) in
    let low : c.loop-place.place + 1 ≤ places_of a b = omega arith in
    fetched_all s c.matched_cell-digit.new.store a b (c.loop-place.place + 1) c.requires.lengths low
    (fetched_on s c.loop-place.store c.matched_cell-base.new.store c.matched_cell-digit.new.store a b c.loop-place.place c.loop-place.invariant.counted c.matched_cell-base.ensures.counted c.matched_cell-digit.ensures.counted)

pub loop-place-preserved : goal.loop-place-preserved
loop-place-preserved c =
    let s = c.args.store.now in
    let a = array_of s c.args.a.now in
    let b = array_of s c.args.b.now in
    let bases : c.size-bases.result ≡ size_of (leaf_shape c.args.a.now) = c.size-bases.ensures.value ∙ ap (λ (d : DescView). size_of d.shape) c.desc.ensures in
    let places : c.if-bases-eq1.places ≡ places_of a b = elim c.if-bases-eq1.branch [
      | then-bases-eq1 w ↦ places_single a b c.size-bases.result w.size-places.result c.if-bases-eq1.places bases w.if-bases-eq1.true w.places-is (w.size-places.ensures.value ∙ ap (λ (d : DescView). size_of d.shape) w.desc-then-bases-eq1.ensures)
      | else-bases-eq1 w ↦ places_other a b c.size-bases.result c.if-bases-eq1.places bases w.if-bases-eq1.false w.places-is
    ] in
    let below : c.loop-place.place < places_of a b = omega (arith, places, c.loop-place-test.true) in
    let long_a : length a.cells ≡ count a = tabulated-count a.kind a.shape (leaf_cell s c.args.a.now) in
    let long_b : length b.cells ≡ count b = tabulated-count b.kind b.shape (leaf_cell s c.args.b.now) in
    let left : c.loop-place.place < length (matched a (places_of a b)) = omega (arith, below, left_length a b long_a) in
    let right : c.loop-place.place < length (matched b (places_of a b)) = omega (arith, below, right_length a b long_b c.requires.lengths) in
    let base = matched_at s c.loop-place.store c.args.a.now _ c.loop-place.place (places_of a b) c.matched_cell-base.result c.loop-place.invariant.counted c.matched_cell-base.ensures.cell below in
    let first = OnlyFetched-then s c.loop-place.store c.matched_cell-base.new.store _ _ c.loop-place.invariant.counted c.matched_cell-base.ensures.counted in
    let digit = matched_at s c.matched_cell-base.new.store c.args.b.now _ c.loop-place.place (places_of a b) c.matched_cell-digit.result first c.matched_cell-digit.ensures.cell below in
    let base_fits : FitsSigned w128 c.matched_cell-base.result = search rules in
    let digit_fits : FitsSigned w128 c.matched_cell-digit.result = search rules in
    let fits : FitsSigned w128 c.in_ok-number.number = search rules in
    record {
      so_far = ap (λ (z : ℤ). let o : Option ℤ = Some z in o) (to_z-of_z {w = w128} {z = c.in_ok-number.number} fits) ∙ decoded_step (matched a (places_of a b)) (matched b (places_of a b)) c.loop-place.place _ c.matched_cell-base.result c.matched_cell-digit.result c.in_ok-number.number left right c.loop-place.invariant.so_far base digit (simp to_z-of_z at c.in_ok-number.ensures.value);
      number = subst IsNumber (sym (to_z-of_z {w = w128} {z = c.in_ok-number.number} fits)) c.in_ok-number.ensures.number;
      counted = fetched_on s c.loop-place.store c.matched_cell-base.new.store c.matched_cell-digit.new.store a b c.loop-place.place c.loop-place.invariant.counted c.matched_cell-base.ensures.counted c.matched_cell-digit.ensures.counted;
      store = c.matched_cell-digit.ensures.store;
    }

pub returns-clause-number : goal.returns-clause-number
returns-clause-number c =
    let s = c.args.store.now in
    let a = array_of s c.args.a.now in
    let b = array_of s c.args.b.now in
    let bases : c.size-bases.result ≡ size_of (leaf_shape c.args.a.now) = c.size-bases.ensures.value ∙ ap (λ (d : DescView). size_of d.shape) c.desc.ensures in
    let places : c.if-bases-eq1.places ≡ places_of a b = elim c.if-bases-eq1.branch [
      | then-bases-eq1 w ↦ places_single a b c.size-bases.result w.size-places.result c.if-bases-eq1.places bases w.if-bases-eq1.true w.places-is (w.size-places.ensures.value ∙ ap (λ (d : DescView). size_of d.shape) w.desc-then-bases-eq1.ensures)
      | else-bases-eq1 w ↦ places_other a b c.size-bases.result c.if-bases-eq1.places bases w.if-bases-eq1.false w.places-is
    ] in
    let long_a : length a.cells ≡ count a = tabulated-count a.kind a.shape (leaf_cell s c.args.a.now) in
    let long_b : length b.cells ≡ count b = tabulated-count b.kind b.shape (leaf_cell s c.args.b.now) in
    let end : c.loop-place.place ≡ places_of a b = omega (arith, places, c.loop-place-test.false, c.loop-place.auto.place-end) in
    decoded_end (matched a (places_of a b)) (matched b (places_of a b)) c.loop-place.place _ (left_length a b long_a ∙ sym end) (right_length a b long_b c.requires.lengths ∙ sym end) c.loop-place.invariant.so_far

use mir.Syntax.{w128}
use Rattle.std.proofs.Common.{◌≡◌, ◌∙◌, ◌<◌, ℕ, List, length, vec_len, sym, ap, subst, arith, rules, to_z-of_z, FitsSigned}
use Rattle.std.specs.Prelude.{unsigned_abs}
use Rattle.std.proofs.lemmas.List.{length-map}
use Rattle.apl_base.specs.Array.{size_of}
use Rattle.array_desc.specs.Desc.{DescView}
use Rattle.array_store.proofs.CountingLemmas.{OnlyFetched-then, OnlyFetched-more}
use Rattle.drag_along.specs.Nodes.{leaf_shape}
use Rattle.leaf_names.specs.Variables.{array_of}
use Rattle.apl_model.specs.Whole.{fill}
use Rattle.made_fns.specs.Answers.{elements_in}
use Rattle.made_fns.proofs.Lengths.{length-array_of}
use Rattle.made_picks.specs.Taken.{axes_to_take, taken_along}
use Rattle.made_picks.proofs.TakeLemmas.{axes_positive, taken_size, taken_cells, none_cells}
use Rattle.made_picks.proofs.takes.fill_taken.Goals as goal

pub returns-then-elements-eq0-clause-cells : goal.returns-then-elements-eq0-clause-cells
returns-then-elements-eq0-clause-cells c =
    let blank = to_z-of_z {w = w128} {z = c.blank_of-blank.result} (record { sfits = c.blank_of-blank.type_inv }) in
    let pushed = rw blank at c.push_blanks.ensures.cells in
    none_cells (array_of c.args.store.now c.args.a.now) (array_of c.args.store.now c.args.b.now) c.args.size c.blank_of-blank.result c.args.cells.now.items c.push_blanks.new.into.items c.requires.size (c.blank_of-blank.ensures ∙ ap fill c.kind.ensures) c.requires.empty pushed
    (sym c.elements.ensures.value ∙ c.if-elements-eq0.true) (sym c.requires.counts ∙ sym (length-array_of c.args.store.now c.args.a.now))

pub taken_desc-desc-requires : goal.taken_desc-desc-requires
taken_desc-desc-requires c =
    omega (arith, c.elements-2.ensures.value, c.requires.shape.rank, length-map (array_of c.args.store.now c.args.a.now).cells unsigned_abs, length-array_of c.args.store.now c.args.a.now)

pub pick-requires-clause-some : goal.pick-requires-clause-some
pick-requires-clause-some c =
    let some : 0 < size_of (leaf_shape c.args.b.now) = omega (arith, c.if-elements-eq0.false, c.elements.ensures.value) in
    subst (λ (ns : List ℕ). 0 < size_of ns) (sym c.taken_desc-desc.ensures.shape) (axes_positive c.elements-2.result (leaf_shape c.args.b.now) some)

pub pick-requires-clause-many : goal.pick-requires-clause-many
pick-requires-clause-many c =
    let long : length c.taken_desc-desc.result.shape ≡ elements_in c.args.a.now = ap length c.taken_desc-desc.ensures.shape ∙ ap (λ (n : ℕ). length (axes_to_take n (leaf_shape c.args.b.now))) c.elements-2.ensures.value ∙ sym c.requires.counts in
    let fit = ap (λ (d : DescView). length d.shape) c.desc.view_is ∙ long ∙ sym (length-array_of c.args.store.now c.args.a.now) in
    let size = taken_size _ (array_of c.args.store.now c.args.a.now).cells c.in_ok-tracks.tracks.items c.as_slice.result.now c.args.size c.as_slice.ensures.value c.in_ok-tracks.ensures.places fit c.requires.size in
    omega (arith, size, c.if-size-eq0.false)

pub pick-requires-clause-few : goal.pick-requires-clause-few
pick-requires-clause-few c =
    let long : length c.taken_desc-desc.result.shape ≡ elements_in c.args.a.now = ap length c.taken_desc-desc.ensures.shape ∙ ap (λ (n : ℕ). length (axes_to_take n (leaf_shape c.args.b.now))) c.elements-2.ensures.value ∙ sym c.requires.counts in
    let fit = ap (λ (d : DescView). length d.shape) c.desc.view_is ∙ long ∙ sym (length-array_of c.args.store.now c.args.a.now) in
    let size = taken_size _ (array_of c.args.store.now c.args.a.now).cells c.in_ok-tracks.tracks.items c.as_slice.result.now c.args.size c.as_slice.ensures.value c.in_ok-tracks.ensures.places fit c.requires.size in
    omega (arith, size, c.requires.size, c.requires.shape.product)

pub pick-requires-clause-room : goal.pick-requires-clause-room
pick-requires-clause-room c =
    let long : length c.taken_desc-desc.result.shape ≡ elements_in c.args.a.now = ap length c.taken_desc-desc.ensures.shape ∙ ap (λ (n : ℕ). length (axes_to_take n (leaf_shape c.args.b.now))) c.elements-2.ensures.value ∙ sym c.requires.counts in
    let fit = ap (λ (d : DescView). length d.shape) c.desc.view_is ∙ long ∙ sym (length-array_of c.args.store.now c.args.a.now) in
    let size = taken_size _ (array_of c.args.store.now c.args.a.now).cells c.in_ok-tracks.tracks.items c.as_slice.result.now c.args.size c.as_slice.ensures.value c.in_ok-tracks.ensures.places fit c.requires.size in
    let all : length c.args.cells.now.items ≡ vec_len c.args.cells.now = search rules in
    omega (arith, size, all, ap length c.requires.empty, c.requires.room)

pub returns-clause-cells : goal.returns-clause-cells
returns-clause-cells c =
    let s = c.args.store.now in
    let base_fits : FitsSigned w128 c.desc.inside.base = search rules in
    let base = to_z-of_z {w = w128} {z = c.desc.inside.base} base_fits in
    let blank = to_z-of_z {w = w128} {z = c.blank_of-blank.result} (record { sfits = c.blank_of-blank.type_inv }) in
    let cells = rw (base, blank) at c.pick.ensures.cells in
    let long : length c.taken_desc-desc.result.shape ≡ elements_in c.args.a.now = ap length c.taken_desc-desc.ensures.shape ∙ ap (λ (n : ℕ). length (axes_to_take n (leaf_shape c.args.b.now))) c.elements-2.ensures.value ∙ sym c.requires.counts in
    let placed = c.in_ok-tracks.ensures.places ∙ ap (λ (d : DescView). taken_along d.shape (array_of s c.args.a.now).cells) c.desc.view_is in
    taken_cells s c.windows_of.new.store c.args.a.now c.args.b.now c.taken_desc-desc.result c.desc.inside.base c.blank_of-blank.result c.in_ok-tracks.tracks.items c.as_slice.result.now c.args.cells.now.items c.pick.new.cells.items
    c.taken_desc-desc.ensures.lawful.strides (c.taken_desc-desc.ensures.shape ∙ ap (λ (n : ℕ). axes_to_take n (leaf_shape c.args.b.now)) c.elements-2.ensures.value) long
    (ap (λ (d : DescView). d.base) c.desc.view_is) (c.blank_of-blank.ensures ∙ ap fill c.kind.ensures) c.windows_of.ensures.counted.only c.as_slice.ensures.value placed (c.taken_desc-desc.ensures.cells s) c.requires.empty cells

pub returns-clause-counted : goal.returns-clause-counted
returns-clause-counted c =
    let long : length c.taken_desc-desc.result.shape ≡ elements_in c.args.a.now = ap length c.taken_desc-desc.ensures.shape ∙ ap (λ (n : ℕ). length (axes_to_take n (leaf_shape c.args.b.now))) c.elements-2.ensures.value ∙ sym c.requires.counts in
    let fit = ap (λ (d : DescView). length d.shape) c.desc.view_is ∙ long ∙ sym (length-array_of c.args.store.now c.args.a.now) in
    let size = taken_size _ (array_of c.args.store.now c.args.a.now).cells c.in_ok-tracks.tracks.items c.as_slice.result.now c.args.size c.as_slice.ensures.value c.in_ok-tracks.ensures.places fit c.requires.size in
    OnlyFetched-more c.args.store.now c.pick.new.store _ _ (omega (arith, size)) (OnlyFetched-then c.args.store.now c.windows_of.new.store c.pick.new.store _ _ c.windows_of.ensures.counted c.pick.ensures.counted)

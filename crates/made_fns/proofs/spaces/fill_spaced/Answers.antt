use mir.Syntax.{w128}
use Rattle.std.proofs.lemmas.Int.{to_z-of_z}
use Rattle.std.proofs.Common.{◌∙◌, ◌<◌, ℕ, List, length, ap, sym, subst, arith}
use Rattle.apl_base.specs.Array.{Array, size_of}
use Rattle.apl_model.specs.Made.{extended_to}
use Rattle.apl_model.specs.Whole.{fill}
use Rattle.leaf_names.specs.Variables.{array_of}
use Rattle.made_fns.proofs.Lengths.{array_of-counted, length-array_of}
use Rattle.made_fns.proofs.SpaceLemmas.{spaced_facts}
use Rattle.made_fns.proofs.spaces.fill_spaced.Goals as goal

pub len-requires : goal.len-requires
len-requires c =
    subst (λ (ns : List ℕ). c.args.along < length ns) (sym (c.extended_shape-whole.ensures.shape c.args.store.now)) c.requires.can.axis

pub spread-requires-clause-sources : goal.spread-requires-clause-sources
spread-requires-clause-sources c =
    let s = c.args.store.now in
    let sources = c.as_slice-2.ensures.value ∙ c.in_ok-sources.ensures in
    let items = c.as_slice-3.ensures.value ∙ c.in_ok-items.ensures.cells
    ∙ ap (λ (x : Array). (extended_to c.args.count x).cells) (array_of-counted s _ c.args.b.now c.in_ok-bits.ensures.counted.only) in
    let f = spaced_facts c.args.along (array_of s c.args.a.now) (array_of s c.args.b.now) c.args.count _ c.lengths.result.now _ c.as_slice.result.now _ _ _ c.requires.count c.requires.can (length-array_of s c.args.b.now) (c.extended_shape-whole.ensures.shape s) c.len.ensures.value (c.as_slice.ensures.value ∙ c.in_ok-bits.ensures.cells) sources items (c.lengths.ensures.value ∙ c.requires.shape) (c.blank_of.ensures ∙ ap fill c.kind.ensures) in
    f.long

pub spread-requires-clause-within : goal.spread-requires-clause-within
spread-requires-clause-within c =
    let s = c.args.store.now in
    let sources = c.as_slice-2.ensures.value ∙ c.in_ok-sources.ensures in
    let items = c.as_slice-3.ensures.value ∙ c.in_ok-items.ensures.cells
    ∙ ap (λ (x : Array). (extended_to c.args.count x).cells) (array_of-counted s _ c.args.b.now c.in_ok-bits.ensures.counted.only) in
    let f = spaced_facts c.args.along (array_of s c.args.a.now) (array_of s c.args.b.now) c.args.count _ c.lengths.result.now _ c.as_slice.result.now _ _ _ c.requires.count c.requires.can (length-array_of s c.args.b.now) (c.extended_shape-whole.ensures.shape s) c.len.ensures.value (c.as_slice.ensures.value ∙ c.in_ok-bits.ensures.cells) sources items (c.lengths.ensures.value ∙ c.requires.shape) (c.blank_of.ensures ∙ ap fill c.kind.ensures) in
    f.within

pub spread-requires-clause-items : goal.spread-requires-clause-items
spread-requires-clause-items c =
    let s = c.args.store.now in
    let sources = c.as_slice-2.ensures.value ∙ c.in_ok-sources.ensures in
    let items = c.as_slice-3.ensures.value ∙ c.in_ok-items.ensures.cells
    ∙ ap (λ (x : Array). (extended_to c.args.count x).cells) (array_of-counted s _ c.args.b.now c.in_ok-bits.ensures.counted.only) in
    let f = spaced_facts c.args.along (array_of s c.args.a.now) (array_of s c.args.b.now) c.args.count _ c.lengths.result.now _ c.as_slice.result.now _ _ _ c.requires.count c.requires.can (length-array_of s c.args.b.now) (c.extended_shape-whole.ensures.shape s) c.len.ensures.value (c.as_slice.ensures.value ∙ c.in_ok-bits.ensures.cells) sources items (c.lengths.ensures.value ∙ c.requires.shape) (c.blank_of.ensures ∙ ap fill c.kind.ensures) in
    f.many

pub spread-requires-clause-fewer : goal.spread-requires-clause-fewer
spread-requires-clause-fewer c =
    let s = c.args.store.now in
    let sources = c.as_slice-2.ensures.value ∙ c.in_ok-sources.ensures in
    let items = c.as_slice-3.ensures.value ∙ c.in_ok-items.ensures.cells
    ∙ ap (λ (x : Array). (extended_to c.args.count x).cells) (array_of-counted s _ c.args.b.now c.in_ok-bits.ensures.counted.only) in
    let f = spaced_facts c.args.along (array_of s c.args.a.now) (array_of s c.args.b.now) c.args.count _ c.lengths.result.now _ c.as_slice.result.now _ _ _ c.requires.count c.requires.can (length-array_of s c.args.b.now) (c.extended_shape-whole.ensures.shape s) c.len.ensures.value (c.as_slice.ensures.value ∙ c.in_ok-bits.ensures.cells) sources items (c.lengths.ensures.value ∙ c.requires.shape) (c.blank_of.ensures ∙ ap fill c.kind.ensures) in
    omega (arith, ap size_of f.back, ap size_of (c.extended_shape-whole.ensures.shape s ∙ ap (λ (n : ℕ). (extended_to n (array_of s c.args.b.now)).shape) c.requires.count), c.extended_shape-whole.ensures.lawful.product)

pub returns-clause-cells : goal.returns-clause-cells
returns-clause-cells c =
    let s = c.args.store.now in
    let sources = c.as_slice-2.ensures.value ∙ c.in_ok-sources.ensures in
    let items = c.as_slice-3.ensures.value ∙ c.in_ok-items.ensures.cells
    ∙ ap (λ (x : Array). (extended_to c.args.count x).cells) (array_of-counted s _ c.args.b.now c.in_ok-bits.ensures.counted.only) in
    let f = spaced_facts c.args.along (array_of s c.args.a.now) (array_of s c.args.b.now) c.args.count _ c.lengths.result.now _ c.as_slice.result.now _ _ _ c.requires.count c.requires.can (length-array_of s c.args.b.now) (c.extended_shape-whole.ensures.shape s) c.len.ensures.value (c.as_slice.ensures.value ∙ c.in_ok-bits.ensures.cells) sources items (c.lengths.ensures.value ∙ c.requires.shape) (c.blank_of.ensures ∙ ap fill c.kind.ensures) in
    let blank = to_z-of_z w128 c.blank_of.result (record { sfits = c.blank_of.type_inv }) in
    let cells = rw blank at c.spread.ensures in
    cells ∙ f.are

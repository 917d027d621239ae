use Rattle.std.proofs.Common.{◌∙◌, ◌<◌, ℕ, ℤ, List, Some, map, length, refl, ap, sym, subst, arith}
use Rattle.apl_base.specs.Array.{Array, size_of}
use Rattle.apl_model.specs.Made.{extended_to, ones_from}
use Rattle.leaf_names.specs.Variables.{array_of}
use Rattle.made_fns.specs.Answers.{elements_in}
use Rattle.made_fns.proofs.Lengths.{array_of-counted, length-array_of}
use Rattle.made_fns.proofs.KeepLemmas.{kept_facts}
use Rattle.made_fns.proofs.MarkLemmas.{kept_vector}
use Rattle.made_fns.proofs.keeps.fill_kept.Goals as goal

pub returns-then-are_beside-clause-cells : goal.returns-then-are_beside-clause-cells
returns-then-are_beside-clause-cells c =
    let s = c.args.store.now in
    c.keep_marked.ensures.cells ∙ sym (kept_vector c.args.along (array_of s c.args.a.now) (array_of s c.args.b.now) c.requires.can (c.if-are_beside.ensures refl).0 (c.if-are_beside.ensures refl).1 (c.if-are_beside.ensures refl).2)

pub len-axis-requires : goal.len-axis-requires
len-axis-requires c =
    let s = c.args.store.now in
    let whole = c.extended_shape-whole.ensures.shape s ∙ ap (λ (n : ℕ). (extended_to n (array_of s c.args.b.now)).shape) c.elements.ensures.value in
    subst (λ (ns : List ℕ). c.args.along < length ns) (sym whole) c.requires.can.axis

pub spread-requires-clause-sources : goal.spread-requires-clause-sources
spread-requires-clause-sources c =
    let s = c.args.store.now in
    let whole = c.extended_shape-whole.ensures.shape s ∙ ap (λ (n : ℕ). (extended_to n (array_of s c.args.b.now)).shape) c.elements.ensures.value in
    let sources = c.as_slice-2.ensures.value ∙ c.in_ok-sources.ensures ∙ ap (λ (zs : List ℤ). map Some (ones_from 0 zs)) c.as_slice.ensures.value in
    let items = c.as_slice-3.ensures.value ∙ c.in_ok-items.ensures.cells ∙ ap (λ (n : ℕ). (extended_to n (array_of c.bits_along.new.store c.args.b.now)).cells) c.elements-2.ensures.value
    ∙ ap (λ (x : Array). (extended_to (elements_in c.args.a.now) x).cells) (array_of-counted s _ c.args.b.now c.in_ok-bits.ensures.counted.only) in
    let f = kept_facts c.args.along (array_of s c.args.a.now) (array_of s c.args.b.now) _ c.lengths.result.now _ _ _ _ c.requires.can (length-array_of s c.args.b.now) whole c.len-axis.ensures.value c.in_ok-bits.ensures.cells sources items (c.lengths.ensures.value ∙ c.requires.shape) in
    f.long

pub spread-requires-clause-within : goal.spread-requires-clause-within
spread-requires-clause-within c =
    let s = c.args.store.now in
    let whole = c.extended_shape-whole.ensures.shape s ∙ ap (λ (n : ℕ). (extended_to n (array_of s c.args.b.now)).shape) c.elements.ensures.value in
    let sources = c.as_slice-2.ensures.value ∙ c.in_ok-sources.ensures ∙ ap (λ (zs : List ℤ). map Some (ones_from 0 zs)) c.as_slice.ensures.value in
    let items = c.as_slice-3.ensures.value ∙ c.in_ok-items.ensures.cells ∙ ap (λ (n : ℕ). (extended_to n (array_of c.bits_along.new.store c.args.b.now)).cells) c.elements-2.ensures.value
    ∙ ap (λ (x : Array). (extended_to (elements_in c.args.a.now) x).cells) (array_of-counted s _ c.args.b.now c.in_ok-bits.ensures.counted.only) in
    let f = kept_facts c.args.along (array_of s c.args.a.now) (array_of s c.args.b.now) _ c.lengths.result.now _ _ _ _ c.requires.can (length-array_of s c.args.b.now) whole c.len-axis.ensures.value c.in_ok-bits.ensures.cells sources items (c.lengths.ensures.value ∙ c.requires.shape) in
    f.within

pub spread-requires-clause-items : goal.spread-requires-clause-items
spread-requires-clause-items c =
    let s = c.args.store.now in
    let whole = c.extended_shape-whole.ensures.shape s ∙ ap (λ (n : ℕ). (extended_to n (array_of s c.args.b.now)).shape) c.elements.ensures.value in
    let sources = c.as_slice-2.ensures.value ∙ c.in_ok-sources.ensures ∙ ap (λ (zs : List ℤ). map Some (ones_from 0 zs)) c.as_slice.ensures.value in
    let items = c.as_slice-3.ensures.value ∙ c.in_ok-items.ensures.cells ∙ ap (λ (n : ℕ). (extended_to n (array_of c.bits_along.new.store c.args.b.now)).cells) c.elements-2.ensures.value
    ∙ ap (λ (x : Array). (extended_to (elements_in c.args.a.now) x).cells) (array_of-counted s _ c.args.b.now c.in_ok-bits.ensures.counted.only) in
    let f = kept_facts c.args.along (array_of s c.args.a.now) (array_of s c.args.b.now) _ c.lengths.result.now _ _ _ _ c.requires.can (length-array_of s c.args.b.now) whole c.len-axis.ensures.value c.in_ok-bits.ensures.cells sources items (c.lengths.ensures.value ∙ c.requires.shape) in
    f.many

pub spread-requires-clause-fewer : goal.spread-requires-clause-fewer
spread-requires-clause-fewer c =
    let s = c.args.store.now in
    let whole = c.extended_shape-whole.ensures.shape s ∙ ap (λ (n : ℕ). (extended_to n (array_of s c.args.b.now)).shape) c.elements.ensures.value in
    let sources = c.as_slice-2.ensures.value ∙ c.in_ok-sources.ensures ∙ ap (λ (zs : List ℤ). map Some (ones_from 0 zs)) c.as_slice.ensures.value in
    let items = c.as_slice-3.ensures.value ∙ c.in_ok-items.ensures.cells ∙ ap (λ (n : ℕ). (extended_to n (array_of c.bits_along.new.store c.args.b.now)).cells) c.elements-2.ensures.value
    ∙ ap (λ (x : Array). (extended_to (elements_in c.args.a.now) x).cells) (array_of-counted s _ c.args.b.now c.in_ok-bits.ensures.counted.only) in
    let f = kept_facts c.args.along (array_of s c.args.a.now) (array_of s c.args.b.now) _ c.lengths.result.now _ _ _ _ c.requires.can (length-array_of s c.args.b.now) whole c.len-axis.ensures.value c.in_ok-bits.ensures.cells sources items (c.lengths.ensures.value ∙ c.requires.shape) in
    omega (arith, ap size_of f.back, ap size_of whole, c.extended_shape-whole.ensures.lawful.product)

pub returns-clause-cells : goal.returns-clause-cells
returns-clause-cells c =
    let s = c.args.store.now in
    let whole = c.extended_shape-whole.ensures.shape s ∙ ap (λ (n : ℕ). (extended_to n (array_of s c.args.b.now)).shape) c.elements.ensures.value in
    let sources = c.as_slice-2.ensures.value ∙ c.in_ok-sources.ensures ∙ ap (λ (zs : List ℤ). map Some (ones_from 0 zs)) c.as_slice.ensures.value in
    let items = c.as_slice-3.ensures.value ∙ c.in_ok-items.ensures.cells ∙ ap (λ (n : ℕ). (extended_to n (array_of c.bits_along.new.store c.args.b.now)).cells) c.elements-2.ensures.value
    ∙ ap (λ (x : Array). (extended_to (elements_in c.args.a.now) x).cells) (array_of-counted s _ c.args.b.now c.in_ok-bits.ensures.counted.only) in
    let f = kept_facts c.args.along (array_of s c.args.a.now) (array_of s c.args.b.now) _ c.lengths.result.now _ _ _ _ c.requires.can (length-array_of s c.args.b.now) whole c.len-axis.ensures.value c.in_ok-bits.ensures.cells sources items (c.lengths.ensures.value ∙ c.requires.shape) in
    c.spread.ensures ∙ f.are

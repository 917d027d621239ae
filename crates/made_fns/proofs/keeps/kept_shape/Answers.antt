use Rattle.std.proofs.Common.{◌∙◌, ◌<◌, ℕ, List, length, sym, ap, subst}
use Rattle.apl_base.specs.Array.{IsShape}
use Rattle.apl_model.specs.Made.{extended_to}
use Rattle.leaf_names.specs.Variables.{array_of}
use Rattle.made_fns.proofs.KeepLemmas.{kept_shape_is}
use Rattle.made_fns.proofs.keeps.kept_shape.Goals as goal

pub len-requires : goal.len-requires
len-requires c =
    let whole = c.extended_shape-whole.ensures.shape c.args.store.now ∙ ap (λ (n : ℕ). (extended_to n (array_of c.args.store.now c.args.b.now)).shape) c.elements.ensures.value in
    subst (λ (ns : List ℕ). c.args.along < length ns) (sym whole) c.requires.can.axis

pub with_length-requires : goal.with_length-requires
with_length-requires c =
    let whole = c.extended_shape-whole.ensures.shape c.args.store.now ∙ ap (λ (n : ℕ). (extended_to n (array_of c.args.store.now c.args.b.now)).shape) c.elements.ensures.value in
    subst (λ (ns : List ℕ). c.args.along < length ns) (sym whole) c.requires.can.axis

pub unreachable-requires : goal.unreachable-requires
unreachable-requires c =
    let whole = c.extended_shape-whole.ensures.shape c.args.store.now ∙ ap (λ (n : ℕ). (extended_to n (array_of c.args.store.now c.args.b.now)).shape) c.elements.ensures.value in
    c.in-Err.ensures.refused.1 (subst IsShape (sym (kept_shape_is c.args.along (array_of c.args.store.now c.args.a.now) (array_of c.args.store.now c.args.b.now) _ _ _ whole c.len.ensures.value c.ones_along-count.ensures.value)) c.requires.lawful)

pub returns-clause-shape : goal.returns-clause-shape
returns-clause-shape c =
    let whole = c.extended_shape-whole.ensures.shape c.args.store.now ∙ ap (λ (n : ℕ). (extended_to n (array_of c.args.store.now c.args.b.now)).shape) c.elements.ensures.value in
    c.in-Ok.ensures.shape.0 ∙ kept_shape_is c.args.along (array_of c.args.store.now c.args.a.now) (array_of c.args.store.now c.args.b.now) _ _ _ whole c.len.ensures.value c.ones_along-count.ensures.value

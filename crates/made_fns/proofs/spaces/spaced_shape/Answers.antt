use Rattle.std.proofs.Common.{◌∙◌, ℕ, List, Err, set, sym, ap, subst}
use Rattle.apl_base.specs.declared.faults.ErrorKind.{ErrorKind}
use Rattle.apl_base.specs.Array.{IsShape}
use Rattle.array_store.specs.Stores.{StoreView}
use Rattle.apl_model.specs.Made.{extended_to}
use Rattle.leaf_names.specs.Variables.{array_of}
use Rattle.made_fns.proofs.Lengths.{length-array_of}
use Rattle.made_fns.proofs.SpaceLemmas.{ok_then, on_ok, err_then, can_space, spaced_length, spaced_limit, spaced_is}
use Rattle.made_fns.proofs.spaces.spaced_shape.Goals as goal

pub with_length-requires : goal.with_length-requires
with_length-requires c = c.extended_shape-whole.ensures.axis c.args.along c.requires.within

pub returns-clause-shape : goal.returns-clause-shape
returns-clause-shape c =
    ok_then _ _ c.with_length.result (λ shape h. λ (s : StoreView). h.0 ∙ ap (λ (ns : List ℕ). set ns c.args.along c.elements.result) (c.extended_shape-whole.ensures.shape s) ∙ ap (set (extended_to c.args.count (array_of s c.args.b.now)).shape c.args.along) c.elements.ensures.value) c.with_length.ensures.shape

pub returns-clause-can : goal.returns-clause-can
returns-clause-can c =
    on_ok _ _ c.with_length.result (λ shape h. λ (s : StoreView). can_space c.args.along c.args.count (array_of s c.args.b.now) _ c.requires.within c.meets.ensures c.if-not-meets.false) c.with_length.ensures.shape

pub returns-clause-array : goal.returns-clause-array
returns-clause-array c =
    on_ok _ _ c.with_length.result (λ shape h. λ (s : StoreView) e.
    spaced_is c.args.along c.args.count c.elements.result (array_of s c.args.a.now) (array_of s c.args.b.now) _ c.meets.ensures c.if-not-meets.false e (c.elements.ensures.value ∙ sym (length-array_of s c.args.a.now))
    (subst (λ (ns : List ℕ). IsShape (set ns c.args.along c.elements.result)) (c.extended_shape-whole.ensures.shape s) (subst IsShape h.0 h.1))) c.with_length.ensures.shape

pub returns-clause-refused : goal.returns-clause-refused
returns-clause-refused c =
    err_then _ _ c.with_length.result (λ kind h. λ (s : StoreView) e.
    spaced_limit c.args.along c.args.count c.elements.result (array_of s c.args.a.now) (array_of s c.args.b.now) _ c.meets.ensures c.if-not-meets.false e (c.elements.ensures.value ∙ sym (length-array_of s c.args.a.now))
    (λ lawful. h.1 (subst (λ (ns : List ℕ). IsShape (set ns c.args.along c.elements.result)) (sym (c.extended_shape-whole.ensures.shape s)) lawful))
    ∙ ap (λ (k : ErrorKind). Err k) (sym h.0)) c.with_length.ensures.refused

pub returns-then-not-meets-clause-refused : goal.returns-then-not-meets-clause-refused
returns-then-not-meets-clause-refused c = λ s e.
    spaced_length c.args.along c.args.count (array_of s c.args.a.now) (array_of s c.args.b.now) _ c.meets.ensures c.if-not-meets.true e

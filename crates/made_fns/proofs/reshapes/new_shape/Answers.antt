use Rattle.std.proofs.Common.{◌≡◌, ◌∙◌, ◌<◌, ℕ, List, Err, sym, ap, subst, arith}
use Rattle.apl_base.specs.declared.faults.ErrorKind.{ErrorKind}
use Rattle.apl_base.specs.Array.{Array, IsShape, size_of}
use Rattle.array_store.proofs.CountingLemmas.{OnlyFetched-then}
use Rattle.apl_model.specs.Made.{reshape as reshaped}
use Rattle.leaf_names.specs.Variables.{array_of}
use Rattle.made_leaf.proofs.MadeLemmas.{leaf_is_array}
use Rattle.made_fns.specs.Answers.{lengths_named}
use Rattle.made_fns.proofs.Finish.{by_error}
use Rattle.made_fns.proofs.Lengths.{array_of-counted}
use Rattle.made_fns.proofs.ReshapeLemmas.{reshape_text, reshape_length, reshape_limit, reshape_is, both_hold, shape_can, shape_domain, some_elements}
use Rattle.made_fns.proofs.reshapes.new_shape.Goals as goal

pub returns-then-is_text-clause-refused : goal.returns-then-is_text-clause-refused
returns-then-is_text-clause-refused c =
    reshape_text (array_of c.args.store.now c.args.a.now) (array_of c.args.store.now c.args.b.now) (omega (arith, c.rank.ensures.value, c.if-rank-gt1.false)) (sym (c.is_text.ensures c.args.store.now) ∙ c.if-is_text.true)

pub returns-then-lacks_elements-clause-refused : goal.returns-then-lacks_elements-clause-refused
returns-then-lacks_elements-clause-refused c =
    let both = both_hold _ _ (sym c.lacks_elements.ensures.value ∙ c.if-lacks_elements.true) in
    reshape_length (array_of c.args.store.now c.args.a.now) (array_of c.args.store.now c.args.b.now) (leaf_is_array c.args.store.now c.args.a.now c.counts-counts.ensures.store c.rank.ensures.lawful c.requires.a) (omega (arith, c.rank.ensures.value, c.if-rank-gt1.false)) (sym (c.is_text.ensures c.args.store.now) ∙ c.if-is_text.false) both.0 both.1

pub returns-then-not-all_between-clause-refused : goal.returns-then-not-all_between-clause-refused
returns-then-not-all_between-clause-refused c =
    shape_domain c.args.store.now _ c.args.a.now c.args.b.now (leaf_is_array c.args.store.now c.args.a.now c.counts-counts.ensures.store c.rank.ensures.lawful c.requires.a) (omega (arith, c.rank.ensures.value, c.if-rank-gt1.false)) (sym (c.is_text.ensures c.args.store.now) ∙ c.if-is_text.false)
    (sym c.lacks_elements.ensures.value ∙ c.if-lacks_elements.false) c.lacks_elements.ensures.counted.only (sym c.all_between.ensures.value ∙ c.if-not-all_between.true)

pub returns-in_err-named_shape-clause-refused : goal.returns-in_err-named_shape-clause-refused
returns-in_err-named_shape-clause-refused c =
    let can = shape_can c.args.store.now _ c.args.a.now c.args.b.now (leaf_is_array c.args.store.now c.args.a.now c.counts-counts.ensures.store c.rank.ensures.lawful c.requires.a) (omega (arith, c.rank.ensures.value, c.if-rank-gt1.false)) (sym (c.is_text.ensures c.args.store.now) ∙ c.if-is_text.false)
    (sym c.lacks_elements.ensures.value ∙ c.if-lacks_elements.false) c.lacks_elements.ensures.counted.only (sym c.all_between.ensures.value ∙ c.if-not-all_between.false) in
    let only = (OnlyFetched-then _ _ _ _ _ c.lacks_elements.ensures.counted c.all_between.ensures.counted).only in
    let same = array_of-counted c.args.store.now _ c.args.a.now only in
    by_error (λ (kind : ErrorKind). reshaped (array_of c.args.store.now c.args.a.now) (array_of c.args.store.now c.args.b.now) ≡ Err kind) c.from_residual.result _ c.from_residual.ensures.1
    (reshape_limit (array_of c.args.store.now c.args.a.now) (array_of c.args.store.now c.args.b.now) can (λ lawful. c.in_err-named_shape.ensures.refused.1 (subst (λ (x : Array). IsShape (lengths_named x)) (sym same) lawful))
    ∙ ap (λ (k : ErrorKind). Err k) (sym c.in_err-named_shape.ensures.refused.0))

pub returns-clause-shape : goal.returns-clause-shape
returns-clause-shape c =
    let only = (OnlyFetched-then _ _ _ _ _ c.lacks_elements.ensures.counted c.all_between.ensures.counted).only in
    (c.in_ok-named_shape.ensures.shape.0 ∙ ap lengths_named (array_of-counted c.args.store.now _ c.args.a.now only), c.lacks_elements.ensures.lawful)

pub returns-clause-some : goal.returns-clause-some
returns-clause-some c =
    let can = shape_can c.args.store.now _ c.args.a.now c.args.b.now (leaf_is_array c.args.store.now c.args.a.now c.counts-counts.ensures.store c.rank.ensures.lawful c.requires.a) (omega (arith, c.rank.ensures.value, c.if-rank-gt1.false)) (sym (c.is_text.ensures c.args.store.now) ∙ c.if-is_text.false)
    (sym c.lacks_elements.ensures.value ∙ c.if-lacks_elements.false) c.lacks_elements.ensures.counted.only (sym c.all_between.ensures.value ∙ c.if-not-all_between.false) in
    λ some. some_elements (array_of c.args.store.now c.args.a.now) (array_of c.args.store.now c.args.b.now) can (subst (λ (ns : List ℕ). 0 < size_of ns) (returns-clause-shape c).0 some)

pub returns-clause-array : goal.returns-clause-array
returns-clause-array c =
    let can = shape_can c.args.store.now _ c.args.a.now c.args.b.now (leaf_is_array c.args.store.now c.args.a.now c.counts-counts.ensures.store c.rank.ensures.lawful c.requires.a) (omega (arith, c.rank.ensures.value, c.if-rank-gt1.false)) (sym (c.is_text.ensures c.args.store.now) ∙ c.if-is_text.false)
    (sym c.lacks_elements.ensures.value ∙ c.if-lacks_elements.false) c.lacks_elements.ensures.counted.only (sym c.all_between.ensures.value ∙ c.if-not-all_between.false) in
    reshape_is (array_of c.args.store.now c.args.a.now) (array_of c.args.store.now c.args.b.now) can (subst IsShape (returns-clause-shape c).0 c.in_ok-named_shape.ensures.shape.1)

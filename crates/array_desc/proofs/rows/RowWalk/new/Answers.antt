use Rattle.std.proofs.Common.{◌≡◌, ◌<◌, ◌+ℤ◌, length, take, min, ap, sym, ◌∙◌, arith, rules, length-take}
use Rattle.std.specs.Int.{int_wrap}
use Rattle.std.proofs.lemmas.Int.{to_z-of_z}
use mir.Val.{SFits}
use mir.Syntax.{w128}
use Rattle.apl_base.specs.Array.{size_of, index_at}
use Rattle.apl_base.proofs.Sizes.{IsIndex-index_at}
use Rattle.array_desc.specs.Desc.{DescView, dot}
use Rattle.array_desc.proofs.Walks.{cell_is}
use Rattle.apl_base.proofs.Sizes.{IsIndex-length}
use Rattle.array_desc.proofs.RowLemmas.{walk_begins, run_has_some}
use Rattle.array_desc.proofs.rows.RowWalk.new.Goals as goal
use Rattle.array_desc.proofs.rows.RowWalk.new.Goals.{After-as_slice-2, After-dot_from-start}

strides_are : (c : After-as_slice-2) → c.as_slice.result.now ≡ c.args.desc.now.strides
strides_are c = c.as_slice.ensures ∙ ap (λ (d : DescView). d.strides) c.desc.view_is

index_is : (c : After-as_slice-2) → c.as_slice-2.result.now ≡ take c.last_run-run.result.outer (index_at c.args.desc.now.shape c.args.first)
index_is c =
    c.as_slice-2.ensures ∙ c.outer_index-index.ensures
    ∙ ap (λ (d : DescView). take c.last_run-run.result.outer (index_at d.shape c.args.first)) c.desc.view_is

below : (c : After-as_slice-2) → c.args.first < size_of c.args.desc.now.shape
below c = omega (arith, c.if-first-size.false, c.size.ensures.value)

pub dot_from-start-requires : goal.dot_from-start-requires
dot_from-start-requires c =
    let b = (goal.at.dot_from-start-requires c).After-as_slice-2 in
    let d = c.args.desc.now in
    let k = c.last_run-run.result.outer in
    let l = IsIndex-length d.shape (index_at d.shape c.args.first) (IsIndex-index_at d.shape c.args.first (below b)) in
    ap (λ v. length (take k v)) (strides_are b) ∙ length-take k d.strides
    ∙ ap (min k) (c.size.ensures.lawful.strides ∙ sym l) ∙ sym (length-take k (index_at d.shape c.args.first)) ∙ ap length (sym (index_is b))

pub nonzero_rem-result : goal.nonzero_rem-result
nonzero_rem-result c =
    let b = (goal.at.nonzero_rem-result c).After-as_slice-2 in
    run_has_some c.args.desc.now _ _ _ c.last_run-run.ensures c.args.first (below b)

pub invariant_of-result-2 : goal.invariant_of-result-2
invariant_of-result-2 c =
    let b = (goal.at.invariant_of-result-2 c).After-as_slice-2 in
    let d = c.args.desc.now in
    let k = c.last_run-run.result.outer in
    let s : SFits w128 c.desc.inside.base = search rules in
    let base = to_z-of_z w128 c.desc.inside.base s ∙ ap (λ (v : DescView). v.base) c.desc.view_is in
    let index = sym c.as_slice-2.ensures in
    let z = cell_is _ _ c.dot_from-start.type_inv (c.dot_from-start.ensures
    ∙ ap (λ z. int_wrap w128 (z +ℤ dot (take k c.as_slice.result.now) c.as_slice-2.result.now)) base
    ∙ ap (λ v. int_wrap w128 (d.base +ℤ dot (take k v) c.as_slice-2.result.now)) (strides_are b)
    ∙ ap (λ v. int_wrap w128 (d.base +ℤ dot (take k d.strides) v)) c.as_slice-2.ensures) in
    (c.size.ensures.lawful, λ p. walk_begins d k _ _ _ c.args.first _ c.size.ensures.lawful c.last_run-run.ensures p (index ∙ index_is b) z)

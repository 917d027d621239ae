use Rattle.std.proofs.Common.{map, ◌∙◌, ap, subst, rules}
use Rattle.std.specs.Int.{int_wrap}
use Rattle.std.proofs.lemmas.Int.{to_z-of_z}
use mir.Val.{SFits}
use mir.Syntax.{w128}
use Rattle.apl_base.specs.Selection.{least, lengths_at, upward}
use Rattle.array_desc.specs.Desc.{DescView, IsDesc}
use Rattle.array_desc.specs.Steps.{stride_at}
use Rattle.array_desc.proofs.Transposition.{transpose-made, few_result_axes}
use Rattle.apl_base.proofs.Transposes.{transposed_shape}
use Rattle.array_desc.proofs.Sums.{meets-makes}
use Rattle.array_desc.proofs.desc.Desc.transposed.Goals as goal

pub rank_of-rank-requires : goal.rank_of-rank-requires
rank_of-rank-requires c =
    let P : DescView → Type 0 = IsDesc in
    let d = subst P c.self.view_is c.self.invariant.0 in
    few_result_axes c.args.axes.now c.args.self.now.shape c.requires.axes c.requires.count d.shape

pub returns : goal.returns
returns c =
    let old = c.args.self.now in
    let P : DescView → Type 0 = IsDesc in
    let d = subst P c.self.view_is c.self.invariant.0 in
    let b = c.self.inside.base in
    let s : SFits w128 b = search rules in
    let base_is = to_z-of_z w128 b s ∙ ap (λ (v : DescView). v.base) c.self.view_is in
    let strides_are = ap (λ (v : DescView). v.strides) c.self.view_is in
    let shape_is = ap (λ (v : DescView). v.shape) c.self.view_is in
    let axes = c.args.axes.now in
    let ss = c.diagonal_strides.ensures
    ∙ ap (λ v. map (λ r. int_wrap w128 (stride_at r axes v)) (upward 0 c.rank_of-rank.result)) (c.as_slice.ensures ∙ strides_are)
    ∙ ap (λ k. map (λ r. int_wrap w128 (stride_at r axes old.strides)) (upward 0 k)) c.rank_of-rank.ensures.value in
    let ns = c.diagonal_lengths.ensures
    ∙ ap (λ v. map (λ r. least (lengths_at r axes v)) (upward 0 c.rank_of-rank.result)) (c.lengths.ensures.value ∙ shape_is)
    ∙ ap (λ k. map (λ r. least (lengths_at r axes old.shape)) (upward 0 k)) c.rank_of-rank.ensures.value in
    meets-makes _ _ _ old _ _ d (transposed_shape axes old.shape c.requires.axes c.requires.count d.shape) ns
    (transpose-made old axes _ _ _ d c.requires.count c.requires.axes base_is ss ns)

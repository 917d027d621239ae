use Rattle.std.proofs.Common.{pos, ◌++◌, ◌∙◌, ap, subst, rules}
use Rattle.std.specs.Prelude.{replicate}
use Rattle.std.proofs.lemmas.Int.{to_z-of_z}
use mir.Val.{SFits}
use mir.Syntax.{w128}
use Rattle.array_desc.specs.Desc.{DescView, IsDesc}
use Rattle.array_desc.proofs.Maps.{left-made}
use Rattle.array_desc.proofs.Sums.{meets-makes}
use Rattle.array_desc.proofs.desc.Desc.before_axes.Goals as goal

pub returns : goal.returns
returns c =
    let old = c.args.self.now in
    let P : DescView → Type 0 = IsDesc in
    let d = subst P c.self.view_is c.self.invariant.0 in
    let b = c.self.inside.base in
    let s : SFits w128 b = search rules in
    let base_is = to_z-of_z w128 b s ∙ ap (λ (v : DescView). v.base) c.self.view_is in
    let strides_are = ap (λ (v : DescView). v.strides) c.self.view_is in
    let shape_is = ap (λ (v : DescView). v.shape) c.self.view_is in
    let right = c.args.right.now in
    let still = c.as_slice-2.ensures ∙ c.resting-still.ensures ∙ ap (λ n. replicate n (pos 0)) c.rank.ensures.value in
    let own = c.as_slice.ensures ∙ strides_are in
    let ss = c.joined.ensures ∙ ap (λ v. v ++ c.as_slice-2.result.now) own ∙ ap (λ v. old.strides ++ v) still in
    let ns = c.joined-2.ensures ∙ ap (λ v. v ++ c.lengths-2.result.now) (c.lengths.ensures.value ∙ shape_is) ∙ ap (λ v. old.shape ++ v) c.lengths-2.ensures.value in
    meets-makes _ _ _ old _ _ d c.requires ns (left-made old right _ _ _ d base_is ss ns)

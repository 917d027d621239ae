use Rattle.std.proofs.Common.{pos, length, ◌++◌, ◌∙◌, ap, subst, rules}
use Rattle.std.specs.Prelude.{replicate}
use Rattle.std.proofs.lemmas.Int.{to_z-of_z}
use mir.Val.{SFits}
use mir.Syntax.{w128}
use Rattle.array_desc.specs.Desc.{DescView, IsDesc}
use Rattle.array_desc.proofs.Maps.{right-made}
use Rattle.array_desc.proofs.Sums.{meets-makes}
use Rattle.array_desc.proofs.desc.Desc.after_axes.Goals as goal

pub returns : goal.returns
returns c =
    let old = c.args.self.now in
    let P : DescView → Type 0 = IsDesc in
    let d = subst P c.self.view_is c.self.invariant.0 in
    let b = c.self.inside.base in
    let s : SFits w128 b = search rules in
    let base_is = to_z-of_z w128 b s ∙ ap (λ (v : DescView). v.base) c.self.view_is in
    let strides_are = ap (λ (v : DescView). v.strides) c.self.view_is in
    let shape_is = ap (λ (v : DescView). v.shape) c.self.view_is in
    let left = c.args.left.now in
    let still = c.as_slice.ensures ∙ c.resting-still.ensures ∙ ap (λ n. replicate n (pos 0)) c.rank.ensures.value in
    let own = c.as_slice-2.ensures ∙ strides_are in
    let ss = c.joined.ensures ∙ ap (λ v. v ++ c.as_slice-2.result.now) still ∙ ap (λ v. replicate (length left) (pos 0) ++ v) own in
    let ns = c.joined-2.ensures ∙ ap (λ v. v ++ c.lengths-2.result.now) c.lengths.ensures.value ∙ ap (λ v. left ++ v) (c.lengths-2.ensures.value ∙ shape_is) in
    meets-makes _ _ _ old _ _ d c.requires ns (right-made old left _ _ _ d base_is ss ns)

use Rattle.std.proofs.Common.{pos, ◌∙◌, ap, subst, rules}
use Rattle.std.specs.Prelude.{replicate}
use Rattle.std.proofs.lemmas.Int.{to_z-of_z}
use mir.Val.{SFits}
use mir.Syntax.{w128}
use Rattle.array_desc.specs.Desc.{DescView, IsDesc}
use Rattle.array_desc.proofs.Maps.{extend-made}
use Rattle.array_desc.proofs.Sums.{meets-makes}
use Rattle.array_desc.proofs.desc.Desc.everywhere.Goals as goal

pub returns : goal.returns
returns c =
    let old = c.args.self.now in
    let P : DescView → Type 0 = IsDesc in
    let d = subst P c.self.view_is c.self.invariant.0 in
    let b = c.self.inside.base in
    let s : SFits w128 b = search rules in
    let base_is = to_z-of_z w128 b s ∙ ap (λ (v : DescView). v.base) c.self.view_is in
    let strides_are = ap (λ (v : DescView). v.strides) c.self.view_is in
    let shape_is = ap (λ (v : DescView). v.shape) c.self.view_is in
    let l = c.held_inline.ensures.items ∙ c.lengths.ensures.value in
    let r = c.resting.ensures ∙ ap (λ n. replicate n (pos 0)) c.rank.ensures.value in
    meets-makes _ _ _ old _ _ d c.lengths.ensures.lawful l (extend-made old c.args.to.now _ _ _ d c.requires base_is r l)

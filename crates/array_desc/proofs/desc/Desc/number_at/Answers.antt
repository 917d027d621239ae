use Rattle.std.proofs.Common.{length, sym, subst, ◌∙◌, ap, ◌+ℤ◌, rules}
use Rattle.std.specs.Int.{int_wrap}
use Rattle.std.proofs.lemmas.Int.{to_z-of_z}
use mir.Val.{SFits}
use mir.Syntax.{w128}
use Rattle.apl_base.specs.Number.{IsNumber}
use Rattle.array_desc.specs.Desc.{DescView, IsDesc, dot, number}
use Rattle.apl_base.proofs.Sizes.{IsIndex-length}
use Rattle.array_desc.proofs.Sums.{number_fits}
use Rattle.array_desc.proofs.Walks.{cell_is}
use Rattle.array_desc.proofs.desc.Desc.number_at.Goals as goal

pub dot_from-requires : goal.dot_from-requires
dot_from-requires c =
    let l = IsIndex-length c.args.self.now.shape c.args.index.now c.requires in
    let v = ap (λ (d : DescView). length d.shape) c.self.view_is in
    ap length c.as_slice.ensures ∙ c.self.invariant.0.strides ∙ v ∙ sym l

pub returns-clause-lawful : goal.returns-clause-lawful
returns-clause-lawful c = let P : DescView → Type 0 = IsDesc in subst P c.self.view_is c.self.invariant.0

pub returns-clause-value : goal.returns-clause-value
returns-clause-value c =
    let i = c.args.index.now in
    let b = c.self.inside.base in
    let s : SFits w128 b = search rules in
    cell_is _ _ c.dot_from.type_inv
    (c.dot_from.ensures
    ∙ ap (λ x. int_wrap w128 (x +ℤ dot c.as_slice.result.now i)) (to_z-of_z w128 b s)
    ∙ ap (λ x. int_wrap w128 (b +ℤ dot x i)) c.as_slice.ensures
    ∙ ap (λ (d : DescView). int_wrap w128 (number d i)) c.self.view_is
    ∙ number_fits (number c.args.self.now i) ((returns-clause-lawful c).numbers i c.requires))

pub returns-clause-range : goal.returns-clause-range
returns-clause-range c =
    subst IsNumber (sym (returns-clause-value c)) ((returns-clause-lawful c).numbers c.args.index.now c.requires)

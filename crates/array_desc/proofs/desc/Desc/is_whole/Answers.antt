use Rattle.std.proofs.Common.{◌≡◌, pos, ap, sym, ◌∙◌, eq-eqb, arith, rules}
use Rattle.std.proofs.lemmas.Int.{to_z-of_z}
use mir.Val.{SFits, to_z, of_z}
use mir.Syntax.{w128}
use Rattle.array_desc.specs.Desc.{DescView}
use Rattle.array_desc.specs.Steps.{whole_strides}
use Rattle.array_desc.proofs.Wholes.{whole_base, whole_has, is_whole_by, empty_is_whole, is_zero_by}
use Rattle.array_desc.proofs.desc.Desc.is_whole.Goals as goal

pub returns-then-size-eq0-clause-whole : goal.returns-then-size-eq0-clause-whole
returns-then-size-eq0-clause-whole c =
    (λ _. empty_is_whole c.args.self.now c.size.ensures.lawful (omega arith), λ _. eq-eqb _ _ c.if-size-eq0.true)

pub returns-then-self-eq0-clause-whole : goal.returns-then-self-eq0-clause-whole
returns-then-self-eq0-clause-whole c =
    let d = c.args.self.now in
    let b = c.self.inside.base in
    let s : SFits w128 b = search rules in
    let base : d.base ≡ pos 0 =
    sym (ap (λ (v : DescView). v.base) c.self.view_is) ∙ sym (to_z-of_z w128 b s) ∙ ap (to_z w128) c.if-self-eq0.true in
    let strides = c.as_slice.ensures ∙ ap (λ (v : DescView). v.strides) c.self.view_is in
    let shape = c.lengths.ensures.value ∙ ap (λ (v : DescView). v.shape) c.self.view_is in (
      λ t. is_whole_by d c.size.ensures.lawful base (sym strides ∙ c.are_whole_strides.ensures.0 t ∙ ap whole_strides shape),
      λ w. c.are_whole_strides.ensures.1 (strides ∙ whole_has d (omega arith) w ∙ ap whole_strides (sym shape)),
    )

pub returns-else-self-eq0-clause-whole : goal.returns-else-self-eq0-clause-whole
returns-else-self-eq0-clause-whole c =
    let is = ap (λ (v : DescView). v.base) c.self.view_is in (
      λ t. absurd (c.if-self-eq0.false (is_zero_by _ t)),
      λ w. absurd (c.if-self-eq0.false (ap (of_z w128) (is ∙ whole_base c.args.self.now (omega arith) w))),
    )

use Rattle.std.proofs.Common.{ℤ, to_z, of_z, rules, sym, subst}
use Rattle.std.proofs.lemmas.Int.{to_z-of_z}
use mir.Val.{SFits}
use mir.Syntax.{w128}
use Rattle.product_tests.specs.Lines.{FirstOf}
use Rattle.product_tests.proofs.LineLemmas.{first_number, one_of_kind}
use Rattle.product_tests.proofs.lines.scalar.Goals as goal

pub one-requires : goal.one-requires
one-requires c =
    let fits : SFits w128 c.first_of.result = search rules in
    let is : FirstOf c.args.kind (to_z w128 (of_z w128 c.first_of.result)) = subst (FirstOf c.args.kind) (sym (to_z-of_z w128 c.first_of.result fits)) c.first_of.ensures in
    first_number c.args.kind (to_z w128 (of_z w128 c.first_of.result)) is

pub returns : goal.returns
returns c =
    let fits : SFits w128 c.first_of.result = search rules in
    let first : ℤ = to_z w128 (of_z w128 c.first_of.result) in
    let is : FirstOf c.args.kind first = subst (FirstOf c.args.kind) (sym (to_z-of_z w128 c.first_of.result fits)) c.first_of.ensures in
    λ store. one_of_kind c.one.result c.args.kind first is c.one.ensures.shape c.one.ensures.number

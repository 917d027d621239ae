use Rattle.std.proofs.Common.{ℤ, to_z, of_z, rules, sym, subst, arith}
use Rattle.std.proofs.lemmas.Int.{to_z-of_z}
use mir.Val.{SFits}
use mir.Syntax.{w128}
use Rattle.product_tests.specs.Lines.{FirstOf}
use Rattle.product_tests.proofs.LineLemmas.{small_numbers, line_of_kind, selected_of_kind}
use Rattle.product_tests.proofs.lines.alike.Goals as goal

pub line-desc-requires-clause-numbers : goal.line-desc-requires-clause-numbers
line-desc-requires-clause-numbers c =
    let fits : SFits w128 c.first_of.result = search rules in
    let first : ℤ = to_z w128 (of_z w128 c.first_of.result) in
    let is : FirstOf c.args.kind first = subst (FirstOf c.args.kind) (sym (to_z-of_z w128 c.first_of.result fits)) c.first_of.ensures in
    λ j below. small_numbers c.args.kind first is j (omega (arith, below, c.requires))

pub returns : goal.returns
returns c =
    let fits : SFits w128 c.first_of.result = search rules in
    let first : ℤ = to_z w128 (of_z w128 c.first_of.result) in
    let is : FirstOf c.args.kind first = subst (FirstOf c.args.kind) (sym (to_z-of_z w128 c.first_of.result fits)) c.first_of.ensures in
    λ store.
    selected_of_kind c.outer_right.new.self c.outer_left.new.self c.args.kind _ _ c.outer_left.ensures.selects
    (selected_of_kind c.line-desc.result c.outer_right.new.self c.args.kind _ _ c.outer_right.ensures.selects
    (line_of_kind c.line-desc.result c.args.n c.args.kind first is c.requires c.line-desc.ensures.shape c.line-desc.ensures.numbers))

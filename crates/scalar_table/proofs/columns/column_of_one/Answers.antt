use Rattle.std.proofs.Common.{get_or, pos, rules}
use Rattle.std.proofs.lemmas.Int.{to_z-of_z}
use mir.Val.{SFits}
use mir.Syntax.{w128}
use Rattle.scalar_table.proofs.Filling.{turn_one, filled_numbers}
use Rattle.scalar_table.proofs.columns.column_of_one.Goals as goal

pub loop-k-preserved : goal.loop-k-preserved
loop-k-preserved g c =
    let read : SFits w128 (get_or c.loop-k.column c.loop-k.k (pos 0)) = search rules in
    let fits : SFits w128 c.in-Some.value.cell = search rules in
    turn_one _ c.args.kind c.args.column.now c.loop-k.column c.loop-k.k _ _ c.value_of.result c.in-Some.value _ c.loop-k.invariant c.loop-k-test.true
    (to_z-of_z w128 _ read) (c.requires.arguments _) c.value_of.ensures.exact c.in-Some.is c.value_of.ensures.lawful (to_z-of_z w128 _ fits)

pub returns-clause-numbers : goal.returns-clause-numbers
returns-clause-numbers g c = λ _. filled_numbers _ _ _ _ c.loop-k.invariant c.loop-k-test.false

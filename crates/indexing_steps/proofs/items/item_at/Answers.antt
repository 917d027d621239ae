use Rattle.std.proofs.Common.{ℤ, subst}
use mir.Syntax.{w128}
use Rattle.std.proofs.lemmas.Int.{to_z-of_z}
use Rattle.beating.specs.Positions.{LeavesAxis}
use Rattle.leaf_names.specs.Variables.{array_of}
use Rattle.indexing_steps.proofs.ItemLemmas.{off_axis}
use Rattle.indexing_steps.proofs.items.item_at.Goals as goal

pub returns-in-Err-clause-refused : goal.returns-in-Err-clause-refused
returns-in-Err-clause-refused c =
    let r = c.in-Err.ensures.refused in
    let p = c.in-Some-progression_of.progression in
    let leaves : LeavesAxis c.args.origin c.args.length p.run = subst (λ (o : ℤ). LeavesAxis o c.args.length p.run) (to_z-of_z w128 c.args.origin c.ranges.origin) r.1 in
    (r.0, rw c.in-Some.is (off_axis c.args.origin c.args.length (array_of c.args.store.now c.in-Some.leaf) p.run p.is_scalar c.in-Some-progression_of.ensures.progression leaves))

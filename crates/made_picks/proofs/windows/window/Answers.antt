use mir.Syntax.{w128}
use Rattle.std.proofs.lemmas.Int.{to_z-of_z}
use Rattle.made_picks.proofs.TakenLemmas.{window_back, window_front}
use Rattle.made_picks.proofs.windows.window.Goals as goal

pub returns-then-count-lt0-clause-places : goal.returns-then-count-lt0-clause-places
returns-then-count-lt0-clause-places c =
    let same = to_z-of_z w128 c.args.count c.ranges.count in
    let from = to_z-of_z w128 c.from.result (record { sfits = c.from.type_inv }) in
    let asked = rw same at c.unsigned_abs-asked.ensures.value in
    let low = rw same at c.if-count-lt0.true in
    rw from (window_back c.args.n c.args.count c.from.result _ _ asked c.min-kept.ensures c.from.ensures low)

pub returns-else-count-lt0-clause-places : goal.returns-else-count-lt0-clause-places
returns-else-count-lt0-clause-places c =
    let same = to_z-of_z w128 c.args.count c.ranges.count in
    let asked = rw same at c.unsigned_abs-asked.ensures.value in
    let low = rw same at c.if-count-lt0.false in
    window_front c.args.n c.args.count _ _ asked c.min-kept.ensures low

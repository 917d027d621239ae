use Rattle.std.proofs.Common.{◌∙◌}
use Rattle.apl_run.specs.Traces.{line_of_global}
use Rattle.apl_run.proofs.EndingLemmas.{lines-as, lines-front}
use Rattle.apl_run.proofs.descriptions.write_globals.Goals as goal

pub returns-in-Err-clause-err : goal.returns-in-Err-clause-err
returns-in-Err-clause-err g c =
    lines-as (line_of_global c.args.names.now.globals) _ _ _ _ (c.as_slice-name-items.ensures.value ∙ c.in-Ok.ensures)
    (lines-front (line_of_global c.args.names.now.globals) _ _ _ _ _ _ c.loop-name-test.true c.name-item.is c.loop-name.invariant.0 c.in-Err.ensures.err)

use Rattle.std.proofs.Common.{refl}
use Rattle.apl_run.specs.Answers.{asks_trace, options_in}
use Rattle.apl_run.proofs.WordLemmas.{as_traced, fresh-new, words-none, words-ran, words-refused, words-wanting}
use Rattle.apl_run.proofs.words.run_words.Goals as goal

pub returns-in-Ok-clause-runs : goal.returns-in-Ok-clause-runs
returns-in-Ok-clause-runs g c =
    let m = c.new-machine.ensures in (
      c.new-machine.result,
      words-ran _ _ _ _ _ c.in-Ok.options c.in-Ok.ensures.exact (fresh-new c.new-machine.result m.rest m.store m.names m.begun m.costs m.origin) m.turns m.traced c.run_options-status.ensures.runs,
    )

pub returns-in-Err-Refused-clause-runs : goal.returns-in-Err-Refused-clause-runs
returns-in-Err-Refused-clause-runs g c =
    let m = c.new.ensures in (
      c.new.result,
      words-refused _ _ _ (fresh-new c.new.result m.rest m.store m.names m.begun m.costs m.origin) (words-none _ _ c.in-Err-Refused.field-0-is c.in-Err-Refused.ensures.exact) m.traced,
    )

pub returns-in-Err-NoMemory-clause-runs : goal.returns-in-Err-NoMemory-clause-runs
returns-in-Err-NoMemory-clause-runs g c =
    let m = c.new-in-Err-NoMemory.ensures in (
      as_traced c.new-in-Err-NoMemory.result (asks_trace (options_in c.args.words.now)),
      words-wanting _ _ _ _ c.new-in-Err-NoMemory.result _ _ (fresh-new c.new-in-Err-NoMemory.result m.rest m.store m.names m.begun m.costs m.origin) _ refl,
    )

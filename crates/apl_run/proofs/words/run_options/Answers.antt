use Rattle.std.proofs.Common.{ap, Err}
use Rattle.apl_run.proofs.WordLemmas.{bytes-as, long-left, options-failed, options-long, options-ran, options-wanting}
use Rattle.apl_run.proofs.words.run_options.Goals as goal

pub returns-in-Ok-clause-runs : goal.returns-in-Ok-clause-runs
returns-in-Ok-clause-runs g c = options-ran _ _ _ _ _ c.in-Ok.bytes.items c.in-Ok.ensures.ok (bytes-as _ _ _ _ _ c.as_slice.ensures.value c.run_bytes.ensures)

pub returns-in-Err-TooLong-clause-runs : goal.returns-in-Err-TooLong-clause-runs
returns-in-Err-TooLong-clause-runs g c = options-long _ _ _ _ _ (c.in-Err-TooLong.ensures.too_long (ap Err c.in-Err-TooLong.field-0-is)) (c.refuse_long.ensures _ _ _ c.requires)

pub returns-in-Err-TooLong-clause-left : goal.returns-in-Err-TooLong-clause-left
returns-in-Err-TooLong-clause-left g c = λ read. long-left _ _ _ (c.in-Err-TooLong.ensures.too_long (ap Err c.in-Err-TooLong.field-0-is))

pub returns-in-Err-Failed-clause-runs : goal.returns-in-Err-Failed-clause-runs
returns-in-Err-Failed-clause-runs g c = options-failed _ _ _ c.requires

pub returns-in-Err-NoMemory-clause-runs : goal.returns-in-Err-NoMemory-clause-runs
returns-in-Err-NoMemory-clause-runs g c = options-wanting _ _ _ c.requires

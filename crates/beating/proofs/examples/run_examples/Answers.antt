use Rattle.beating.proofs.ProgressionLemmas.{rising_run, falling_run, run_of_one, run_of_none, broken_run, no_step}
use Rattle.beating.proofs.examples.run_examples.Goals as goal

pub returns : goal.returns
returns c = record {
  rising = rising_run;
  falling = falling_run;
  one = run_of_one;
  empty = run_of_none;
  broken = broken_run;
  no_step = no_step;
}

use Rattle.std.proofs.Common.{ℤ, refl, ap}
use Rattle.std.proofs.lemmas.Int.{to_z-of_z}
use mir.Syntax.{w128}
use mir.Val.{of_z, to_z}
use Rattle.leaf_names.specs.Variables.{variables_of}
use Rattle.machine_state.specs.declared.machines.Machine.{Machine}
use Rattle.apl_run.proofs.WordLemmas.{end-lasts, origin-fits, top-bytes, top-costs, top-first, top-prefix, top-status, top-trace, top-variables}
use Rattle.apl_run.proofs.run.aplm.Goals as goal

pub returns-clause-status : goal.returns-clause-status
returns-clause-status g c = top-status _ _ _ _ _ c.run_words-status.ensures.runs.1

pub returns-clause-bytes : goal.returns-clause-bytes
returns-clause-bytes g c = top-bytes _ _ _ _ _ c.run_words-status.ensures.runs.1

pub returns-clause-variables : goal.returns-clause-variables
returns-clause-variables g c =
    let m : Machine = c.run_words-status.result.machine in
    λ e. top-variables _ _ _ _ _ c.run_words-status.ensures.runs.1 (record { store = m.store; names = m.names; origin = to_z w128 (of_z w128 m.origin) }) (ap (λ (o : ℤ). variables_of m.store o m.names) (to_z-of_z w128 m.origin (origin-fits m.origin (c.run_words-status.ensures.runs.1.leaves.rest (end-lasts c.run_words-status.result.status e)).lawful.origin))) e

pub returns-clause-costs : goal.returns-clause-costs
returns-clause-costs g c = top-costs _ _ _ _ _ c.run_words-status.ensures.runs.1

pub returns-clause-prefix : goal.returns-clause-prefix
returns-clause-prefix g c = top-prefix _ _ _ _ _ c.run_words-status.ensures.runs.1

pub returns-clause-first_costs : goal.returns-clause-first_costs
returns-clause-first_costs g c = top-first _ _ _ _ _ c.run_words-status.ensures.runs.1

pub returns-clause-trace : goal.returns-clause-trace
returns-clause-trace g c = top-trace _ _ _ _ _ c.run_words-status.ensures.runs.1 _ refl refl refl _ _ c.push_last_line.ensures.line

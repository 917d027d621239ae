use Rattle.apl_cost.proofs.Measuring.{measures_forget, at_most_peak}
use Rattle.apl_cost.proofs.Growing.{first_items, first_at_most_peak}
use Rattle.apl_cost.proofs.laws.footprints_of_runs.Goals as goal

pub returns-clause-forgetting : goal.returns-clause-forgetting
returns-clause-forgetting c = measures_forget

pub returns-clause-peak : goal.returns-clause-peak
returns-clause-peak c = at_most_peak

pub returns-clause-first_items : goal.returns-clause-first_items
returns-clause-first_items c = first_items

pub returns-clause-first_peak : goal.returns-clause-first_peak
returns-clause-first_peak c = first_at_most_peak

use Rattle.apl_cost_laws.proofs.Peaks.{footprints_of_fewer_turns, peak_grows_with_turns, parts_are_at_most_peak}
use Rattle.apl_cost_laws.proofs.turns.peaks_grow_with_turns.Goals as goal

pub returns-clause-footprints : goal.returns-clause-footprints
returns-clause-footprints c = footprints_of_fewer_turns

pub returns-clause-peaks : goal.returns-clause-peaks
returns-clause-peaks c = peak_grows_with_turns

pub returns-clause-parts : goal.returns-clause-parts
returns-clause-parts c = parts_are_at_most_peak

use Rattle.apl_cost_laws.proofs.Rooms.{peaks_over_have_first_items, first_items_over_have_peaks}
use Rattle.apl_cost_laws.proofs.room.peaks_over_have_first_items.Goals as goal

pub returns-clause-items : goal.returns-clause-items
returns-clause-items c = peaks_over_have_first_items

pub returns-clause-peaks : goal.returns-clause-peaks
returns-clause-peaks c = first_items_over_have_peaks

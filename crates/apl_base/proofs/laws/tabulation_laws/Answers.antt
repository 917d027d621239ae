use Rattle.apl_base.proofs.Elements.{tabulated-cells, tabulated-at, tabulated-back, gathered-at}
use Rattle.apl_base.proofs.laws.tabulation_laws.Goals as goal

pub returns-clause-cells : goal.returns-clause-cells
returns-clause-cells c = tabulated-cells

pub returns-clause-cell : goal.returns-clause-cell
returns-clause-cell c = λ kind ns is cell h. tabulated-at kind ns cell is h

pub returns-clause-own_cells : goal.returns-clause-own_cells
returns-clause-own_cells c = tabulated-back

pub returns-clause-read : goal.returns-clause-read
returns-clause-read c = λ ns is read a h. gathered-at ns read a is h

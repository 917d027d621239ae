use Rattle.apl_base.proofs.Elements.{length-indices, indices-at, indices-rows}
use Rattle.apl_base.proofs.laws.index_laws.Goals as goal

pub returns-clause-count : goal.returns-clause-count
returns-clause-count c = length-indices

pub returns-clause-place : goal.returns-clause-place
returns-clause-place c = indices-at

pub returns-clause-rows : goal.returns-clause-rows
returns-clause-rows c = indices-rows

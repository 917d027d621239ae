use Rattle.std.proofs.Common.{pos}
use Rattle.apl_base.proofs.Elements.{all_defined-at, all_defined-length, all_defined-none}
use Rattle.apl_base.proofs.laws.defined_laws.Goals as goal

pub returns-clause-some : goal.returns-clause-some
returns-clause-some c = λ os xs k e h. all_defined-at os xs k (pos 0) e h

pub returns-clause-count : goal.returns-clause-count
returns-clause-count c = λ os xs e. all_defined-length os xs e

pub returns-clause-none : goal.returns-clause-none
returns-clause-none c = λ os e. all_defined-none os e

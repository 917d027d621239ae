use Rattle.drag_along.specs.Lawful.{IsLawfulLeaf}
use Rattle.leaf_names.specs.Variables.{FillsOwner}
use Rattle.leaf_names.proofs.EachLemmas.{look_up-each, set_name-each, set_again}
use Rattle.leaf_names.proofs.set_laws.Goals as goal

pub returns-clause-found : goal.returns-clause-found
returns-clause-found c = λ store names name lawful. look_up-each (IsLawfulLeaf store) names name lawful

pub returns-clause-lawful : goal.returns-clause-lawful
returns-clause-lawful c = λ store names name leaf lawful so. set_name-each (IsLawfulLeaf store) names name leaf lawful so

pub returns-clause-fills : goal.returns-clause-fills
returns-clause-fills c = λ store names name leaf fill so. set_name-each (FillsOwner store) names name leaf fill so

pub returns-clause-again : goal.returns-clause-again
returns-clause-again c = set_again

use Rattle.leaf_names.proofs.KeptLemmas.{lawful_kept, filling_kept, variables_kept}
use Rattle.leaf_names.proofs.store_laws.Goals as goal

pub returns-clause-kept : goal.returns-clause-kept
returns-clause-kept c = λ old new names same lawful. (lawful_kept old new names same lawful, variables_kept old new names same lawful)

pub returns-clause-filling : goal.returns-clause-filling
returns-clause-filling c = filling_kept

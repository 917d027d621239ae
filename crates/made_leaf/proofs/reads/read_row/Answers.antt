use Rattle.e_machine.proofs.RowLemmas.{row_lawful}
use Rattle.made_leaf.proofs.reads.read_row.Goals as goal

pub returns-in-Gen-clause-lawful : goal.returns-in-Gen-clause-lawful
returns-in-Gen-clause-lawful c = row_lawful c.args.store.now c.args.leaf.now _ _ _ _ _ c.in-Gen.is c.requires.lawful

use Rattle.apl_print.proofs.tests.printed.Goals as goal

pub write_leaf-requires : goal.write_leaf-requires
write_leaf-requires c = record { lawful = c.counting-leaf.ensures _ }

use Rattle.std.proofs.Common.{◌≡◌, take, Some}
use Rattle.apl_model.proofs.Machine as machine
use Rattle.apl_tree.specs.Mirror.{reader_of}
use Rattle.apl_tree.proofs.statements.read.Given as goal

abbrev pub invariant-loop-token : goal.invariant-loop-token
invariant-loop-token g l = machine.run (g.C.NameClasses.headings l.classes) l.number (Some machine.start) (take l.token-index l.tokens) ≡ Some (reader_of l.reader)

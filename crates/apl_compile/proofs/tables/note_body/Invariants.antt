use Rattle.std.proofs.Common.{drop}
use Rattle.apl_compile.specs.Tables.{PutsBody}
use Rattle.apl_compile.proofs.tables.note_body.Given as goal

abbrev pub invariant-loop-line : goal.invariant-loop-line
invariant-loop-line l = PutsBody l.initial.table l.table l.item l.line (drop l.line l.body)

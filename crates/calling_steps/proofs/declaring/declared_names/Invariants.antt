use Rattle.std.proofs.Common.{◌≡◌, ◌++◌}
use Rattle.std.specs.Prelude.{take}
use Rattle.name_table.specs.Laws.{label_names}
use Rattle.calling_steps.specs.Calls.{labels_in}
use Rattle.calling_steps.proofs.declaring.declared_names.Given as goal

abbrev pub invariant-loop-name : goal.invariant-loop-name
invariant-loop-name l = l.names.items ≡ l.initial.names.items ++ take l.name-index l.name-items

abbrev pub invariant-loop-line : goal.invariant-loop-line
invariant-loop-line l = l.names.items ≡ l.initial.names.items ++ label_names (labels_in (take l.line-index l.body))

use Rattle.std.proofs.Common.{◌≡◌, take}
use Rattle.std.specs.Prelude.{map}
use Rattle.apl_model.specs.Script.{heading_of}
use Rattle.apl_defn.proofs.classes.classes_from.Given as goal

abbrev pub invariant-loop-header : goal.invariant-loop-header
invariant-loop-header l = l.headings.items ≡ map heading_of (take l.header-index l.headers)

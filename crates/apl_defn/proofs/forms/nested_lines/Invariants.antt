use Rattle.std.proofs.Common.{take}
use Rattle.apl_model.specs.Refusal.{IsFirstIfAny}
use Rattle.apl_defn.specs.PartRefusals.{OfSome, IsNested}
use Rattle.apl_defn.proofs.forms.nested_lines.Given as goal

abbrev pub invariant-loop-line : goal.invariant-loop-line
invariant-loop-line l = IsFirstIfAny (OfSome IsNested (take l.line-index l.body)) l.earliest

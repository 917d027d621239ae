use Rattle.apl_defn.specs.PartRefusals.{IsNested}
use Rattle.apl_defn.proofs.PhaseLemmas.{first_at, first_of_all}
use Rattle.apl_defn.proofs.forms.nested_lines.Goals as goal

pub loop-line-preserved : goal.loop-line-preserved
loop-line-preserved c =
    rw c.earlier-earliest.ensures
    (first_at IsNested c.args.body.now c.loop-line.line-index c.line-item.result c.loop-line.earliest c.nested_line.result c.loop-line-test.true c.line-item.is c.loop-line.invariant c.nested_line.ensures)

pub returns : goal.returns
returns c = first_of_all IsNested c.args.body.now c.loop-line.line-index c.loop-line.earliest c.loop-line-test.false c.loop-line.invariant

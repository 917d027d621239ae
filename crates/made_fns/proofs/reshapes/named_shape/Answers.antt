use Rattle.std.proofs.Common.{refl, arith}
use Rattle.leaf_names.specs.Variables.{array_of}
use Rattle.made_fns.proofs.Lengths.{length-array_of}
use Rattle.made_fns.proofs.ReshapeLemmas.{too_many}
use Rattle.made_fns.proofs.reshapes.named_shape.Goals as goal

pub returns-then-count-gt8-clause-refused : goal.returns-then-count-gt8-clause-refused
returns-then-count-gt8-clause-refused c =
    (refl, too_many (array_of c.args.store.now c.args.a.now) (omega (arith, length-array_of c.args.store.now c.args.a.now, c.elements-count.ensures.value, c.if-count-gt8.true)))

use Rattle.std.proofs.Common.{ap}
use Rattle.apl_compile.specs.declared.codes.Op.TheVariants as op
use Rattle.apl_model.specs.declared.functions.MonFn.{MonFn}
use Rattle.apl_model.specs.declared.functions.MonFn.TheVariants as one
use Rattle.entry_steps.proofs.ChangeLemmas.{changed_scalar}
use Rattle.entry_steps.proofs.CountLemmas.{counts_monadic}
use Rattle.entry_steps.proofs.ones.monadic.Goals as goal

pub returns-in-Scalar : goal.returns-in-Scalar
returns-in-Scalar c =
    changed_scalar _ (op.Mon (one.Scalar c.in-Scalar.f)) 1 _ _ _ (ap (λ (f : MonFn). op.Mon f) c.in-Scalar.is) (counts_monadic (one.Scalar c.in-Scalar.f))
    c.monadic_scalar.ensures.run c.monadic_scalar.ensures.step c.monadic_scalar.ensures.keeps c.monadic_scalar.ensures.halted

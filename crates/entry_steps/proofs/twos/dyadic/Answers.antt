use Rattle.std.proofs.Common.{ap}
use Rattle.apl_compile.specs.declared.codes.Op.TheVariants as op
use Rattle.apl_model.specs.declared.functions.DyaFn.{DyaFn}
use Rattle.apl_model.specs.declared.functions.DyaFn.TheVariants as two
use Rattle.entry_steps.proofs.ChangeLemmas.{changed_scalar}
use Rattle.entry_steps.proofs.CountLemmas.{counts_dyadic}
use Rattle.entry_steps.proofs.twos.dyadic.Goals as goal

pub returns-in-Scalar : goal.returns-in-Scalar
returns-in-Scalar c =
    changed_scalar _ (op.Dya (two.Scalar c.in-Scalar.f)) 2 _ _ _ (ap (λ (f : DyaFn). op.Dya f) c.in-Scalar.is) (counts_dyadic (two.Scalar c.in-Scalar.f))
    c.dyadic_scalar.ensures.run c.dyadic_scalar.ensures.step c.dyadic_scalar.ensures.keeps c.dyadic_scalar.ensures.halted

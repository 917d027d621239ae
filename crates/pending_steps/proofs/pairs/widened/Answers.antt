use Rattle.std.proofs.Common.{◌≡◌, ℕ, inl, List, refl, ap, subst, ◌∙◌}
use Rattle.apl_model.specs.Lift.{fitting_shape}
use Rattle.pending_laws.proofs.JoinLemmas.{fitting-same}
use Rattle.pending_steps.specs.declared.fits.Fit.{Fit}
use Rattle.pending_steps.specs.Fits.{IsFit}
use Rattle.pending_steps.proofs.pairs.widened.Goals as goal

-- src/pairs.rt:52:1
pub returns-in-Alike-clause-wide : goal.returns-in-Alike-clause-wide
returns-in-Alike-clause-wide c =
    let left = c.args.operands.left in
    let right = c.args.operands.right in
    let same : left.shape ≡ right.shape = subst (λ (f : Fit). IsFit left.shape right.shape f) c.in-Alike.is c.requires.fit in
    record {
      shape = right.shape;
      left_segment = c.functions.ensures.segment;
      right_segment = c.functions-2.ensures.segment;
      fit = ap (λ (ns : List ℕ). fitting_shape ns right.shape) same ∙ fitting-same right.shape;
      left_wide = inl (same, refl);
      right_wide = inl (refl, refl);
    }

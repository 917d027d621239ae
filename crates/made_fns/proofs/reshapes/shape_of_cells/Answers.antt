use Rattle.std.proofs.Common.{◌≡◌, ◌∙◌, ◌≤◌, ℕ, ℤ, List, length, map, take, refl, sym, ap, subst, arith}
use Rattle.std.proofs.lemmas.Bool.{false≢true}
use Rattle.std.proofs.Math.Seq.{take-length}
use Rattle.apl_base.specs.Array.{IsShape}
use Rattle.made_fns.proofs.ReshapeLemmas.{capped, capped_shape, capped_none}
use Rattle.made_fns.proofs.reshapes.shape_of_cells.Goals as goal

-- the lengths at the end of the loop
all_capped : (axis n : ℕ) (lengths : List ℕ) (cells : List ℤ) → n ≡ length cells → axis ≤ n → n ≤ axis → take axis lengths ≡ map capped (take axis cells) → take n lengths ≡ map capped cells
all_capped axis n lengths cells long few many is =
    let e : axis ≡ length cells = omega (arith, long, few, many) in
    ap (λ (k : ℕ). take k lengths) (long ∙ sym e) ∙ is ∙ ap (map capped) (ap (λ (k : ℕ). take k cells) e ∙ take-length cells)

pub returns-in-Ok-clause-shape : goal.returns-in-Ok-clause-shape
returns-in-Ok-clause-shape c =
    let all = all_capped c.loop-axis.axis _ c.loop-axis.lengths c.args.cells.now refl c.loop-axis.auto.axis-end c.loop-axis-test.false c.loop-axis.invariant.0 in
    capped_shape _ _ (c.in-Ok.ensures.ok ∙ all) (subst IsShape (sym c.in-Ok.ensures.ok) (c.in-Ok.ensures.exact.0 refl))

pub returns-in-Err-clause-refused : goal.returns-in-Err-clause-refused
returns-in-Err-clause-refused c =
    let all = all_capped c.loop-axis.axis _ c.loop-axis.lengths c.args.cells.now refl c.loop-axis.auto.axis-end c.loop-axis-test.false c.loop-axis.invariant.0 in
    (refl, capped_none c.args.cells.now (λ lawful. false≢true (c.in-Err.ensures.exact.1 (subst IsShape (sym all) lawful))))

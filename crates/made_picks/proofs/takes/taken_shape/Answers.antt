use Rattle.std.proofs.Common.{◌≡◌, ◌∙◌, length, sym, arith}
use Rattle.drag_along.specs.Nodes.{leaf_shape}
use Rattle.leaf_names.specs.Variables.{array_of}
use Rattle.made_fns.specs.Answers.{elements_in}
use Rattle.made_picks.specs.Taken.{axes_to_take}
use Rattle.made_picks.proofs.TakeLemmas.{length-axes, take_domain, shape_answers}
use Rattle.made_picks.proofs.takes.taken_shape.Goals.{else-axes-gt0-via-then-axes-gt0+else-elements-axes, else-axes-gt0-via-else-axes-gt0}
use Rattle.made_picks.proofs.takes.taken_shape.Goals as goal

pub returns-then-is_text-clause-refused : goal.returns-then-is_text-clause-refused
returns-then-is_text-clause-refused c =
    let many : elements_in c.args.a.now ≡ length (axes_to_take (elements_in c.args.a.now) (leaf_shape c.args.b.now)) = elim c.else-axes-gt0.branch [
      | else-axes-gt0-via-then-axes-gt0+else-elements-axes w ↦ length-axes (elements_in c.args.a.now) (leaf_shape c.args.b.now) (λ some. omega (arith, w.if-elements-axes.false, w.elements.ensures.value, c.rank-axes.ensures.value))
      | else-axes-gt0-via-else-axes-gt0 w ↦ length-axes (elements_in c.args.a.now) (leaf_shape c.args.b.now) (λ some. absurd (omega (arith, some, w.if-axes-gt0.false, c.rank-axes.ensures.value)))
    ] in
    take_domain (array_of c.args.store.now c.args.a.now) (array_of c.args.store.now c.args.b.now) (omega (arith, c.rank.ensures.value, c.if-rank-gt1.false)) many (sym (c.is_text.ensures c.args.store.now) ∙ c.if-is_text.true)

pub returns-clause-array : goal.returns-clause-array
returns-clause-array c =
    let many : elements_in c.args.a.now ≡ length (axes_to_take (elements_in c.args.a.now) (leaf_shape c.args.b.now)) = elim c.else-axes-gt0.branch [
      | else-axes-gt0-via-then-axes-gt0+else-elements-axes w ↦ length-axes (elements_in c.args.a.now) (leaf_shape c.args.b.now) (λ some. omega (arith, w.if-elements-axes.false, w.elements.ensures.value, c.rank-axes.ensures.value))
      | else-axes-gt0-via-else-axes-gt0 w ↦ length-axes (elements_in c.args.a.now) (leaf_shape c.args.b.now) (λ some. absurd (omega (arith, some, w.if-axes-gt0.false, c.rank-axes.ensures.value)))
    ] in
    (shape_answers (array_of c.args.store.now c.args.a.now) (array_of c.args.store.now c.args.b.now) c.named_shape.result (omega (arith, c.rank.ensures.value, c.if-rank-gt1.false)) many (sym (c.is_text.ensures c.args.store.now) ∙ c.if-is_text.false) c.named_shape.ensures.shape c.named_shape.ensures.refused).0

pub returns-clause-refused : goal.returns-clause-refused
returns-clause-refused c =
    let many : elements_in c.args.a.now ≡ length (axes_to_take (elements_in c.args.a.now) (leaf_shape c.args.b.now)) = elim c.else-axes-gt0.branch [
      | else-axes-gt0-via-then-axes-gt0+else-elements-axes w ↦ length-axes (elements_in c.args.a.now) (leaf_shape c.args.b.now) (λ some. omega (arith, w.if-elements-axes.false, w.elements.ensures.value, c.rank-axes.ensures.value))
      | else-axes-gt0-via-else-axes-gt0 w ↦ length-axes (elements_in c.args.a.now) (leaf_shape c.args.b.now) (λ some. absurd (omega (arith, some, w.if-axes-gt0.false, c.rank-axes.ensures.value)))
    ] in
    (shape_answers (array_of c.args.store.now c.args.a.now) (array_of c.args.store.now c.args.b.now) c.named_shape.result (omega (arith, c.rank.ensures.value, c.if-rank-gt1.false)) many (sym (c.is_text.ensures c.args.store.now) ∙ c.if-is_text.false) c.named_shape.ensures.shape c.named_shape.ensures.refused).1

use Rattle.std.proofs.Common.{◌≡◌, ◌∙◌, ◌%◌, ◌<◌, ◌⊎◌, ℕ, inl, inr, min, refl, ap, length, vec_len, arith, rules}
use Rattle.std.specs.Prelude.{slice_index_or, pos}
use Rattle.apl_base.specs.Array.{index_at}
use Rattle.drag_along.specs.Nodes.{leaf_shape}
use Rattle.drag_along.specs.Meaning.{leaf_cell}
use Rattle.leaf_names.specs.Variables.{array_of}
use Rattle.made_fns.specs.Answers.{elements_in}
use Rattle.made_fns.proofs.Lengths.{appended}
use Rattle.made_fns.proofs.ReshapeLemmas.{repeated_more, whole_more, whole_first, first_elements, repeated_many}
use Rattle.made_fns.proofs.reshapes.repeat.Goals as goal

pub loop-done-init : goal.loop-done-init
loop-done-init c = (
  first_elements (array_of c.args.store.now c.args.b.now).cells _ (λ p. leaf_cell c.args.store.now c.args.b.now (index_at (leaf_shape c.args.b.now) p)) (elements_in c.args.b.now) c.min-first.result refl (appended c.requires.empty c.read_places.ensures.cells) (omega (arith, c.min-first.ensures, c.elements.ensures.value)),
  whole_first (elements_in c.args.b.now) c.min-first.result c.args.size (c.min-first.ensures ∙ ap (min c.args.size) c.elements.ensures.value) c.requires.some,
  omega (arith, c.min-first.ensures),
  omega (arith, c.requires.room, c.read_places.ensures.capacity),
)

pub append_first-requires-clause-some : goal.append_first-requires-clause-some
append_first-requires-clause-some c =
    let many : length c.loop-done.cells.items ≡ vec_len c.loop-done.cells = search rules in
    omega (arith, many, repeated_many (λ k. slice_index_or (array_of c.args.store.now c.args.b.now).cells k (pos 0)) (elements_in c.args.b.now) _ _ c.loop-done.invariant.0, c.min-more.ensures)

pub append_first-requires-clause-room : goal.append_first-requires-clause-room
append_first-requires-clause-room c =
    let many : length c.loop-done.cells.items ≡ vec_len c.loop-done.cells = search rules in
    omega (arith, many, repeated_many (λ k. slice_index_or (array_of c.args.store.now c.args.b.now).cells k (pos 0)) (elements_in c.args.b.now) _ _ c.loop-done.invariant.0, c.min-more.ensures, c.loop-done.invariant.2, c.loop-done.invariant.3)

pub loop-done-preserved : goal.loop-done-preserved
loop-done-preserved c =
    let part : (c.loop-done.done % elements_in c.args.b.now ≡ 0) × (0 < c.loop-done.done) = not_yet c.loop-done.done c.args.size _ c.loop-done.invariant.1 c.loop-done-test.true in (
      c.append_first.ensures.cells ∙ repeated_more (λ k. slice_index_or (array_of c.args.store.now c.args.b.now).cells k (pos 0)) (elements_in c.args.b.now) c.loop-done.done c.min-more.result _ c.loop-done.invariant.0 part.0 (omega (arith, c.min-more.ensures)),
      whole_more (elements_in c.args.b.now) c.loop-done.done c.min-more.result c.args.size c.min-more.ensures part.0 part.1 c.loop-done-test.true,
      omega (arith, c.min-more.ensures, c.loop-done.invariant.2),
      omega (arith, c.append_first.ensures.capacity, c.loop-done.invariant.3),
    )
  where
    not_yet : (done size : ℕ) (P : Type 0) → (done ≡ size) ⊎ P → done < size → P
    not_yet done size P h below = elim h [ inl e ↦ absurd (omega (arith, e, below)) | inr p ↦ p ]

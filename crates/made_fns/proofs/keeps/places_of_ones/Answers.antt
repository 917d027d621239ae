use Rattle.std.proofs.Common.{◌∙◌, refl, ap, sym, Vec, Option, ℕ, Global}
use Rattle.made_fns.proofs.KeepLemmas.{sources_next, sources_same}
use Rattle.made_fns.proofs.keeps.places_of_ones.Goals as goal
use Rattle.made_fns.proofs.keeps.places_of_ones.Goals.{then-is_one+in_ok-push, else-is_one}

pub loop-place-preserved : goal.loop-place-preserved
loop-place-preserved c = elim c.if-is_one.branch [
  | then-is_one+in_ok-push w ↦
      sources_next c.args.bits.now c.loop-place.place _ _ _ c.loop-place-test.true refl (sym c.is_one.ensures ∙ w.if-is_one.true) c.loop-place.invariant (ap (λ (v : Vec (Option ℕ) Global). v.items) w.places-is ∙ w.in_ok-push.ensures.items)
  | else-is_one w ↦
      ap (λ (v : Vec (Option ℕ) Global). v.items) w.places-is ∙ sources_same c.args.bits.now c.loop-place.place _ _ c.loop-place-test.true refl (sym c.is_one.ensures ∙ w.if-is_one.false) c.loop-place.invariant
]

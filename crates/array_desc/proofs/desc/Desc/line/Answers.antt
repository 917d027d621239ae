use Rattle.std.proofs.Common.{ℕ, List, [], ◌∷◌, ◌+ℤ◌, ◌∙◌, ap, sym, subst}
use Rattle.std.proofs.lemmas.Int.{to_z-of_z}
use mir.Syntax.{w128}
use Rattle.apl_base.specs.Array.{IsIndex}
use Rattle.array_desc.specs.Desc.{dot}
use Rattle.array_desc.proofs.Sums.{one_axis}
use Rattle.array_desc.proofs.desc.Desc.line.Goals as goal

pub returns-clause-numbers : goal.returns-clause-numbers
returns-clause-numbers c = λ j p.
    let Q : List ℕ → Type 0 = λ ns. IsIndex ns (j ∷ []) in
    c.settled.ensures.numbers (j ∷ []) (subst Q (sym c.held_inline-2.ensures.items) (p, tt))
    ∙ ap (λ b. b +ℤ dot c.held_inline.result.items (j ∷ [])) (to_z-of_z w128 c.args.from c.ranges.from)
    ∙ ap (λ ss. c.args.from +ℤ dot ss (j ∷ [])) (c.held_inline.ensures.items ∙ ap (λ s. s ∷ []) (to_z-of_z w128 c.args.step c.ranges.step))
    ∙ one_axis c.args.from c.args.step j

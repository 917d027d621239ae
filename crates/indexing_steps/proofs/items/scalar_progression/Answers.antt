use Rattle.std.proofs.Common.{ℤ, pos, true, sym, subst}
use mir.Syntax.{w128}
use Rattle.std.specs.Prelude.{FitsSigned}
use Rattle.std.proofs.lemmas.Int.{to_z-of_z}
use Rattle.leaf_names.specs.Variables.{array_of}
use Rattle.indexing_steps.specs.Choices.{IsProgression}
use Rattle.indexing_steps.proofs.ItemLemmas.{scalar_is}
use Rattle.indexing_steps.proofs.items.scalar_progression.Goals as goal

pub returns-clause-progression : goal.returns-clause-progression
returns-clause-progression c =
    let from : ℤ = c.first_cell-from.result in
    let fits : FitsSigned w128 from = record { sfits = c.first_cell-from.type_inv } in
    subst (λ (z : ℤ). IsProgression (array_of c.args.store.now c.args.leaf.now) (record { from = z; step = pos 0; n = 1 }) true) (sym (to_z-of_z w128 from fits))
    (scalar_is c.args.store.now c.args.leaf.now from c.counts-counts.ensures.store c.copy-same.ensures.desc c.requires.lawful c.requires.numbers c.requires.scalar c.first_cell-from.ensures.value)

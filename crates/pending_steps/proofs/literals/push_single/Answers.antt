use Rattle.std.proofs.Common.{ℤ, List, [], ◌∷◌, refl, sym, subst}
use Rattle.drag_along.specs.Views.{StandsForArray}
use Rattle.std.specs.Int.{w128}
use Rattle.std.proofs.lemmas.Int.{to_z-of_z}
use Rattle.std.proofs.lemmas.Result.{IfOk-weaker}
use Rattle.apl_model.specs.Evaluation.{literal_array}
use Rattle.pending_steps.specs.Literals.{literal_of}
use Rattle.pending_steps.proofs.LiteralLemmas.{literal_step}
use Rattle.pending_steps.proofs.literals.push_single.Goals as goal

pub push_leaf-requires-clause-leaf : goal.push_leaf-requires-clause-leaf
push_leaf-requires-clause-leaf c = (c.single_literal-leaf.ensures.stands c.args.store.now).lawful

pub returns-clause-step : goal.returns-clause-step
returns-clause-step c =
    let store = c.args.store.now in
    let literal = c.args.literal.now in
    let one : StandsForArray store c.single_literal-leaf.result (literal_of literal.kind (c.args.cell ∷ [])) =
    subst (λ (z : ℤ). StandsForArray store c.single_literal-leaf.result (literal_of literal.kind (z ∷ []))) (to_z-of_z w128 c.args.cell c.ranges.cell) (c.single_literal-leaf.ensures.stands store) in
    let stands : StandsForArray store c.single_literal-leaf.result (literal_array literal) =
    subst (λ (cells : List ℤ). StandsForArray store c.single_literal-leaf.result (literal_of literal.kind cells)) (sym c.requires.single) one in
    IfOk-weaker c.push_leaf.result _ _ (λ _ puts place. literal_step literal place store store c.args.stack.now c.push_leaf.new.stack c.single_literal-leaf.result refl puts stands) c.push_leaf.ensures.puts

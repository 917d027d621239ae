use Rattle.std.proofs.Common.{ℕ, List, Option, Some, refl, sym, ap, ◌∙◌, subst}
use Rattle.std.specs.Prelude.{◌≡◌, IsSome, None}
use Rattle.drag_along.specs.declared.leaves.Leaf.{Leaf}
use Rattle.apl_model.specs.Environment.{look_up}
use Rattle.apl_model.specs.Frames.{result_in}
use Rattle.machine_state.specs.StandsFor.{variables}
use Rattle.calling_steps.specs.Ready.{PutsResult}
use Rattle.calling_steps.proofs.LeaveLemmas.{no_result, result_found, result_unset, result_put, some_is, none_is_not}
use Rattle.calling_steps.proofs.leaving.push_result.Goals as goal

pub returns-in_ok-push_bound-in-Some-get-clause-puts : goal.returns-in_ok-push_bound-in-Some-get-clause-puts
returns-in_ok-push_bound-in-Some-get-clause-puts c =
    let found : look_up c.args.machine.now.names c.in-Some.name ≡ Some c.copy-leaf.result = sym c.in-Some-get.ensures ∙ ap (λ (l : Leaf). Some l) (sym c.copy-leaf.ensures.same) in
    subst (λ (o : Option (List ℕ)). PutsResult c.args.machine.now c.push_bound.new.machine o) (sym c.in-Some.is)
    (result_put c.args.machine.now c.push_bound.new.machine c.in-Some.name c.copy-leaf.result found c.push_bound.ensures.run.names c.push_bound.ensures.run.origin c.in_ok-push_bound-in-Some-get.ensures.puts)

pub returns-in_ok-push_bound-in-Some-get-clause-given : goal.returns-in_ok-push_bound-in-Some-get-clause-given
returns-in_ok-push_bound-in-Some-get-clause-given c =
    let found : look_up c.args.machine.now.names c.in-Some.name ≡ Some c.copy-leaf.result = sym c.in-Some-get.ensures ∙ ap (λ (l : Leaf). Some l) (sym c.copy-leaf.ensures.same) in
    let some : IsSome (result_in (variables c.args.machine.now) c.args.name.now) =
    subst (λ (o : Option (List ℕ)). IsSome (result_in (variables c.args.machine.now) o)) (sym c.in-Some.is)
    (some_is _ _ (result_found c.args.machine.now c.in-Some.name c.copy-leaf.result found)) in
    (λ _. some, λ _. refl)

pub returns-in-None-clause-puts : goal.returns-in-None-clause-puts
returns-in-None-clause-puts c =
    let none : result_in (variables c.args.machine.now) c.args.name.now ≡ None = ap (λ (o : Option (List ℕ)). result_in (variables c.args.machine.now) o) c.in-Some.is ∙ result_unset c.args.machine.now c.in-Some.name (sym c.in-None.ensures) in
    no_result c.args.machine.now c.args.name.now none

pub returns-in-None-clause-given : goal.returns-in-None-clause-given
returns-in-None-clause-given c =
    let none : result_in (variables c.args.machine.now) c.args.name.now ≡ None = ap (λ (o : Option (List ℕ)). result_in (variables c.args.machine.now) o) c.in-Some.is ∙ result_unset c.args.machine.now c.in-Some.name (sym c.in-None.ensures) in
    (λ t. absurd cc, λ some. absurd (none_is_not _ none some))

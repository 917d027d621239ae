use Rattle.std.proofs.Common.{ℕ, List, [], ◌∷◌, refl, ap, subst, ◌∙◌}
use Rattle.std.proofs.lemmas.Result.{IfOk-weaker}
use Rattle.std.proofs.lemmas.List.{map-append}
use Rattle.drag_along.specs.Meaning.{entry}
use Rattle.value_stack.specs.Stacks.{entries, IsLawfulStack}
use Rattle.pending_steps.specs.Fits.{IsFit}
use Rattle.pending_steps.specs.Shapes.{second_shape}
use Rattle.pending_steps.proofs.StepLemmas.{newest_lawful, older_lawful, pushed_lawful}
use Rattle.pending_steps.proofs.EndLemmas.{AreNewest, popped_two, newest_is, second_is, entries_above}
use Rattle.pending_steps.proofs.twos.join_newest_two.Goals as goal

pub join_fitted-requires-clause-right : goal.join_fitted-requires-clause-right
join_fitted-requires-clause-right c =
    newest_lawful c.args.store.now c.pop.new.self c.pop-2.new.self c.in-Some-pop.right c.in-Some-pop.ensures.taken
    (older_lawful c.args.store.now c.args.stack.now c.pop.new.self c.in-Some.left c.in-Some.ensures.taken c.requires.lawful)

two : (c : goal.In-Some-pop) → AreNewest c.args.stack.now c.pop-2.new.self c.in-Some.left c.in-Some-pop.right
two c = popped_two c.args.stack.now c.pop.new.self c.pop-2.new.self c.in-Some.left c.in-Some-pop.right c.in-Some.ensures.taken c.in-Some-pop.ensures.taken

pub join_fitted-requires-clause-fit : goal.join_fitted-requires-clause-fit
join_fitted-requires-clause-fit c =
    subst (λ (ns : List ℕ). IsFit c.in-Some.left.shape ns c.args.fit) (second_is c.args.stack.now c.pop-2.new.self c.in-Some.left c.in-Some-pop.right (two c))
    (subst (λ (ns : List ℕ). IsFit ns (second_shape c.args.stack.now) c.args.fit) (newest_is c.args.stack.now c.pop-2.new.self c.in-Some.left c.in-Some-pop.right (two c)) c.requires.fit)

pub join_fitted-requires-clause-safe : goal.join_fitted-requires-clause-safe
join_fitted-requires-clause-safe c = c.requires.safe c.in-Some.left c.in-Some-pop.right (two c).newest (two c).second

pub join_fitted-requires-clause-few : goal.join_fitted-requires-clause-few
join_fitted-requires-clause-few c = c.requires.few c.in-Some.left c.in-Some-pop.right (two c).newest (two c).second

pub returns-clause-step : goal.returns-clause-step
returns-clause-step c =
    let store = c.args.store.now in
    let older = c.pop-2.new.self in
    let left = c.in-Some.left in
    let right = c.in-Some-pop.right in
    let joined = c.in_ok-joined.joined in
    let newest : AreNewest c.args.stack.now older left right = popped_two c.args.stack.now c.pop.new.self older left right c.in-Some.ensures.taken c.in-Some-pop.ensures.taken in
    IfOk-weaker c.push.result _ _ (λ _ is. record {
      older = entries store older;
      taken = entry store right ∷ entry store left ∷ [];
      given = entry store joined ∷ [];
      was = entries_above store c.args.stack.now older left right newest;
      is = ap (entries store) is ∙ map-append (entry store) older (joined ∷ []);
      operands = refl;
      values = refl;
      step = λ calls z. c.in_ok-joined.ensures.step calls z;
    }) c.push.ensures.ok

pub returns-clause-lawful : goal.returns-clause-lawful
returns-clause-lawful c =
    let store = c.args.store.now in
    let mid : IsLawfulStack store c.pop.new.self = older_lawful store c.args.stack.now c.pop.new.self c.in-Some.left c.in-Some.ensures.taken c.requires.lawful in
    let older : IsLawfulStack store c.pop-2.new.self = older_lawful store c.pop.new.self c.pop-2.new.self c.in-Some-pop.right c.in-Some-pop.ensures.taken mid in
    IfOk-weaker c.push.result _ _ (λ _ is. pushed_lawful store c.push.new.self c.pop-2.new.self c.in_ok-joined.joined is older c.in_ok-joined.ensures.lawful) c.push.ensures.ok

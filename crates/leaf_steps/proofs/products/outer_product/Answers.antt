use Rattle.std.proofs.Common.{◌≡◌, ℤ, pos, [], ◌∷◌, Err, refl, sym, subst, ◌∙◌}
use Rattle.apl_base.specs.declared.faults.ErrorKind.TheVariants as error
use Rattle.array_store.specs.Stores.{StoreView}
use Rattle.array_store.specs.Follows.{none}
use Rattle.array_store.proofs.FollowsLemmas.{follows_same}
use Rattle.drag_along.specs.Meaning.{entry}
use Rattle.value_stack.specs.Stacks.{entries}
use Rattle.apl_model.specs.Product.{outer}
use Rattle.apl_compile.specs.declared.codes.Op.TheVariants.{Outer}
use Rattle.leaf_names.specs.Variables.{array_of}
use Rattle.made_leaf.specs.declared.faults.MadeFault.TheVariants as made
use Rattle.pending_laws.specs.Joins.{meaning_of}
use Rattle.pending_steps.specs.declared.halts.Halt.TheVariants as halt
use Rattle.leaf_steps.specs.Origins.{StepsFrom}
use Rattle.leaf_steps.specs.Taking.{named_by_arguments}
use Rattle.leaf_steps.proofs.GivesLemmas.{gives_outer}
use Rattle.leaf_steps.proofs.OuterLemmas.{outer_step}
use Rattle.leaf_steps.proofs.StepLemmas.{made_step}
use Rattle.leaf_steps.proofs.products.outer_product.Goals as goal

pub returns-in_ok-push-in-Ok-clause-step : goal.returns-in_ok-push-in-Ok-clause-step
returns-in_ok-push-in-Ok-clause-step c origin =
    let store = c.take_two.new.store in
    let a = array_of store c.in_ok-arguments.arguments.left in
    let b = array_of store c.in_ok-arguments.arguments.right in
    let means = subst (λ (s : StoreView). entry s c.in-Ok.segment ≡ meaning_of c.args.place (outer c.args.f a b)) c.in-Ok.ensures.unchanged c.in-Ok.ensures.means in
    subst (λ (s : StoreView). StepsFrom origin (record { place = c.args.place; op = Outer c.args.f }) 2 1 (entries c.args.store.now c.args.stack.now) (entries s c.push.new.self)) (sym c.in-Ok.ensures.unchanged)
    (outer_step origin c.args.f c.args.place a b c.args.store.now store c.args.stack.now c.take_two.new.stack c.push.new.self (named_by_arguments c.in_ok-arguments.arguments) c.in-Ok.segment
    c.in_ok-arguments.ensures.takes.taken (λ e. let r = c.in-Ok.ensures.limit.1 e in cc) means c.in_ok-push-in-Ok.ensures.ok)

pub returns-in-Err-Limit : goal.returns-in-Err-Limit
returns-in-Err-Limit c =
    let store = c.take_two.new.store in
    let a = array_of store c.in_ok-arguments.arguments.left in
    let b = array_of store c.in_ok-arguments.arguments.right in
    let is : outer c.args.f a b ≡ Err error.Limit = c.in-Err-Limit.ensures.limit.0 (cc) in
    let s = λ (origin : ℤ). made_step origin (record { place = c.args.place; op = Outer c.args.f }) 2 c.args.store.now store store c.outer.new.store c.args.stack.now c.take_two.new.stack c.take_two.new.stack
    (b ∷ a ∷ []) (named_by_arguments c.in_ok-arguments.arguments) (outer c.args.f a b) (Err (made.Error error.Limit)) (Err (halt.Error error.Limit c.args.place)) refl
    c.requires.held c.in_ok-arguments.ensures.takes.taken (record { answers = is; follows = follows_same store none }) c.in-Err-Limit.ensures.released (refl, refl) (gives_outer origin c.args.f c.args.place a b) in
    record { step = λ origin. tt; moves = (s (pos 0)).moves; halted = λ origin. (s origin).halted; limit = c.in-Err-Limit.ensures.released.limit ∙ c.take_two.ensures.limit }

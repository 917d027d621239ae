use Rattle.std.proofs.Common.{ℤ, [], ◌∷◌, refl, subst, ◌∙◌}
use Rattle.std.proofs.lemmas.Int.{to_z-of_z}
use mir.Syntax.{w128}
use Rattle.leaf_names.specs.Variables.{array_of}
use Rattle.apl_model.specs.Evaluation.{dyadic_value}
use Rattle.apl_compile.specs.declared.codes.Op.TheVariants.{Dya}
use Rattle.leaf_steps.specs.Taking.{named_by_arguments}
use Rattle.leaf_steps.specs.Making.{IsMade}
use Rattle.leaf_steps.proofs.GivesLemmas.{gives_two}
use Rattle.leaf_steps.proofs.StepLemmas.{given, given_leaf, arguments_held, made_step}
use Rattle.leaf_steps.proofs.twos.made_two.Goals as goal

pub release-requires : goal.release-requires
release-requires c =
    let a = array_of c.take_two.new.store c.in_ok-arguments.arguments.left in
    let b = array_of c.take_two.new.store c.in_ok-arguments.arguments.right in
    let made = subst (λ (z : ℤ). IsMade c.take_two.new.store c.value_of_two-made.new.store (dyadic_value z c.args.f a b) c.value_of_two-made.result) (to_z-of_z w128 c.args.origin c.ranges.origin) c.value_of_two-made.ensures in
    arguments_held c.args.store.now c.take_two.new.store c.value_of_two-made.new.store c.args.stack.now c.take_two.new.stack (b ∷ a ∷ []) (named_by_arguments c.in_ok-arguments.arguments)
    (dyadic_value c.args.origin c.args.f a b) c.value_of_two-made.result c.requires.held c.in_ok-arguments.ensures.takes.taken made

pub put_made-requires : goal.put_made-requires
put_made-requires c =
    let a = array_of c.take_two.new.store c.in_ok-arguments.arguments.left in
    let b = array_of c.take_two.new.store c.in_ok-arguments.arguments.right in
    let made = subst (λ (z : ℤ). IsMade c.take_two.new.store c.value_of_two-made.new.store (dyadic_value z c.args.f a b) c.value_of_two-made.result) (to_z-of_z w128 c.args.origin c.ranges.origin) c.value_of_two-made.ensures in
    let g = given c.args.store.now c.take_two.new.store c.value_of_two-made.new.store c.release.new.store c.args.stack.now c.take_two.new.stack (b ∷ a ∷ []) (named_by_arguments c.in_ok-arguments.arguments)
    (dyadic_value c.args.origin c.args.f a b) c.value_of_two-made.result c.requires.held c.in_ok-arguments.ensures.takes.taken made c.release.ensures in
    record {
      leaf = given_leaf c.args.store.now c.release.new.store c.args.stack.now c.take_two.new.stack (b ∷ a ∷ []) (dyadic_value c.args.origin c.args.f a b) c.value_of_two-made.result g;
      lawful = g.moves.lawful;
    }

pub returns : goal.returns
returns c =
    let a = array_of c.take_two.new.store c.in_ok-arguments.arguments.left in
    let b = array_of c.take_two.new.store c.in_ok-arguments.arguments.right in
    let made = subst (λ (z : ℤ). IsMade c.take_two.new.store c.value_of_two-made.new.store (dyadic_value z c.args.f a b) c.value_of_two-made.result) (to_z-of_z w128 c.args.origin c.ranges.origin) c.value_of_two-made.ensures in
    let s = made_step c.args.origin (record { place = c.args.place; op = Dya c.args.f }) 2 c.args.store.now c.take_two.new.store c.value_of_two-made.new.store c.release.new.store
    c.args.stack.now c.take_two.new.stack c.put_made.new.stack (b ∷ a ∷ []) (named_by_arguments c.in_ok-arguments.arguments) (dyadic_value c.args.origin c.args.f a b) c.value_of_two-made.result c.put_made.result refl
    c.requires.held c.in_ok-arguments.ensures.takes.taken made c.release.ensures c.put_made.ensures (gives_two c.args.origin c.args.f c.args.place a b) in
    record { step = s.step; moves = s.moves; halted = s.halted; limit = c.release.ensures.limit ∙ c.value_of_two-made.ensures.follows.limit ∙ c.take_two.ensures.limit }

use Rattle.std.proofs.Common.{ℤ, pos, [], ◌∷◌, refl, ◌∙◌}
use Rattle.leaf_names.specs.Variables.{array_of}
use Rattle.apl_model.specs.Product.{inner}
use Rattle.apl_compile.specs.declared.codes.Op.TheVariants.{Inner}
use Rattle.leaf_steps.specs.Taking.{named_by_arguments}
use Rattle.leaf_steps.proofs.GivesLemmas.{gives_inner}
use Rattle.leaf_steps.proofs.StepLemmas.{given, given_leaf, arguments_held, made_step}
use Rattle.leaf_steps.proofs.products.inner_product.Goals as goal

pub release-requires : goal.release-requires
release-requires c =
    let a = array_of c.take_two.new.store c.in_ok-arguments.arguments.left in
    let b = array_of c.take_two.new.store c.in_ok-arguments.arguments.right in
    arguments_held c.args.store.now c.take_two.new.store c.multiplied-made.new.store c.args.stack.now c.take_two.new.stack (b ∷ a ∷ []) (named_by_arguments c.in_ok-arguments.arguments)
    (inner c.args.f c.args.g a b) c.multiplied-made.result c.requires.held c.in_ok-arguments.ensures.takes.taken c.multiplied-made.ensures

pub put_made-requires : goal.put_made-requires
put_made-requires c =
    let a = array_of c.take_two.new.store c.in_ok-arguments.arguments.left in
    let b = array_of c.take_two.new.store c.in_ok-arguments.arguments.right in
    let g = given c.args.store.now c.take_two.new.store c.multiplied-made.new.store c.release.new.store c.args.stack.now c.take_two.new.stack (b ∷ a ∷ []) (named_by_arguments c.in_ok-arguments.arguments)
    (inner c.args.f c.args.g a b) c.multiplied-made.result c.requires.held c.in_ok-arguments.ensures.takes.taken c.multiplied-made.ensures c.release.ensures in
    record {
      leaf = given_leaf c.args.store.now c.release.new.store c.args.stack.now c.take_two.new.stack (b ∷ a ∷ []) (inner c.args.f c.args.g a b) c.multiplied-made.result g;
      lawful = g.moves.lawful;
    }

pub returns : goal.returns
returns c =
    let a = array_of c.take_two.new.store c.in_ok-arguments.arguments.left in
    let b = array_of c.take_two.new.store c.in_ok-arguments.arguments.right in
    let s = λ (origin : ℤ). made_step origin (record { place = c.args.place; op = Inner c.args.f c.args.g }) 2 c.args.store.now c.take_two.new.store c.multiplied-made.new.store c.release.new.store
    c.args.stack.now c.take_two.new.stack c.put_made.new.stack (b ∷ a ∷ []) (named_by_arguments c.in_ok-arguments.arguments) (inner c.args.f c.args.g a b) c.multiplied-made.result c.put_made.result refl
    c.requires.held c.in_ok-arguments.ensures.takes.taken c.multiplied-made.ensures c.release.ensures c.put_made.ensures (gives_inner origin c.args.f c.args.g c.args.place a b) in
    record { step = λ origin. (s origin).step; moves = (s (pos 0)).moves; halted = λ origin. (s origin).halted; limit = c.release.ensures.limit ∙ c.multiplied-made.ensures.follows.limit ∙ c.take_two.ensures.limit }

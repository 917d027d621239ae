use Rattle.std.proofs.Common.{[], ◌∷◌, refl, ◌∙◌}
use Rattle.leaf_names.specs.Variables.{array_of}
use Rattle.apl_model.specs.declared.functions.DyaFn.TheVariants.{Take}
use Rattle.apl_model.specs.Made.{take_or_pad}
use Rattle.apl_compile.specs.declared.codes.Op.TheVariants.{Dya}
use Rattle.leaf_steps.specs.Taking.{named_by_arguments}
use Rattle.leaf_steps.proofs.GivesLemmas.{gives_two}
use Rattle.leaf_steps.proofs.MakingLemmas.{made_by}
use Rattle.leaf_steps.proofs.StepLemmas.{given, given_leaf, arguments_held, put_step}
use Rattle.taking_steps.proofs.twos.overtake_newest.Goals as goal

pub release-requires : goal.release-requires
release-requires c =
    let a = array_of c.take_two.new.store c.in_ok-arguments.arguments.left in
    let b = array_of c.take_two.new.store c.in_ok-arguments.arguments.right in
    let made = made_by c.take_two.new.store c.overtake-made.new.store _ (take_or_pad a b) c.overtake-made.result c.overtake-made.ensures.made in
    arguments_held c.args.store.now c.take_two.new.store c.overtake-made.new.store c.args.stack.now c.take_two.new.stack (b ∷ a ∷ []) (named_by_arguments c.in_ok-arguments.arguments)
    (take_or_pad a b) c.overtake-made.result c.requires.held c.in_ok-arguments.ensures.takes.taken made

pub put_made-requires : goal.put_made-requires
put_made-requires c =
    let a = array_of c.take_two.new.store c.in_ok-arguments.arguments.left in
    let b = array_of c.take_two.new.store c.in_ok-arguments.arguments.right in
    let made = made_by c.take_two.new.store c.overtake-made.new.store _ (take_or_pad a b) c.overtake-made.result c.overtake-made.ensures.made in
    let g = given c.args.store.now c.take_two.new.store c.overtake-made.new.store c.release.new.store c.args.stack.now c.take_two.new.stack (b ∷ a ∷ []) (named_by_arguments c.in_ok-arguments.arguments)
    (take_or_pad a b) c.overtake-made.result c.requires.held c.in_ok-arguments.ensures.takes.taken made c.release.ensures in
    record {
      leaf = given_leaf c.args.store.now c.release.new.store c.args.stack.now c.take_two.new.stack (b ∷ a ∷ []) (take_or_pad a b) c.overtake-made.result g;
      lawful = g.moves.lawful;
    }

pub returns : goal.returns
returns c =
    let a = array_of c.take_two.new.store c.in_ok-arguments.arguments.left in
    let b = array_of c.take_two.new.store c.in_ok-arguments.arguments.right in
    let made = made_by c.take_two.new.store c.overtake-made.new.store _ (take_or_pad a b) c.overtake-made.result c.overtake-made.ensures.made in
    let g = given c.args.store.now c.take_two.new.store c.overtake-made.new.store c.release.new.store c.args.stack.now c.take_two.new.stack (b ∷ a ∷ []) (named_by_arguments c.in_ok-arguments.arguments)
    (take_or_pad a b) c.overtake-made.result c.requires.held c.in_ok-arguments.ensures.takes.taken made c.release.ensures in
    let s = put_step c.args.origin (record { place = c.args.place; op = Dya Take }) 2 c.args.store.now c.release.new.store c.args.stack.now c.take_two.new.stack c.put_made.new.stack (b ∷ a ∷ [])
    (take_or_pad a b) c.overtake-made.result c.put_made.result refl g c.put_made.ensures (gives_two c.args.origin Take c.args.place a b) in
    record { step = s.step; moves = s.moves; halted = s.halted; limit = c.release.ensures.limit ∙ made.follows.limit ∙ c.take_two.ensures.limit }

use Rattle.std.proofs.Common.{ℤ, [], ◌∷◌, refl, subst, ◌∙◌}
use Rattle.std.proofs.lemmas.Int.{to_z-of_z}
use mir.Syntax.{w128}
use Rattle.drag_along.specs.Nodes.{named_by_leaf}
use Rattle.leaf_names.specs.Variables.{array_of}
use Rattle.apl_model.specs.Evaluation.{monadic_value}
use Rattle.apl_compile.specs.declared.codes.Op.TheVariants.{Mon}
use Rattle.leaf_steps.specs.Making.{IsMade}
use Rattle.leaf_steps.proofs.GivesLemmas.{gives_one}
use Rattle.leaf_steps.proofs.StepLemmas.{given, given_leaf, arguments_held, made_step}
use Rattle.leaf_steps.proofs.ones.made_one.Goals as goal

pub release-requires : goal.release-requires
release-requires c =
    let b = array_of c.take_one.new.store c.in_ok-b.b in
    let made = subst (λ (z : ℤ). IsMade c.take_one.new.store c.value_of_one-made.new.store (monadic_value z c.args.f b) c.value_of_one-made.result) (to_z-of_z w128 c.args.origin c.ranges.origin) c.value_of_one-made.ensures in
    arguments_held c.args.store.now c.take_one.new.store c.value_of_one-made.new.store c.args.stack.now c.take_one.new.stack (b ∷ []) (named_by_leaf c.in_ok-b.b)
    (monadic_value c.args.origin c.args.f b) c.value_of_one-made.result c.requires.held c.in_ok-b.ensures.takes.taken made

pub put_made-requires : goal.put_made-requires
put_made-requires c =
    let b = array_of c.take_one.new.store c.in_ok-b.b in
    let made = subst (λ (z : ℤ). IsMade c.take_one.new.store c.value_of_one-made.new.store (monadic_value z c.args.f b) c.value_of_one-made.result) (to_z-of_z w128 c.args.origin c.ranges.origin) c.value_of_one-made.ensures in
    let g = given c.args.store.now c.take_one.new.store c.value_of_one-made.new.store c.release.new.store c.args.stack.now c.take_one.new.stack (b ∷ []) (named_by_leaf c.in_ok-b.b)
    (monadic_value c.args.origin c.args.f b) c.value_of_one-made.result c.requires.held c.in_ok-b.ensures.takes.taken made c.release.ensures.follows in
    record {
      leaf = given_leaf c.args.store.now c.release.new.store c.args.stack.now c.take_one.new.stack (b ∷ []) (monadic_value c.args.origin c.args.f b) c.value_of_one-made.result g;
      lawful = g.moves.lawful;
    }

pub returns : goal.returns
returns c =
    let b = array_of c.take_one.new.store c.in_ok-b.b in
    let made = subst (λ (z : ℤ). IsMade c.take_one.new.store c.value_of_one-made.new.store (monadic_value z c.args.f b) c.value_of_one-made.result) (to_z-of_z w128 c.args.origin c.ranges.origin) c.value_of_one-made.ensures in
    let s = made_step c.args.origin (record { place = c.args.place; op = Mon c.args.f }) 1 c.args.store.now c.take_one.new.store c.value_of_one-made.new.store c.release.new.store
    c.args.stack.now c.take_one.new.stack c.put_made.new.stack (b ∷ []) (named_by_leaf c.in_ok-b.b) (monadic_value c.args.origin c.args.f b) c.value_of_one-made.result c.put_made.result refl
    c.requires.held c.in_ok-b.ensures.takes.taken made c.release.ensures.follows c.put_made.ensures (gives_one c.args.origin c.args.f c.args.place b) in
    record { step = s.step; moves = s.moves; halted = s.halted; limit = c.release.ensures.follows.limit ∙ c.value_of_one-made.ensures.follows.limit ∙ c.take_one.ensures.limit }

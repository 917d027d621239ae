use Rattle.std.proofs.Common.{ℤ, [], ◌∷◌, refl, subst, ◌∙◌}
use Rattle.std.proofs.lemmas.Int.{to_z-of_z}
use mir.Syntax.{w128}
use Rattle.drag_along.specs.Nodes.{named_by_leaf}
use Rattle.leaf_names.specs.Variables.{array_of}
use Rattle.apl_model.specs.Product.{reduce}
use Rattle.apl_compile.specs.declared.codes.Op.TheVariants.{Red}
use Rattle.leaf_steps.specs.Making.{IsMade}
use Rattle.leaf_steps.proofs.GivesLemmas.{gives_reduction}
use Rattle.leaf_steps.proofs.StepLemmas.{given, given_leaf, arguments_held, made_step}
use Rattle.leaf_steps.proofs.products.reduction.Goals as goal

pub release-requires : goal.release-requires
release-requires c =
    let b = array_of c.take_one.new.store c.in_ok-b.b in
    let made = subst (λ (z : ℤ). IsMade c.take_one.new.store c.reduced-made.new.store (reduce z c.args.f c.args.axis b) c.reduced-made.result) (to_z-of_z w128 c.args.origin c.ranges.origin) c.reduced-made.ensures in
    arguments_held c.args.store.now c.take_one.new.store c.reduced-made.new.store c.args.stack.now c.take_one.new.stack (b ∷ []) (named_by_leaf c.in_ok-b.b)
    (reduce c.args.origin c.args.f c.args.axis b) c.reduced-made.result c.requires.held c.in_ok-b.ensures.takes.taken made

pub put_made-requires : goal.put_made-requires
put_made-requires c =
    let b = array_of c.take_one.new.store c.in_ok-b.b in
    let made = subst (λ (z : ℤ). IsMade c.take_one.new.store c.reduced-made.new.store (reduce z c.args.f c.args.axis b) c.reduced-made.result) (to_z-of_z w128 c.args.origin c.ranges.origin) c.reduced-made.ensures in
    let g = given c.args.store.now c.take_one.new.store c.reduced-made.new.store c.release.new.store c.args.stack.now c.take_one.new.stack (b ∷ []) (named_by_leaf c.in_ok-b.b)
    (reduce c.args.origin c.args.f c.args.axis b) c.reduced-made.result c.requires.held c.in_ok-b.ensures.takes.taken made c.release.ensures.follows in
    record {
      leaf = given_leaf c.args.store.now c.release.new.store c.args.stack.now c.take_one.new.stack (b ∷ []) (reduce c.args.origin c.args.f c.args.axis b) c.reduced-made.result g;
      lawful = g.moves.lawful;
    }

pub returns : goal.returns
returns c =
    let b = array_of c.take_one.new.store c.in_ok-b.b in
    let made = subst (λ (z : ℤ). IsMade c.take_one.new.store c.reduced-made.new.store (reduce z c.args.f c.args.axis b) c.reduced-made.result) (to_z-of_z w128 c.args.origin c.ranges.origin) c.reduced-made.ensures in
    let s = made_step c.args.origin (record { place = c.args.place; op = Red c.args.f c.args.axis }) 1 c.args.store.now c.take_one.new.store c.reduced-made.new.store c.release.new.store
    c.args.stack.now c.take_one.new.stack c.put_made.new.stack (b ∷ []) (named_by_leaf c.in_ok-b.b) (reduce c.args.origin c.args.f c.args.axis b) c.reduced-made.result c.put_made.result refl
    c.requires.held c.in_ok-b.ensures.takes.taken made c.release.ensures.follows c.put_made.ensures (gives_reduction c.args.origin c.args.f c.args.axis c.args.place b) in
    record { step = s.step; moves = s.moves; halted = s.halted; limit = c.release.ensures.follows.limit ∙ c.reduced-made.ensures.follows.limit ∙ c.take_one.ensures.limit }

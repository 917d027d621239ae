use Rattle.std.proofs.Common.{◌≡◌, ℕ, Some, sym, ap, ◌∙◌, subst}
use Rattle.std.specs.Option.{option_copied}
use Rattle.array_store.specs.Follows.{Follows, none}
use Rattle.drag_along.specs.declared.leaves.Leaf.{Leaf}
use Rattle.drag_along.specs.Nodes.{named_by_leaf}
use Rattle.leaf_names.specs.Variables.{FillsOwner}
use Rattle.names_use.proofs.SoundLemmas.{came_beside, set_sound, found_lawful, may_be_held, held_counts, beside_fills}
use Rattle.names_use.proofs.uses.share.Goals as goal

pub held-leaf-requires-clause-lawful : goal.held-leaf-requires-clause-lawful
held-leaf-requires-clause-lawful c = found_lawful c.args.store.now c.args.names.now c.args.from.now c.in-Some.found.now c.requires.sound (sym c.get.ensures ∙ ap option_copied c.in-Some.is)

pub held-leaf-requires-clause-holders : goal.held-leaf-requires-clause-holders
held-leaf-requires-clause-holders c = λ key named. may_be_held c.args.store.now c.args.names.now c.requires.sound c.depth-depth.ensures.names key

pub set-requires-clause-lawful : goal.set-requires-clause-lawful
set-requires-clause-lawful c = (came_beside c.args.store.now c.held-leaf.new.store c.args.names.now (named_by_leaf c.in-Some.found.now) c.requires.sound c.held-leaf.ensures.follows).lawful

pub returns-clause-sound : goal.returns-clause-sound
returns-clause-sound c =
    let hand =
    came_beside c.args.store.now c.held-leaf.new.store c.args.names.now (named_by_leaf c.held-leaf.result) c.requires.sound
    (subst (λ (l : Leaf). Follows c.args.store.now c.held-leaf.new.store none (named_by_leaf l)) (sym c.held-leaf.ensures.same) c.held-leaf.ensures.follows) in
    set_sound c.set.result c.held-leaf.new.store c.set.new.store c.args.names.now c.set.new.self c.held-leaf.result hand c.set.ensures.follows c.set.ensures.lawful c.set.ensures.fills c.set.ensures.unchanged c.set.ensures.released

pub returns-clause-free : goal.returns-clause-free
returns-clause-free c =
    let hand = came_beside c.args.store.now c.held-leaf.new.store c.args.names.now (named_by_leaf c.in-Some.found.now) c.requires.sound c.held-leaf.ensures.follows in
    let fills = beside_fills c.held-leaf.new.store c.args.names.now c.args.from.now c.in-Some.found.now (named_by_leaf c.in-Some.found.now) hand (sym c.get.ensures ∙ ap option_copied c.in-Some.is) in
    c.set.ensures.free (subst (FillsOwner c.held-leaf.new.store) (sym c.held-leaf.ensures.same) fills) ∙ held_counts c.args.store.now c.held-leaf.new.store c.in-Some.found.now c.held-leaf.ensures.held

use Rattle.std.proofs.Common.{◌≡◌, ℕ, Err, sym, ap, ◌∙◌, subst}
use Rattle.array_store.specs.Follows.{LeafCounts, Follows, none}
use Rattle.drag_along.specs.Nodes.{named_by_leaf}
use Rattle.e_machine.specs.Forced.{named_by_answer}
use Rattle.names_use.proofs.SoundLemmas.{came_beside, none_came, set_sound}
use Rattle.names_use.proofs.uses.set_copies.Goals as goal

pub returns-in_err-leaf : goal.returns-in_err-leaf
returns-in_err-leaf c = record {
  sound = none_came c.own.new.store c.args.names.now (came_beside c.args.store.now c.own.new.store c.args.names.now none c.requires.sound c.in_err-leaf.ensures.follows);
}

pub set-requires-clause-lawful : goal.set-requires-clause-lawful
set-requires-clause-lawful c = (came_beside c.args.store.now c.own.new.store c.args.names.now (named_by_leaf c.in_ok-leaf.leaf) c.requires.sound c.in_ok-leaf.ensures.follows).lawful

pub returns : goal.returns
returns c = record {
  sound =
      set_sound c.set.result c.own.new.store c.set.new.store c.args.names.now c.set.new.self c.in_ok-leaf.leaf
      (came_beside c.args.store.now c.own.new.store c.args.names.now (named_by_leaf c.in_ok-leaf.leaf) c.requires.sound c.in_ok-leaf.ensures.follows)
      c.set.ensures.follows c.set.ensures.lawful c.set.ensures.fills c.set.ensures.unchanged c.set.ensures.released;
}

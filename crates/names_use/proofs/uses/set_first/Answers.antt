use Rattle.std.proofs.Common.{◌≡◌, Some, sym, ap, ◌∙◌, arith}
use Rattle.std.specs.Option.{option_copied}
use Rattle.array_store.specs.Follows.{one_of}
use Rattle.drag_along.specs.declared.leaves.Leaf.{Leaf}
use Rattle.drag_along.specs.declared.leaves.Leaf.TheVariants.{Stored}
use Rattle.drag_along.specs.Lawful.{LiesIn}
use Rattle.names_use.proofs.SoundLemmas.{came_beside, set_sound, found_lawful, may_be_held, first_lies_in, owner_same}
use Rattle.names_use.proofs.uses.set_first.Goals as goal

pub cells-requires : goal.cells-requires
cells-requires c =
    let lies : LiesIn c.args.store.now c.in-Some-Stored.owner c.in-Some-Stored.field-0-1 c.in-Some-Stored.kind =
    found_lawful c.args.store.now c.args.names.now c.args.from.now (Stored c.in-Some-Stored.owner c.in-Some-Stored.field-0-1 c.in-Some-Stored.kind) c.requires.sound
    (sym c.get.ensures ∙ ap option_copied c.in-Some-Stored.is ∙ ap (λ (l : Leaf). Some l) c.in-Some-Stored.field-0-is) in
    lies.live

pub hold-requires-clause-live : goal.hold-requires-clause-live
hold-requires-clause-live c =
    let lies : LiesIn c.args.store.now c.in-Some-Stored.owner c.in-Some-Stored.field-0-1 c.in-Some-Stored.kind =
    found_lawful c.args.store.now c.args.names.now c.args.from.now (Stored c.in-Some-Stored.owner c.in-Some-Stored.field-0-1 c.in-Some-Stored.kind) c.requires.sound
    (sym c.get.ensures ∙ ap option_copied c.in-Some-Stored.is ∙ ap (λ (l : Leaf). Some l) c.in-Some-Stored.field-0-is) in
    lies.live

pub hold-requires-clause-room : goal.hold-requires-clause-room
hold-requires-clause-room c = may_be_held c.args.store.now c.args.names.now c.requires.sound c.depth-depth.ensures.names c.in-Some-Stored.owner

pub set-requires-clause-leaf : goal.set-requires-clause-leaf
set-requires-clause-leaf c =
    let found = sym c.get.ensures ∙ ap option_copied c.in-Some-Stored.is ∙ ap (λ (l : Leaf). Some l) c.in-Some-Stored.field-0-is in
    let lies : LiesIn c.args.store.now c.in-Some-Stored.owner c.in-Some-Stored.field-0-1 c.in-Some-Stored.kind =
    found_lawful c.args.store.now c.args.names.now c.args.from.now (Stored c.in-Some-Stored.owner c.in-Some-Stored.field-0-1 c.in-Some-Stored.kind) c.requires.sound
    (sym c.get.ensures ∙ ap option_copied c.in-Some-Stored.is ∙ ap (λ (l : Leaf). Some l) c.in-Some-Stored.field-0-is) in
    first_lies_in c.args.store.now c.hold.new.self c.in-Some-Stored.owner c.in-Some-Stored.field-0-1 c.one.result c.in-Some-Stored.kind lies
    (owner_same c.args.store.now c.hold.new.self c.args.names.now c.args.from.now c.in-Some-Stored.owner c.in-Some-Stored.field-0-1 c.in-Some-Stored.kind (one_of c.in-Some-Stored.owner) c.requires.sound c.hold.ensures.follows found)
    c.one.ensures.shape c.one.ensures.number (omega (arith, c.cells.ensures, c.if-cells-eq0.false))

pub set-requires-clause-lawful : goal.set-requires-clause-lawful
set-requires-clause-lawful c = (came_beside c.args.store.now c.hold.new.self c.args.names.now (one_of c.in-Some-Stored.owner) c.requires.sound c.hold.ensures.follows).lawful

pub returns : goal.returns
returns c = record {
  sound =
      set_sound c.set.result c.hold.new.self c.set.new.store c.args.names.now c.set.new.self (Stored c.in-Some-Stored.owner c.one.result c.in-Some-Stored.kind)
      (came_beside c.args.store.now c.hold.new.self c.args.names.now (one_of c.in-Some-Stored.owner) c.requires.sound c.hold.ensures.follows)
      c.set.ensures.follows c.set.ensures.lawful c.set.ensures.fills c.set.ensures.unchanged c.set.ensures.released;
}

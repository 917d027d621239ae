use Rattle.std.proofs.Common.{◌≡◌, ℕ, List, Some, sym, ap, ◌∙◌, subst}
use Rattle.std.specs.Option.{option_copied}
use Rattle.array_desc.specs.Desc.{DescView}
use Rattle.array_store.specs.Follows.{Follows, none}
use Rattle.drag_along.specs.declared.leaves.Leaf.{Leaf}
use Rattle.drag_along.specs.declared.leaves.Leaf.TheVariants.{Stored}
use Rattle.drag_along.specs.Lawful.{LiesIn}
use Rattle.drag_along.specs.Nodes.{named_by_leaf}
use Rattle.leaf_names.specs.Variables.{FillsOwner}
use Rattle.names_use.proofs.SoundLemmas.{came_beside, set_sound, found_lawful, may_be_held, held_counts, beside_fills, selected_lies, as_large_fills}
use Rattle.names_use.proofs.uses.set_reversed.Goals as goal

pub held-leaf-requires-clause-lawful : goal.held-leaf-requires-clause-lawful
held-leaf-requires-clause-lawful c =
    let found = sym c.get.ensures ∙ ap option_copied c.in-Some-Stored.is ∙ ap (λ (l : Leaf). Some l) c.in-Some-Stored.field-0-is in
    let lies : LiesIn c.args.store.now c.in-Some-Stored.owner c.in-Some-Stored.desc c.in-Some-Stored.kind =
    found_lawful c.args.store.now c.args.names.now c.args.from.now (Stored c.in-Some-Stored.owner c.in-Some-Stored.desc c.in-Some-Stored.kind) c.requires.sound found in
    selected_lies c.args.store.now c.in-Some-Stored.owner c.copy-reversed.result c.reverse.new.self c.in-Some-Stored.kind _ _ c.reverse.ensures.selects
    (subst (λ (d : DescView). LiesIn c.args.store.now c.in-Some-Stored.owner d c.in-Some-Stored.kind) (sym c.copy-reversed.ensures.same) lies)

pub held-leaf-requires-clause-holders : goal.held-leaf-requires-clause-holders
held-leaf-requires-clause-holders c = λ key named. may_be_held c.args.store.now c.args.names.now c.requires.sound c.depth-depth.ensures.names key

pub set-requires-clause-lawful : goal.set-requires-clause-lawful
set-requires-clause-lawful c =
    (came_beside c.args.store.now c.held-leaf.new.store c.args.names.now (named_by_leaf (Stored c.in-Some-Stored.owner c.reverse.new.self c.in-Some-Stored.kind)) c.requires.sound c.held-leaf.ensures.follows).lawful

pub returns-clause-sound : goal.returns-clause-sound
returns-clause-sound c =
    let hand =
    came_beside c.args.store.now c.held-leaf.new.store c.args.names.now (named_by_leaf c.held-leaf.result) c.requires.sound
    (subst (λ (l : Leaf). Follows c.args.store.now c.held-leaf.new.store none (named_by_leaf l)) (sym c.held-leaf.ensures.same) c.held-leaf.ensures.follows) in
    set_sound c.set.result c.held-leaf.new.store c.set.new.store c.args.names.now c.set.new.self c.held-leaf.result hand c.set.ensures.follows c.set.ensures.lawful c.set.ensures.fills c.set.ensures.unchanged c.set.ensures.released

pub returns-clause-free : goal.returns-clause-free
returns-clause-free c =
    let found = sym c.get.ensures ∙ ap option_copied c.in-Some-Stored.is ∙ ap (λ (l : Leaf). Some l) c.in-Some-Stored.field-0-is in
    let old : Leaf = Stored c.in-Some-Stored.owner c.in-Some-Stored.desc c.in-Some-Stored.kind in
    let turned : Leaf = Stored c.in-Some-Stored.owner c.reverse.new.self c.in-Some-Stored.kind in
    let new = c.held-leaf.new.store in
    let hand = came_beside c.args.store.now new c.args.names.now (named_by_leaf turned) c.requires.sound c.held-leaf.ensures.follows in
    let fills : FillsOwner new old = beside_fills new c.args.names.now c.args.from.now old (named_by_leaf turned) hand found in
    let as_large : FillsOwner new turned =
    as_large_fills new c.in-Some-Stored.owner c.in-Some-Stored.desc c.reverse.new.self c.in-Some-Stored.kind
    (c.reverse.ensures.selects.shape ∙ ap (λ (d : DescView). d.shape) c.copy-reversed.ensures.same) fills in
    c.set.ensures.free (subst (FillsOwner new) (sym c.held-leaf.ensures.same) as_large) ∙ held_counts c.args.store.now new turned c.held-leaf.ensures.held

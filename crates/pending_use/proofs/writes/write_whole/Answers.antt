use mir.Syntax.{w128}
use Rattle.std.proofs.Common.{◌≡◌, ◌<◌, ℤ, to_z, of_z, length, slice_set, sym, subst, arith}
use Rattle.std.proofs.lemmas.Int.{to_z-of_z}
use Rattle.apl_base.specs.declared.cells.Kind.{Kind}
use Rattle.apl_base.specs.Array.{Array}
use Rattle.array_store.specs.Stores.{StoreView, cells_of}
use Rattle.drag_along.specs.Views.{IsWholeView, owner_array, StandsForArray}
use Rattle.drag_along.proofs.ViewLemmas.{written_view_stands}
use Rattle.value_stack.specs.Stacks.{entries, IsLawfulStack}
use Rattle.value_stack.proofs.EntriesLemmas.{unread_written}
use Rattle.pending_use.proofs.writes.write_whole.Goals as goal

pub returns-clause-written : goal.returns-clause-written
returns-clause-written c =
    let view : IsWholeView c.args.owner c.args.shape.now _ c.whole_view-view.result =
    subst (λ (kind : Kind). IsWholeView c.args.owner c.args.shape.now kind c.whole_view-view.result) c.kind.ensures.value c.whole_view-view.ensures in
    let owned = owner_array c.args.store.now c.args.owner c.args.shape.now in
    let cell : ℤ = to_z w128 (of_z w128 c.args.cell) in
    let written : ℤ → Array = λ z. record owned { cells = slice_set (cells_of c.args.store.now c.args.owner) c.args.place z } in
    subst (λ (z : ℤ). StandsForArray c.write.new.self c.whole_view-view.result (written z)) (to_z-of_z w128 _ c.ranges.cell)
    (subst (λ (s : StoreView). StandsForArray s c.whole_view-view.result (written cell)) (sym c.write.ensures.written)
    (written_view_stands c.args.store.now c.args.owner c.args.shape.now c.whole_view-view.result c.args.place cell c.requires.fills view))

pub returns-clause-lawful : goal.returns-clause-lawful
returns-clause-lawful c = λ holds lawful.
    let below : c.args.place < length (cells_of c.args.store.now c.args.owner) = omega (arith, c.requires.place, c.requires.fills.count) in
    subst (λ (s : StoreView). IsLawfulStack s c.args.stack.now) (sym c.write.ensures.written)
    (unread_written c.args.store.now c.args.stack.now c.args.owner c.args.place _ c.requires.fills.live below holds c.in_default.ensures lawful).0

pub returns-clause-means : goal.returns-clause-means
returns-clause-means c = λ holds lawful.
    let below : c.args.place < length (cells_of c.args.store.now c.args.owner) = omega (arith, c.requires.place, c.requires.fills.count) in
    subst (λ (s : StoreView). entries s c.args.stack.now ≡ entries c.args.store.now c.args.stack.now) (sym c.write.ensures.written)
    (unread_written c.args.store.now c.args.stack.now c.args.owner c.args.place _ c.requires.fills.live below holds c.in_default.ensures lawful).1

use mir.Syntax.{w128}
use Rattle.std.proofs.Common.{ℤ, List, All, length, Some, ap, sym, ◌∙◌, subst}
use Rattle.std.proofs.lemmas.Int.{to_z-of_z}
use Rattle.apl_base.specs.Number.{IsCell}
use Rattle.apl_base.specs.Interval.{InInterval}
use Rattle.array_store.specs.Stores.{IsStore, OwnerView, kind_of, interval_of}
use Rattle.array_store.specs.Places.{cells_along}
use Rattle.array_store.proofs.PlaceLemmas.{All-cells_along}
use Rattle.array_store.proofs.StoreLemmas.{IsOwner-held, owner_along, owner_of-found}
use Rattle.array_store.proofs.storage.Store.fetch_into.Goals as goal

-- the cells that were put are those of the owner
are : goal.returns-clause-cells
are c =
    let from = to_z-of_z w128 _ c.ranges.from in
    let step = to_z-of_z w128 _ c.ranges.step in
    let found = c.index-read.ensures ∙ ap Some (sym c.read.view_is) in
    let now = owner_along _ c.args.self.now c.owner.inside.key c.args.owner _ c.self.view_is c.owner.view_is found in
    let cells = ap (λ (o : OwnerView). o.cells) (owner_of-found c.args.self.now c.args.owner _ now) in
    rw (from, step) at c.copy_along.ensures ∙ ap (λ (cs : List ℤ). cells_along cs c.args.from c.args.step (length c.args.into.now)) (c.as_slice.ensures.value ∙ sym cells)

pub returns-clause-cells : goal.returns-clause-cells
returns-clause-cells c = are c

pub returns-clause-lawful : goal.returns-clause-lawful
returns-clause-lawful c =
    let owner = IsOwner-held c.args.self.now c.args.owner (subst IsStore c.self.view_is c.self.invariant) c.requires.live in
    subst (All (IsCell (kind_of c.args.self.now c.args.owner))) (sym (are c)) (All-cells_along (IsCell (kind_of c.args.self.now c.args.owner)) _ _ _ _ owner.lawful c.requires.places)

pub returns-clause-within : goal.returns-clause-within
returns-clause-within c =
    let owner = IsOwner-held c.args.self.now c.args.owner (subst IsStore c.self.view_is c.self.invariant) c.requires.live in
    subst (All (InInterval (interval_of c.args.self.now c.args.owner))) (sym (are c)) (All-cells_along (InInterval (interval_of c.args.self.now c.args.owner)) _ _ _ _ owner.within c.requires.places)

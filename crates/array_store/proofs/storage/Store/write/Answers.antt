use Rattle.std.proofs.Common.{Some, ap, sym, ◌∙◌, subst, length-set}
use Rattle.std.proofs.lemmas.Int.{to_z-of_z}
use Rattle.apl_base.specs.declared.cells.Kind.{Kind}
use Rattle.apl_base.specs.Number.{IsCell}
use Rattle.array_store.specs.Stores.{OwnerView}
use Rattle.array_store.proofs.StoreLemmas.{IsStore-with_owner, IsOwner-written, owner_along, owner_of-found}
use Rattle.array_store.proofs.storage.Store.write.Goals as goal

pub invariant_of-self : goal.invariant_of-self
invariant_of-self c =
    let found = c.index_mut-written.ensures.value ∙ ap Some (sym c.written.view_is) in
    let owner = c.self.invariant.owners _ _ found in
    let now = owner_along _ c.args.self.now c.owner.inside.key c.args.owner _ c.self.view_is c.owner.view_is found in
    let kind = ap (λ (o : OwnerView). o.kind) (owner_of-found c.args.self.now c.args.owner _ now) in
    let cell = to_z-of_z _ c.args.cell c.ranges.cell in
    let lawful = subst (λ (k : Kind). IsCell k c.args.cell) kind c.requires.lawful in
    let written = subst (IsCell c.written.inside.kind) (sym cell) lawful in
    IsStore-with_owner _ _ _ _ c.self.invariant found (IsOwner-written _ c.args.place _ _ c.widened-written-inside.ensures written owner) (length-set c.written.inside.cells.items _ _)

pub returns-clause-store : goal.returns-clause-store
returns-clause-store c = invariant_of-self c

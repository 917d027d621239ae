use Rattle.std.proofs.Common.{[], Some, ap, sym, ◌∙◌, subst, refl, arith}
use Rattle.array_store.specs.Stores.{OwnerView, StoreView, IsStore}
use Rattle.array_store.specs.Came.{Renews}
use Rattle.array_store.proofs.CameLemmas.{renews_freed, renews_kept_at}
use Rattle.array_store.proofs.StoreLemmas.{IsStore-with_owner, IsStore-without_owner, IsOwner-holders, owner_along, owner_found, owner_of-found}
use Rattle.array_store.proofs.storage.Store.release.Goals as goal

pub invariant_of-self : goal.invariant_of-self
invariant_of-self c =
    let found = c.index_mut-kept.ensures.value ∙ ap Some (sym c.kept.view_is) in
    let owner = c.self.invariant.owners _ _ found in
    let now = owner_along _ c.args.self.now c.owner.inside.key c.args.owner _ c.self.view_is c.owner.view_is found in
    let holders = ap (λ (o : OwnerView). o.holders) (owner_of-found c.args.self.now c.args.owner _ now) in
    IsStore-with_owner _ _ _ _ c.self.invariant found (IsOwner-holders _ _ (omega (arith, holders, c.requires)) owner) refl

pub returns-then-holders-eq1-clause-store : goal.returns-then-holders-eq1-clause-store
returns-then-holders-eq1-clause-store c =
    subst IsStore (sym c.free.ensures) (IsStore-without_owner c.args.self.now c.args.owner _ (subst IsStore c.self.view_is c.self.invariant) (owner_found c.args.self.now c.args.owner c.requires))

pub returns-else-holders-eq1-clause-store : goal.returns-else-holders-eq1-clause-store
returns-else-holders-eq1-clause-store c = invariant_of-self c

pub returns-then-holders-eq1-clause-renews : goal.returns-then-holders-eq1-clause-renews
returns-then-holders-eq1-clause-renews c =
    subst (λ (s : StoreView). Renews c.args.self.now s []) (sym c.free.ensures) (renews_freed c.args.self.now c.args.owner c.requires)

pub returns-else-holders-eq1-clause-renews : goal.returns-else-holders-eq1-clause-renews
returns-else-holders-eq1-clause-renews c =
    let found = c.index_mut-kept.ensures.value ∙ ap Some (sym c.kept.view_is) in
    let held = (c.self.invariant.owners _ _ found).held in
    renews_kept_at c.args.self.now _ _ c.owner.inside.key _ _ c.self.view_is found held refl refl

use Rattle.std.proofs.Common.{Some, ap, sym, ◌∙◌, refl, arith}
use Rattle.array_store.proofs.StoreLemmas.{IsStore-with_owner, IsOwner-holders}
use Rattle.array_store.proofs.storage.Store.hold.Goals as goal

pub invariant_of-self : goal.invariant_of-self
invariant_of-self c =
    let found = c.index_mut-held.ensures.value ∙ ap Some (sym c.held.view_is) in
    let owner = c.self.invariant.owners _ _ found in
    IsStore-with_owner _ _ _ _ c.self.invariant found (IsOwner-holders _ _ (omega arith) owner) refl

pub returns-clause-store : goal.returns-clause-store
returns-clause-store c = invariant_of-self c

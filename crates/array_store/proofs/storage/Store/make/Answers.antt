use Rattle.std.proofs.Common.{length, vec_len, ◌≡◌, ap, sym, ◌∙◌, refl, arith}
use Rattle.apl_base.specs.Interval.{exact_interval}
use Rattle.array_store.specs.Stores.{StoreView}
use Rattle.array_store.proofs.StoreLemmas.{IsStore-added, IsOwner-made}
use Rattle.array_store.proofs.storage.Store.make.Goals as goal

pub invariant_of-self-2 : goal.invariant_of-self-2
invariant_of-self-2 c =
    let exact = c.least_to_greatest-interval.ensures ∙ ap exact_interval c.as_slice.ensures.value in
    let owner = IsOwner-made c.args.cells.items c.args.kind _ exact c.requires.lawful in
    let len : length c.args.cells.items ≡ vec_len c.args.cells = ap length (sym c.as_slice.ensures.value) ∙ c.as_slice.ensures.len in
    let live = ap (λ (s : StoreView). s.live) c.self.view_is in
    let limit = ap (λ (s : StoreView). s.limit) c.self.view_is in
    IsStore-added _ _ c.in-Ok.key _ c.self.invariant owner (omega (arith, live, limit, len, c.requires.room)) c.in-Ok.ensures.was_vacant c.in-Ok.ensures.updates.changed c.in-Ok.ensures.updates.others (omega (arith, len, c.len-count.ensures)) refl
    (record { fetched = c.self.invariant.counts.fetched; made = omega (arith, c.saturating_add-self-inside.ensures); applied = c.self.invariant.counts.applied })

pub returns-clause-store : goal.returns-clause-store
returns-clause-store c = invariant_of-self-2 c

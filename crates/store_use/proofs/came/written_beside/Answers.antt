use Rattle.std.proofs.Common.{[], ◌∷◌, arith, sym, subst, length}
use Rattle.array_store.specs.Stores.{StoreView, cells_of}
use Rattle.array_store.specs.Came.{Came, Renews}
use Rattle.array_store.proofs.CameLemmas.{renews_written, renews_counted, renews_then}
use Rattle.store_use.proofs.came.written_beside.Goals as goal

pub returns-clause-came : goal.returns-clause-came
returns-clause-came c =
    let one : Came = record { key = c.args.owner; cells = length (cells_of c.args.store.now c.args.owner) } in
    let written = renews_written c.args.store.now c.args.owner c.args.place _ (omega (arith, c.requires.alone)) in
    renews_then _ _ _ (one ∷ []) [] (subst (λ (s : StoreView). Renews c.args.store.now s (one ∷ [])) (sym c.write.ensures.written) written)
    (renews_counted _ _ c.fetch.ensures.only.only)

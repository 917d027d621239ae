use Rattle.std.proofs.Common.{[], ◌≡◌, length, vec_len, refl, ap, ◌∙◌, arith, rules, subst, sym}
use Rattle.array_store.specs.Stores.{StoreView}
use Rattle.array_store.specs.Came.{Renews}
use Rattle.array_store.proofs.CameLemmas.{renews_nothing}
use Rattle.array_store.proofs.CountingLemmas.{costs_nothing, costs_then, costs_more, costs_made}
use Rattle.store_use.proofs.Passing.{none_came}
use Rattle.store_use.proofs.came.made_held_and_let_go.Goals as goal

pub returns-in_err-owner-clause-came : goal.returns-in_err-owner-clause-came
returns-in_err-owner-clause-came c =
    subst (λ (s : StoreView). Renews c.args.store.now s []) (sym c.in_err-owner.ensures.unchanged) (renews_nothing c.args.store.now)

pub returns-clause-came : goal.returns-clause-came
returns-clause-came c =
    none_came _ _ _ _ _ _ _ (record { makes = c.in_ok-owner.ensures.made; one_holder = refl; holds = c.hold.ensures.held; lets_go = c.release.ensures.kept; frees = c.release-2.ensures.freed })

pub returns-in_err-owner-clause-costs : goal.returns-in_err-owner-clause-costs
returns-in_err-owner-clause-costs c =
    costs_more _ _ 0 0 0 _ 0 0 (omega arith) (omega arith) (omega arith)
    (costs_nothing _ _ (ap (λ (s : StoreView). s.counts) c.in_err-owner.ensures.unchanged))

pub returns-clause-costs : goal.returns-clause-costs
returns-clause-costs c =
    let len : length c.args.cells.items ≡ vec_len c.args.cells = search rules in
    let held : c.hold.new.self.counts ≡ c.make.new.self.counts = ap (λ (s : StoreView). s.counts) c.hold.ensures.held in
    let later = costs_nothing c.make.new.self c.release-2.new.self (c.release-2.ensures.counts ∙ c.release.ensures.counts ∙ held) in
    costs_more _ _ 0 0 _ _ 0 0 (omega arith) (omega (arith, len)) (omega arith)
    (costs_then _ _ _ 0 0 _ 0 0 0 (costs_made _ _ _ _ c.counts-counts.ensures.store.counts c.in_ok-owner.ensures.made) later)

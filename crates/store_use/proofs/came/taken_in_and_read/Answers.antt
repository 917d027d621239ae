use Rattle.std.proofs.Common.{◌≡◌, ℕ, List, ℤ, [], ◌∷◌, ◌++◌, length, vec_len, pos, ap, sym, ◌∙◌, subst, arith, rules}
use Rattle.array_store.specs.Stores.{OwnerView, StoreView, holders_of}
use Rattle.array_store.specs.Places.{cells_along}
use Rattle.array_store.specs.Came.{Came, Renews}
use Rattle.array_store.proofs.StoreLemmas.{owner_of-found}
use Rattle.array_store.proofs.CameLemmas.{renews_made, renews_counted, renews_then}
use Rattle.array_store.proofs.CountingLemmas.{costs_made, costs_fetched, costs_computed, costs_then, costs_more}
use Rattle.array_store.proofs.PlaceLemmas.{whole_run}
use Rattle.store_use.proofs.came.taken_in_and_read.Goals as goal

-- as many cells as there are, from the first on, are all of them
all_read : (xs ys : List ℤ) (n : ℕ) → xs ≡ ys → n ≡ length ys → cells_along xs (pos 0) (pos 1) n ≡ ys
all_read xs ys n same many =
    ap (λ (zs : List ℤ). cells_along zs (pos 0) (pos 1) n) same ∙ ap (cells_along ys (pos 0) (pos 1)) many ∙ whole_run ys

pub returns-clause-read : goal.returns-clause-read
returns-clause-read c =
    let cells = ap (λ (o : OwnerView). o.cells) (owner_of-found c.make.new.self c.in_ok-owner.owner _ c.in_ok-owner.ensures.made.made) in
    let len : length c.args.cells.items ≡ vec_len c.args.cells = search rules in
    c.fetch_run.ensures.cells ∙ ap (λ (xs : List ℤ). c.args.into.now.items ++ xs) (all_read _ c.args.cells.items _ cells (c.len-count.ensures ∙ sym len))

pub returns-clause-came : goal.returns-clause-came
returns-clause-came c =
    let len : length c.args.cells.items ≡ vec_len c.args.cells = search rules in
    let made = renews_made c.args.store.now c.make.new.self c.in_ok-owner.owner _ c.in_ok-owner.ensures.made in
    let fetched = renews_counted c.make.new.self c.fetch_run.new.self c.fetch_run.ensures.only.only in
    let applied = renews_counted c.fetch_run.new.self c.count_applied_many.new.self c.count_applied_many.ensures.only.only in
    let all = renews_then _ _ _ _ [] made (renews_then _ _ _ [] [] fetched applied) in
    let one : ℕ → Came = λ n. record { key = c.in_ok-owner.owner; cells = n } in
    subst (λ n. Renews c.args.store.now c.count_applied_many.new.self (one n ∷ [])) len all

pub returns-clause-held : goal.returns-clause-held
returns-clause-held c =
    let holders = ap (λ (o : OwnerView). o.holders) (owner_of-found c.make.new.self c.in_ok-owner.owner _ c.in_ok-owner.ensures.made.made) in
    ap (λ (s : StoreView). holders_of s c.in_ok-owner.owner) c.count_applied_many.ensures.counted
    ∙ ap (λ (s : StoreView). holders_of s c.in_ok-owner.owner) c.fetch_run.ensures.counted ∙ holders

pub returns-clause-costs : goal.returns-clause-costs
returns-clause-costs c =
    let len : length c.args.cells.items ≡ vec_len c.args.cells = search rules in
    let made = costs_made c.args.store.now c.make.new.self _ _ c.counts-counts.ensures.store.counts c.in_ok-owner.ensures.made in
    let fetched = costs_fetched c.make.new.self c.fetch_run.new.self _ c.fetch_run.ensures.only in
    let applied = costs_computed c.fetch_run.new.self c.count_applied_many.new.self _ 0 c.count_applied_many.ensures.only in
    let all = costs_then _ _ _ 0 _ _ 0 0 _ made (costs_then _ _ _ _ 0 0 0 0 _ fetched applied) in
    costs_more _ _ _ _ _ _ _ _ (omega (arith, c.len-count.ensures)) (omega (arith, len)) (omega (arith, c.len-count.ensures)) all

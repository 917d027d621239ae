-- An owner that is made, held once more, let go and freed, from what each call says of the store.
use Rattle.std.proofs.Common.{◌≡◌, ℕ, zero, suc, ◌+◌, ◌-◌, ◌<◌, [], ◌∷◌, length, get_or, Option, unwrap_or, sym, ap, ◌∙◌, subst, inl, inr, arith}
use Rattle.array_store.specs.Stores.{OwnerView, StoreView, Makes, no_owner, owner_at, holders_of, with_holders, without_owner}
use Rattle.array_store.specs.Came.{Came, Renews}
use Rattle.array_store.proofs.StoreLemmas.{owner_at-with_holders, owner_at-without_owner, owner_of-found}
use Rattle.array_store.proofs.CameLemmas.{renews_made, renews_held, renews_freed, renews_then}

-- the store before, and after each of the calls
pub record Passing (before made held once after : StoreView) (key : ℕ) (o : OwnerView) : Type 0 where
  pub makes : Makes before made key o
  pub one_holder : o.holders ≡ 1
  pub holds : held ≡ with_holders made key (holders_of made key + 1)
  pub lets_go : 1 < holders_of held key → once ≡ with_holders held key (holders_of held key - 1)
  pub frees : holders_of once key ≡ 1 → after ≡ without_owner once key

only_one : (one c : Came) (place : ℕ) → place < 1 → get_or (one ∷ []) place c ≡ c → one ≡ c
only_one one c zero below there = there
only_one one c (suc n) below there = absurd (omega (arith, below))

-- the owner came, and is gone
pub none_came : (before made held once after : StoreView) (key : ℕ) (o : OwnerView) → Passing before made held once after key o → Renews before after []
none_came before made held once after key o p =
    let holders : OwnerView → ℕ = λ q. q.holders in
    let one : Came = record { key = key; cells = length o.cells } in
    let of_made : holders_of made key ≡ o.holders = ap holders (owner_of-found made key o p.makes.made) in
    let at_held = ap (λ (s : StoreView). owner_at s key) p.holds ∙ owner_at-with_holders made key _ o p.makes.made in
    let of_held : holders_of held key ≡ holders_of made key + 1 = ap holders (owner_of-found held key _ at_held) in
    let goes = p.lets_go (omega (arith, of_made, of_held, p.one_holder)) in
    let at_once = ap (λ (s : StoreView). owner_at s key) goes ∙ owner_at-with_holders held key _ _ at_held in
    let of_once : holders_of once key ≡ holders_of held key - 1 = ap holders (owner_of-found once key _ at_once) in
    let frees = p.frees (omega (arith, of_made, of_held, of_once, p.one_holder)) in
    let came : Renews before made (one ∷ []) = renews_made before made key o p.makes in
    let more : Renews made held [] = subst (λ (s : StoreView). Renews made s []) (sym p.holds) (renews_held made key _ (omega (arith, of_made, p.one_holder))) in
    let less : Renews held once [] = subst (λ (s : StoreView). Renews held s []) (sym goes) (renews_held held key _ (omega (arith, of_held))) in
    let freed : Renews once after [] = subst (λ (s : StoreView). Renews once s []) (sym frees) (renews_freed once key (omega (arith, of_made, of_held, of_once, p.one_holder))) in
    let all : Renews before after (one ∷ []) = renews_then _ _ _ (one ∷ []) [] came (renews_then _ _ _ [] [] more (renews_then _ _ _ [] [] less freed)) in
    let gone : holders_of after key ≡ 0 = ap (λ (q : Option OwnerView). (unwrap_or q no_owner).holders) (ap (λ (s : StoreView). owner_at s key) frees ∙ owner_at-without_owner once key _ at_once) in
    record {
      each = λ k live. elim (all.each k live) [
        | inl stayed ↦ inl stayed
        | inr among ↦
            let is : key ≡ k = ap (λ (c : Came). c.key) (only_one one among.0 among.1.0 among.1.1 among.1.2) ∙ among.2 in
            absurd (omega (arith, live, gone, ap (holders_of after) is))
      ];
    }

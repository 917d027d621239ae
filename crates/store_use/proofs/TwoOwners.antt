-- Two owners beside what a store had before, through the calls that change one of them.
use Rattle.std.proofs.Common.{◌≡◌, ◌≢◌, ℕ, ◌+◌, ◌-◌, ◌<◌, ℤ, length, set, Some, None, sym, ap, ◌∙◌, subst, inl, inr, arith, length-set}
use Rattle.std.proofs.lemmas.Bool.{cases_eq}
use Rattle.apl_base.specs.Interval.{hull}
use Rattle.array_store.specs.declared.ids.Counts.{Counts}
use Rattle.array_store.specs.Stores.{OwnerView, StoreView, Makes, owner_at, holders_of, cells_of, with_holders, with_cell, without_owner}
use Rattle.array_store.proofs.StoreLemmas.{owner_at-with_holders, owner_at-with_cell, owner_at-with_owner_other, owner_at-without_owner, owner_at-without_owner_other, owner_of-found}

-- two owners more than before, and nothing else
pub record HasTwo (before s : StoreView) (a b : ℕ) (o p : OwnerView) : Type 0 where
  pub first : owner_at s a ≡ Some o
  pub second : owner_at s b ≡ Some p
  pub apart : b ≢ a
  pub was_free : owner_at before a ≡ None
  pub was_free_too : owner_at before b ≡ None
  pub others : (k : ℕ) → k ≢ a → k ≢ b → owner_at s k ≡ owner_at before k
  pub live : s.live ≡ before.live + length o.cells + length p.cells

-- one owner more than before
pub record HasOne (before s : StoreView) (b : ℕ) (p : OwnerView) : Type 0 where
  pub owner : owner_at s b ≡ Some p
  pub was_free : owner_at before b ≡ None
  pub others : (k : ℕ) → k ≢ b → owner_at s k ≡ owner_at before k
  pub live : s.live ≡ before.live + length p.cells

pub HasTwo-made : (before s t : StoreView) (a b : ℕ) (o p : OwnerView) → Makes before s a o → Makes s t b p → HasTwo before t a b o p
HasTwo-made before s t a b o p m n =
    let apart : b ≢ a = λ same. let none : owner_at s a ≡ None = ap (owner_at s) (sym same) ∙ n.was_free in let some = m.made in cc in
    record {
      first = n.others a (λ same. apart (sym same)) ∙ m.made;
      second = n.made;
      apart = apart;
      was_free = m.was_free;
      was_free_too = sym (m.others b apart) ∙ n.was_free;
      others = λ k i j. n.others k j ∙ m.others k i;
      live = omega (arith, m.live, n.live);
    }

pub HasTwo-held : (before s t : StoreView) (a b n : ℕ) (o p : OwnerView) → HasTwo before s a b o p → t ≡ with_holders s a n → HasTwo before t a b (record o { holders = n }) p
HasTwo-held before s t a b n o p two e =
    record {
      first = ap (λ (x : StoreView). owner_at x a) e ∙ owner_at-with_holders s a n o two.first;
      second = ap (λ (x : StoreView). owner_at x b) e ∙ owner_at-with_owner_other s a b _ two.apart ∙ two.second;
      apart = two.apart;
      was_free = two.was_free;
      was_free_too = two.was_free_too;
      others = λ k i j. ap (λ (x : StoreView). owner_at x k) e ∙ owner_at-with_owner_other s a k _ i ∙ two.others k i j;
      live = ap (λ (x : StoreView). x.live) e ∙ two.live;
    }

pub HasTwo-written : (before s t : StoreView) (a b place : ℕ) (c : ℤ) (o p : OwnerView) → HasTwo before s a b o p → t ≡ with_cell s b place c → HasTwo before t a b o (record p { cells = set p.cells place c; interval = hull p.interval c })
HasTwo-written before s t a b place c o p two e =
    record {
      first = ap (λ (x : StoreView). owner_at x a) e ∙ owner_at-with_owner_other s b a _ (λ same. two.apart (sym same)) ∙ two.first;
      second = ap (λ (x : StoreView). owner_at x b) e ∙ owner_at-with_cell s b place c p two.second;
      apart = two.apart;
      was_free = two.was_free;
      was_free_too = two.was_free_too;
      others = λ k i j. ap (λ (x : StoreView). owner_at x k) e ∙ owner_at-with_owner_other s b k _ j ∙ two.others k i j;
      live = omega (arith, ap (λ (x : StoreView). x.live) e, two.live, length-set p.cells place c);
    }

pub HasTwo-counted : (before s t : StoreView) (a b : ℕ) (counts : Counts) (o p : OwnerView) → HasTwo before s a b o p → t ≡ record s { counts = counts } → HasTwo before t a b o p
HasTwo-counted before s t a b counts o p two e =
    record {
      first = ap (λ (x : StoreView). owner_at x a) e ∙ two.first;
      second = ap (λ (x : StoreView). owner_at x b) e ∙ two.second;
      apart = two.apart;
      was_free = two.was_free;
      was_free_too = two.was_free_too;
      others = λ k i j. ap (λ (x : StoreView). owner_at x k) e ∙ two.others k i j;
      live = ap (λ (x : StoreView). x.live) e ∙ two.live;
    }

-- the first goes
pub HasOne-freed : (before s t : StoreView) (a b : ℕ) (o p : OwnerView) → HasTwo before s a b o p → t ≡ without_owner s a → HasOne before t b p
HasOne-freed before s t a b o p two e =
    let cells : cells_of s a ≡ o.cells = ap (λ (x : OwnerView). x.cells) (owner_of-found s a o two.first) in
    record {
      owner = ap (λ (x : StoreView). owner_at x b) e ∙ owner_at-without_owner_other s a b two.apart ∙ two.second;
      was_free = two.was_free_too;
      others = λ k j. elim (cases_eq k a) [
        | inl same ↦
            ap (owner_at t) same ∙ ap (λ (x : StoreView). owner_at x a) e ∙ owner_at-without_owner s a o two.first ∙ sym two.was_free
            ∙ ap (owner_at before) (sym same)
        | inr differs ↦ ap (λ (x : StoreView). owner_at x k) e ∙ owner_at-without_owner_other s a k differs ∙ two.others k differs j
      ];
      live = omega (arith, ap (λ (x : StoreView). x.live) e, two.live, ap length cells);
    }

-- and the other
pub owners-freed : (before s t : StoreView) (b : ℕ) (p : OwnerView) → HasOne before s b p → t ≡ without_owner s b → (k : ℕ) → owner_at t k ≡ owner_at before k
owners-freed before s t b p one e k =
    elim (cases_eq k b) [
      | inl same ↦
          ap (owner_at t) same ∙ ap (λ (x : StoreView). owner_at x b) e ∙ owner_at-without_owner s b p one.owner ∙ sym one.was_free
          ∙ ap (owner_at before) (sym same)
      | inr differs ↦ ap (λ (x : StoreView). owner_at x k) e ∙ owner_at-without_owner_other s b k differs ∙ one.others k differs
    ]

pub live-freed : (before s t : StoreView) (b : ℕ) (p : OwnerView) → HasOne before s b p → t ≡ without_owner s b → t.live ≡ before.live
live-freed before s t b p one e =
    let cells : cells_of s b ≡ p.cells = ap (λ (x : OwnerView). x.cells) (owner_of-found s b p one.owner) in
    omega (arith, ap (λ (x : StoreView). x.live) e, one.live, ap length cells)

-- an owner that was made is let go: the store has what it had
pub owners-let_go : (before s t : StoreView) (a : ℕ) (o : OwnerView) → Makes before s a o → t ≡ without_owner s a → (k : ℕ) → owner_at t k ≡ owner_at before k
owners-let_go before s t a o m e =
    owners-freed before s t a o (record { owner = m.made; was_free = m.was_free; others = m.others; live = m.live }) e

-- the calls up to the release of the first: two owners, the first with one holder, the second written
pub HasTwo-used : (s0 s1 s2 s3 s4 s5 : StoreView) (a b place : ℕ) (c : ℤ) (o p : OwnerView) → o.holders ≡ 1 → Makes s0 s1 a o → Makes s1 s2 b p → s3 ≡ with_holders s2 a (holders_of s2 a + 1) → s4 ≡ with_cell s3 b place c → (1 < holders_of s4 a → s5 ≡ with_holders s4 a (holders_of s4 a - 1)) → HasTwo s0 s5 a b (record o { holders = 1 }) (record p { cells = set p.cells place c; interval = hull p.interval c })
HasTwo-used s0 s1 s2 s3 s4 s5 a b place c o p single m n holds writes goes =
    let holders : OwnerView → ℕ = λ x. x.holders in
    let two2 = HasTwo-made s0 s1 s2 a b o p m n in
    let two3 = HasTwo-held s0 s2 s3 a b (holders_of s2 a + 1) o p two2 holds in
    let two4 = HasTwo-written s0 s3 s4 a b place c _ p two3 writes in
    let was : holders_of s2 a ≡ 1 = ap holders (owner_of-found s2 a o two2.first) ∙ single in
    let now : holders_of s4 a ≡ holders_of s2 a + 1 = ap holders (owner_of-found s4 a _ two4.first) in
    let left : holders_of s4 a - 1 ≡ 1 = omega arith in
    let two5 = HasTwo-held s0 s4 s5 a b (holders_of s4 a - 1) _ _ two4 (goes (omega arith)) in
    subst (λ (k : ℕ). HasTwo s0 s5 a b (record o { holders = k }) (record p { cells = set p.cells place c; interval = hull p.interval c })) left two5

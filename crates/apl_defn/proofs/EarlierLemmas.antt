-- The earlier of two refusals is the first of both kinds.
use Rattle.std.proofs.Common.{◌≡◌, ℕ, ◌==◌, nat_lt, true, false, List, [], ◌∷◌, Option, None, Some, ◌⊎◌, inl, inr, refl, sym, arith}
use Rattle.std.specs.Prelude.{◌&&◌, ◌||◌, if◌then◌else◌}
use Rattle.std.proofs.lemmas.Bool.{ltb-true, ltb-false, eqb-true, eqb-false}
use Rattle.apl_base.specs.declared.faults.Refusal.{Refusal}
use Rattle.apl_model.proofs.Rows.{not_after_itself}
use Rattle.apl_model.specs.Refusal.{order, IsNotAfter, IsFirstIfAny}
use Rattle.apl_defn.specs.Earliest.{is_not_after, earlier}

-- where the test passes, the first numbers are not after the others
pub not_after : (xs ys : List ℕ) → is_not_after xs ys ≡ true → IsNotAfter xs ys
not_after [] ys e = tt
not_after (x ∷ xs) [] e = cc
not_after (x ∷ xs) (y ∷ ys) e = elim (nat_lt x y) as (λ b. nat_lt x y ≡ b → (b || (x == y && is_not_after xs ys)) ≡ true → IsNotAfter (x ∷ xs) (y ∷ ys)) [
  | true ↦ λ l f. inl (ltb-true x y l)
  | false ↦ λ l. elim (x == y) as (λ b. (x == y) ≡ b → (b && is_not_after xs ys) ≡ true → IsNotAfter (x ∷ xs) (y ∷ ys)) [
    | true ↦ λ k f. inr (eqb-true x y k, not_after xs ys f)
    | false ↦ λ k f. cc
  ] refl
] refl e

-- where it fails, the others are not after them
pub not_before : (xs ys : List ℕ) → is_not_after xs ys ≡ false → IsNotAfter ys xs
not_before [] ys e = cc
not_before (x ∷ xs) [] e = tt
not_before (x ∷ xs) (y ∷ ys) e = elim (nat_lt x y) as (λ b. nat_lt x y ≡ b → (b || (x == y && is_not_after xs ys)) ≡ false → IsNotAfter (y ∷ ys) (x ∷ xs)) [
  | true ↦ λ l f. cc
  | false ↦ λ l. elim (x == y) as (λ b. (x == y) ≡ b → (b && is_not_after xs ys) ≡ false → IsNotAfter (y ∷ ys) (x ∷ xs)) [
    | true ↦ λ k f. inr (sym (eqb-true x y k), not_before xs ys f)
    | false ↦ λ k f. inl (let n = ltb-false x y l in let d = eqb-false x y k in omega arith)
  ] refl
] refl e

pub not_after_along : (xs ys zs : List ℕ) → IsNotAfter xs ys → IsNotAfter ys zs → IsNotAfter xs zs
not_after_along [] ys zs a b = tt
not_after_along (x ∷ xs) [] zs a b = absurd a
not_after_along (x ∷ xs) (y ∷ ys) [] a b = absurd b
not_after_along (x ∷ xs) (y ∷ ys) (z ∷ zs) (inl a) (inl b) = inl (omega arith)
not_after_along (x ∷ xs) (y ∷ ys) (z ∷ zs) (inl a) (inr b) = let e = b.0 in inl (omega arith)
not_after_along (x ∷ xs) (y ∷ ys) (z ∷ zs) (inr a) (inl b) = let e = a.0 in inl (omega arith)
not_after_along (x ∷ xs) (y ∷ ys) (z ∷ zs) (inr a) (inr b) = let e = a.0 in let f = b.0 in inr (omega arith, not_after_along xs ys zs a.1 b.1)

-- where nothing refuses, there is no first refusal
pub none_first : IsFirstIfAny (λ r. ⊥) None
none_first r h = h

-- where this alone refuses, it is the first
pub only_first : (P : Refusal → Type 0) (r : Refusal) → P r → ((s : Refusal) → P s → s ≡ r) → IsFirstIfAny P (Some r)
only_first P r h only = record { refuses = h; first = λ s k. rw (only s k) (not_after_itself (order r)) }

-- what is first for one predicate is so for an equivalent one
pub first_like : (P Q : Refusal → Type 0) (a : Option Refusal) → ((r : Refusal) → P r → Q r) → ((r : Refusal) → Q r → P r) →
    IsFirstIfAny P a → IsFirstIfAny Q a
first_like P Q None to from h = λ r k. h r (from r k)
first_like P Q (Some r) to from h = record { refuses = to r h.refuses; first = λ s k. h.first s (from s k) }

-- the earlier of the first refusals of two kinds is the first of both kinds
pub earlier_first : (P Q : Refusal → Type 0) (a b : Option Refusal) → IsFirstIfAny P a → IsFirstIfAny Q b →
    IsFirstIfAny (λ r. P r ⊎ Q r) (earlier a b)
earlier_first P Q None None h k = λ r x. elim x [ inl p ↦ h r p | inr q ↦ k r q ]
earlier_first P Q None (Some s) h k = record {
  refuses = inr k.refuses;
  first = λ r x. elim x [ inl p ↦ absurd (h r p) | inr q ↦ k.first r q ];
}
earlier_first P Q (Some r) None h k = record {
  refuses = inl h.refuses;
  first = λ s x. elim x [ inl p ↦ h.first s p | inr q ↦ absurd (k s q) ];
}
earlier_first P Q (Some r) (Some s) h k = elim (is_not_after (order r) (order s)) as (λ b. is_not_after (order r) (order s) ≡ b →
    IsFirstIfAny (λ r. P r ⊎ Q r) (if b then Some r else Some s)) [
      | true ↦ λ e. record {
        refuses = inl h.refuses;
        first = λ t x. elim x [
          | inl p ↦ h.first t p
          | inr q ↦ not_after_along (order r) (order s) (order t) (not_after (order r) (order s) e) (k.first t q)
        ];
      }
      | false ↦ λ e. record {
        refuses = inr k.refuses;
        first = λ t x. elim x [
          | inl p ↦ not_after_along (order s) (order r) (order t) (not_before (order r) (order s) e) (h.first t p)
          | inr q ↦ k.first t q
        ];
      }
    ] refl

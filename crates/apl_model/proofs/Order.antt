-- The order of refusals: what is first is so alone.
use Rattle.std.proofs.Common.{◌≡◌, ℕ, ◌==◌, cond, List, [], ◌∷◌, inl, inr, refl, sym, ap, ◌∙◌, arith}
use Rattle.apl_base.specs.declared.faults.Cause.{Cause}
use Rattle.apl_base.specs.declared.faults.Cause.TheVariants as cause
use Rattle.apl_base.specs.declared.faults.Refusal.{Refusal}
use Rattle.apl_model.specs.Refusal.{rank, order, IsNotAfter, IsFirst}

both_ways : (xs ys : List ℕ) → IsNotAfter xs ys → IsNotAfter ys xs → xs ≡ ys
both_ways [] [] a b = refl
both_ways [] (y ∷ ys) a b = absurd b
both_ways (x ∷ xs) [] a b = absurd a
both_ways (x ∷ xs) (y ∷ ys) (inl a) (inl b) = absurd (omega arith)
both_ways (x ∷ xs) (y ∷ ys) (inl a) (inr b) = let e = b.0 in absurd (omega arith)
both_ways (x ∷ xs) (y ∷ ys) (inr a) (inl b) = let e = a.0 in absurd (omega arith)
both_ways (x ∷ xs) (y ∷ ys) (inr a) (inr b) = let e = both_ways xs ys a.1 b.1 in λ i. a.0 i ∷ e i

abbrev ranked : ℕ → Cause
ranked n =
    cond (n == 0) cause.TooLong (cond (n == 1) cause.Utf8 (cond (n == 2) cause.LineLong (cond (n == 3) cause.Character
    (cond (n == 4) cause.Number (cond (n == 5) cause.OpenText (cond (n == 6) cause.Header (cond (n == 7) cause.DoubleName
    (cond (n == 8) cause.OpenDefinition (cond (n == 9) cause.NameClass (cond (n == 10) cause.Deep cause.Grammar))))))))))

ranked-rank : (c : Cause) → ranked (rank c) ≡ c
ranked-rank cause.TooLong = refl
ranked-rank cause.Utf8 = refl
ranked-rank cause.Character = refl
ranked-rank cause.LineLong = refl
ranked-rank cause.Number = refl
ranked-rank cause.OpenText = refl
ranked-rank cause.Header = refl
ranked-rank cause.DoubleName = refl
ranked-rank cause.OpenDefinition = refl
ranked-rank cause.NameClass = refl
ranked-rank cause.Deep = refl
ranked-rank cause.Grammar = refl

same_refusal : (r s : Refusal) → order r ≡ order s → r ≡ s
same_refusal r s e =
    let l : r.line ≡ s.line = cc in
    let k : r.column ≡ s.column = cc in
    let m : rank r.cause ≡ rank s.cause = cc in
    let c : r.cause ≡ s.cause = sym (ranked-rank r.cause) ∙ ap ranked m ∙ ranked-rank s.cause in
    λ i. record { line = l i; column = k i; cause = c i }

pub one_first : (P : Refusal → Type 0) (r s : Refusal) → IsFirst P r → IsFirst P s → r ≡ s
one_first P r s a b = same_refusal r s (both_ways (order r) (order s) (a.first s b.refuses) (b.first r a.refuses))

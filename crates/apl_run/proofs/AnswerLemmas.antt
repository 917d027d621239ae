-- A script has one answer.
use Rattle.std.proofs.Common.{◌≡◌, ℕ, ◌<◌, List, length, refl, sym, ap, ◌∙◌, arith, inl, inr, ◌⊎◌, [], ◌∷◌, zero, suc}
use Rattle.apl_base.specs.declared.faults.Cause.TheVariants as cause
use Rattle.apl_base.specs.declared.faults.Refusal.{Refusal}
use Rattle.apl_base.specs.declared.faults.TheConstants.{MOST_BYTES}
use Rattle.apl_model.specs.Immediate.{immediate}
use Rattle.apl_model.specs.Refusal.{order, phase, rank, refusal, IsAccepted, IsFirst, IsNotAfter, IsRefusal, too_long}
use Rattle.apl_model.specs.Tree.{Script}
use Rattle.apl_model.proofs.Accepted.{accepted_exactly}
use Rattle.apl_model.proofs.Order.{one_first}
use Rattle.apl_model.proofs.Unique.{one_script}
use Rattle.apl_run.specs.Answers.{Answer, ran, refused, IsAnswer, LongIsRefused, OneAnswer}

-- an accepted script is not refused
pub not-both : (bytes : List ℕ) (script : Script) (r : Refusal) → IsAccepted bytes script → IsFirst (IsRefusal bytes) r → ⊥
not-both bytes script r a f = (accepted_exactly bytes).0 (script, a) r f.refuses

pub one_answer : OneAnswer
one_answer bytes turns (refused r) (refused s) a b = ap refused (one_first _ r s a b)
one_answer bytes turns (refused r) (ran i) a b = absurd (not-both bytes b.0 r b.1 a)
one_answer bytes turns (ran i) (refused r) a b = absurd (not-both bytes a.0 r a.1 b)
one_answer bytes turns (ran i) (ran j) a b =
    let same : a.0 ≡ b.0 = one_script _ a.0 b.0 a.1.tree b.1.tree in
    ap ran (a.2 ∙ ap (λ s. immediate s turns) same ∙ sym b.2)

-- no refusal comes before that of a script of too many bytes
first-place : (n : ℕ) (rest others : List ℕ) → IsNotAfter rest others → IsNotAfter (0 ∷ rest) (n ∷ others)
first-place n rest others h = by n refl
  where
    by : (m : ℕ) → n ≡ m → (0 < n) ⊎ ((0 ≡ n) × IsNotAfter rest others)
    by zero e = inr (sym e, h)
    by (suc m) e = inl (omega (arith, e))

pub long_is_refused : LongIsRefused
long_is_refused bytes turns h = record {
  refuses = too_long h refl;
  first = λ r i.
      first-place (phase r.cause) (0 ∷ 0 ∷ 0 ∷ []) (r.line ∷ r.column ∷ rank r.cause ∷ [])
      (first-place r.line (0 ∷ 0 ∷ []) (r.column ∷ rank r.cause ∷ [])
      (first-place r.column (0 ∷ []) (rank r.cause ∷ []) (first-place (rank r.cause) [] [] tt)));
}

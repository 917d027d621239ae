-- Arguments of a call: how many entries it takes and leaves, and what an instruction makes of them.
use Rattle.std.proofs.Common.{◌≡◌, ℕ, zero, suc, ◌+◌, ◌≤◌, Bool, true, false, List, [], ◌∷◌, ◌++◌, length, Option, Some, None, refl, sym, ap, subst, arith, append-nil}
use Rattle.std.proofs.lemmas.List.{reverse-append}
use Rattle.std.specs.Prelude.{reverse}
use Rattle.std.specs.Option.{is_some, option_to_list}
use Rattle.apl_base.specs.declared.faults.ErrorKind.{ErrorKind}
use Rattle.apl_base.specs.declared.faults.Place.{Place}
use Rattle.apl_base.specs.Array.{Array}
use Rattle.apl_model.specs.Evaluation.{State, Calls, of_arrays, needed}
use Rattle.apl_model.specs.Outcome.{Outcome, fails, Flow as EvaluationFlow}
use Rattle.apl_compile.specs.declared.codes.Op.TheVariants as op
use Rattle.apl_compile.specs.Execution.{Doing, comes, called, called_with, goes_on, put, with_result}
use Rattle.apl_compile.specs.Lawful.{Operands, just, result_or_none, ended, after, after_call}
use Rattle.drag_along.specs.Meaning.{Meaning}
use Rattle.calling_steps.specs.Calls.{arguments, operands_of, takes_left, takes_right}
use Rattle.entry_steps.specs.Changing.{IsAsMany}

-- ---- arguments

-- a call with its arguments on top is that call
pub called_with_is : (calls : Calls) (n : ℕ) (whole : Bool) (f : List ℕ) (place : Place) (left right : Option Array) (own : List Array) (to : EvaluationFlow) (s : State) (next : List Array → EvaluationFlow → State → Doing State EvaluationFlow) → n ≤ 3 → is_some left ≡ takes_left n → is_some right ≡ takes_right n → called_with (of_arrays calls) n whole f place (reverse (own ++ arguments left right)) to s next ≡ called (of_arrays calls) whole f place left right (reverse own) to s next
called_with_is calls zero whole f place None None own to s next few l r =
    ap (λ (vs : List Array). called (of_arrays calls) whole f place None None (reverse vs) to s next) (append-nil own)
called_with_is calls zero whole f place (Some a) right own to s next few l r = absurd cc
called_with_is calls zero whole f place None (Some b) own to s next few l r = absurd cc
called_with_is calls (suc zero) whole f place None (Some b) own to s next few l r =
    ap (λ (vs : List Array). called_with (of_arrays calls) 1 whole f place vs to s next) (reverse-append own (b ∷ []))
called_with_is calls (suc zero) whole f place (Some a) right own to s next few l r = absurd cc
called_with_is calls (suc zero) whole f place None None own to s next few l r = absurd cc
called_with_is calls (suc (suc zero)) whole f place (Some a) (Some b) own to s next few l r =
    ap (λ (vs : List Array). called_with (of_arrays calls) 2 whole f place vs to s next) (reverse-append own (b ∷ a ∷ []))
called_with_is calls (suc (suc zero)) whole f place None right own to s next few l r = absurd cc
called_with_is calls (suc (suc zero)) whole f place (Some a) None own to s next few l r = absurd cc
called_with_is calls (suc (suc (suc zero))) whole f place (Some a) None own to s next few l r =
    ap (λ (vs : List Array). called_with (of_arrays calls) 3 whole f place vs to s next) (reverse-append own (a ∷ []))
called_with_is calls (suc (suc (suc zero))) whole f place None right own to s next few l r = absurd cc
called_with_is calls (suc (suc (suc zero))) whole f place (Some a) (Some b) own to s next few l r = absurd cc
called_with_is calls (suc (suc (suc (suc n)))) whole f place left right own to s next few l r = absurd (too_many few)
  where
    too_many : suc (suc (suc (suc n))) ≤ 3 → ⊥
    too_many h = omega (arith, h)

-- ---- what is below a call, and its arguments

pub arguments_many : (n : ℕ) (left right : Option Array) → n ≤ 3 → is_some left ≡ takes_left n → is_some right ≡ takes_right n → length (arguments left right) ≡ operands_of n
arguments_many zero None None few l r = refl
arguments_many zero (Some a) right few l r = absurd cc
arguments_many zero None (Some b) few l r = absurd cc
arguments_many (suc zero) None (Some b) few l r = refl
arguments_many (suc zero) (Some a) right few l r = absurd cc
arguments_many (suc zero) None None few l r = absurd cc
arguments_many (suc (suc zero)) (Some a) (Some b) few l r = refl
arguments_many (suc (suc zero)) None right few l r = absurd cc
arguments_many (suc (suc zero)) (Some a) None few l r = absurd cc
arguments_many (suc (suc (suc zero))) (Some a) None few l r = refl
arguments_many (suc (suc (suc zero))) None right few l r = absurd cc
arguments_many (suc (suc (suc zero))) (Some a) (Some b) few l r = absurd cc
arguments_many (suc (suc (suc (suc n)))) left right few l r = absurd (too_many few)
  where
    too_many : suc (suc (suc (suc n))) ≤ 3 → ⊥
    too_many h = omega (arith, h)

-- a result makes one entry, or none
pub few_results : (r : Option Array) → length (option_to_list r) ≤ 1
few_results None = omega arith
few_results (Some a) = omega arith

one_result : (r : Option Array) → is_some r ≡ true → length (option_to_list r) ≡ 1
one_result None e = absurd cc
one_result (Some a) e = refl

-- so many entries are left after a call, where so many are below its arguments
abbrev pub LeftAfter : Bool → Operands → ℕ → Type 0
LeftAfter whole next front =
    (r : Option Array) → (whole ≡ false → is_some r ≡ true) → (ms : List Meaning) → length ms ≡ front + length (option_to_list r) → IsAsMany next ms

-- what a call needs: at most three as its number, and its arguments
pub record CallFinds (n m : ℕ) (whole : Bool) (next : Operands) : Type 0 where
  pub few : n ≤ 3
  pub enough : operands_of n ≤ m
  pub left : (front : ℕ) → m ≡ front + operands_of n → LeftAfter whole next front

found_some : (n m k : ℕ) (next : Operands) → n ≤ 3 → operands_of n ≤ m → k + operands_of n ≡ m + 1 → Some (just k) ≡ Some next → CallFinds n m false next
found_some n m k next few enough sum e =
    let same : just k ≡ next = cc in
    record {
      few = few;
      enough = enough;
      left = λ front count r given ms lengths.
          let counted : IsAsMany (just k) ms = omega (arith, sum, count, lengths, one_result r (given refl)) in
          subst (λ (o : Operands). IsAsMany o ms) same counted;
    }

found_whole : (n m : ℕ) (next : Operands) → n ≤ 3 → operands_of n ≡ m → Some result_or_none ≡ Some next → CallFinds n m true next
found_whole n m next few enough e =
    let same : result_or_none ≡ next = cc in
    record {
      few = few;
      enough = omega (arith, enough);
      left = λ front count r given ms lengths.
          let counted : IsAsMany result_or_none ms = omega (arith, enough, count, lengths, few_results r) in
          subst (λ (o : Operands). IsAsMany o ms) same counted;
    }

pub call_finds : (n : ℕ) (whole : Bool) (m : ℕ) (next : Operands) → after_call n whole m ≡ Some next → CallFinds n m whole next
call_finds zero false m next e = found_some 0 m (suc m) next (omega arith) (omega arith) (omega arith) e
call_finds (suc zero) false zero next e = absurd cc
call_finds (suc zero) false (suc m) next e = found_some 1 (suc m) (suc m) next (omega arith) (omega arith) (omega arith) e
call_finds (suc (suc zero)) false zero next e = absurd cc
call_finds (suc (suc zero)) false (suc zero) next e = absurd cc
call_finds (suc (suc zero)) false (suc (suc m)) next e = found_some 2 (suc (suc m)) (suc m) next (omega arith) (omega arith) (omega arith) e
call_finds (suc (suc (suc zero))) false zero next e = absurd cc
call_finds (suc (suc (suc zero))) false (suc m) next e = found_some 3 (suc m) (suc m) next (omega arith) (omega arith) (omega arith) e
call_finds (suc (suc (suc (suc n)))) false m next e = absurd cc
call_finds zero true zero next e = found_whole 0 0 next (omega arith) refl e
call_finds zero true (suc m) next e = absurd cc
call_finds (suc zero) true zero next e = absurd cc
call_finds (suc zero) true (suc zero) next e = found_whole 1 1 next (omega arith) refl e
call_finds (suc zero) true (suc (suc m)) next e = absurd cc
call_finds (suc (suc zero)) true zero next e = absurd cc
call_finds (suc (suc zero)) true (suc zero) next e = absurd cc
call_finds (suc (suc zero)) true (suc (suc zero)) next e = found_whole 2 2 next (omega arith) refl e
call_finds (suc (suc zero)) true (suc (suc (suc m))) next e = absurd cc
call_finds (suc (suc (suc zero))) true zero next e = absurd cc
call_finds (suc (suc (suc zero))) true (suc zero) next e = found_whole 3 1 next (omega arith) refl e
call_finds (suc (suc (suc zero))) true (suc (suc m)) next e = absurd cc
call_finds (suc (suc (suc (suc n)))) true m next e = absurd cc

pub call_found : (f : List ℕ) (n : ℕ) (whole : Bool) (found next : Operands) (mine : List Meaning) → IsAsMany found mine → after (op.Call f n whole) found ≡ Some next → CallFinds n (length mine) whole next
call_found f n whole (just m) next mine many e = subst (λ (k : ℕ). CallFinds n k whole next) (sym many) (call_finds n whole m next e)
call_found f n whole result_or_none next mine many e = absurd cc
call_found f n whole ended next mine many e = absurd cc

-- ---- a call that fails whatever its arguments are

called_fails : (calls : Calls) (whole : Bool) (f : List ℕ) (place at : Place) (kind : ErrorKind) (left right : Option Array) (vs : List Array) (to : EvaluationFlow) (s : State) (next : List Array → EvaluationFlow → State → Doing State EvaluationFlow) → calls f place left right s ≡ fails kind at s → called (of_arrays calls) whole f place left right vs to s next ≡ comes (fails kind at s)
called_fails calls false f place at kind left right vs to s next e =
    ap (λ (o : Outcome State (Option Array)). goes_on o (λ r t. goes_on (needed place r t) (put (of_arrays calls) vs to next))) e
called_fails calls true f place at kind left right vs to s next e =
    ap (λ (o : Outcome State (Option Array)). goes_on o (λ r t. next (with_result r vs) to t)) e

-- where there are enough values, it is that error
pub call_fails : (calls : Calls) (n : ℕ) (whole : Bool) (f : List ℕ) (place at : Place) (kind : ErrorKind) (vs : List Array) (to : EvaluationFlow) (s : State) (next : List Array → EvaluationFlow → State → Doing State EvaluationFlow) → n ≤ 3 → operands_of n ≤ length vs → ((left right : Option Array) → calls f place left right s ≡ fails kind at s) → called_with (of_arrays calls) n whole f place vs to s next ≡ comes (fails kind at s)
call_fails calls zero whole f place at kind vs to s next few enough e = called_fails calls whole f place at kind None None vs to s next (e None None)
call_fails calls (suc zero) whole f place at kind [] to s next few enough e = absurd (omega (arith, enough))
call_fails calls (suc zero) whole f place at kind (b ∷ vs) to s next few enough e = called_fails calls whole f place at kind None (Some b) vs to s next (e None (Some b))
call_fails calls (suc (suc zero)) whole f place at kind [] to s next few enough e = absurd (omega (arith, enough))
call_fails calls (suc (suc zero)) whole f place at kind (a ∷ []) to s next few enough e = absurd (omega (arith, enough))
call_fails calls (suc (suc zero)) whole f place at kind (a ∷ b ∷ vs) to s next few enough e = called_fails calls whole f place at kind (Some a) (Some b) vs to s next (e (Some a) (Some b))
call_fails calls (suc (suc (suc zero))) whole f place at kind [] to s next few enough e = absurd (omega (arith, enough))
call_fails calls (suc (suc (suc zero))) whole f place at kind (a ∷ vs) to s next few enough e = called_fails calls whole f place at kind (Some a) None vs to s next (e (Some a) None)
call_fails calls (suc (suc (suc (suc n)))) whole f place at kind vs to s next few enough e = absurd (too_many few)
  where
    too_many : suc (suc (suc (suc n))) ≤ 3 → ⊥
    too_many h = omega (arith, h)

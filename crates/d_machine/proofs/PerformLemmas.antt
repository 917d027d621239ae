-- What an instruction answers, by what the machine's step answers.
use Rattle.std.proofs.Common.{◌≡◌, Ok, Err, sym, ap, subst, ◌∙◌}
use Rattle.std.specs.Prelude.{Result, IsErrAnd, IsErrOf, Bool, true, false}
use Rattle.array_store.specs.Follows.{none}
use Rattle.pending_steps.specs.declared.halts.Halt.{Halt}
use Rattle.pending_steps.specs.declared.halts.Halt.TheVariants as halt
use Rattle.pending_steps.specs.Steps.{OnError, Reaches}
use Rattle.machine_state.specs.declared.machines.Machine.{Machine}
use Rattle.machine_state.specs.StandsFor.{IsLawfulMachine}
use Rattle.machine_state.specs.Steps.{Keeps}
use Rattle.d_machine.specs.declared.answers.Stop.TheVariants as stop
use Rattle.d_machine.specs.declared.breaks.Break.{Break}
use Rattle.d_machine.specs.declared.breaks.Break.TheVariants as break
use Rattle.d_machine.specs.Running.{UnlessCutOff, break_of}

-- an answer that is this error is so
pub err_so : {A E : Type 0} (P : Result A E → Type 0) (r : Result A E) (e : E) → IsErrAnd r (λ b. b ≡ e) → P (Err e) → P r
err_so P (Ok a) e is p = absurd is
err_so P (Err b) e is p = subst (λ x. P (Err x)) (sym is) p

-- what is kept where a step is at an error
pub lawful_error : (A : Type 0) (old m : Machine) (h : Halt) → IsLawfulMachine old none → OnError (Err h) (Keeps old m) → UnlessCutOff {A = A} (Err (break_of h)) (IsLawfulMachine m none)
lawful_error A old m (halt.Error kind place) lawful k = k.lawful none lawful
lawful_error A old m (halt.WsFull live asked) lawful k = tt
lawful_error A old m halt.NoMemory lawful k = tt

-- what is so anyway is so unless it was cut off
pub unless_always : {A : Type 0} (r : Result A Break) (P : Type 0) → P → UnlessCutOff r P
unless_always (Ok a) P p = p
unless_always (Err (break.Error kind place)) P p = p
unless_always (Err (break.Stop stop.Spent)) P p = p
unless_always (Err (break.Stop (stop.WsFull live asked))) P p = tt
unless_always (Err (break.Stop stop.NoMemory)) P p = tt
unless_always (Err (break.Stop stop.OutFault)) P p = tt
unless_always (Err (break.Stop stop.TraceFault)) P p = tt

pub reaches_always : (r : Result (Unit {0}) Halt) (P : Type 0) → P → Reaches r P
reaches_always (Ok ran) P p = p
reaches_always (Err (halt.Error kind place)) P p = p
reaches_always (Err (halt.WsFull live asked)) P p = tt
reaches_always (Err halt.NoMemory) P p = tt

pub true_false : (t : Bool) → t ≡ true → t ≡ false → ⊥
true_false t is_true is_false = cc

-- an error that is this one
pub err_of : {A E : Type 0} (r : Result A E) (h e : E) → r ≡ Err h → h ≡ e → IsErrOf r e
err_of r h e was is = was ∙ ap (λ x. Err x) is

-- Branches.
use Rattle.std.proofs.Common.{◌≡◌, ℕ, zero, suc, ◌≤◌, List, [], ◌∷◌, length, Ok, Err, ap, subst, ◌∙◌, arith}
use Rattle.std.specs.Prelude.{Some, reverse}
use Rattle.apl_base.specs.declared.faults.Place.{Place}
use Rattle.apl_base.specs.Array.{Array}
use Rattle.array_store.specs.Follows.{none}
use Rattle.apl_model.specs.Evaluation.{State, of_arrays}
use Rattle.apl_model.specs.Outcome.{Outcome, Flow as EvaluationFlow}
use Rattle.apl_compile.specs.declared.codes.Instruction.{Instruction}
use Rattle.apl_compile.specs.declared.codes.Op.TheVariants as op
use Rattle.apl_compile.specs.Execution.{goes_on, exec}
use Rattle.apl_compile.specs.Lawful.{Operands, just, result_or_none, ended, after}
use Rattle.apl_compile.specs.Program.{ProgramView}
use Rattle.drag_along.specs.Meaning.{Meaning}
use Rattle.standing.specs.Stand.{Stand, runs_from}
use Rattle.machine_state.specs.declared.machines.Machine.{Machine}
use Rattle.machine_state.specs.StandsFor.{IsLawfulMachine}
use Rattle.machine_state.specs.Steps.{pending, Keeps, IsSameRun}
use Rattle.pending_steps.specs.declared.halts.Halt.{Halt}
use Rattle.pending_steps.specs.declared.halts.Halt.TheVariants as halt
use Rattle.pending_steps.specs.Steps.{IsHalted, OnError}
use Rattle.calling_steps.specs.declared.flows.Flow.{Flow}
use Rattle.calling_steps.specs.Branches.{flow_of, Branches}
use Rattle.d_machine.specs.Answers.{Scene}
use Rattle.d_machine.specs.Running.{AnswersInstruction, break_of}
use Rattle.entry_steps.specs.Changing.{IsAsMany}
use Rattle.entry_steps.proofs.EntryLemmas.{Counts, halted}
use Rattle.d_machine.proofs.RunLemmas.{with_machine, at_same, count_of_run, halts}
use Rattle.d_machine.proofs.AssignLemmas.{newest_going}
use Rattle.d_machine.proofs.OutputLemmas.{gone_above, newest_on_top, one_left}

pub counts_branch : Counts op.Goto 1 0
counts_branch (just zero) next mine many e = absurd cc
counts_branch (just (suc zero)) next mine many e =
    let same : just 0 ≡ next = cc in (
      omega (arith, many),
      λ left lengths.
          let gone : IsAsMany (just 0) left = omega (arith, many, lengths) in
          subst (λ (o : Operands). IsAsMany o left) same gone,
    )
counts_branch (just (suc (suc n))) next mine many e = absurd cc
counts_branch result_or_none next mine many e = absurd cc
counts_branch ended next mine many e = absurd cc

one_found : (found next : Operands) (mine : List Meaning) → IsAsMany found mine → after op.Goto found ≡ Some next → length mine ≤ 1
one_found (just zero) next mine many e = absurd cc
one_found (just (suc zero)) next mine many e = omega (arith, many)
one_found (just (suc (suc n))) next mine many e = absurd cc
one_found result_or_none next mine many e = absurd cc
one_found ended next mine many e = absurd cc

pub branch_performs : (p : ProgramView) (base : ℕ) (place : Place) (old : Scene) (m : Machine) (to further : Flow) → IsLawfulMachine old.machine none → IsSameRun old.machine m → Keeps old.machine m → Branches place further (pending old.machine) (pending m) → AnswersInstruction p base (record { place = place; op = op.Goto }) old (with_machine old m) to (Ok further)
branch_performs p base place old m to further lawful same k branch below mine next low b =
    let counted = counts_branch b.found next mine b.many b.leaves in
    let few = one_found b.found next mine b.many b.leaves in
    let newest = newest_on_top (pending old.machine) below branch.older branch.array mine branch.were b.all counted.0 in
    let none_left : newest.first ≡ [] = one_left newest.first branch.array mine newest.mine_is few in
    let i : Instruction = record { place = place; op = op.Goto } in
    record {
      left = [];
      all = branch.are ∙ gone_above old.machine below branch.older mine branch.array branch.were b.all counted.0 few;
      many = counted.1 [] (omega (arith, counted.0, few));
      goes = λ calls start s here is. (
        s,
        at_same start old m s same k lawful is,
        λ rest.
            ap (λ (z : Stand). runs_from (of_arrays calls) (i ∷ rest) z) (newest_going mine branch.array newest (flow_of to) s)
            ∙ ap (λ (o : Outcome State EvaluationFlow). goes_on o (exec (of_arrays calls) rest (reverse newest.first))) (branch.leads s)
            ∙ ap (λ (vs : List Array). exec (of_arrays calls) rest (reverse vs) (flow_of further) s) none_left,
      );
    }

pub branch_halts : (p : ProgramView) (base : ℕ) (place : Place) (old : Scene) (m : Machine) (to : Flow) (h : Halt) → IsLawfulMachine old.machine none → IsSameRun old.machine m → Keeps old.machine m → IsHalted (record { place = place; op = op.Goto }) 1 old.machine.store.limit (pending old.machine) h → AnswersInstruction p base (record { place = place; op = op.Goto }) old (with_machine old m) to (Err (break_of h))
branch_halts p base place old m to h lawful same k n =
    halts p base (record { place = place; op = op.Goto }) old m to h lawful (count_of_run old.machine m same) (keeps_error h (Keeps old.machine m) k)
    (halted (record { place = place; op = op.Goto }) old.machine 1 0 h counts_branch n)
  where
    keeps_error : (h : Halt) (P : Type 0) → P → OnError (Err h) P
    keeps_error (halt.Error kind place) P p = p
    keeps_error (halt.WsFull live asked) P p = tt
    keeps_error halt.NoMemory P p = tt

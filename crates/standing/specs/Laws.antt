-- The laws of pending expressions: how the stand of evaluation follows an instruction, by what becomes of the entries.
use Rattle.std.specs.Prelude.{◌≡◌, ℕ, List, ◌∷◌, ◌++◌, map, reverse, Ok, Err}
use Rattle.apl_base.specs.declared.faults.ErrorKind.{ErrorKind}
use Rattle.apl_base.specs.declared.faults.ErrorKind.TheVariants as error
use Rattle.apl_base.specs.declared.faults.Place.{Place}
use Rattle.apl_base.specs.declared.rows.Mon.{Mon}
use Rattle.apl_base.specs.declared.rows.Dya.{Dya}
use Rattle.apl_base.specs.Array.{Array}
use Rattle.apl_model.specs.declared.functions.DyaFn.TheVariants as dyadic_fn
use Rattle.apl_model.specs.declared.functions.MonFn.TheVariants as monadic_fn
use Rattle.apl_model.specs.Evaluation.{State, Calls, of_arrays}
use Rattle.apl_model.specs.Lift.{fitting_shape}
use Rattle.apl_model.specs.Outcome.{Outcome, fails, Flow}
use Rattle.drag_along.specs.Meaning.{Meaning, Means, Faults, combined1, combined2}
use Rattle.pending_laws.specs.Extensions.{IsOver}
use Rattle.pending_laws.specs.Joins.{IsComplete}
use Rattle.apl_compile.specs.declared.codes.Instruction.{Instruction}
use Rattle.apl_compile.specs.declared.codes.Op.TheVariants as op
use Rattle.apl_compile.specs.Execution.{comes}
use Rattle.standing.specs.Stand.{Stand, going, ended, push_on, stand_on, stand, runs_from}

-- ---- pending expressions one after the other

-- older ones, and then younger ones
abbrev pub OlderThenYounger : Type 0
OlderThenYounger =
    (z : Stand) (older younger : List Meaning) → stand_on z (older ++ younger) ≡ stand_on (stand_on z older) younger

-- where all are arrays, evaluation has these values pending
abbrev pub ArraysArePending : Type 0
ArraysArePending =
    (arrays : List Array) (to : Flow) (s : State) → stand (map Means arrays) to s ≡ going (reverse arrays) to s

-- the oldest fault ends it, whatever is younger
abbrev pub OldestFaultEnds : Type 0
OldestFaultEnds =
    (arrays : List Array) (place : Place) (younger : List Meaning) (to : Flow) (s : State)
    → stand (map Means arrays ++ Faults place ∷ younger) to s ≡ ended (fails error.Domain place s)

-- after an end nothing changes
abbrev pub EndStays : Type 0
EndStays = (o : Outcome State Flow) (younger : List Meaning) → stand_on (ended o) younger ≡ ended o

-- ---- one instruction

-- an instruction takes evaluation from one stand to another, whatever code follows
abbrev pub Takes : Calls → Instruction → Stand → Stand → Type 0
Takes calls i from to =
    (rest : List Instruction) → runs_from (of_arrays calls) (i ∷ rest) from ≡ runs_from (of_arrays calls) rest to

-- it ends the statement there
abbrev pub Ends : Calls → Instruction → Stand → Outcome State Flow → Type 0
Ends calls i from o = (rest : List Instruction) → runs_from (of_arrays calls) (i ∷ rest) from ≡ comes o

-- from an end each instruction leads to it
abbrev pub EndIsKept : Type 0
EndIsKept = (calls : Calls) (i : Instruction) (o : Outcome State Flow) → Takes calls i (ended o) (ended o)

-- an instruction that takes younger entries to others does so whatever stands below them
abbrev pub OlderStay : Type 0
OlderStay =
    (calls : Calls) (i : Instruction) (z : Stand) (taken given : List Meaning)
    → ((vs : List Array) (to : Flow) (s : State) → z ≡ going vs to s → Takes calls i (stand_on z taken) (stand_on z given))
    → Takes calls i (stand_on z taken) (stand_on z given)

-- a scalar function of one argument: its join takes the place of the newest entry
abbrev pub OneIsJoined : Type 0
OneIsJoined =
    (calls : Calls) (f : Mon) (place : Place) (z : Stand) (b : Meaning)
    → Takes calls (record { place = place; op = op.Mon (monadic_fn.Scalar f) }) (push_on b z)
    (push_on (combined1 f place b) z)

-- what an operand is over a shape: an array is itself or extended to it, a fault stays
abbrev pub IsOperandOver : List ℕ → Meaning → Meaning → Type 0
IsOperandOver ns (Means a) (Means c) = IsComplete a × IsOver ns a c
IsOperandOver ns (Faults place) (Faults other) = place ≡ other
IsOperandOver ns m n = ⊥

-- the shapes of two operands fit this one, where both are arrays
abbrev pub FitTo : List ℕ → Meaning → Meaning → Type 0
FitTo ns (Means a) (Means b) = fitting_shape a.shape b.shape ≡ Ok ns
FitTo ns left right = Unit {0}

-- a scalar function of two arguments, the left one the newest entry: the join of both over the shape that they fit
-- takes their place
abbrev pub TwoAreJoined : Type 0
TwoAreJoined =
    (calls : Calls) (f : Dya) (place : Place) (z : Stand) (ns : List ℕ) (left right wide tall : Meaning)
    → FitTo ns left right → IsOperandOver ns left wide → IsOperandOver ns right tall
    → Takes calls (record { place = place; op = op.Dya (dyadic_fn.Scalar f) }) (push_on left (push_on right z))
    (push_on (combined2 f place wide tall) z)

-- where the shapes don't fit, that is the error
abbrev pub UnfitEnds : Type 0
UnfitEnds =
    (calls : Calls) (f : Dya) (place : Place) (vs : List Array) (to : Flow) (s : State) (a b : Array) (e : ErrorKind)
    → fitting_shape a.shape b.shape ≡ Err e
    → Ends calls (record { place = place; op = op.Dya (dyadic_fn.Scalar f) }) (going (a ∷ b ∷ vs) to s) (fails e place s)

-- What a script of bytes comes to with a number of turns: an accepted one to its immediate evaluation, any other to its
-- first refusal. It knows nothing of the machine.
use Rattle.std.specs.Prelude.{◌≡◌, ℕ, ◌<◌, List, [], length, map, Option, Some, None, pos, encode_utf8_all, string_bytes, IfSome, IsSome, IsTrue, Bool, false, String}
use Rattle.apl_base.specs.declared.faults.Cause.TheVariants.{TooLong}
use Rattle.apl_base.specs.declared.faults.Refusal.{Refusal}
use Rattle.apl_base.specs.declared.faults.TheConstants.{MOST_BYTES}
use Rattle.apl_base.specs.Array.{Array}
use Rattle.apl_model.specs.Environment.{Environment, no_variables}
use Rattle.apl_model.specs.Evaluation.{Ended}
use Rattle.apl_model.specs.Immediate.{Ending, well, reported, out_of_turns, Immediate, immediate}
use Rattle.apl_model.specs.Refusal.{refusal, IsAccepted, IsFirst, IsRefusal}
use Rattle.apl_model.specs.Tree.{Script}
use Rattle.apl_print.specs.Lines.{refusal_line}
use Rattle.apl_words.specs.Options.{options_of}
use Rattle.apl_words.specs.Workload.{workload_text}
use Rattle.apl_words.specs.declared.options.Options.{Options}
use Rattle.apl_run.specs.declared.statuses.Status.{Status}
use Rattle.apl_run.specs.declared.statuses.Status.TheVariants as status

-- a script is refused, or it is run
pub data Answer : Type 0 where
  refused : Refusal → Answer
  ran : Immediate → Answer

-- this is the answer of the script that these bytes are, with so many turns
abbrev pub IsAnswer : List ℕ → ℕ → Answer → Type 0
IsAnswer bytes turns (refused r) = IsFirst (IsRefusal bytes) r
IsAnswer bytes turns (ran run) = (script : Script) × IsAccepted bytes script × (run ≡ immediate script turns)

-- a script has one answer
abbrev pub OneAnswer : Type 0
OneAnswer = (bytes : List ℕ) (turns : ℕ) (a b : Answer) → IsAnswer bytes turns a → IsAnswer bytes turns b → a ≡ b

-- one of too many bytes is refused, at no place
abbrev pub LongIsRefused : Type 0
LongIsRefused = (bytes : List ℕ) (turns : ℕ) → MOST_BYTES < length bytes → IsAnswer bytes turns (refused (refusal TooLong 0 0))

-- ---- what it tells

-- the status
abbrev pub ended_so : Ending → Status
ended_so well = status.Done
ended_so reported = status.Reported
ended_so out_of_turns = status.Spent

abbrev pub status_of : Answer → Status
status_of (refused r) = status.Refused r
status_of (ran run) = ended_so run.ending

-- the bytes: of a refused script the line of its refusal
abbrev pub bytes_of : Answer → List ℕ
bytes_of (refused r) = encode_utf8_all (refusal_line r)
bytes_of (ran run) = run.bytes

-- the variables: a refused script sets none
abbrev pub variables_of : Answer → Environment Array
variables_of (refused r) = no_variables
variables_of (ran run) = record { globals = run.globals; frames = []; origin = run.origin }

-- the statements that ended
abbrev pub ended_of : Answer → List Ended
ended_of (refused r) = []
ended_of (ran run) = run.ended

-- ---- the script that is run

-- the options that words give, where they are of the form
abbrev pub options_in : {A : Type 0} → List (String A) → Option Options
options_in words = options_of (map (λ w. string_bytes w) words)

-- the bytes of the script: all that the source has left, where it tells them, or the text of the workload
abbrev pub script_bytes : Option ℕ → Option (List ℕ) → Option (List ℕ)
script_bytes None left = left
script_bytes (Some k) left = Some (encode_utf8_all (workload_text k))

-- so it is of each answer of the script that is run with these options
abbrev pub ForAnswer : Option Options → Option (List ℕ) → (Answer → Type 0) → Type 0
ForAnswer asked left P =
    IfSome asked (λ options. IfSome (script_bytes options.workload left) (λ bytes.
    (a : Answer) → IsAnswer bytes options.turns a → P a))

-- the script that is run with these options has an answer
abbrev pub HasAnswer : Option Options → Option (List ℕ) → Type 0
HasAnswer asked left =
    IfSome asked (λ options. IfSome (script_bytes options.workload left) (λ bytes.
    (a : Answer) × IsAnswer bytes options.turns a))

-- options that ask for a trace
abbrev pub asks_trace : Option Options → Bool
asks_trace None = false
asks_trace (Some options) = options.traced

-- options that ask for a workload, so that no source is read, and no options
abbrev pub ReadsNothing : Option Options → Type 0
ReadsNothing None = Unit {0}
ReadsNothing (Some options) = IsSome options.workload

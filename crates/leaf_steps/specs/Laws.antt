-- A step that needs no origin is one with any.
use Rattle.std.specs.Prelude.{ℕ, ℤ, List}
use Rattle.drag_along.specs.Meaning.{Meaning}
use Rattle.apl_compile.specs.declared.codes.Instruction.{Instruction}
use Rattle.pending_steps.specs.declared.halts.Halt.{Halt}
use Rattle.pending_steps.specs.Steps.{Steps, IsHalted}
use Rattle.leaf_steps.specs.Origins.{StepsFrom, IsHaltedFrom}

abbrev pub AnyOrigin : Type 0
AnyOrigin =
    (origin : ℤ) (i : Instruction) (takes gives : ℕ) (before after : List Meaning) → Steps i takes gives before after
    → StepsFrom origin i takes gives before after

abbrev pub HaltedAtAnyOrigin : Type 0
HaltedAtAnyOrigin =
    (origin : ℤ) (i : Instruction) (takes limit : ℕ) (pending : List Meaning) (why : Halt) → IsHalted i takes limit pending why
    → IsHaltedFrom origin i takes limit pending why

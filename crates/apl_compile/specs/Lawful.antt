-- Lawful code: how many operands each instruction needs and leaves.
use Rattle.std.specs.Prelude.{◌≡◌, ◌≢◌, ℕ, zero, suc, Bool, true, false, List, [], ◌∷◌, Option, Some, None}
use Rattle.std.specs.Option.{option_map, option_and_then}
use Rattle.apl_model.specs.Order.{Values}
use Rattle.apl_model.specs.Outcome.{onwards}
use Rattle.apl_model.specs.Tree.{Statement}
use Rattle.apl_compile.specs.declared.codes.Instruction.{Instruction}
use Rattle.apl_compile.specs.declared.codes.Op.{Op}
use Rattle.apl_compile.specs.declared.codes.Op.TheVariants as op
use Rattle.apl_compile.specs.Code.{code_on}
use Rattle.apl_compile.specs.Execution.{missing, exec}

-- how many operands are there: so many; a result or none, after a call that is the whole statement; or the statement
-- ended
pub data Operands : Type 0 where
  just : ℕ → Operands
  result_or_none : Operands
  ended : Operands

-- what is left of n operands when the positions of a mask are taken, where there are as many
abbrev pub less : List Bool → ℕ → Option ℕ
less [] n = Some n
less (false ∷ mask) n = less mask n
less (true ∷ mask) (suc n) = less mask n
less (true ∷ mask) zero = None

-- the value of an indexed assignment stands below its positions, and stays
abbrev pub with_value : Option ℕ → Option Operands
with_value (Some (suc n)) = Some (just (suc n))
with_value (Some zero) = None
with_value None = None

-- a call of so many arguments: it needs them, and leaves its result; as a whole statement it needs just them
abbrev pub after_call : ℕ → Bool → ℕ → Option Operands
after_call zero false n = Some (just (suc n))
after_call (suc zero) false (suc n) = Some (just (suc n))
after_call (suc (suc zero)) false (suc (suc n)) = Some (just (suc n))
after_call (suc (suc (suc zero))) false (suc n) = Some (just (suc n))
after_call zero true zero = Some result_or_none
after_call (suc zero) true (suc zero) = Some result_or_none
after_call (suc (suc zero)) true (suc (suc zero)) = Some result_or_none
after_call (suc (suc (suc zero))) true (suc zero) = Some result_or_none
after_call k whole n = None

-- what an instruction leaves, where it finds what it needs. A print or a branch finds one value, or a print what a
-- call left; the end finds one at most
abbrev pub after : Op → Operands → Option Operands
after (op.Lit literal) (just n) = Some (just (suc n))
after (op.Name name) (just n) = Some (just (suc n))
after (op.Mon f) (just (suc n)) = Some (just (suc n))
after (op.Dya f) (just (suc (suc n))) = Some (just (suc n))
after (op.Red f axis) (just (suc n)) = Some (just (suc n))
after (op.Outer f) (just (suc (suc n))) = Some (just (suc n))
after (op.Inner f g) (just (suc (suc n))) = Some (just (suc n))
after (op.Index mask) (just (suc n)) = option_map (λ k. just (suc k)) (less mask n)
after (op.Asg name) (just (suc n)) = Some (just (suc n))
after (op.Iasg name mask) (just n) = with_value (less mask n)
after (op.Call f k whole) (just n) = after_call k whole n
after op.Show (just (suc n)) = Some (just (suc n))
after op.Print (just (suc zero)) = Some (just zero)
after op.Print result_or_none = Some (just zero)
after op.Goto (just (suc zero)) = Some (just zero)
after op.End (just zero) = Some ended
after op.End (just (suc zero)) = Some ended
after what found = None

-- what a code leaves
abbrev pub after_code : List Instruction → Operands → Option Operands
after_code [] found = Some found
after_code (i ∷ is) found = option_and_then (after_code is) (after i.op found)

-- a code finds what it needs, and leads from these operands to those
abbrev pub Leads : List Instruction → Operands → Operands → Type 0
Leads code from to = after_code code from ≡ Some to

-- lawful code of a statement begins with no operand, and ends
abbrev pub IsLawfulCode : List Instruction → Type 0
IsLawfulCode code = Leads code (just 0) ended

-- the code of every statement is lawful
abbrev pub StatementsAreLawful : Type 0
StatementsAreLawful = (line : ℕ) (t : Statement) → IsLawfulCode (code_on line t)

-- lawful code never misses an operand, whatever is done with values
abbrev pub LawfulCodeHasOperands : (S V : Type 0) → Type 0
LawfulCodeHasOperands S V = (M : Values S V) (code : List Instruction) (s : S) → IsLawfulCode code → exec M code [] onwards s ≢ missing

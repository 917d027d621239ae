-- What code means, over any values and states: one instruction after another, on the values pending, the newest
-- first. What is done with values is told, as for the order of evaluation.
use Rattle.std.specs.Prelude.{ℕ, zero, suc, Bool, true, false, List, [], ◌∷◌, Option, Some, None}
use Rattle.std.specs.Option.{option_map}
use Rattle.apl_base.specs.declared.faults.Place.{Place}
use Rattle.apl_model.specs.Order.{Values}
use Rattle.apl_model.specs.Outcome.{Outcome, done, fails, spent, Flow, onwards}
use Rattle.apl_compile.specs.declared.codes.Instruction.{Instruction}
use Rattle.apl_compile.specs.declared.codes.Op.{Op}
use Rattle.apl_compile.specs.declared.codes.Op.TheVariants as op

-- what comes of code; or an operand is missing, which is no error of APL: no code of a statement comes to it
pub data Doing (S A : Type 0) : Type 0 where
  comes : Outcome S A → Doing S A
  missing : Doing S A

-- what follows a value; every other outcome ends the statement
abbrev pub goes_on : {S A B : Type 0} → Outcome S A → (A → S → Doing S B) → Doing S B
goes_on (done a s) next = next a s
goes_on (fails kind place s) next = comes (fails kind place s)
goes_on (spent s) next = comes (spent s)

-- ---- operands

-- the positions of a subscript, taken from the values pending, and those that are left
pub record Taken (V : Type 0) : Type 0 where
  pub positions : List (Option V)
  pub left : List V

abbrev pub with_position : {V : Type 0} → Option V → Taken V → Taken V
with_position v t = record { positions = v ∷ t.positions; left = t.left }

-- the first position is the newest value; none is taken for one that is left out
abbrev pub taken : {V : Type 0} → List Bool → List V → Option (Taken V)
taken [] vs = Some (record { positions = []; left = vs })
taken (false ∷ mask) vs = option_map (with_position None) (taken mask vs)
taken (true ∷ mask) (v ∷ vs) = option_map (with_position (Some v)) (taken mask vs)
taken (true ∷ mask) [] = None

-- the newest value, where there is one, and the others
abbrev pub newest : {V : Type 0} → List V → Option V
newest [] = None
newest (v ∷ vs) = Some v

abbrev pub others : {V : Type 0} → List V → List V
others [] = []
others (v ∷ vs) = vs

-- a result, where there is one, put there
abbrev pub with_result : {V : Type 0} → Option V → List V → List V
with_result None vs = vs
with_result (Some v) vs = v ∷ vs

-- ---- instructions

module _ {S V : Type 0} (M : Values S V) where
  -- what goes on: with the values pending, where the statement goes to as far as it is known, and the state
  abbrev pub Next : Type 0
  Next = List V → Flow → S → Doing S Flow

  -- a value is put there
  abbrev pub put : List V → Flow → Next → V → S → Doing S Flow
  put vs to next v s = next (v ∷ vs) to s

  -- a subscript, and an indexed assignment, of the positions taken
  abbrev pub indexed : Place → V → Option (Taken V) → Flow → S → Next → Doing S Flow
  indexed place a None to s next = missing
  indexed place a (Some t) to s next = goes_on (M.index a t.positions place s) (put t.left to next)

  abbrev pub replaced_by : List ℕ → Place → List (Option V) → List V → Flow → S → Next → Doing S Flow
  replaced_by name place ps [] to s next = missing
  replaced_by name place ps (b ∷ vs) to s next = goes_on (M.replace name ps b place s) (put vs to next)

  abbrev pub replaced : List ℕ → Place → Option (Taken V) → Flow → S → Next → Doing S Flow
  replaced name place None to s next = missing
  replaced name place (Some t) to s next = replaced_by name place t.positions t.left to s next

  -- the result of a call: needed, or, where the call is the whole statement, as it is
  abbrev pub called : Bool → List ℕ → Place → Option V → Option V → List V → Flow → S → Next → Doing S Flow
  called false f place a b vs to s next = goes_on (M.calls f place a b s) (λ r t. goes_on (M.need place r t) (put vs to next))
  called true f place a b vs to s next = goes_on (M.calls f place a b s) (λ r t. next (with_result r vs) to t)

  -- a call takes its arguments, the left one first
  abbrev pub called_with : ℕ → Bool → List ℕ → Place → List V → Flow → S → Next → Doing S Flow
  called_with zero whole f place vs to s next = called whole f place None None vs to s next
  called_with (suc zero) whole f place (b ∷ vs) to s next = called whole f place None (Some b) vs to s next
  called_with (suc (suc zero)) whole f place (a ∷ b ∷ vs) to s next = called whole f place (Some a) (Some b) vs to s next
  called_with (suc (suc (suc zero))) whole f place (a ∷ vs) to s next = called whole f place (Some a) None vs to s next
  called_with n whole f place vs to s next = missing

  -- one instruction, and what goes on after it
  abbrev pub act : Op → Place → List V → Flow → S → Next → Doing S Flow
  act (op.Lit literal) place vs to s next = goes_on (M.literal literal s) (put vs to next)
  act (op.Name name) place vs to s next = goes_on (M.name name place s) (put vs to next)
  act (op.Mon f) place (b ∷ vs) to s next = goes_on (M.apply1 f b place s) (put vs to next)
  act (op.Dya f) place (a ∷ b ∷ vs) to s next = goes_on (M.apply2 f a b place s) (put vs to next)
  act (op.Red f axis) place (b ∷ vs) to s next = goes_on (M.reduce f axis b place s) (put vs to next)
  act (op.Outer f) place (a ∷ b ∷ vs) to s next = goes_on (M.outer f a b place s) (put vs to next)
  act (op.Inner f g) place (a ∷ b ∷ vs) to s next = goes_on (M.inner f g a b place s) (put vs to next)
  act (op.Index mask) place (a ∷ vs) to s next = indexed place a (taken mask vs) to s next
  act (op.Asg name) place (a ∷ vs) to s next = goes_on (M.assign name a s) (put vs to next)
  act (op.Iasg name mask) place vs to s next = replaced name place (taken mask vs) to s next
  act (op.Call f n whole) place vs to s next = called_with n whole f place vs to s next
  act op.Show place (a ∷ vs) to s next = goes_on (M.print a s) (put vs to next)
  -- a call that was the whole statement may have left no value
  act op.Print place vs to s next = goes_on (M.show (newest vs) s) (next (others vs))
  act op.Goto place (a ∷ vs) to s next = goes_on (M.branch place a s) (next vs)
  act op.End place vs to s next = comes (done to s)
  act what place vs to s next = missing

  -- a code: the instructions in order. One that ends without END misses it
  abbrev pub exec : List Instruction → List V → Flow → S → Doing S Flow
  exec [] vs to s = missing
  exec (i ∷ is) vs to s = act i.op i.place vs to s (exec is)

  -- the code of a statement begins with no value, and goes on to the next line if it does not branch. Code that lacks
  -- an operand, which no statement has, stops there
  abbrev pub stopping : {A : Type 0} → S → Doing S A → Outcome S A
  stopping s (comes o) = o
  stopping s missing = spent s

  abbrev pub code_flow : List Instruction → S → Outcome S Flow
  code_flow code s = stopping s (exec code [] onwards s)

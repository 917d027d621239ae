-- What the reader answers.
use Rattle.std.specs.Prelude.{◌≡◌, ℕ, List, ◌∷◌, ◌++◌, Some, None}
use Rattle.apl_model.proofs.Machine as machine
use Rattle.apl_model.specs.Mirror.{statement_of}
use Rattle.apl_model.specs.Refusal.{past_last}
use Rattle.apl_model.specs.declared.tokens.Heading.{Heading}
use Rattle.apl_model.specs.declared.tokens.Token.{Token}
use Rattle.apl_tree.specs.declared.statements.Reading.{Reading}
use Rattle.apl_tree.specs.declared.statements.Reading.TheVariants as reading

-- where the reader stops: at a token that it can't take, or at the end
pub data Stops (hs : List Heading) (n : ℕ) (ts : List Token) (column : ℕ) : Type 0 where
  at_token : (before : List Token) (t : Token) (after : List Token) (x : machine.State) → ts ≡ before ++ (t ∷ after) →
      machine.run hs n (Some machine.start) before ≡ Some x → machine.step hs n x t ≡ None → column ≡ t.from → Stops hs n ts column
  at_end : (x : machine.State) → machine.run hs n (Some machine.start) ts ≡ Some x → machine.finished x ≡ None →
      column ≡ past_last ts → Stops hs n ts column

-- the statement that the reader gives, or the column at which it stops
abbrev pub IsReading : List Heading → ℕ → List Token → Reading → Type 0
IsReading hs n ts (reading.Done s) = machine.read hs n ts ≡ Some (statement_of s)
IsReading hs n ts (reading.Stopped column) = Stops hs n ts column

-- What the contract of a statement's run leaves open, and what it doesn't.
use Rattle.std.specs.Prelude.{◌≡◌, Ok, Err}
use Rattle.apl_model.specs.Evaluation.{State}
use Rattle.apl_model.specs.Outcome.{Outcome, Flow}
use Rattle.d_machine.specs.declared.answers.Step.{Step}
use Rattle.d_machine.specs.declared.answers.Stop.TheVariants as stop
use Rattle.d_machine.specs.Answers.{Scene, AgreesWith}

-- a statement that ends has one answer
abbrev pub OneAnswer : Type 0
OneAnswer =
    (old new other : Scene) (o : Outcome State Flow) (a b : Step) → AgreesWith old new o (Ok a) → AgreesWith old other o (Ok b) → a ≡ b

-- and is not spent
abbrev pub EndsOrIsSpent : Type 0
EndsOrIsSpent =
    (old new other : Scene) (o : Outcome State Flow) (a : Step) → AgreesWith old new o (Ok a) → ¬ (AgreesWith old other o (Err stop.Spent))

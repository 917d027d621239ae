-- What an instruction gives for arrays: the answer of a function at the place of the instruction.
use Rattle.std.specs.Prelude.{◌≡◌, ℤ, List, ◌∷◌, map, Ok, Err}
use Rattle.apl_base.specs.declared.faults.Place.{Place}
use Rattle.apl_base.specs.Array.{Array}
use Rattle.drag_along.specs.Meaning.{Means}
use Rattle.apl_model.specs.Evaluation.{State, Calls}
use Rattle.apl_model.specs.Outcome.{fails, Flow}
use Rattle.apl_model.specs.Whole.{Answer}
use Rattle.apl_compile.specs.declared.codes.Instruction.{Instruction}
use Rattle.standing.specs.Stand.{Stand, going, ended, stand_on}
use Rattle.standing.specs.Laws.{Takes}

-- where evaluation stands once it has an answer: its array is one value more, or the statement ended as its error there
abbrev pub stand_with : Place → Answer → List Array → Flow → State → Stand
stand_with place (Ok a) vs to s = going (a ∷ vs) to s
stand_with place (Err kind) vs to s = ended (fails kind place s)

-- for these operands, the newest last, the instruction gives this answer where evaluation has this origin
abbrev pub Gives : ℤ → Instruction → List Array → Answer → Type 0
Gives origin i operands answer =
    (calls : Calls) (vs : List Array) (to : Flow) (s : State) → s.variables.origin ≡ origin
    → Takes calls i (stand_on (going vs to s) (map (λ a. Means a) operands)) (stand_with i.place answer vs to s)

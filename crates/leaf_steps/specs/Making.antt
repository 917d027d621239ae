-- What functions of whole arrays that are made at once give into hand, and how it comes as an entry.
use Rattle.std.specs.Prelude.{◌≡◌, ℕ, ◌+◌, ◌<◌, ℤ, List, Result, Ok, Err, OnOk, IfErr}
use Rattle.apl_base.specs.declared.faults.Place.{Place}
use Rattle.apl_base.specs.Array.{Array}
use Rattle.array_store.specs.Stores.{StoreView}
use Rattle.array_store.specs.Follows.{Follows, none}
use Rattle.drag_along.specs.declared.leaves.Leaf.{Leaf}
use Rattle.drag_along.specs.Segments.{SegmentView}
use Rattle.drag_along.specs.Views.{StandsForArray}
use Rattle.e_machine.specs.Forced.{named_by_answer}
use Rattle.value_stack.specs.Stacks.{entries}
use Rattle.apl_model.specs.declared.functions.MonFn.{MonFn}
use Rattle.apl_model.specs.declared.functions.MonFn.TheVariants as monadic_fn
use Rattle.apl_model.specs.declared.functions.DyaFn.{DyaFn}
use Rattle.apl_model.specs.declared.functions.DyaFn.TheVariants as dyadic_fn
use Rattle.apl_model.specs.Whole.{Answer}
use Rattle.apl_compile.specs.declared.codes.Instruction.{Instruction}
use Rattle.made_leaf.specs.declared.faults.MadeFault.{MadeFault}
use Rattle.made_leaf.specs.declared.faults.MadeFault.TheVariants as made
use Rattle.pending_steps.specs.declared.halts.Halt.{Halt}
use Rattle.pending_steps.specs.declared.halts.Halt.TheVariants as halt
use Rattle.pending_steps.specs.Leaves.{PutsLeaf}
use Rattle.pending_steps.specs.Steps.{Moves, Reaches}
use Rattle.leaf_steps.specs.Origins.{StepsFrom, IsHaltedFrom}

-- the leaf stands for the array that is the answer
pub record StandsForAnswer (new : StoreView) (answer : Answer) (leaf : Leaf) : Type 0 where
  pub array : Array
  pub is : answer ≡ Ok array
  pub stands : StandsForArray new leaf array

-- a leaf that stands for the answer, the answer's error, or no room, as these numbers show
abbrev pub Answers : ℕ → StoreView → Answer → Result Leaf MadeFault → Type 0
Answers limit new answer (Ok leaf) = StandsForAnswer new answer leaf
Answers limit new answer (Err (made.Error kind)) = answer ≡ Err kind
Answers limit new answer (Err (made.WsFull live asked)) = limit < live + asked
Answers limit new answer (Err made.NoMemory) = Unit {0}

-- the answer came, and holders follow the leaf
pub record IsMade (old new : StoreView) (answer : Answer) (result : Result Leaf MadeFault) : Type 0 where
  pub answers : Answers old.limit new answer result
  pub follows : Follows old new none (named_by_answer result)

-- why it halts, where such a function stands at this place
abbrev pub halt_at : Place → MadeFault → Halt
halt_at place (made.Error kind) = halt.Error kind place
halt_at place (made.WsFull live asked) = halt.WsFull live asked
halt_at place made.NoMemory = halt.NoMemory

-- the leaf is the newest entry, where memory isn't wanting; or it halts as the fault at this place
abbrev pub IsPut : StoreView → List SegmentView → List SegmentView → Place → Result Leaf MadeFault → Result (Unit {0}) Halt → Type 0
IsPut store before after place (Ok leaf) (Ok done) = PutsLeaf store before after leaf
IsPut store before after place (Ok leaf) (Err why) = why ≡ halt.NoMemory
IsPut store before after place (Err fault) (Ok done) = ⊥
IsPut store before after place (Err fault) (Err why) = (why ≡ halt_at place fault) × (after ≡ before)

-- a step of an instruction: so many entries gave way to one, or it halts
pub record IsStep (origin : ℤ) (i : Instruction) (takes : ℕ) (old new : StoreView) (before after : List SegmentView) (result : Result (Unit {0}) Halt) : Type 0 where
  pub step : OnOk result (StepsFrom origin i takes 1 (entries old before) (entries new after))
  pub moves : Reaches result (Moves old new before after none none)
  pub halted : IfErr result (IsHaltedFrom origin i takes old.limit (entries old before))

-- ---- which functions are made at once

abbrev pub IsMadeOfOne : MonFn → Type 0
IsMadeOfOne (monadic_fn.Scalar f) = ⊥
IsMadeOfOne monadic_fn.Iota = Unit {0}
IsMadeOfOne monadic_fn.Shape = Unit {0}
IsMadeOfOne monadic_fn.Ravel = Unit {0}
IsMadeOfOne (monadic_fn.Reverse axis) = ⊥
IsMadeOfOne monadic_fn.Transpose = ⊥
IsMadeOfOne monadic_fn.GradeUp = Unit {0}
IsMadeOfOne monadic_fn.GradeDown = Unit {0}

abbrev pub IsMadeOfTwo : DyaFn → Type 0
IsMadeOfTwo (dyadic_fn.Scalar f) = ⊥
IsMadeOfTwo dyadic_fn.Reshape = Unit {0}
IsMadeOfTwo dyadic_fn.Catenate = Unit {0}
IsMadeOfTwo (dyadic_fn.Rotate axis) = Unit {0}
IsMadeOfTwo dyadic_fn.Transpose = ⊥
IsMadeOfTwo dyadic_fn.Take = ⊥
IsMadeOfTwo dyadic_fn.Skip = ⊥
IsMadeOfTwo (dyadic_fn.Compress axis) = Unit {0}
IsMadeOfTwo (dyadic_fn.Expand axis) = Unit {0}
IsMadeOfTwo dyadic_fn.IndexOf = Unit {0}
IsMadeOfTwo dyadic_fn.Member = Unit {0}
IsMadeOfTwo dyadic_fn.Encode = Unit {0}
IsMadeOfTwo dyadic_fn.Decode = Unit {0}

-- The step of an instruction whose operands were taken as leaves.
use Rattle.std.proofs.Common.{◌≡◌, inl, inr, ℕ, ℤ, List, [], ◌∷◌, ◌++◌, map, length, Ok, Err, refl, sym, ap, subst, ◌∙◌, arith}
use Rattle.std.specs.Prelude.{Result, IfOk}
use Rattle.apl_base.specs.Array.{Array}
use Rattle.array_store.specs.Stores.{StoreView}
use Rattle.array_store.specs.Follows.{LeafCounts, Follows, Holds, both, none}
use Rattle.array_store.proofs.FollowsLemmas.{follows_then, follows_after}
use Rattle.drag_along.specs.declared.leaves.Leaf.{Leaf}
use Rattle.drag_along.specs.Nodes.{named_by_leaf}
use Rattle.drag_along.specs.Segments.{SegmentView}
use Rattle.drag_along.specs.Meaning.{Meaning, Means}
use Rattle.drag_along.specs.Lawful.{IsLawfulLeaf, SameData}
use Rattle.drag_along.proofs.KeptLemmas.{follows_keeps}
use Rattle.value_stack.specs.Stacks.{named_on, entries}
use Rattle.value_stack.proofs.EntriesLemmas.{stack_kept}
use Rattle.e_machine.specs.Forced.{named_by_answer}
use Rattle.leaf_names.specs.Variables.{array_of}
use Rattle.apl_model.specs.Whole.{Answer}
use Rattle.apl_compile.specs.declared.codes.Instruction.{Instruction}
use Rattle.made_leaf.specs.declared.faults.MadeFault.{MadeFault}
use Rattle.made_leaf.specs.declared.faults.MadeFault.TheVariants as made
use Rattle.pending_steps.specs.declared.halts.Halt.{Halt}
use Rattle.pending_steps.specs.declared.halts.Halt.TheVariants as halt
use Rattle.pending_steps.specs.Steps.{Moves, IsNotComputed, Reaches}
use Rattle.leaf_steps.specs.Origins.{IsHaltedFrom}
use Rattle.leaf_steps.specs.Gives.{Gives}
use Rattle.leaf_steps.specs.Taking.{Taken, AtError}
use Rattle.leaf_steps.specs.Making.{StandsForAnswer, Answers, IsMade, halt_at, IsPut, IsStep}
use Rattle.leaf_steps.proofs.GivesLemmas.{steps_from, refuses_from}
use Rattle.leaf_steps.proofs.TakingLemmas.{taken_holds}
use Rattle.leaf_steps.proofs.MakingLemmas.{let_go, answers_kept}
use Rattle.leaf_names.proofs.StandsLemmas.{array_is}

-- the operands went, and what a function gave for them is in hand
pub record Given (old new : StoreView) (before after : List SegmentView) (operands : List Array) (answer : Answer) (result : Result Leaf MadeFault) : Type 0 where
  pub older : List Array
  pub was : entries old before ≡ map (λ a. Means a) older ++ map (λ a. Means a) operands
  pub is : entries new after ≡ map (λ a. Means a) older
  pub answers : Answers old.limit new answer result
  pub moves : Moves old new before after none (named_by_answer result)

pub given : (old taken made new : StoreView) (before after : List SegmentView) (operands : List Array) (hand : LeafCounts) (answer : Answer) (result : Result Leaf MadeFault) → Holds old (named_on before) → Taken old taken before after operands hand → IsMade taken made answer result → Follows made new hand none → Given old new before after operands answer result
given old taken made new before after operands hand answer result holds took came gone =
    let held : Holds taken (both (named_on after) hand) = taken_holds old taken before after hand holds took.moves in
    let through : Follows taken new hand (named_by_answer result) = let_go taken made new hand (named_by_answer result) came.follows gone in
    let same : SameData taken new (named_on after) =
    follows_keeps taken new hand (named_by_answer result) (named_on after) (named_on after) through (λ key. omega (arith, held key)) (λ key. omega arith) in
    let kept = stack_kept taken new after same took.moves.lawful in
    let stays : SameData made new (named_by_answer result) =
    follows_keeps made new hand none (named_by_answer result) (named_by_answer result) gone (λ key. omega (arith, held key, came.follows.holders key)) (λ key. omega arith) in
    record {
      older = took.older;
      was = took.was;
      is = kept.1 ∙ took.is;
      answers = subst (λ (limit : ℕ). Answers limit new answer result) took.moves.follows.limit (answers_kept taken.limit made new answer result stays came.answers);
      moves = record {
        lawful = kept.0;
        follows =
            follows_then old taken new (both (named_on before) none) (both (named_on after) hand) (both (named_on after) (named_by_answer result)) took.moves.follows
            (follows_after taken new hand (named_by_answer result) (named_on after) through);
      };
    }

-- the leaf that came is lawful
pub given_leaf : (old new : StoreView) (before after : List SegmentView) (operands : List Array) (answer : Answer) (result : Result Leaf MadeFault) → Given old new before after operands answer result → IfOk result (IsLawfulLeaf new)
given_leaf old new before after operands answer (Ok leaf) g = g.answers.stands.lawful
given_leaf old new before after operands answer (Err why) g = tt

-- ---- it comes as an entry, or the instruction halts

pub reaches : (result : Result (Unit {0}) Halt) (P : Type 0) → P → Reaches result P
reaches (Ok done) P p = p
reaches (Err (halt.Error kind place)) P p = p
reaches (Err (halt.WsFull live asked)) P p = tt
reaches (Err halt.NoMemory) P p = tt

pub reaches_error : (why : Halt) (P : Type 0) → AtError why P → Reaches (Err why) P
reaches_error (halt.Error kind place) P p = p
reaches_error (halt.WsFull live asked) P p = tt
reaches_error halt.NoMemory P p = tt

pub not_computed_halts : (origin : ℤ) (i : Instruction) (takes limit : ℕ) (pending : List Meaning) (why : Halt) → IsNotComputed limit pending why → IsHaltedFrom origin i takes limit pending why
not_computed_halts origin i takes limit pending (halt.Error kind place) h = inl h
not_computed_halts origin i takes limit pending (halt.WsFull live asked) h = h
not_computed_halts origin i takes limit pending halt.NoMemory h = tt

fault_halts : (origin : ℤ) (i : Instruction) (takes : ℕ) (old new : StoreView) (before after : List SegmentView) (operands : List Array) (answer : Answer) (fault : MadeFault) → length operands ≡ takes → Given old new before after operands answer (Err fault) → Gives origin i operands answer → IsHaltedFrom origin i takes old.limit (entries old before) (halt_at i.place fault)
fault_halts origin i takes old new before after operands answer (made.Error kind) number g gives =
    inr (refuses_from origin i takes operands answer kind g.older (entries old before) number g.was gives g.answers)
fault_halts origin i takes old new before after operands answer (made.WsFull live asked) number g gives = g.answers
fault_halts origin i takes old new before after operands answer made.NoMemory number g gives = tt

pub put_step : (origin : ℤ) (i : Instruction) (takes : ℕ) (old new : StoreView) (before after last : List SegmentView) (operands : List Array) (answer : Answer) (made_is : Result Leaf MadeFault) (result : Result (Unit {0}) Halt) → length operands ≡ takes → Given old new before after operands answer made_is → IsPut new after last i.place made_is result → Gives origin i operands answer → IsStep origin i takes old new before last result
put_step origin i takes old new before after last operands answer (Ok leaf) (Ok done) number g puts gives =
    let stands : StandsForAnswer new answer leaf = g.answers in
    let gives_array : Gives origin i operands (Ok stands.array) = subst (λ (r : Answer). Gives origin i operands r) stands.is gives in
    record {
      step =
          steps_from origin i takes operands (Ok stands.array) (Means stands.array) (map (λ a. Means a) g.older) (entries old before) (entries new last) number g.was
          (puts.means ∙ ap (λ (ms : List Meaning). ms ++ Means (array_of new leaf) ∷ []) g.is ∙ ap (λ (a : Array). map (λ b. Means b) g.older ++ Means a ∷ []) (array_is new leaf stands.array stands.stands))
          gives_array (λ vs to s. refl);
      moves = record {
        lawful = puts.moves.lawful;
        follows = follows_then old new new (both (named_on before) none) (both (named_on after) (named_by_leaf leaf)) (both (named_on last) none) g.moves.follows puts.moves.follows;
      };
      halted = tt;
    }
put_step origin i takes old new before after last operands answer (Ok leaf) (Err why) number g put gives =
    subst (λ (w : Halt). IsStep origin i takes old new before last (Err w)) (sym put) (record { step = tt; moves = tt; halted = tt })
put_step origin i takes old new before after last operands answer (Err fault) (Ok done) number g put gives = absurd put
put_step origin i takes old new before after last operands answer (Err fault) (Err why) number g put gives =
    subst (λ (w : Halt). IsStep origin i takes old new before last (Err w)) (sym put.0)
    (record {
      step = tt;
      moves =
          reaches (Err (halt_at i.place fault)) (Moves old new before last none none)
          (subst (λ (stack : List SegmentView). Moves old new before stack none none) (sym put.1) g.moves);
      halted = fault_halts origin i takes old new before after operands answer fault number g gives;
    })

-- the arguments are held once a function was called
pub arguments_held : (old taken made : StoreView) (before after : List SegmentView) (operands : List Array) (hand : LeafCounts) (answer : Answer) (result : Result Leaf MadeFault) → Holds old (named_on before) → Taken old taken before after operands hand → IsMade taken made answer result → Holds made hand
arguments_held old taken made before after operands hand answer result holds took came =
    let held : Holds taken (both (named_on after) hand) = taken_holds old taken before after hand holds took.moves in
    λ key. omega (arith, held key, came.follows.holders key)

-- the whole: operands taken, a function called, its arguments let go, and what it made put there
pub made_step : (origin : ℤ) (i : Instruction) (takes : ℕ) (old taken made new : StoreView) (before after last : List SegmentView) (operands : List Array) (hand : LeafCounts) (answer : Answer) (made_is : Result Leaf MadeFault) (result : Result (Unit {0}) Halt) → length operands ≡ takes → Holds old (named_on before) → Taken old taken before after operands hand → IsMade taken made answer made_is → Follows made new hand none → IsPut new after last i.place made_is result → Gives origin i operands answer → IsStep origin i takes old new before last result
made_step origin i takes old taken made new before after last operands hand answer made_is result number holds took came gone put gives =
    put_step origin i takes old new before after last operands answer made_is result number
    (given old taken made new before after operands hand answer made_is holds took came gone) put gives

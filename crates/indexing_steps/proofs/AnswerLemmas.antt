-- A subscript in evaluation.
use Rattle.std.proofs.Common.{◌≡◌, ℤ, ◌+◌, Bool, List, [], ◌∷◌, ◌++◌, length, map, Option, Ok, Err, refl, sym, ap, ◌∙◌, arith, append_assoc}
use Rattle.std.proofs.lemmas.List.{map-append, length-append, length-map, length-reverse, reverse-append, reverse-reverse, append_cancel_left}
use Rattle.std.specs.Prelude.{reverse}
use Rattle.apl_base.specs.declared.faults.ErrorKind.{ErrorKind}
use Rattle.apl_base.specs.declared.faults.Place.{Place}
use Rattle.apl_base.specs.Array.{Array}
use Rattle.array_store.specs.Stores.{StoreView}
use Rattle.drag_along.specs.Segments.{SegmentView}
use Rattle.drag_along.specs.Meaning.{Meaning, Means}
use Rattle.value_stack.specs.Stacks.{entries}
use Rattle.apl_model.specs.Evaluation.{State, Calls, of_arrays, at_place}
use Rattle.apl_model.specs.Outcome.{fails, Flow}
use Rattle.apl_model.specs.Subscript.{subscript}
use Rattle.apl_model.specs.Whole.{Answer}
use Rattle.apl_compile.specs.declared.codes.Instruction.{Instruction}
use Rattle.apl_compile.specs.declared.codes.Op.TheVariants as op
use Rattle.apl_compile.specs.Execution.{Taken, exec, goes_on, put, indexed}
use Rattle.standing.specs.Stand.{Stand, going, ended, stand_on, runs_from}
use Rattle.standing.specs.Laws.{Takes, Ends}
use Rattle.standing.proofs.StandLemmas.{end_stays}
use Rattle.pending_steps.specs.Shapes.{AreArrays}
use Rattle.leaf_steps.specs.Origins.{HasOrigin, StepsFrom, RefusesFrom}
use Rattle.beating.specs.declared.selections.Selection.{Selection}
use Rattle.beating.specs.Selecting.{selected}
use Rattle.indexing_steps.specs.Choices.{IsSelection}
use Rattle.indexing_steps.specs.Falls.{SelectsNewest, DropsBelow}
use Rattle.indexing_steps.specs.Operands.{positions_in, spread, AreOperands}
use Rattle.indexing_steps.proofs.MaskLemmas.{taken_spread}

abbrev instruction : List Bool → Place → Instruction
instruction mask place = record { place = place; op = op.Index mask }

abbrev mean : Array → Meaning
mean a = Means a

-- arrays are pending on others
arrays_on : (arrays vs : List Array) (to : Flow) (s : State) → stand_on (going vs to s) (map mean arrays) ≡ going (reverse arrays ++ vs) to s
arrays_on [] vs to s = refl
arrays_on (a ∷ arrays) vs to s =
    arrays_on arrays (a ∷ vs) to s
    ∙ ap (λ (l : List Array). going l to s) (sym (ap (λ (l : List Array). l ++ vs) (reverse-append (a ∷ []) arrays) ∙ append_assoc (reverse arrays) (a ∷ []) vs))

-- so are the operands of a subscript
operands_on : (there vs : List Array) (a : Array) (to : Flow) (s : State) → stand_on (going vs to s) (map mean (reverse there) ++ mean a ∷ []) ≡ going (a ∷ (there ++ vs)) to s
operands_on there vs a to s =
    let both : map mean (reverse there) ++ mean a ∷ [] ≡ map mean (reverse (a ∷ there)) =
    sym (map-append mean (reverse there) (a ∷ [])) ∙ ap (map mean) (sym (reverse-append (a ∷ []) there)) in
    ap (stand_on (going vs to s)) both ∙ arrays_on (reverse (a ∷ there)) vs to s
    ∙ ap (λ (l : List Array). going (l ++ vs) to s) (reverse-reverse (a ∷ there))

module _ (origin : ℤ) (mask : List Bool) (place : Place) (there : List Array) (a : Array) (number : length there ≡ positions_in mask) where
  -- what the instruction does there
  taken_there : (calls : Calls) (vs : List Array) (to : Flow) (s : State) (rest : List Instruction) → s.variables.origin ≡ origin
      → runs_from (of_arrays calls) (instruction mask place ∷ rest) (going (a ∷ (there ++ vs)) to s)
      ≡ goes_on (at_place place (subscript origin a (spread mask there)) s) (put (of_arrays calls) vs to (exec (of_arrays calls) rest))
  taken_there calls vs to s rest same =
      ap (λ (t : Option (Taken Array)). indexed (of_arrays calls) place a t to s (exec (of_arrays calls) rest)) (taken_spread mask there vs number)
      ∙ ap (λ (o : ℤ). goes_on (at_place place (subscript o a (spread mask there)) s) (put (of_arrays calls) vs to (exec (of_arrays calls) rest))) same

  takes_there : (c : Array) → subscript origin a (spread mask there) ≡ Ok c → (calls : Calls) (z : Stand) → HasOrigin origin z
      → Takes calls (instruction mask place) (stand_on z (map mean (reverse there) ++ mean a ∷ [])) (stand_on z (mean c ∷ []))
  takes_there c e calls (going vs to s) same rest =
      ap (runs_from (of_arrays calls) (instruction mask place ∷ rest)) (operands_on there vs a to s)
      ∙ taken_there calls vs to s rest same
      ∙ ap (λ (answer : Answer). goes_on (at_place place answer s) (put (of_arrays calls) vs to (exec (of_arrays calls) rest))) e
  takes_there c e calls (ended o) same rest =
      ap (runs_from (of_arrays calls) (instruction mask place ∷ rest)) (end_stays o (map mean (reverse there) ++ mean a ∷ []))
      ∙ ap (runs_from (of_arrays calls) rest) (sym (end_stays o (mean c ∷ [])))

  ends_there : (kind : ErrorKind) → subscript origin a (spread mask there) ≡ Err kind → (calls : Calls) (vs : List Array) (to : Flow) (s : State) → s.variables.origin ≡ origin
      → Ends calls (instruction mask place) (stand_on (going vs to s) (map mean (reverse there ++ a ∷ []))) (fails kind place s)
  ends_there kind e calls vs to s same rest =
      ap (λ (ms : List Meaning). runs_from (of_arrays calls) (instruction mask place ∷ rest) (stand_on (going vs to s) ms)) (map-append mean (reverse there) (a ∷ []))
      ∙ ap (runs_from (of_arrays calls) (instruction mask place ∷ rest)) (operands_on there vs a to s)
      ∙ taken_there calls vs to s rest same
      ∙ ap (λ (answer : Answer). goes_on (at_place place answer s) (put (of_arrays calls) vs to (exec (of_arrays calls) rest))) e

-- ---- the step

pub answer_steps : (origin : ℤ) (mask : List Bool) (place : Place) (pending after : List Meaning) (a c : Array) (ps : List (Option Array)) (o : AreOperands mask pending a ps) → subscript origin a ps ≡ Ok c → after ≡ o.older ++ Means c ∷ []
    → StepsFrom origin (record { place = place; op = op.Index mask }) (1 + positions_in mask) 1 pending after
answer_steps origin mask place pending after a c ps o e is = record {
  older = o.older;
  taken = map mean (reverse o.there) ++ mean a ∷ [];
  given = mean c ∷ [];
  was = o.are ∙ append_assoc o.older (map mean (reverse o.there)) (mean a ∷ []);
  is = is;
  operands =
      omega (arith, length-append (map mean (reverse o.there)) (mean a ∷ []), length-map (reverse o.there) mean, length-reverse o.there, o.number);
  values = refl;
  step = λ calls z h. takes_there origin mask place o.there a o.number c (ap (λ (qs : List (Option Array)). subscript origin a qs) (sym o.positions) ∙ e) calls z h;
}

-- ---- by a selection

-- two parts of a list
pub first_part : {A : Type 0} (xs ys zs ws : List A) → xs ++ zs ≡ ys ++ ws → length zs ≡ length ws → xs ≡ ys
first_part [] [] zs ws e h = refl
first_part {A} [] (y ∷ ys) zs ws e h =
    absurd (omega (arith, ap (λ (l : List A). length l) e, length-append (y ∷ ys) ws, h))
first_part {A} (x ∷ xs) [] zs ws e h =
    absurd (omega (arith, ap (λ (l : List A). length l) e, length-append (x ∷ xs) zs, h))
first_part {A} (x ∷ xs) (y ∷ ys) zs ws e h =
    let head : x ≡ y = cc in
    let tail : xs ++ zs ≡ ys ++ ws = cc in
    ap (λ (z : A). z ∷ xs) head ∙ ap (λ (l : List A). y ∷ l) (first_part xs ys zs ws tail h)

pub second_part : {A : Type 0} (xs ys zs ws : List A) → xs ++ zs ≡ ys ++ ws → length zs ≡ length ws → zs ≡ ws
second_part {A} xs ys zs ws e h =
    append_cancel_left ys zs ws (sym (ap (λ (l : List A). l ++ zs) (first_part xs ys zs ws e h)) ∙ e)

pub selection_steps : (origin : ℤ) (mask : List Bool) (place : Place) (old new : StoreView) (before between after : List SegmentView) (by : Selection) → IsSelection origin mask before (entries old before) by → SelectsNewest old before between by → DropsBelow old new between after (positions_in mask)
    → StepsFrom origin (record { place = place; op = op.Index mask }) (1 + positions_in mask) 1 (entries old before) (entries new after)
selection_steps origin mask place old new before between after by s n d =
    let o = s.operands in
    let there : List Meaning = map mean (reverse o.there) in
    let whole : (o.older ++ there) ++ mean s.array ∷ [] ≡ n.older ++ mean n.array ∷ [] = sym o.are ∙ n.was in
    let under : o.older ++ there ≡ n.older = first_part (o.older ++ there) n.older (mean s.array ∷ []) (mean n.array ∷ []) whole refl in
    let last : mean s.array ∷ [] ≡ mean n.array ∷ [] = second_part (o.older ++ there) n.older (mean s.array ∷ []) (mean n.array ∷ []) whole refl in
    let array : n.array ≡ s.array = cc in
    let again : n.older ++ mean (selected by n.array) ∷ [] ≡ (d.older ++ d.gone) ++ d.newest ∷ [] = sym n.is ∙ d.was in
    let below : n.older ≡ d.older ++ d.gone = first_part n.older (d.older ++ d.gone) (mean (selected by n.array) ∷ []) (d.newest ∷ []) again refl in
    let top : mean (selected by n.array) ∷ [] ≡ d.newest ∷ [] = second_part n.older (d.older ++ d.gone) (mean (selected by n.array) ∷ []) (d.newest ∷ []) again refl in
    let newest : mean (selected by n.array) ≡ d.newest = cc in
    let long : length there ≡ length d.gone = omega (arith, length-map (reverse o.there) mean, length-reverse o.there, o.number, d.number) in
    let older : o.older ≡ d.older = first_part o.older d.older there d.gone (under ∙ below) long in
    answer_steps origin mask place (entries old before) (entries new after) s.array (selected by s.array) s.positions o s.answer
    (d.is ∙ ap (λ (ms : List Meaning). ms ++ d.newest ∷ []) (sym older) ∙ ap (λ (m : Meaning). o.older ++ m ∷ []) (sym newest)
    ∙ ap (λ (a : Array). o.older ++ mean (selected by a) ∷ []) array)

-- ---- the error

-- a part of arrays is arrays
arrays_before : (arrays : List Array) (older younger : List Meaning) → map mean arrays ≡ older ++ younger → (xs : List Array) × (older ≡ map mean xs)
arrays_before arrays [] younger e = ([], refl)
arrays_before [] (m ∷ older) younger e = absurd cc
arrays_before (a ∷ arrays) (m ∷ older) younger e =
    let head : m ≡ mean a = cc in
    let tail : map mean arrays ≡ older ++ younger = cc in
    let rest = arrays_before arrays older younger tail in
    (a ∷ rest.0, ap (λ (x : Meaning). x ∷ older) head ∙ ap (λ (ms : List Meaning). mean a ∷ ms) rest.1)

pub listed : (store : StoreView) (stack : List SegmentView) → AreArrays store stack → (arrays : List Array) × (entries store stack ≡ map mean arrays)
listed store [] h = ([], refl)
listed store (s ∷ stack) h =
    let rest = listed store stack h.1 in
    (h.0.array ∷ rest.0, ap (λ (m : Meaning). m ∷ entries store stack) h.0.means ∙ ap (λ (ms : List Meaning). mean h.0.array ∷ ms) rest.1)

pub answer_refuses : (origin : ℤ) (mask : List Bool) (place : Place) (store : StoreView) (stack : List SegmentView) (pending : List Meaning) (a : Array) (ps : List (Option Array)) (kind : ErrorKind) → AreArrays store stack → entries store stack ≡ pending → AreOperands mask pending a ps → subscript origin a ps ≡ Err kind
    → RefusesFrom origin (record { place = place; op = op.Index mask }) (1 + positions_in mask) pending kind place
answer_refuses origin mask place store stack pending a ps kind arrays same o e =
    let all = listed store stack arrays in
    let split : map mean all.0 ≡ o.older ++ (map mean (reverse o.there) ++ mean a ∷ []) =
    sym all.1 ∙ same ∙ o.are ∙ append_assoc o.older (map mean (reverse o.there)) (mean a ∷ []) in
    let below = arrays_before all.0 o.older (map mean (reverse o.there) ++ mean a ∷ []) split in
    record {
      older = below.0;
      operands = reverse o.there ++ a ∷ [];
      are =
          o.are ∙ append_assoc o.older (map mean (reverse o.there)) (mean a ∷ [])
          ∙ ap (λ (ms : List Meaning). ms ++ (map mean (reverse o.there) ++ mean a ∷ [])) below.1
          ∙ ap (λ (ms : List Meaning). map mean below.0 ++ ms) (sym (map-append mean (reverse o.there) (a ∷ [])));
      number = omega (arith, length-append (reverse o.there) (a ∷ []), length-reverse o.there, o.number);
      ends = λ calls vs to s h. ends_there origin mask place o.there a o.number kind (ap (λ (qs : List (Option Array)). subscript origin a qs) (sym o.positions) ∙ e) calls vs to s h;
    }

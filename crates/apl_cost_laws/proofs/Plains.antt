-- A plain expression has a value, with no error, no output and no change of the variables.
use Rattle.std.proofs.Common.{◌≡◌, ◌==◌, ℕ, suc, Bool, true, false, not, ◌&&◌, if◌then◌else◌, ℤ, unsigned_abs, List, [], ◌∷◌, map, length, reverse, Option, Some, None, Result, Ok, Err, refl, sym, ap, subst, ◌∙◌}
use Rattle.std.specs.List.{AllByRecursion, list_all, list_any}
use Rattle.std.specs.Option.{option_map, option_and_then}
use Rattle.apl_base.specs.declared.cells.Kind.{Kind}
use Rattle.apl_base.specs.declared.cells.Kind.TheVariants.{Num}
use Rattle.apl_base.specs.declared.cells.Interval.{Interval}
use Rattle.apl_base.specs.declared.faults.ErrorKind.{ErrorKind}
use Rattle.apl_base.specs.declared.faults.ErrorKind.TheVariants as error
use Rattle.apl_base.specs.declared.faults.Place.{Place}
use Rattle.apl_base.specs.declared.rows.Dya.{Dya}
use Rattle.apl_base.specs.declared.rows.Mon.{Mon}
use Rattle.apl_base.specs.Array.{Array}
use Rattle.apl_base.specs.Selection.{upward, take_shape}
use Rattle.apl_base.proofs.Booleans.{both_parts}
use Rattle.apl_base.proofs.Upward.{length-map-upward}
use Rattle.apl_model.specs.declared.functions.DyaFn.{DyaFn}
use Rattle.apl_model.specs.declared.functions.DyaFn.TheVariants as two
use Rattle.apl_model.specs.declared.functions.MonFn.{MonFn}
use Rattle.apl_model.specs.declared.functions.MonFn.TheVariants as one
use Rattle.apl_model.specs.declared.tokens.Heading.{Heading}
use Rattle.apl_model.specs.Agreement.{mapped_outcome, CallsAgree}
use Rattle.apl_model.specs.Environment.{look_up}
use Rattle.apl_model.specs.Evaluation.{at_place, monadic_value, dyadic_value, literal_array}
use Rattle.apl_model.specs.Grammar.{IsExpression, ArePositions}
use Rattle.apl_model.specs.Lift.{fitting_shape}
use Rattle.apl_model.specs.Made.{is_above_one, are_counts, counted_from}
use Rattle.apl_model.specs.Order.{CallsOf, value_in, argument_in, positions_in}
use Rattle.apl_model.specs.Outcome.{Outcome, done, fails, and_then}
use Rattle.apl_model.specs.Subscript as places
use Rattle.apl_model.specs.Subscript.{is_text_position, in_axes, positions_shape}
use Rattle.apl_model.specs.Tree as tree
use Rattle.apl_model.specs.Tree.{Tree, Slot, Positions, Statement, constant, variable, call, parenthesis, monadic, dyadic, reduction, outer_product, inner_product, assignment, indexed_assignment, output, elided, given, no_position, position, nothing, branch, expression}
use Rattle.apl_model.specs.Whole.{is_single, is_shape, first, vector, error_if, error_or}
use Rattle.apl_model_laws.proofs.Values.{literals_are_lawful}
use Rattle.value_range.specs.declared.sides.Side.{Side}
use Rattle.value_range.specs.Interval.{ranged1, ranged2}
use Rattle.apl_cost.specs.Laws.{HasShape}
use Rattle.apl_cost.specs.Plain.{Plain, Arguments, work_of, literal_operand, name_operand, operand, iota_operand, numbers_from, applied, applied_over, joined, selected, no_arguments, argument_and, shape_where, reversed_lengths, taken_lengths, selected_lengths, subscript_lengths, with_axes, are_for_axes, value_if_done, value_here, positions_here, plain1, plain2, plain_of, arguments_of}
use Rattle.apl_cost.specs.Ranges.{RangedArray, array_of, side_of, ranged, literal_source, selection_source, other_source, source1, source2, subscript_source, counts_fit, is_run}
use Rattle.apl_cost.specs.RangedEvaluation.{RangedState, forgotten, beside, needed, of_variable, arrays_of, of_ranged}
use Rattle.apl_cost.proofs.Counting.{numbers_from_are_exact}
use Rattle.apl_cost.proofs.Forgetting.{expressions_forget}
use Rattle.apl_cost.proofs.Safe.{safe_functions_of_one, safe_functions_of_two}
use Rattle.apl_cost.proofs.Selecting.{takes_have_lengths, drops_have_lengths, transposes_have_lengths, reversals_have_lengths, subscripts_have_lengths}
use Rattle.apl_cost_laws.specs.Inside.{IsOptionalInside, AreVariablesInside}
use Rattle.apl_cost_laws.specs.PlainValues.{HasPlainValue, PlainExpressionsHaveValues}
use Rattle.apl_cost_laws.proofs.Cells.{makes-ok}
use Rattle.apl_cost_laws.proofs.PlainKinds.{OfKind, take-kind, drop-kind, transpose-kind, reverse-kind, subscript-kind}
use Rattle.apl_cost_laws.proofs.Staying.{look_up-inside}
use Rattle.apl_cost_laws.proofs.Table.{literal-inside, variable-inside, value1-inside, value2-inside, index-inside}

-- ---- what is judged

-- the sides of two arrays are alike where their kinds and intervals are
same-side : (k l : Kind) (i j : Interval) → k ≡ l → i ≡ j →
    (let p : Side = record { kind = k; interval = i } in p) ≡ (let q : Side = record { kind = l; interval = j } in q)
same-side k l i j e f = ap (λ (x : Kind). let p : Side = record { kind = x; interval = i } in p) e
    ∙ ap (λ (x : Interval). let p : Side = record { kind = l; interval = x } in p) f

-- a shape where a test holds
where-holds : (t : Bool) (ns ms : List ℕ) → shape_where t ns ≡ Some ms → t ≡ true
where-holds true ns ms e = refl
where-holds false ns ms e = absurd cc

-- what an option that is there makes of a value
option-there : {A B : Type 0} (P : B → Type 0) (f : A → B) (found : Option A) (b : B) → option_map f found ≡ Some b → ((a : A) → found ≡ Some a → P (f a)) → P b
option-there P f None b e h = absurd cc
option-there P f (Some a) b e h = let g : f a ≡ b = cc in subst P g (h a refl)

-- and what follows it
pub then-there : {A B : Type 0} (P : Type 0) (f : A → Option B) (found : Option A) (b : B) → option_and_then f found ≡ Some b →
    ((a : A) → found ≡ Some a → f a ≡ Some b → P) → P
then-there P f None b e h = absurd cc
then-there P f (Some a) b e h = h a refl e

-- ---- at one state

module _ (s : RangedState) (e : AreVariablesInside s.variables) where
  -- the origin there
  abbrev o : ℤ
  o = s.variables.origin

  -- a call that stands for none
  abbrev no_calls : CallsOf RangedState RangedArray
  no_calls = λ f place left right s. fails error.Value place s

  no_calls-agree : CallsAgree forgotten array_of no_calls (λ f place left right s. fails error.Value place s)
  no_calls-agree = record { agree = λ f place left right s. refl }

  -- the value of a plain argument where the statement begins
  value-is-here : (t : Tree) (p : Plain) (r : HasPlainValue s t p) → value_here s t ≡ Some r.value.array
  value-is-here t p r =
      ap value_if_done (expressions_forget (λ f place left right s. fails error.Value place s) no_calls no_calls-agree t s)
      ∙ ap (λ (x : Outcome RangedState RangedArray). value_if_done (mapped_outcome forgotten array_of x)) (r.made no_calls)

  -- ---- one argument

  made1 : (f : MonFn) (right : Tree) (place : Place) (v : RangedArray) (a : Array) → monadic_value o f v.array ≡ Ok a →
      (calls : CallsOf RangedState RangedArray) → value_in (of_ranged calls) right s ≡ done v s →
      value_in (of_ranged calls) (monadic f right place) s ≡ done (ranged (source1 f v) a) s
  made1 f right place v a k calls m =
      ap (λ x. and_then x (λ b t. (of_ranged calls).apply1 f b place t)) m ∙ ap (λ y. beside (ranged (source1 f v)) s (at_place place y)) k

  plain-one : (f : MonFn) (right : Tree) (place : Place) (b p : Plain) (r : HasPlainValue s right b) (a : Array) → monadic_value o f r.value.array ≡ Ok a →
      side_of (ranged (source1 f r.value) a) ≡ p.side → a.shape ≡ p.shape → HasPlainValue s (monadic f right place) p
  plain-one f right place b p r a k side shape = record {
    value = ranged (source1 f r.value) a;
    made = λ calls. made1 f right place r.value a k calls (r.made calls);
    inside = value1-inside o e.origin f r.value a r.inside k;
    side = side;
    shape = shape;
  }

  one-scalar : (f : Mon) (right : Tree) (place : Place) (b p : Plain) → HasPlainValue s right b → applied (ranged1 f b.side) b.shape b ≡ Some p →
      HasPlainValue s (monadic (one.Scalar f) right place) p
  one-scalar f right place b p r q = by (ranged1 f b.side).safe refl q
    where
      X : Plain
      X = record b {
        side = record { kind = Num; interval = (ranged1 f b.side).range };
        shape = b.shape;
        functions = suc b.functions;
        all_functions = suc b.all_functions;
      }

      by : (t : Bool) → (ranged1 f b.side).safe ≡ t → (if t then Some X else None) ≡ Some p → HasPlainValue s (monadic (one.Scalar f) right place) p
      by false t q = absurd cc
      by true t q =
          let h = safe_functions_of_one f r.value.array r.value.interval r.inside.interval (ap (λ (x : Side). (ranged1 f x).safe) r.side ∙ t) in
          let g : X ≡ p = cc in
          subst (HasPlainValue s (monadic (one.Scalar f) right place)) g
          (plain-one (one.Scalar f) right place b X r h.array h.made
          (same-side h.array.kind Num _ _ h.kind (ap (λ (x : Side). (ranged1 f x).range) r.side)) (h.shape ∙ r.shape))

  -- the numbers of `⍳`
  iota-made : (above single counts small : Bool) (v : Array) → not above && single && counts && small ≡ true →
      error_if error.Rank above (error_if error.Length (not single) (error_if error.Domain (not counts) (error_or error.Limit (not small) (λ _. Ok v)))) ≡ Ok v
  iota-made true single counts small v h = absurd cc
  iota-made false false counts small v h = absurd cc
  iota-made false true false small v h = absurd cc
  iota-made false true true false v h = absurd cc
  iota-made false true true true v h = refl

  one-iota : (right : Tree) (place : Place) (b p : Plain) (r : HasPlainValue s right b) → iota_operand o b r.value.array ≡ Some p →
      HasPlainValue s (monadic one.Iota right place) p
  one-iota right place b p r q = by (not (is_above_one a) && is_single a && are_counts a && is_shape (n ∷ [])) refl q
    where
      a : Array
      a = r.value.array

      n : ℕ
      n = unsigned_abs (first a)

      X : Plain
      X = record (operand (record { kind = Num; interval = numbers_from o n }) (n ∷ [])) { arguments = work_of b; all_functions = b.all_functions }

      v : Array
      v = vector Num (map (counted_from o) (upward 0 n))

      by : (t : Bool) → not (is_above_one a) && is_single a && are_counts a && is_shape (n ∷ []) ≡ t → (if t then Some X else None) ≡ Some p →
          HasPlainValue s (monadic one.Iota right place) p
      by false t q = absurd cc
      by true t q =
          let g : X ≡ p = cc in
          subst (HasPlainValue s (monadic one.Iota right place)) g
          (plain-one one.Iota right place b X r v (iota-made (is_above_one a) (is_single a) (are_counts a) (is_shape (n ∷ [])) v t)
          (same-side Num Num _ _ refl (numbers_from_are_exact o n)) (ap (λ k. k ∷ []) (length-map-upward (counted_from o) 0 n)))

  -- a selection from the argument
  one-selected : (f : MonFn) (right : Tree) (place : Place) (b : Plain) (r : HasPlainValue s right b) (ns : List ℕ) →
      source1 f r.value ≡ selection_source r.value →
      HasShape (monadic_value o f r.value.array) ns → OfKind r.value.array (monadic_value o f r.value.array) →
      HasPlainValue s (monadic f right place) (selected b no_arguments ns)
  one-selected f right place b r ns source h k =
      plain-one f right place b (selected b no_arguments ns) r h.array h.made
      (ap (λ src. side_of (ranged src h.array)) source
      ∙ same-side h.array.kind r.value.array.kind r.value.interval r.value.interval (k.makes h.array h.made) refl ∙ r.side) h.shape

  one-case : (f : MonFn) (right : Tree) (place : Place) (b p : Plain) (r : HasPlainValue s right b) → plain1 o f (λ _. value_here s right) b ≡ Some p →
      HasPlainValue s (monadic f right place) p
  one-case (one.Scalar f) right place b p r q = one-scalar f right place b p r q
  one-case one.Iota right place b p r q =
      one-iota right place b p r (ap (λ (x : Option Array). option_and_then (iota_operand o b) x) (sym (value-is-here right b r)) ∙ q)
  one-case (one.Reverse axis) right place b p r q =
      option-there (HasPlainValue s (monadic (one.Reverse axis) right place)) (selected b no_arguments) (reversed_lengths o axis b.shape) p q
      (λ ns k. one-selected (one.Reverse axis) right place b r ns refl
      (reversals_have_lengths o axis r.value.array ns (ap (reversed_lengths o axis) r.shape ∙ k)) (reverse-kind o axis r.value.array))
  one-case one.Transpose right place b p r q =
      let g : selected b no_arguments (reverse b.shape) ≡ p = cc in
      subst (HasPlainValue s (monadic one.Transpose right place)) g
      (one-selected one.Transpose right place b r (reverse b.shape) refl (record { array = _; made = refl; shape = ap reverse r.shape }) (makes-ok _ _ refl))
  one-case one.Shape right place b p r q = absurd cc
  one-case one.Ravel right place b p r q = absurd cc
  one-case one.GradeUp right place b p r q = absurd cc
  one-case one.GradeDown right place b p r q = absurd cc

  -- ---- two arguments

  made2 : (f : DyaFn) (left right : Tree) (place : Place) (u v : RangedArray) (c : Array) → dyadic_value o f u.array v.array ≡ Ok c →
      (calls : CallsOf RangedState RangedArray) → value_in (of_ranged calls) left s ≡ done u s → value_in (of_ranged calls) right s ≡ done v s →
      value_in (of_ranged calls) (dyadic f left right place) s ≡ done (ranged (source2 f u v) c) s
  made2 f left right place u v c k calls l m =
      ap (λ x. and_then x (λ b t. and_then (value_in (of_ranged calls) left t) (λ a w. (of_ranged calls).apply2 f a b place w))) m
      ∙ ap (λ x. and_then x (λ a w. (of_ranged calls).apply2 f a v place w)) l
      ∙ ap (λ y. beside (ranged (source2 f u v)) s (at_place place y)) k

  plain-two : (f : DyaFn) (left right : Tree) (place : Place) (a b p : Plain) (l : HasPlainValue s left a) (r : HasPlainValue s right b) (c : Array) →
      dyadic_value o f l.value.array r.value.array ≡ Ok c → side_of (ranged (source2 f l.value r.value) c) ≡ p.side → c.shape ≡ p.shape →
      HasPlainValue s (dyadic f left right place) p
  plain-two f left right place a b p l r c k side shape = record {
    value = ranged (source2 f l.value r.value) c;
    made = λ calls. made2 f left right place l.value r.value c k calls (l.made calls) (r.made calls);
    inside = value2-inside o e.origin f l.value r.value c l.inside r.inside k;
    side = side;
    shape = shape;
  }

  two-scalar-over : (f : Dya) (left right : Tree) (place : Place) (a b p : Plain) (ns : List ℕ) → fitting_shape a.shape b.shape ≡ Ok ns →
      HasPlainValue s left a → HasPlainValue s right b →
      applied (ranged2 f a.side b.side) ns (joined a b) ≡ Some p → HasPlainValue s (dyadic (two.Scalar f) left right place) p
  two-scalar-over f left right place a b p ns fits l r q = by (ranged2 f a.side b.side).safe refl q
    where
      X : Plain
      X = record (joined a b) {
        side = record { kind = Num; interval = (ranged2 f a.side b.side).range };
        shape = ns;
        functions = suc (joined a b).functions;
        all_functions = suc (joined a b).all_functions;
      }

      by : (t : Bool) → (ranged2 f a.side b.side).safe ≡ t → (if t then Some X else None) ≡ Some p → HasPlainValue s (dyadic (two.Scalar f) left right place) p
      by false safe q = absurd cc
      by true safe q =
          let h = safe_functions_of_two f l.value.array r.value.array l.value.interval r.value.interval ns l.inside.interval r.inside.interval
          (ap (λ (ms : List ℕ). fitting_shape ms r.value.array.shape) l.shape ∙ ap (λ (ms : List ℕ). fitting_shape a.shape ms) r.shape ∙ fits)
          (ap (λ (x : Side). (ranged2 f x (side_of r.value)).safe) l.side ∙ ap (λ (x : Side). (ranged2 f a.side x).safe) r.side ∙ safe) in
          let g : X ≡ p = cc in
          subst (HasPlainValue s (dyadic (two.Scalar f) left right place)) g
          (plain-two (two.Scalar f) left right place a b X l r h.array h.made
          (same-side h.array.kind Num _ _ h.kind (ap (λ (x : Side). (ranged2 f x (side_of r.value)).range) l.side
          ∙ ap (λ (x : Side). (ranged2 f a.side x).range) r.side)) h.shape)

  two-scalar : (f : Dya) (left right : Tree) (place : Place) (a b p : Plain) (fits : Result (List ℕ) ErrorKind) → fitting_shape a.shape b.shape ≡ fits →
      HasPlainValue s left a → HasPlainValue s right b →
      applied_over (ranged2 f a.side b.side) fits (joined a b) ≡ Some p → HasPlainValue s (dyadic (two.Scalar f) left right place) p
  two-scalar f left right place a b p (Err k) fits l r q = absurd cc
  two-scalar f left right place a b p (Ok ns) fits l r q = two-scalar-over f left right place a b p ns fits l r q

  -- a selection from the right argument
  two-selected : (f : DyaFn) (left right : Tree) (place : Place) (a b : Plain) (l : HasPlainValue s left a) (r : HasPlainValue s right b) (ns : List ℕ) →
      source2 f l.value r.value ≡ selection_source r.value → HasShape (dyadic_value o f l.value.array r.value.array) ns →
      OfKind r.value.array (dyadic_value o f l.value.array r.value.array) →
      HasPlainValue s (dyadic f left right place) (selected b (argument_and a no_arguments) ns)
  two-selected f left right place a b l r ns source h k =
      plain-two f left right place a b (selected b (argument_and a no_arguments) ns) l r h.array h.made
      (ap (λ src. side_of (ranged src h.array)) source
      ∙ same-side h.array.kind r.value.array.kind r.value.interval r.value.interval (k.makes h.array h.made) refl ∙ r.side) h.shape

  -- where a take has lengths its counts fit
  take-source : (u v : RangedArray) (ns : List ℕ) → taken_lengths u.array (with_axes u.array v.array.shape) ≡ Some ns →
      source2 two.Take u v ≡ selection_source v
  take-source u v ns k =
      let ms = with_axes u.array v.array.shape in
      let t = where-holds (are_for_axes u.array ms && counts_fit ms u.array.cells && is_shape (take_shape u.array.cells)) (take_shape u.array.cells) ns k in
      let h = both_parts (are_for_axes u.array ms && counts_fit ms u.array.cells) (is_shape (take_shape u.array.cells)) t in
      let fits = both_parts (are_for_axes u.array ms) (counts_fit ms u.array.cells) h.0 in
      ap (λ (x : Bool). if x then selection_source v else other_source) fits.1

  chosen : (f : DyaFn) (left right : Tree) (place : Place) (a b : Plain) (l : HasPlainValue s left a) (r : HasPlainValue s right b) (ns : List ℕ) →
      selected_lengths o f l.value.array r.value.array.shape ≡ Some ns →
      HasPlainValue s (dyadic f left right place) (selected b (argument_and a no_arguments) ns)
  chosen two.Take left right place a b l r ns k =
      two-selected two.Take left right place a b l r ns (take-source l.value r.value ns k) (takes_have_lengths l.value.array r.value.array ns k)
      (take-kind l.value.array r.value.array)
  chosen two.Skip left right place a b l r ns k =
      two-selected two.Skip left right place a b l r ns refl (drops_have_lengths l.value.array r.value.array ns k) (drop-kind l.value.array r.value.array)
  chosen two.Transpose left right place a b l r ns k =
      two-selected two.Transpose left right place a b l r ns refl (transposes_have_lengths o l.value.array r.value.array ns k)
      (transpose-kind o l.value.array r.value.array)
  chosen (two.Scalar f) left right place a b l r ns k = absurd cc
  chosen two.Reshape left right place a b l r ns k = absurd cc
  chosen two.Catenate left right place a b l r ns k = absurd cc
  chosen (two.Rotate axis) left right place a b l r ns k = absurd cc
  chosen (two.Compress axis) left right place a b l r ns k = absurd cc
  chosen (two.Expand axis) left right place a b l r ns k = absurd cc
  chosen two.IndexOf left right place a b l r ns k = absurd cc
  chosen two.Member left right place a b l r ns k = absurd cc
  chosen two.Encode left right place a b l r ns k = absurd cc
  chosen two.Decode left right place a b l r ns k = absurd cc

  -- a function of two arguments that is no scalar function
  by-value : (f : DyaFn) (left right : Tree) (place : Place) (a b p : Plain) (l : HasPlainValue s left a) → HasPlainValue s right b →
      option_and_then (λ v. option_map (selected b (argument_and a no_arguments)) (selected_lengths o f v b.shape)) (value_here s left) ≡ Some p →
      HasPlainValue s (dyadic f left right place) p
  by-value f left right place a b p l r q =
      let lengths : Array → Option Plain = λ v. option_map (selected b (argument_and a no_arguments)) (selected_lengths o f v b.shape) in
      let here : lengths l.value.array ≡ Some p = ap (λ (x : Option Array). option_and_then lengths x) (sym (value-is-here left a l)) ∙ q in
      option-there (HasPlainValue s (dyadic f left right place)) (selected b (argument_and a no_arguments)) (selected_lengths o f l.value.array b.shape) p here
      (λ ns k. chosen f left right place a b l r ns (ap (selected_lengths o f l.value.array) r.shape ∙ k))

  two-case : (f : DyaFn) (left right : Tree) (place : Place) (a b p : Plain) → HasPlainValue s left a → HasPlainValue s right b →
      plain2 o f (λ _. value_here s left) a b ≡ Some p →
      HasPlainValue s (dyadic f left right place) p
  two-case (two.Scalar f) left right place a b p l r q = two-scalar f left right place a b p (fitting_shape a.shape b.shape) refl l r q
  two-case two.Take left right place a b p l r q = by-value two.Take left right place a b p l r q
  two-case two.Skip left right place a b p l r q = by-value two.Skip left right place a b p l r q
  two-case two.Transpose left right place a b p l r q = by-value two.Transpose left right place a b p l r q
  two-case two.Reshape left right place a b p l r q = by-value two.Reshape left right place a b p l r q
  two-case two.Catenate left right place a b p l r q = by-value two.Catenate left right place a b p l r q
  two-case (two.Rotate axis) left right place a b p l r q = by-value (two.Rotate axis) left right place a b p l r q
  two-case (two.Compress axis) left right place a b p l r q = by-value (two.Compress axis) left right place a b p l r q
  two-case (two.Expand axis) left right place a b p l r q = by-value (two.Expand axis) left right place a b p l r q
  two-case two.IndexOf left right place a b p l r q = by-value two.IndexOf left right place a b p l r q
  two-case two.Member left right place a b p l r q = by-value two.Member left right place a b p l r q
  two-case two.Encode left right place a b p l r q = by-value two.Encode left right place a b p l r q
  two-case two.Decode left right place a b p l r q = by-value two.Decode left right place a b p l r q

  -- ---- subscripts

  -- positions that have values, whatever calls mean, and leave the state as it is
  record HasPlainPositions (qs : Positions) : Type 0 where
    values : List (Option RangedArray)
    made : (calls : CallsOf RangedState RangedArray) → positions_in (of_ranged calls) qs s ≡ done values s
    inside : AllByRecursion IsOptionalInside values
    here : positions_here s qs ≡ arrays_of values

  index-made : (array : Tree) (qs : Positions) (place : Place) (v : RangedArray) (vs : List (Option RangedArray)) (c : Array) →
      places.subscript o v.array (arrays_of vs) ≡ Ok c →
      (calls : CallsOf RangedState RangedArray) → positions_in (of_ranged calls) qs s ≡ done vs s → value_in (of_ranged calls) array s ≡ done v s →
      value_in (of_ranged calls) (tree.subscript array qs place) s ≡ done (ranged (subscript_source v (arrays_of vs)) c) s
  index-made array qs place v vs c k calls l m =
      ap (λ x. and_then x (λ ws t. and_then (value_in (of_ranged calls) array t) (λ a w. (of_ranged calls).index a ws place w))) l
      ∙ ap (λ x. and_then x (λ a w. (of_ranged calls).index a vs place w)) m
      ∙ ap (λ y. beside (ranged (subscript_source v (arrays_of vs))) s (at_place place y)) k

  -- where a subscript has lengths each position is a run
  subscript-source : (v : RangedArray) (ps : List (Option Array)) (ns : List ℕ) → subscript_lengths o ps v.array.shape ≡ Some ns →
      subscript_source v ps ≡ selection_source v
  subscript-source v ps ns k =
      let ms = v.array.shape in
      let each = length ps == length ms in
      let runs = list_all is_run ps in
      let text = not (list_any is_text_position ps) in
      let within = in_axes o ms ps in
      let t = where-holds (each && runs && text && within && is_shape (positions_shape ms ps)) (positions_shape ms ps) ns k in
      let h = both_parts (each && runs && text && within) (is_shape (positions_shape ms ps)) t in
      let i = both_parts (each && runs && text) within h.0 in
      let j = both_parts (each && runs) text i.0 in
      let l = both_parts each runs j.0 in
      ap (λ (x : Bool). if x then selection_source v else other_source) l.1

  subscripted : (array : Tree) (qs : Positions) (place : Place) (b : Plain) (more : Arguments) (r : HasPlainValue s array b) (q : HasPlainPositions qs) (ns : List ℕ) →
      subscript_lengths o (arrays_of q.values) r.value.array.shape ≡ Some ns → HasPlainValue s (tree.subscript array qs place) (selected b more ns)
  subscripted array qs place b more r q ns k =
      let ps = arrays_of q.values in
      let h = subscripts_have_lengths o ps r.value.array ns k in
      record {
        value = ranged (subscript_source r.value ps) h.array;
        made = λ calls. index-made array qs place r.value q.values h.array h.made calls (q.made calls) (r.made calls);
        inside = index-inside o r.value q.values h.array r.inside q.inside h.made;
        side = ap (λ src. side_of (ranged src h.array)) (subscript-source r.value ps ns k)
            ∙ same-side h.array.kind r.value.array.kind r.value.interval r.value.interval ((subscript-kind o r.value.array ps).makes h.array h.made) refl
            ∙ r.side;
        shape = h.shape;
      }

  -- ---- names and literals

  plain-name : (name : List ℕ) (place : Place) (found : Option RangedArray) (p : Plain) → look_up s.variables name ≡ found → IsOptionalInside found →
      option_map name_operand found ≡ Some p →
      HasPlainValue s (variable name place) p
  plain-name name place None p f h q = absurd cc
  plain-name name place (Some v) p f h q =
      let g : name_operand v ≡ p = cc in
      subst (HasPlainValue s (variable name place)) g (record {
        value = of_variable v;
        made = λ calls. ap (λ x. needed place (option_map of_variable x) s) f;
        inside = variable-inside v h;
        side = refl;
        shape = refl;
      })

  -- one position more
  one-position : (t : Tree) (qs : Positions) (p : Plain) → HasPlainValue s t p → HasPlainPositions qs → HasPlainPositions (position (given t) qs)
  one-position t qs p r q = record {
    values = Some r.value ∷ q.values;
    made = λ calls.
        ap (λ x. and_then x (λ vs w. and_then (argument_in (of_ranged calls) (given t) w) (λ v u. done (v ∷ vs) u))) (q.made calls)
        ∙ ap (λ x. and_then (and_then x (λ a u. done (Some a) u)) (λ v u. done (v ∷ q.values) u)) (r.made calls);
    inside = (r.inside, q.inside);
    here = ap (λ x. x ∷ positions_here s qs) (value-is-here t p r) ∙ ap (λ xs. Some r.value.array ∷ xs) q.here;
  }

  left-out : (qs : Positions) → HasPlainPositions qs → HasPlainPositions (position elided qs)
  left-out qs q = record {
    values = None ∷ q.values;
    made = λ calls. ap (λ x. and_then x (λ vs t. done (None ∷ vs) t)) (q.made calls);
    inside = (tt, q.inside);
    here = ap (λ xs. None ∷ xs) q.here;
  }

  -- ---- expressions

  mutual
    pub plain-value : (hs : List Heading) (t : Tree) (p : Plain) → IsExpression hs t → plain_of s t ≡ Some p → HasPlainValue s t p
    plain-value hs (constant l place) p h q =
        let g : literal_operand (literal_array l) ≡ p = cc in
        subst (HasPlainValue s (constant l place)) g
        (record {
          value = ranged literal_source (literal_array l);
          made = λ calls. refl;
          inside = literal-inside (literal_array l) (literals_are_lawful l h);
          side = refl;
          shape = refl;
        })
    plain-value hs (variable name place) p h q = plain-name name place (look_up s.variables name) p refl (look_up-inside s.variables name e) q
    plain-value hs (parenthesis t place) p h q =
        let r = plain-value hs t p h q in record { value = r.value; made = r.made; inside = r.inside; side = r.side; shape = r.shape }
    plain-value hs (monadic f right place) p h q =
        then-there (HasPlainValue s (monadic f right place) p) (plain1 o f (λ _. value_here s right)) (plain_of s right) p q
        (λ b k m. one-case f right place b p (plain-value hs right b h.1 k) m)
    plain-value hs (dyadic f left right place) p h q =
        then-there (HasPlainValue s (dyadic f left right place) p) (λ b. option_and_then (λ a. plain2 o f (λ _. value_here s left) a b) (plain_of s left))
        (plain_of s right) p q
        (λ b k m. then-there (HasPlainValue s (dyadic f left right place) p) (λ a. plain2 o f (λ _. value_here s left) a b) (plain_of s left) p m
        (λ a j n. two-case f left right place a b p (plain-value hs left a h.2 j) (plain-value hs right b h.3 k) n))
    plain-value hs (tree.subscript array qs place) p h q =
        then-there (HasPlainValue s (tree.subscript array qs place) p)
        (λ b. option_and_then (λ more. option_map (selected b more) (subscript_lengths o (positions_here s qs) b.shape)) (arguments_of s qs))
        (plain_of s array) p q
        (λ b k m. then-there (HasPlainValue s (tree.subscript array qs place) p)
        (λ more. option_map (selected b more) (subscript_lengths o (positions_here s qs) b.shape)) (arguments_of s qs) p m
        (λ more j n. let r = plain-value hs array b h.1 k in
        let ps = plain-positions hs qs more h.3 j in
        option-there (HasPlainValue s (tree.subscript array qs place)) (selected b more) (subscript_lengths o (positions_here s qs) b.shape) p n
        (λ ns i. subscripted array qs place b more r ps ns
        (ap (λ (xs : List (Option Array)). subscript_lengths o xs r.value.array.shape) (sym ps.here) ∙ ap (subscript_lengths o (positions_here s qs)) r.shape
        ∙ i))))
    plain-value hs (call f left right place) p h q = absurd cc
    plain-value hs (reduction f axis right place) p h q = absurd cc
    plain-value hs (outer_product f left right place) p h q = absurd cc
    plain-value hs (inner_product f g left right place) p h q = absurd cc
    plain-value hs (assignment name value place) p h q = absurd cc
    plain-value hs (indexed_assignment name qs value place) p h q = absurd cc
    plain-value hs (output value place) p h q = absurd cc

    plain-positions : (hs : List Heading) (qs : Positions) (more : Arguments) → ArePositions hs qs → arguments_of s qs ≡ Some more → HasPlainPositions qs
    plain-positions hs no_position more h q = record { values = []; made = λ calls. refl; inside = tt; here = refl }
    plain-positions hs (position elided qs) more h q = left-out qs (plain-positions hs qs more h.1 q)
    plain-positions hs (position (given t) qs) more h q =
        then-there (HasPlainPositions (position (given t) qs)) (λ p. option_map (argument_and p) (arguments_of s qs)) (plain_of s t) more q
        (λ p k m. option-there (λ x. HasPlainPositions (position (given t) qs)) (argument_and p) (arguments_of s qs) more m
        (λ others j. one-position t qs p (plain-value hs t p h.0 k) (plain-positions hs qs others h.1 j)))

pub plain_expressions_have_values : PlainExpressionsHaveValues
plain_expressions_have_values hs s e t p h q = plain-value s e hs t p h q

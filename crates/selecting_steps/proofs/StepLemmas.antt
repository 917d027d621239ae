-- The steps of functions that only rearrange, and their errors.
use Rattle.std.proofs.Common.{◌≡◌, ℕ, ℤ, ◌≤◌, List, [], ◌∷◌, ◌++◌, length, map, Some, refl, sym, ap, subst, ◌∙◌}
use Rattle.std.proofs.lemmas.List.{append_assoc}
use Rattle.apl_base.specs.declared.faults.ErrorKind.{ErrorKind}
use Rattle.apl_base.specs.declared.faults.Place.{Place}
use Rattle.apl_base.specs.Array.{Array}
use Rattle.array_store.specs.Stores.{StoreView}
use Rattle.drag_along.specs.Segments.{SegmentView}
use Rattle.drag_along.specs.Meaning.{Meaning, Means}
use Rattle.value_stack.specs.Stacks.{entries}
use Rattle.apl_model.specs.declared.functions.DyaFn.{DyaFn}
use Rattle.apl_model.specs.declared.functions.MonFn.{MonFn}
use Rattle.apl_model.specs.Evaluation.{monadic_value, dyadic_value}
use Rattle.apl_compile.specs.declared.codes.Op.TheVariants as op
use Rattle.pending_steps.specs.Shapes.{newest_shape, second_shape, AreArrays}
use Rattle.leaf_steps.specs.Origins.{StepsFrom, RefusesFrom}
use Rattle.selection_choices.specs.declared.choices.Choice.{Choice}
use Rattle.selection_choices.specs.Choices.{chosen, Chooses, Errs}
use Rattle.selecting_steps.specs.Chosen.{ChoosesNewest, ChoosesSecond, ChoosesByNewest, ErrsByNewest}
use Rattle.selecting_steps.proofs.GivenLemmas.{one_given, two_given, one_ends, two_ends}
use Rattle.selecting_steps.proofs.ArrayLemmas.{EndsWith, ends_with, EndsWithTwo, ends_with_two}

abbrev last : List Meaning → Meaning → Meaning
last [] d = d
last (x ∷ xs) d = last xs x

last-end : (xs : List Meaning) (x d : Meaning) → last (xs ++ x ∷ []) d ≡ x
last-end [] x d = refl
last-end (y ∷ xs) x d = last-end xs x y

-- the last of two lists that are the same
newest_same : (ms ns : List Meaning) (m n : Meaning) → ms ++ m ∷ [] ≡ ns ++ n ∷ [] → m ≡ n
newest_same ms ns m n e = sym (last-end ms m n) ∙ ap (λ (xs : List Meaning). last xs n) e ∙ last-end ns n n

array_same : (a b : Array) → Means a ≡ Means b → a ≡ b
array_same a b e = cc

-- ---- of one argument

pub newest_steps : (o : ℤ) (f : MonFn) (place : Place) (c : Choice) (ns : List ℕ) (before after : List Meaning) → Chooses (monadic_value o f) ns c → ChoosesNewest c ns before after → StepsFrom o (record { place = place; op = op.Mon f }) 1 1 before after
newest_steps o f place c ns before after h n = record {
  older = n.older;
  taken = Means n.array ∷ [];
  given = Means (chosen c n.array) ∷ [];
  was = n.was;
  is = n.is;
  operands = refl;
  values = refl;
  step = one_given o f place n.array (chosen c n.array) (h.answer n.array n.of_shape);
}

pub newest_refuses : (o : ℤ) (f : MonFn) (place : Place) (kind : ErrorKind) (store : StoreView) (stack : List SegmentView) → AreArrays store stack → 1 ≤ length stack → Errs (monadic_value o f) (newest_shape stack) kind → RefusesFrom o (record { place = place; op = op.Mon f }) 1 (entries store stack) kind place
newest_refuses o f place kind store stack arrays some errs =
    let e : EndsWith store stack = ends_with store stack arrays some in
    record {
      older = e.older;
      operands = e.array ∷ [];
      are = e.are;
      number = refl;
      ends = one_ends o f place e.array kind (errs e.array e.of_shape);
    }

-- ---- of two arguments

pub second_steps : (o : ℤ) (f : DyaFn) (place : Place) (c : Choice) (ns : List ℕ) (before after : List Meaning) → ChoosesByNewest o f ns before (Some c) → ChoosesSecond c ns before after → StepsFrom o (record { place = place; op = op.Dya f }) 2 1 before after
second_steps o f place c ns before after h n =
    let same : n.newest ≡ Means h.left = newest_same (n.older ++ Means n.array ∷ []) h.older n.newest (Means h.left) (append_assoc n.older (Means n.array ∷ []) (n.newest ∷ []) ∙ sym n.was ∙ h.is) in
    record {
      older = n.older;
      taken = Means n.array ∷ Means h.left ∷ [];
      given = Means (chosen c n.array) ∷ [];
      was = n.was ∙ ap (λ (m : Meaning). n.older ++ Means n.array ∷ m ∷ []) same;
      is = n.is;
      operands = refl;
      values = refl;
      step = two_given o f place h.left n.array (chosen c n.array) (h.chooses.answer n.array n.of_shape);
    }

pub second_refuses : (o : ℤ) (f : DyaFn) (place : Place) (kind : ErrorKind) (store : StoreView) (stack : List SegmentView) → AreArrays store stack → 2 ≤ length stack → ErrsByNewest o f (second_shape stack) (entries store stack) kind → RefusesFrom o (record { place = place; op = op.Dya f }) 2 (entries store stack) kind place
second_refuses o f place kind store stack arrays two h =
    let e : EndsWithTwo store stack = ends_with_two store stack arrays two in
    let same : e.left ≡ h.left =
    array_same e.left h.left
    (newest_same (map (λ a. Means a) e.older ++ Means e.right ∷ []) h.older (Means e.left) (Means h.left)
    (append_assoc (map (λ a. Means a) e.older) (Means e.right ∷ []) (Means e.left ∷ []) ∙ sym e.are ∙ h.is)) in
    record {
      older = e.older;
      operands = e.right ∷ e.left ∷ [];
      are = e.are;
      number = refl;
      ends = two_ends o f place e.left e.right kind (ap (λ (a : Array). dyadic_value o f a e.right) same ∙ h.errs e.right e.of_shape);
    }

-- what was chosen, where the entries mean what they meant
pub second_stepped : (o : ℤ) (f : DyaFn) (place : Place) (c : Choice) (ns : List ℕ) (first before between after : List Meaning) → before ≡ first → between ≡ before → ChoosesByNewest o f ns before (Some c) → ChoosesSecond c ns between after → StepsFrom o (record { place = place; op = op.Dya f }) 2 1 first after
second_stepped o f place c ns first before between after was stays h n =
    second_steps o f place c ns first after (subst (λ (xs : List Meaning). ChoosesByNewest o f ns xs (Some c)) was h) (subst (λ (xs : List Meaning). ChoosesSecond c ns xs after) (stays ∙ was) n)

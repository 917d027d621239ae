-- The literals in the code of a statement of the language are literals of the language.
use Rattle.std.proofs.Common.{◌≡◌, ℕ, zero, suc, List, [], ◌∷◌, ◌++◌, Some, true, subst}
use Rattle.std.specs.Prelude.{slice_get}
use Rattle.std.specs.List.{AllByRecursion}
use Rattle.apl_base.specs.declared.faults.Place.{Place}
use Rattle.apl_model.specs.Grammar.{IsExpression, ArePositions, IsPosition, IsStatement}
use Rattle.apl_model.specs.declared.tokens.Heading.{Heading}
use Rattle.apl_model.specs.Tree.{Tree, Slot, Positions, Statement, constant, variable, call, parenthesis, monadic, dyadic, reduction, outer_product, inner_product, subscript, assignment, indexed_assignment, output, elided, given, no_position, position, nothing, branch, expression}
use Rattle.apl_compile.specs.declared.codes.Instruction.{Instruction}
use Rattle.apl_compile.specs.declared.codes.Op.TheVariants as op
use Rattle.apl_compile.specs.Code.{at, arguments, expression_code, slot_code, positions_code, own_code, ending, printing, whole_code, code_on}
use Rattle.entry_steps.specs.Sound.{HasLawfulLiterals}

both : (xs ys : List Instruction) → HasLawfulLiterals xs → HasLawfulLiterals ys → HasLawfulLiterals (xs ++ ys)
both [] ys p q = q
both (x ∷ xs) ys p q = (p.0, both xs ys p.1 q)

-- what holds of each holds of the one at a position
pub all_there : {A : Type 0} → (P : A → Type 0) (xs : List A) (k : ℕ) (x : A) → AllByRecursion P xs → slice_get xs k ≡ Some x → P x
all_there P [] k x all e = absurd cc
all_there P (y ∷ xs) zero x all e =
    let same : y ≡ x = cc in
    subst P same all.0
all_there P (y ∷ xs) (suc k) x all e = all_there P xs k x all.1 e

mutual
  of_expression : (hs : List Heading) (t : Tree) → IsExpression hs t → HasLawfulLiterals (expression_code t)
  of_expression hs (constant l p) h = (h, tt)
  of_expression hs (variable n p) h = (tt, tt)
  of_expression hs (call f elided elided p) h = (tt, tt)
  of_expression hs (call f elided (given right) p) h = both (expression_code right) (own_code (call f elided (given right) p)) (of_expression hs right h.1) (tt, tt)
  of_expression hs (call f (given left) elided p) h = absurd h
  of_expression hs (call f (given left) (given right) p) h =
      both (expression_code right) (expression_code left ++ own_code (call f (given left) (given right) p)) (of_expression hs right h.3)
      (both (expression_code left) (own_code (call f (given left) (given right) p)) (of_expression hs left h.2) (tt, tt))
  of_expression hs (parenthesis e p) h = of_expression hs e h
  of_expression hs (monadic f right p) h = both (expression_code right) (own_code (monadic f right p)) (of_expression hs right h.1) (tt, tt)
  of_expression hs (dyadic f left right p) h =
      both (expression_code right) (expression_code left ++ own_code (dyadic f left right p)) (of_expression hs right h.3)
      (both (expression_code left) (own_code (dyadic f left right p)) (of_expression hs left h.2) (tt, tt))
  of_expression hs (reduction f x right p) h = both (expression_code right) (own_code (reduction f x right p)) (of_expression hs right h.1) (tt, tt)
  of_expression hs (outer_product f left right p) h =
      both (expression_code right) (expression_code left ++ own_code (outer_product f left right p)) (of_expression hs right h.2)
      (both (expression_code left) (own_code (outer_product f left right p)) (of_expression hs left h.1) (tt, tt))
  of_expression hs (inner_product f g left right p) h =
      both (expression_code right) (expression_code left ++ own_code (inner_product f g left right p)) (of_expression hs right h.2)
      (both (expression_code left) (own_code (inner_product f g left right p)) (of_expression hs left h.1) (tt, tt))
  of_expression hs (subscript array qs p) h =
      both (positions_code qs) (expression_code array ++ own_code (subscript array qs p)) (of_positions hs qs h.3)
      (both (expression_code array) (own_code (subscript array qs p)) (of_expression hs array h.1) (tt, tt))
  of_expression hs (assignment n value p) h = both (expression_code value) (own_code (assignment n value p)) (of_expression hs value h.1) (tt, tt)
  of_expression hs (indexed_assignment n qs value p) h =
      both (expression_code value) (positions_code qs ++ own_code (indexed_assignment n qs value p)) (of_expression hs value h.3)
      (both (positions_code qs) (own_code (indexed_assignment n qs value p)) (of_positions hs qs h.2) (tt, tt))
  of_expression hs (output value p) h = both (expression_code value) (own_code (output value p)) (of_expression hs value h) (tt, tt)

  of_positions : (hs : List Heading) (qs : Positions) → ArePositions hs qs → HasLawfulLiterals (positions_code qs)
  of_positions hs no_position h = tt
  of_positions hs (position q qs) h = both (positions_code qs) (slot_code q) (of_positions hs qs h.1) (of_slot hs q h.0)

  of_slot : (hs : List Heading) (q : Slot) → IsPosition hs q → HasLawfulLiterals (slot_code q)
  of_slot hs elided h = tt
  of_slot hs (given e) h = of_expression hs e h

-- an expression that is the whole statement, and a call
whole_printed : (hs : List Heading) (line : ℕ) (t : Tree) → HasLawfulLiterals (expression_code t) → HasLawfulLiterals (expression_code t ++ printing line)
whole_printed hs line t h = both (expression_code t) (printing line) h (tt, (tt, tt))

whole_silent : (hs : List Heading) (line : ℕ) (t : Tree) → HasLawfulLiterals (expression_code t) → HasLawfulLiterals (expression_code t ++ ending line)
whole_silent hs line t h = both (expression_code t) (ending line) h (tt, tt)

whole_call : (hs : List Heading) (line : ℕ) (f : List ℕ) (left right : Slot) (p : Place) → HasLawfulLiterals (slot_code left) → HasLawfulLiterals (slot_code right) → HasLawfulLiterals (whole_code line (call f left right p))
whole_call hs line f left right p l r =
    both (slot_code right) (slot_code left ++ (at p (op.Call f (arguments left right) true) ++ printing line)) r
    (both (slot_code left) (at p (op.Call f (arguments left right) true) ++ printing line) l (tt, (tt, (tt, tt))))

of_whole : (hs : List Heading) (line : ℕ) (t : Tree) → IsExpression hs t → HasLawfulLiterals (whole_code line t)
of_whole hs line (call f elided elided p) h = whole_call hs line f elided elided p tt tt
of_whole hs line (call f elided (given right) p) h = whole_call hs line f elided (given right) p tt (of_expression hs right h.1)
of_whole hs line (call f (given left) elided p) h = absurd h
of_whole hs line (call f (given left) (given right) p) h = whole_call hs line f (given left) (given right) p (of_expression hs left h.2) (of_expression hs right h.3)
of_whole hs line (assignment n value p) h = whole_silent hs line (assignment n value p) (of_expression hs (assignment n value p) h)
of_whole hs line (indexed_assignment n qs value p) h = whole_silent hs line (indexed_assignment n qs value p) (of_expression hs (indexed_assignment n qs value p) h)
of_whole hs line (output value p) h = whole_silent hs line (output value p) (of_expression hs (output value p) h)
of_whole hs line (constant l p) h = whole_printed hs line (constant l p) (of_expression hs (constant l p) h)
of_whole hs line (variable n p) h = whole_printed hs line (variable n p) (of_expression hs (variable n p) h)
of_whole hs line (parenthesis e p) h = whole_printed hs line (parenthesis e p) (of_expression hs (parenthesis e p) h)
of_whole hs line (monadic f right p) h = whole_printed hs line (monadic f right p) (of_expression hs (monadic f right p) h)
of_whole hs line (dyadic f left right p) h = whole_printed hs line (dyadic f left right p) (of_expression hs (dyadic f left right p) h)
of_whole hs line (reduction f x right p) h = whole_printed hs line (reduction f x right p) (of_expression hs (reduction f x right p) h)
of_whole hs line (outer_product f left right p) h = whole_printed hs line (outer_product f left right p) (of_expression hs (outer_product f left right p) h)
of_whole hs line (inner_product f g left right p) h = whole_printed hs line (inner_product f g left right p) (of_expression hs (inner_product f g left right p) h)
of_whole hs line (subscript array qs p) h = whole_printed hs line (subscript array qs p) (of_expression hs (subscript array qs p) h)

pub lawful_literals : (hs : List Heading) (line : ℕ) (t : Statement) → IsStatement hs t → HasLawfulLiterals (code_on line t)
lawful_literals hs line nothing h = (tt, tt)
lawful_literals hs line (branch value p) h = both (expression_code value) (at p op.Goto ++ ending line) (of_expression hs value h) (tt, (tt, tt))
lawful_literals hs line (expression value) h = of_whole hs line value h

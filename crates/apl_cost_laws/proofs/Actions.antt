-- One induction over the order of evaluation, for every predicate of actions, which begin at any state, that holds of a
-- value at once, and of what follows where it holds of what comes before. The predicate says of which values it speaks.
use Rattle.std.proofs.Common.{ℕ, List, [], ◌∷◌, Option, Some, None}
use Rattle.std.specs.List.{AllByRecursion}
use Rattle.apl_base.specs.declared.faults.Place.{Place}
use Rattle.apl_base.specs.declared.rows.Dya.{Dya}
use Rattle.apl_model.specs.declared.functions.Axis.{Axis}
use Rattle.apl_model.specs.declared.functions.DyaFn.{DyaFn}
use Rattle.apl_model.specs.declared.functions.MonFn.{MonFn}
use Rattle.apl_model.specs.declared.trees.Literal.{Literal}
use Rattle.apl_model.specs.Order.{Values, value_in, argument_in, positions_in, show_value, silently, expression_in, flow_in}
use Rattle.apl_model.specs.Outcome.{Outcome, done, and_then, Flow, onwards}
use Rattle.apl_model.specs.Tree.{Tree, Slot, Positions, Statement, constant, variable, call, parenthesis, monadic, dyadic, reduction, outer_product, inner_product, subscript, assignment, indexed_assignment, output, elided, given, no_position, position, nothing, branch, expression}

-- ---- the literals of a tree

abbrev mutual
  -- each literal of an expression is so
  pub InTree : (Literal → Type 0) → Tree → Type 0
  InTree L (constant l place) = L l
  InTree L (variable name place) = Unit {0}
  InTree L (call f left right place) = InSlot L left × InSlot L right
  InTree L (parenthesis t place) = InTree L t
  InTree L (monadic f right place) = InTree L right
  InTree L (dyadic f left right place) = InTree L left × InTree L right
  InTree L (reduction f axis right place) = InTree L right
  InTree L (outer_product f left right place) = InTree L left × InTree L right
  InTree L (inner_product f g left right place) = InTree L left × InTree L right
  InTree L (subscript t qs place) = InTree L t × InPositions L qs
  InTree L (assignment name t place) = InTree L t
  InTree L (indexed_assignment name qs t place) = InPositions L qs × InTree L t
  InTree L (output t place) = InTree L t

  pub InSlot : (Literal → Type 0) → Slot → Type 0
  InSlot L elided = Unit {0}
  InSlot L (given t) = InTree L t

  pub InPositions : (Literal → Type 0) → Positions → Type 0
  InPositions L no_position = Unit {0}
  InPositions L (position q qs) = InSlot L q × InPositions L qs

-- each literal of a statement is so
abbrev pub InStatement : (Literal → Type 0) → Statement → Type 0
InStatement L nothing = Unit {0}
InStatement L (branch t place) = InTree L t
InStatement L (expression t) = InTree L t

-- a value, where there is one
abbrev pub IsOptionalOf : {V : Type 0} → (V → Type 0) → Option V → Type 0
IsOptionalOf Q None = Unit {0}
IsOptionalOf Q (Some v) = Q v

-- anything
abbrev pub Any : {A : Type 0} → A → Type 0
Any a = Unit {0}

-- the predicate holds of everything that is done with such values
pub record IsOfActions {S V : Type 0} (M : Values S V) (L : Literal → Type 0) (Q : V → Type 0)
    (P : (A : Type 0) → (A → Type 0) → (S → Outcome S A) → Type 0) : Type 0 where
  pub literal : (l : Literal) → L l → P V Q (λ s. M.literal l s)
  pub name : (name : List ℕ) (place : Place) → P V Q (λ s. M.name name place s)
  pub apply1 : (f : MonFn) (b : V) (place : Place) → Q b → P V Q (λ s. M.apply1 f b place s)
  pub apply2 : (f : DyaFn) (a b : V) (place : Place) → Q a → Q b → P V Q (λ s. M.apply2 f a b place s)
  pub reduce : (f : Dya) (axis : Axis) (b : V) (place : Place) → Q b → P V Q (λ s. M.reduce f axis b place s)
  pub outer : (f : Dya) (a b : V) (place : Place) → Q a → Q b → P V Q (λ s. M.outer f a b place s)
  pub inner : (f g : Dya) (a b : V) (place : Place) → Q a → Q b → P V Q (λ s. M.inner f g a b place s)
  pub index : (a : V) (ps : List (Option V)) (place : Place) → Q a → AllByRecursion (IsOptionalOf Q) ps → P V Q (λ s. M.index a ps place s)
  pub assign : (name : List ℕ) (a : V) → Q a → P V Q (λ s. M.assign name a s)
  pub replace : (name : List ℕ) (ps : List (Option V)) (b : V) (place : Place) → AllByRecursion (IsOptionalOf Q) ps → Q b →
      P V Q (λ s. M.replace name ps b place s)
  pub calls : (f : List ℕ) (place : Place) (left right : Option V) → IsOptionalOf Q left → IsOptionalOf Q right →
      P (Option V) (IsOptionalOf Q) (λ s. M.calls f place left right s)
  pub print : (a : V) → Q a → P V Q (λ s. M.print a s)
  pub need : (place : Place) (a : Option V) → IsOptionalOf Q a → P V Q (λ s. M.need place a s)
  pub branch : (place : Place) (a : V) → Q a → P Flow Any (λ s. M.branch place a s)
  pub show : (a : Option V) → IsOptionalOf Q a → P Flow Any (λ s. M.show a s)

module _ {S V : Type 0} (M : Values S V) (L : Literal → Type 0) (Q : V → Type 0) (P : (A : Type 0) → (A → Type 0) → (S → Outcome S A) → Type 0)
    (ended : (A : Type 0) (R : A → Type 0) (a : A) → R a → P A R (λ s. done a s))
    (then : (A B : Type 0) (R : A → Type 0) (T : B → Type 0) (act : S → Outcome S A) (next : A → S → Outcome S B) →
    P A R act → ((a : A) → R a → P B T (λ s. next a s)) → P B T (λ s. and_then (act s) next))
    (h : IsOfActions M L Q P) where
  -- a value or no value
  abbrev Maybe : Option V → Type 0
  Maybe = IsOptionalOf Q

  -- what follows a value
  of-value : {B : Type 0} {T : B → Type 0} (act : S → Outcome S V) (next : V → S → Outcome S B) →
      P V Q act → ((a : V) → Q a → P B T (λ s. next a s)) → P B T (λ s. and_then (act s) next)
  of-value {B} {T} act next p n = then V B Q T act next p n

  -- what follows a value or none
  of-maybe : {B : Type 0} {T : B → Type 0} (act : S → Outcome S (Option V)) (next : Option V → S → Outcome S B) →
      P (Option V) Maybe act → ((a : Option V) → Maybe a → P B T (λ s. next a s)) → P B T (λ s. and_then (act s) next)
  of-maybe {B} {T} act next p n = then (Option V) B Maybe T act next p n

  -- what follows positions
  of-positions : {B : Type 0} {T : B → Type 0} (act : S → Outcome S (List (Option V))) (next : List (Option V) → S → Outcome S B) →
      P (List (Option V)) (AllByRecursion Maybe) act → ((vs : List (Option V)) → AllByRecursion Maybe vs → P B T (λ s. next vs s)) →
      P B T (λ s. and_then (act s) next)
  of-positions {B} {T} act next p n = then (List (Option V)) B (AllByRecursion Maybe) T act next p n

  -- a call, and what follows it
  of-call : {B : Type 0} {T : B → Type 0} (f : List ℕ) (left right : Slot) (place : Place) (next : Option V → S → Outcome S B) →
      P (Option V) Maybe (λ s. argument_in M left s) → P (Option V) Maybe (λ s. argument_in M right s) → ((a : Option V) → Maybe a → P B T (λ s. next a s)) →
      P B T (λ s. and_then (argument_in M right s) (λ b t. and_then (argument_in M left t) (λ a u. and_then (M.calls f place a b u) next)))
  of-call f left right place next p q n =
      of-maybe (λ s. argument_in M right s) (λ b t. and_then (argument_in M left t) (λ a u. and_then (M.calls f place a b u) next)) q
      (λ b y. of-maybe (λ t. argument_in M left t) (λ a u. and_then (M.calls f place a b u) next) p
      (λ a x. of-maybe (λ u. M.calls f place a b u) next (h.calls f place a b x y) n))

  -- two values, the right one first, and what follows them
  of-two : (left right : Tree) (next : V → V → S → Outcome S V) → P V Q (λ s. value_in M left s) → P V Q (λ s. value_in M right s) →
      ((a b : V) → Q a → Q b → P V Q (λ s. next a b s)) → P V Q (λ s. and_then (value_in M right s) (λ b t. and_then (value_in M left t) (λ a u. next a b u)))
  of-two left right next p q n =
      of-value (λ s. value_in M right s) (λ b t. and_then (value_in M left t) (λ a u. next a b u)) q
      (λ b y. of-value (λ t. value_in M left t) (λ a u. next a b u) p (λ a x. n a b x y))

  mutual
    pub each-value : (t : Tree) → InTree L t → P V Q (λ s. value_in M t s)
    each-value (constant literal place) l = h.literal literal l
    each-value (variable name place) l = h.name name place
    each-value (call f left right place) l =
        of-call f left right place (λ a s. M.need place a s) (each-argument left l.0) (each-argument right l.1) (h.need place)
    each-value (parenthesis inner place) l = each-value inner l
    each-value (monadic f right place) l =
        of-value (λ s. value_in M right s) (λ b t. M.apply1 f b place t) (each-value right l) (λ b q. h.apply1 f b place q)
    each-value (dyadic f left right place) l =
        of-two left right (λ a b u. M.apply2 f a b place u) (each-value left l.0) (each-value right l.1) (λ a b x y. h.apply2 f a b place x y)
    each-value (reduction f axis right place) l =
        of-value (λ s. value_in M right s) (λ b t. M.reduce f axis b place t) (each-value right l) (λ b q. h.reduce f axis b place q)
    each-value (outer_product f left right place) l =
        of-two left right (λ a b u. M.outer f a b place u) (each-value left l.0) (each-value right l.1) (λ a b x y. h.outer f a b place x y)
    each-value (inner_product f g left right place) l =
        of-two left right (λ a b u. M.inner f g a b place u) (each-value left l.0) (each-value right l.1) (λ a b x y. h.inner f g a b place x y)
    each-value (subscript array ps place) l =
        of-positions (λ s. positions_in M ps s) (λ vs t. and_then (value_in M array t) (λ a u. M.index a vs place u)) (each-position ps l.1)
        (λ vs y. of-value (λ t. value_in M array t) (λ a u. M.index a vs place u) (each-value array l.0) (λ a x. h.index a vs place x y))
    each-value (assignment name value place) l =
        of-value (λ s. value_in M value s) (λ a t. M.assign name a t) (each-value value l) (h.assign name)
    each-value (indexed_assignment name ps value place) l =
        of-value (λ s. value_in M value s) (λ b t. and_then (positions_in M ps t) (λ vs u. M.replace name vs b place u)) (each-value value l.1)
        (λ b y. of-positions (λ t. positions_in M ps t) (λ vs u. M.replace name vs b place u) (each-position ps l.0) (λ vs x. h.replace name vs b place x y))
    each-value (output value place) l = of-value (λ s. value_in M value s) (λ a t. M.print a t) (each-value value l) h.print

    pub each-argument : (q : Slot) → InSlot L q → P (Option V) (IsOptionalOf Q) (λ s. argument_in M q s)
    each-argument elided l = ended (Option V) Maybe None tt
    each-argument (given t) l =
        of-value (λ s. value_in M t s) (λ a u. done (Some a) u) (each-value t l) (λ a x. ended (Option V) Maybe (Some a) x)

    pub each-position : (qs : Positions) → InPositions L qs → P (List (Option V)) (AllByRecursion (IsOptionalOf Q)) (λ s. positions_in M qs s)
    each-position no_position l = ended (List (Option V)) (AllByRecursion Maybe) [] tt
    each-position (position q qs) l =
        of-positions (λ s. positions_in M qs s) (λ vs t. and_then (argument_in M q t) (λ v u. done (v ∷ vs) u)) (each-position qs l.1)
        (λ vs y. of-maybe (λ t. argument_in M q t) (λ v u. done (v ∷ vs) u) (each-argument q l.0)
        (λ v x. ended (List (Option V)) (AllByRecursion Maybe) (v ∷ vs) (x, y)))

  -- a value that is shown
  shown : (t : Tree) → InTree L t → P Flow Any (λ s. and_then (value_in M t s) (show_value M))
  shown t l = of-value (λ s. value_in M t s) (show_value M) (each-value t l) (λ a x. h.show (Some a) x)

  -- a value after which nothing is shown
  silent : (t : Tree) → InTree L t → P Flow Any (λ s. and_then (value_in M t s) silently)
  silent t l = of-value (λ s. value_in M t s) silently (each-value t l) (λ a x. ended Flow Any onwards tt)

  -- an expression as a statement
  each-expression : (t : Tree) → InTree L t → P Flow Any (λ s. expression_in M t s)
  each-expression (call f left right place) l =
      of-call f left right place (λ a s. M.show a s) (each-argument left l.0) (each-argument right l.1) h.show
  each-expression (assignment name value place) l = silent (assignment name value place) l
  each-expression (indexed_assignment name ps value place) l = silent (indexed_assignment name ps value place) l
  each-expression (output value place) l = silent (output value place) l
  each-expression (constant c p) l = shown (constant c p) l
  each-expression (variable n p) l = shown (variable n p) l
  each-expression (parenthesis e p) l = shown (parenthesis e p) l
  each-expression (monadic f b p) l = shown (monadic f b p) l
  each-expression (dyadic f a b p) l = shown (dyadic f a b p) l
  each-expression (reduction f x b p) l = shown (reduction f x b p) l
  each-expression (outer_product f a b p) l = shown (outer_product f a b p) l
  each-expression (inner_product f g a b p) l = shown (inner_product f g a b p) l
  each-expression (subscript a ps p) l = shown (subscript a ps p) l

  -- a statement
  pub each-flow : (t : Statement) → InStatement L t → P Flow Any (λ s. flow_in M t s)
  each-flow nothing l = ended Flow Any onwards tt
  each-flow (branch value place) l = of-value (λ s. value_in M value s) (λ a t. M.branch place a t) (each-value value l) (h.branch place)
  each-flow (expression value) l = each-expression value l

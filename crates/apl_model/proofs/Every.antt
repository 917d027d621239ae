-- One induction over the order of evaluation, for every predicate of outcomes that holds of a value at once, and of what
-- follows where it holds of what comes before.
use Rattle.std.proofs.Common.{ℕ, List, [], ◌∷◌, Option, Some, None}
use Rattle.apl_base.specs.declared.faults.Place.{Place}
use Rattle.apl_base.specs.declared.rows.Dya.{Dya}
use Rattle.apl_model.specs.declared.functions.Axis.{Axis}
use Rattle.apl_model.specs.declared.functions.DyaFn.{DyaFn}
use Rattle.apl_model.specs.declared.functions.MonFn.{MonFn}
use Rattle.apl_model.specs.declared.trees.Literal.{Literal}
use Rattle.apl_model.specs.Order.{Values, value_in, argument_in, positions_in, show_value, silently, expression_in, flow_in}
use Rattle.apl_model.specs.Outcome.{Outcome, done, and_then, Flow, onwards}
use Rattle.apl_model.specs.Tree.{Tree, Slot, Positions, Statement, constant, variable, call, parenthesis, monadic, dyadic, reduction, outer_product, inner_product, subscript, assignment, indexed_assignment, output, elided, given, no_position, position, nothing, branch, expression}

-- the predicate, of what begins at a state, holds of everything that is done with values
pub record IsOfEach {S V : Type 0} (M : Values S V) (P : (A : Type 0) → S → Outcome S A → Type 0) : Type 0 where
  pub literal : (l : Literal) (s : S) → P V s (M.literal l s)
  pub name : (name : List ℕ) (place : Place) (s : S) → P V s (M.name name place s)
  pub apply1 : (f : MonFn) (b : V) (place : Place) (s : S) → P V s (M.apply1 f b place s)
  pub apply2 : (f : DyaFn) (a b : V) (place : Place) (s : S) → P V s (M.apply2 f a b place s)
  pub reduce : (f : Dya) (axis : Axis) (b : V) (place : Place) (s : S) → P V s (M.reduce f axis b place s)
  pub outer : (f : Dya) (a b : V) (place : Place) (s : S) → P V s (M.outer f a b place s)
  pub inner : (f g : Dya) (a b : V) (place : Place) (s : S) → P V s (M.inner f g a b place s)
  pub index : (a : V) (ps : List (Option V)) (place : Place) (s : S) → P V s (M.index a ps place s)
  pub assign : (name : List ℕ) (a : V) (s : S) → P V s (M.assign name a s)
  pub replace : (name : List ℕ) (ps : List (Option V)) (b : V) (place : Place) (s : S) → P V s (M.replace name ps b place s)
  pub calls : (f : List ℕ) (place : Place) (left right : Option V) (s : S) → P (Option V) s (M.calls f place left right s)
  pub print : (a : V) (s : S) → P V s (M.print a s)
  pub need : (place : Place) (a : Option V) (s : S) → P V s (M.need place a s)
  pub branch : (place : Place) (a : V) (s : S) → P Flow s (M.branch place a s)
  pub show : (a : Option V) (s : S) → P Flow s (M.show a s)

module _ {S V : Type 0} (M : Values S V) (P : (A : Type 0) → S → Outcome S A → Type 0)
    (ended : (A : Type 0) (a : A) (s : S) → P A s (done a s))
    (then : (A B : Type 0) (s : S) (o : Outcome S A) (next : A → S → Outcome S B) → P A s o → ((a : A) (t : S) → P B t (next a t)) → P B s (and_then o next))
    (h : IsOfEach M P) where
  -- what follows, with its parts found
  onward : {A B : Type 0} {s : S} {o : Outcome S A} {next : A → S → Outcome S B} → P A s o → ((a : A) (t : S) → P B t (next a t)) → P B s (and_then o next)
  onward {A} {B} {s} {o} {next} p n = then A B s o next p n

  mutual
    pub every-value : (t : Tree) (s : S) → P V s (value_in M t s)
    every-value (constant literal place) s = h.literal literal s
    every-value (variable name place) s = h.name name place s
    every-value (call f left right place) s =
        onward (every-argument right s) (λ b t. onward (every-argument left t) (λ a u. onward (h.calls f place a b u) (h.need place)))
    every-value (parenthesis inner place) s = every-value inner s
    every-value (monadic f right place) s = onward (every-value right s) (λ b t. h.apply1 f b place t)
    every-value (dyadic f left right place) s = onward (every-value right s) (λ b t. onward (every-value left t) (λ a u. h.apply2 f a b place u))
    every-value (reduction f axis right place) s = onward (every-value right s) (λ b t. h.reduce f axis b place t)
    every-value (outer_product f left right place) s = onward (every-value right s) (λ b t. onward (every-value left t) (λ a u. h.outer f a b place u))
    every-value (inner_product f g left right place) s = onward (every-value right s) (λ b t. onward (every-value left t) (λ a u. h.inner f g a b place u))
    every-value (subscript array ps place) s = onward (every-position ps s) (λ vs t. onward (every-value array t) (λ a u. h.index a vs place u))
    every-value (assignment name value place) s = onward (every-value value s) (h.assign name)
    every-value (indexed_assignment name ps value place) s =
        onward (every-value value s) (λ b t. onward (every-position ps t) (λ vs u. h.replace name vs b place u))
    every-value (output value place) s = onward (every-value value s) h.print

    pub every-argument : (q : Slot) (s : S) → P (Option V) s (argument_in M q s)
    every-argument elided s = ended (Option V) None s
    every-argument (given t) s = onward (every-value t s) (λ a u. ended (Option V) (Some a) u)

    pub every-position : (qs : Positions) (s : S) → P (List (Option V)) s (positions_in M qs s)
    every-position no_position s = ended (List (Option V)) [] s
    every-position (position q qs) s = onward (every-position qs s) (λ vs t. onward (every-argument q t) (λ v u. ended (List (Option V)) (v ∷ vs) u))

  -- a value that is shown
  shown : (t : Tree) (s : S) → P Flow s (and_then (value_in M t s) (show_value M))
  shown t s = onward (every-value t s) (λ a u. h.show (Some a) u)

  -- a value after which nothing is shown
  silent : (t : Tree) (s : S) → P Flow s (and_then (value_in M t s) silently)
  silent t s = onward (every-value t s) (λ a u. ended Flow onwards u)

  -- an expression as a statement
  every-expression : (t : Tree) (s : S) → P Flow s (expression_in M t s)
  every-expression (call f left right place) s =
      onward (every-argument right s) (λ b t. onward (every-argument left t) (λ a u. onward (h.calls f place a b u) h.show))
  every-expression (assignment name value place) s = silent (assignment name value place) s
  every-expression (indexed_assignment name ps value place) s = silent (indexed_assignment name ps value place) s
  every-expression (output value place) s = silent (output value place) s
  every-expression (constant l p) s = shown (constant l p) s
  every-expression (variable n p) s = shown (variable n p) s
  every-expression (parenthesis e p) s = shown (parenthesis e p) s
  every-expression (monadic f b p) s = shown (monadic f b p) s
  every-expression (dyadic f a b p) s = shown (dyadic f a b p) s
  every-expression (reduction f x b p) s = shown (reduction f x b p) s
  every-expression (outer_product f a b p) s = shown (outer_product f a b p) s
  every-expression (inner_product f g a b p) s = shown (inner_product f g a b p) s
  every-expression (subscript a ps p) s = shown (subscript a ps p) s

  -- a statement
  pub every-flow : (t : Statement) (s : S) → P Flow s (flow_in M t s)
  every-flow nothing s = ended Flow onwards s
  every-flow (branch value place) s = onward (every-value value s) (h.branch place)
  every-flow (expression value) s = every-expression value s

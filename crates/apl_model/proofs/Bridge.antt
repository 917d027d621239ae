-- What the plain tree of each variant of an expression is.
use Rattle.std.proofs.Common.{◌≡◌, ℕ, List, [], ◌∷◌, Option, None, Some, refl, sym, ap, ◌∙◌, map}
use Rattle.apl_base.specs.declared.faults.Place.{Place}
use Rattle.apl_base.specs.declared.rows.Dya.{Dya}
use Rattle.apl_model.specs.Tree as plain
use Rattle.apl_model.specs.Tree.{Slot, Positions}
use Rattle.apl_model.specs.Mirror.{tree_of, tree_step, positions_of}
use Rattle.apl_model.specs.declared.functions.Axis.{Axis}
use Rattle.apl_model.specs.declared.functions.DyaFn.{DyaFn}
use Rattle.apl_model.specs.declared.functions.MonFn.{MonFn}
use Rattle.apl_model.specs.declared.trees.Literal.{Literal}
use Rattle.apl_model.specs.declared.trees.Expr.{Expr, Lit, Name, Call, Paren, One, Two, Reduce, Outer, Inner, Index, Assign, IndexAssign, Output}
use Rattle.apl_model.specs.declared.trees.Expr.TheFolds.{fold-roll-Expr}
use Rattle.apl_model.specs.declared.trees.Expr.TheOpen.{Expr-F}
use Rattle.apl_model.specs.declared.trees.Expr.TheShapes.{former-Expr-Index-1-at-1}
use Rattle.apl_model.specs.declared.trees.Expr.TheVariants.{rolls-Lit, rolls-Name, rolls-Call, rolls-Paren, rolls-One, rolls-Two, rolls-Reduce, rolls-Outer, rolls-Inner, rolls-Index, rolls-Assign, rolls-IndexAssign, rolls-Output}

-- an argument or a position that may be left out
abbrev pub slot_with : Option Expr → Slot
slot_with None = plain.elided
slot_with (Some e) = plain.given (tree_of e)

-- the positions of a subscript
abbrev pub positions_with : List (Option Expr) → Positions
positions_with [] = plain.no_position
positions_with (q ∷ qs) = plain.position (slot_with q) (positions_with qs)

pub tree-lit : (l : Literal) (p : Place) → tree_of (Lit l p) ≡ plain.constant l p
tree-lit l p = ap tree_of (sym (rolls-Lit l p)) ∙ fold-roll-Expr _ tree_step (Expr-F.Lit l p)

pub tree-name : (n : List ℕ) (p : Place) → tree_of (Name n p) ≡ plain.variable n p
tree-name n p = ap tree_of (sym (rolls-Name n p)) ∙ fold-roll-Expr _ tree_step (Expr-F.Name n p)

positions_is : (qs : List (Option Expr)) → positions_of (map (former-Expr-Index-1-at-1.map Expr plain.Tree tree_of) qs) ≡ positions_with qs
positions_is [] = refl
positions_is (None ∷ qs) = ap (plain.position plain.elided) (positions_is qs)
positions_is (Some e ∷ qs) = ap (plain.position (plain.given (tree_of e))) (positions_is qs)

pub tree-call : (f : List ℕ) (x y : Option Expr) (p : Place) → tree_of (Call f x y p) ≡ plain.call f (slot_with x) (slot_with y) p
tree-call f None None p = ap tree_of (sym (rolls-Call f None None p)) ∙ fold-roll-Expr _ tree_step (Expr-F.Call f None None p)
tree-call f None (Some y) p = ap tree_of (sym (rolls-Call f None (Some y) p)) ∙ fold-roll-Expr _ tree_step (Expr-F.Call f None (Some y) p)
tree-call f (Some x) None p = ap tree_of (sym (rolls-Call f (Some x) None p)) ∙ fold-roll-Expr _ tree_step (Expr-F.Call f (Some x) None p)
tree-call f (Some x) (Some y) p = ap tree_of (sym (rolls-Call f (Some x) (Some y) p)) ∙ fold-roll-Expr _ tree_step (Expr-F.Call f (Some x) (Some y) p)

pub tree-paren : (e : Expr) (p : Place) → tree_of (Paren e p) ≡ plain.parenthesis (tree_of e) p
tree-paren e p = ap tree_of (sym (rolls-Paren e p)) ∙ fold-roll-Expr _ tree_step (Expr-F.Paren e p)

pub tree-one : (f : MonFn) (e : Expr) (p : Place) → tree_of (One f e p) ≡ plain.monadic f (tree_of e) p
tree-one f e p = ap tree_of (sym (rolls-One f e p)) ∙ fold-roll-Expr _ tree_step (Expr-F.One f e p)

pub tree-two : (f : DyaFn) (a b : Expr) (p : Place) → tree_of (Two f a b p) ≡ plain.dyadic f (tree_of a) (tree_of b) p
tree-two f a b p = ap tree_of (sym (rolls-Two f a b p)) ∙ fold-roll-Expr _ tree_step (Expr-F.Two f a b p)

pub tree-reduce : (f : Dya) (x : Axis) (e : Expr) (p : Place) → tree_of (Reduce f x e p) ≡ plain.reduction f x (tree_of e) p
tree-reduce f x e p = ap tree_of (sym (rolls-Reduce f x e p)) ∙ fold-roll-Expr _ tree_step (Expr-F.Reduce f x e p)

pub tree-outer : (f : Dya) (a b : Expr) (p : Place) → tree_of (Outer f a b p) ≡ plain.outer_product f (tree_of a) (tree_of b) p
tree-outer f a b p = ap tree_of (sym (rolls-Outer f a b p)) ∙ fold-roll-Expr _ tree_step (Expr-F.Outer f a b p)

pub tree-inner : (f g : Dya) (a b : Expr) (p : Place) → tree_of (Inner f g a b p) ≡ plain.inner_product f g (tree_of a) (tree_of b) p
tree-inner f g a b p = ap tree_of (sym (rolls-Inner f g a b p)) ∙ fold-roll-Expr _ tree_step (Expr-F.Inner f g a b p)

pub tree-index : (a : Expr) (qs : List (Option Expr)) (p : Place) → tree_of (Index a qs p) ≡ plain.subscript (tree_of a) (positions_with qs) p
tree-index a qs p = ap tree_of (sym (rolls-Index a qs p)) ∙ fold-roll-Expr _ tree_step (Expr-F.Index a qs p) ∙ ap (λ q. plain.subscript (tree_of a) q p) (positions_is qs)

pub tree-assign : (n : List ℕ) (e : Expr) (p : Place) → tree_of (Assign n e p) ≡ plain.assignment n (tree_of e) p
tree-assign n e p = ap tree_of (sym (rolls-Assign n e p)) ∙ fold-roll-Expr _ tree_step (Expr-F.Assign n e p)

pub tree-index_assign : (n : List ℕ) (qs : List (Option Expr)) (e : Expr) (p : Place) → tree_of (IndexAssign n qs e p) ≡ plain.indexed_assignment n (positions_with qs) (tree_of e) p
tree-index_assign n qs e p = ap tree_of (sym (rolls-IndexAssign n qs e p)) ∙ fold-roll-Expr _ tree_step (Expr-F.IndexAssign n qs e p) ∙ ap (λ q. plain.indexed_assignment n q (tree_of e) p) (positions_is qs)

pub tree-output : (e : Expr) (p : Place) → tree_of (Output e p) ≡ plain.output (tree_of e) p
tree-output e p = ap tree_of (sym (rolls-Output e p)) ∙ fold-roll-Expr _ tree_step (Expr-F.Output e p)

pub ruleset bridges = (tree-lit, tree-name, tree-call, tree-paren, tree-one, tree-two, tree-reduce, tree-outer, tree-inner, tree-index, tree-assign, tree-index_assign, tree-output)

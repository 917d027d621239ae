-- Instructions put behind others, and the code and the mask of positions.
use Rattle.std.proofs.Common.{◌≡◌, ℕ, ◌+◌, ◌<◌, suc, true, false, List, [], ◌∷◌, ◌++◌, map, drop, length, Option, Some, None, Result, OnOk, is_some, refl, ap, sym, ◌∙◌, append_assoc, get_or, add-one, drop-cons}
use Rattle.std.proofs.lemmas.Result.{on_ok_weaker}
use Rattle.apl_base.specs.declared.faults.Place.{Place}
use Rattle.apl_model.proofs.Bridge.{slot_with, positions_with, tree-two, tree-outer, tree-inner, tree-index, tree-index_assign}
use Rattle.apl_model.specs.Mirror.{tree_of}
use Rattle.apl_base.specs.declared.rows.Dya.{Dya}
use Rattle.apl_model.specs.declared.functions.DyaFn.{DyaFn}
use Rattle.apl_model.specs.declared.trees.Expr.{Expr, Two, Outer, Inner, Index, IndexAssign}
use Rattle.apl_compile.specs.Code.{mask_of, parts_code, expression_code, slot_code, positions_code}
use Rattle.apl_compile.specs.declared.codes.Instruction.{Instruction}

-- what is put behind a code, as what the whole is put behind
pub behind : {A X E : Type 0} (r : Result X E) (old whole before last after : List A) → OnOk r (after ≡ before ++ last) → before ++ last ≡ old ++ whole → OnOk r (after ≡ old ++ whole)
behind r old whole before last after h e = on_ok_weaker r (λ x. x ∙ e) h

-- the code of two parts behind a code
pub two_behind : (old first was one last other parts : List Instruction) → first ≡ old ++ was → was ≡ one → last ≡ other → parts ≡ one ++ other → first ++ last ≡ old ++ parts
two_behind old first was one last other parts h f g e =
    ap (λ c. c ++ last) h ∙ append_assoc old was last ∙ ap (λ c. old ++ (c ++ last)) f ∙ ap (λ c. old ++ (one ++ c)) g ∙ ap (λ c. old ++ c) (sym e)

-- ---- the parts of an expression

module _ (e left right : Expr) where
  pub parts-two : (f : DyaFn) (p : Place) → e ≡ Two f left right p → parts_code (tree_of e) ≡ expression_code (tree_of right) ++ expression_code (tree_of left)
  parts-two f p is = ap parts_code (ap tree_of is ∙ tree-two f left right p)

  pub parts-outer : (f : Dya) (p : Place) → e ≡ Outer f left right p → parts_code (tree_of e) ≡ expression_code (tree_of right) ++ expression_code (tree_of left)
  parts-outer f p is = ap parts_code (ap tree_of is ∙ tree-outer f left right p)

  pub parts-inner : (f g : Dya) (p : Place) → e ≡ Inner f g left right p → parts_code (tree_of e) ≡ expression_code (tree_of right) ++ expression_code (tree_of left)
  parts-inner f g p is = ap parts_code (ap tree_of is ∙ tree-inner f g left right p)

pub parts-index : (e a : Expr) (qs : List (Option Expr)) (p : Place) → e ≡ Index a qs p → parts_code (tree_of e) ≡ positions_code (positions_with qs) ++ expression_code (tree_of a)
parts-index e a qs p is = ap parts_code (ap tree_of is ∙ tree-index a qs p)

pub parts-index_assign : (e v : Expr) (n : List ℕ) (qs : List (Option Expr)) (p : Place) → e ≡ IndexAssign n qs v p → parts_code (tree_of e) ≡ expression_code (tree_of v) ++ positions_code (positions_with qs)
parts-index_assign e v n qs p is = ap parts_code (ap tree_of is ∙ tree-index_assign n qs v p)

-- which positions are there
pub mask-positions : (qs : List (Option Expr)) → mask_of (positions_with qs) ≡ map is_some qs
mask-positions [] = refl
mask-positions (None ∷ qs) = ap (λ m. false ∷ m) (mask-positions qs)
mask-positions (Some e ∷ qs) = ap (λ m. true ∷ m) (mask-positions qs)

-- the code of positions from one on is that of the ones behind it, and then its own
pub positions-from : (qs : List (Option Expr)) (k : ℕ) (q : Option Expr) → k < length qs → q ≡ get_or qs k q → positions_code (positions_with (drop k qs)) ≡ positions_code (positions_with (drop (k + 1) qs)) ++ slot_code (slot_with q)
positions-from qs k q inside here =
    ap (λ l. positions_code (positions_with l)) (drop-cons qs k q inside)
    ∙ ap (λ x. positions_code (positions_with (drop (suc k) qs)) ++ slot_code (slot_with x)) (sym here)
    ∙ ap (λ n. positions_code (positions_with (drop n qs)) ++ slot_code (slot_with q)) (sym (add-one k))

-- The first node of a list and the others, and a list without functions.
use Rattle.std.proofs.Common.{◌≡◌, ℕ, suc, ◌+◌, List, [], ◌∷◌, length, Some, None, ap, sym, ◌∙◌, arith}
use Rattle.drag_along.specs.declared.leaves.Leaf.{Leaf}
use Rattle.drag_along.specs.declared.nodes.Node.{Node}
use Rattle.drag_along.specs.declared.nodes.Node.TheVariants.{Operand, One, Two}
use Rattle.drag_along.specs.Nodes.{AllLeaves, functions_in, pending_after}
use Rattle.drag_along.specs.Views.{only_leaf}

-- ---- what is so of all leaves

-- is so of the first node's
pub first_leaves : (P : Leaf → Type 0) (x : Node) (xs : List Node) → AllLeaves P (x ∷ xs) → AllLeaves P (x ∷ [])
first_leaves P (Operand leaf) xs h = (h.0, tt)
first_leaves P (One f place) xs h = tt
first_leaves P (Two f place) xs h = tt

-- and of the others'
pub rest_leaves : (P : Leaf → Type 0) (x : Node) (xs : List Node) → AllLeaves P (x ∷ xs) → AllLeaves P xs
rest_leaves P (Operand leaf) xs h = h.1
rest_leaves P (One f place) xs h = h
rest_leaves P (Two f place) xs h = h

-- ---- an expression without functions is one leaf

-- operands alone are pending, each of them
operands_pend : (nodes : List Node) (n : ℕ) → functions_in nodes ≡ 0 → pending_after nodes n ≡ Some (n + length nodes)
operands_pend [] n f = let same : n ≡ n + 0 = omega arith in ap (λ (k : ℕ). Some k) same
operands_pend (One g place ∷ nodes) n f = absurd (omega (arith, f))
operands_pend (Two g place ∷ nodes) n f = absurd (omega (arith, f))
operands_pend (Operand leaf ∷ nodes) n f =
    let same : suc n + length nodes ≡ n + length (Operand leaf ∷ nodes) = omega arith in
    operands_pend nodes (suc n) f ∙ ap (λ (k : ℕ). Some k) same

pub leaf_alone : (nodes : List Node) → functions_in nodes ≡ 0 → pending_after nodes 0 ≡ Some 1 → only_leaf nodes ≡ None → ⊥
leaf_alone [] f w h = cc
leaf_alone (One g place ∷ nodes) f w h = absurd (omega (arith, f))
leaf_alone (Two g place ∷ nodes) f w h = absurd (omega (arith, f))
leaf_alone (Operand leaf ∷ []) f w h = cc
leaf_alone (Operand leaf ∷ node ∷ nodes) f w h =
    let many : Some (0 + length (Operand leaf ∷ node ∷ nodes)) ≡ Some 1 = sym (operands_pend (Operand leaf ∷ node ∷ nodes) 0 f) ∙ w in
    let one : 0 + length (Operand leaf ∷ node ∷ nodes) ≡ 1 = cc in
    omega (arith, one)

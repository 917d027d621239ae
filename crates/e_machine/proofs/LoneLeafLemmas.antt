-- Segments with a function: none of their leaves is answered and held once more.
use Rattle.std.proofs.Common.{◌≡◌, ◌<◌, List, [], ◌∷◌, None, refl, arith}
use Rattle.std.specs.Option.{ForSome}
use Rattle.drag_along.specs.declared.leaves.Leaf.{Leaf}
use Rattle.drag_along.specs.declared.nodes.Node.{Node}
use Rattle.drag_along.specs.declared.nodes.Node.TheVariants.{Operand, One, Two}
use Rattle.drag_along.specs.Nodes.{functions_in}
use Rattle.drag_along.specs.Views.{only_leaf}

-- where a function stands among the nodes no leaf is all of them
pub only_leaf-functions : (nodes : List Node) → 0 < functions_in nodes → only_leaf nodes ≡ None
only_leaf-functions [] some = absurd (omega (arith, some))
only_leaf-functions (Operand leaf ∷ []) some = absurd (omega (arith, some))
only_leaf-functions (Operand leaf ∷ node ∷ nodes) some = refl
only_leaf-functions (One f place ∷ nodes) some = refl
only_leaf-functions (Two f place ∷ nodes) some = refl

-- so nothing is asked of such a leaf
pub ForSome-functions : (P : Leaf → Type 0) (nodes : List Node) → 0 < functions_in nodes → ForSome (only_leaf nodes) P
ForSome-functions P nodes some = λ leaf is. let none = only_leaf-functions nodes some in absurd (cc)

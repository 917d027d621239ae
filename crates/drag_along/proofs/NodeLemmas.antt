-- Lemmas on lists of nodes.
use Rattle.std.proofs.Common.{◌≡◌, ℕ, zero, suc, ◌+◌, List, [], ◌∷◌, ◌++◌, Some, refl, ap, arith}
use Rattle.apl_base.specs.declared.cells.Kind.TheVariants.{Num}
use Rattle.apl_base.specs.declared.faults.Place.{Place}
use Rattle.apl_base.specs.declared.rows.Mon.{Mon}
use Rattle.apl_base.specs.declared.rows.Dya.{Dya}
use Rattle.drag_along.specs.declared.leaves.Leaf.{Leaf}
use Rattle.drag_along.specs.declared.nodes.Node.{Node}
use Rattle.drag_along.specs.declared.nodes.Node.TheVariants.{Operand, One, Two}
use Rattle.drag_along.specs.Nodes.{AllLeaves, named_by_nodes, functions_in, pending_after, kind_of_nodes}

pub AllLeaves-append : (P : Leaf → Type 0) (xs ys : List Node) → AllLeaves P xs → AllLeaves P ys → AllLeaves P (xs ++ ys)
AllLeaves-append P [] ys a b = b
AllLeaves-append P (Operand leaf ∷ xs) ys a b = (a.0, AllLeaves-append P xs ys a.1 b)
AllLeaves-append P (One f p ∷ xs) ys a b = AllLeaves-append P xs ys a b
AllLeaves-append P (Two f p ∷ xs) ys a b = AllLeaves-append P xs ys a b

pub named_by_nodes-append : (xs ys : List Node) (key : ℕ) → named_by_nodes (xs ++ ys) key ≡ named_by_nodes xs key + named_by_nodes ys key
named_by_nodes-append [] ys key = omega arith
named_by_nodes-append (Operand leaf ∷ xs) ys key = omega (arith, named_by_nodes-append xs ys key)
named_by_nodes-append (One f p ∷ xs) ys key = named_by_nodes-append xs ys key
named_by_nodes-append (Two f p ∷ xs) ys key = named_by_nodes-append xs ys key

pub functions_in-append : (xs ys : List Node) → functions_in (xs ++ ys) ≡ functions_in xs + functions_in ys
functions_in-append [] ys = omega arith
functions_in-append (Operand leaf ∷ xs) ys = functions_in-append xs ys
functions_in-append (One f p ∷ xs) ys = omega (arith, functions_in-append xs ys)
functions_in-append (Two f p ∷ xs) ys = omega (arith, functions_in-append xs ys)

-- the values pending after the first nodes are those before the others
pub pending_after-append : (xs ys : List Node) (n m : ℕ) → pending_after xs n ≡ Some m → pending_after (xs ++ ys) n ≡ pending_after ys m
pending_after-append [] ys n m h = let e : n ≡ m = cc in ap (pending_after ys) e
pending_after-append (Operand leaf ∷ xs) ys n m h = pending_after-append xs ys (suc n) m h
pending_after-append (One f p ∷ xs) ys zero m h = absurd (cc)
pending_after-append (One f p ∷ xs) ys (suc n) m h = pending_after-append xs ys (suc n) m h
pending_after-append (Two f p ∷ xs) ys zero m h = absurd (cc)
pending_after-append (Two f p ∷ xs) ys (suc zero) m h = absurd (cc)
pending_after-append (Two f p ∷ xs) ys (suc (suc n)) m h = pending_after-append xs ys (suc n) m h

-- one more value beneath stays beneath
pub pending_after-more : (xs : List Node) (n m : ℕ) → pending_after xs n ≡ Some m → pending_after xs (suc n) ≡ Some (suc m)
pending_after-more [] n m h = let e : n ≡ m = cc in ap (λ (k : ℕ). Some (suc k)) e
pending_after-more (Operand leaf ∷ xs) n m h = pending_after-more xs (suc n) m h
pending_after-more (One f p ∷ xs) zero m h = absurd (cc)
pending_after-more (One f p ∷ xs) (suc n) m h = pending_after-more xs (suc n) m h
pending_after-more (Two f p ∷ xs) zero m h = absurd (cc)
pending_after-more (Two f p ∷ xs) (suc zero) m h = absurd (cc)
pending_after-more (Two f p ∷ xs) (suc (suc n)) m h = pending_after-more xs (suc n) m h

-- where a function stands last, the kind is number
pub kind_of_nodes-one : (xs : List Node) (f : Mon) (p : Place) → kind_of_nodes (xs ++ One f p ∷ []) ≡ Num
kind_of_nodes-one [] f p = refl
kind_of_nodes-one (Operand leaf ∷ []) f p = refl
kind_of_nodes-one (Operand leaf ∷ x ∷ xs) f p = refl
kind_of_nodes-one (One g q ∷ xs) f p = refl
kind_of_nodes-one (Two g q ∷ xs) f p = refl

pub kind_of_nodes-two : (xs : List Node) (f : Dya) (p : Place) → kind_of_nodes (xs ++ Two f p ∷ []) ≡ Num
kind_of_nodes-two [] f p = refl
kind_of_nodes-two (Operand leaf ∷ []) f p = refl
kind_of_nodes-two (Operand leaf ∷ x ∷ xs) f p = refl
kind_of_nodes-two (One g q ∷ xs) f p = refl
kind_of_nodes-two (Two g q ∷ xs) f p = refl

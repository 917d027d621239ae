-- Lemmas on what nodes mean.
use Rattle.std.proofs.Common.{◌≡◌, ℕ, List, [], ◌∷◌, ◌++◌, length, Some, refl, sym, ap, ◌∙◌, subst, arith}
use Rattle.apl_base.specs.declared.faults.Place.{Place}
use Rattle.apl_base.specs.declared.rows.Mon.{Mon}
use Rattle.apl_base.specs.declared.rows.Dya.{Dya}
use Rattle.apl_base.specs.Array.{Array}
use Rattle.array_store.specs.Stores.{StoreView}
use Rattle.drag_along.specs.declared.nodes.Node.{Node}
use Rattle.drag_along.specs.declared.nodes.Node.TheVariants.{Operand, One, Two}
use Rattle.drag_along.specs.Nodes.{pending_after}
use Rattle.drag_along.specs.Meaning.{Meaning, Means, Faults, Pending, pending, stopped, put, applied1, applied2, combined1, combined2, leaf_array, after_node, after_nodes, newest}

pub after_nodes-append : (s : StoreView) (sh : List ℕ) (xs ys : List Node) (st : Pending) → after_nodes s sh (xs ++ ys) st ≡ after_nodes s sh ys (after_nodes s sh xs st)
after_nodes-append s sh [] ys st = refl
after_nodes-append s sh (x ∷ xs) ys st = after_nodes-append s sh xs ys (after_node s sh x st)

pub after_nodes-stopped : (s : StoreView) (sh : List ℕ) (xs : List Node) (p : Place) → after_nodes s sh xs (stopped p) ≡ stopped p
after_nodes-stopped s sh [] p = refl
after_nodes-stopped s sh (x ∷ xs) p = after_nodes-stopped s sh xs p

-- older arrays stay beneath
abbrev pub under : List Array → Pending → Pending
under rest (pending us) = pending (us ++ rest)
under rest (stopped p) = stopped p

pub after_nodes-under : (s : StoreView) (sh : List ℕ) (xs : List Node) (us rest : List Array) (m : ℕ) → pending_after xs (length us) ≡ Some m → after_nodes s sh xs (pending (us ++ rest)) ≡ under rest (after_nodes s sh xs (pending us))
after_nodes-under s sh [] us rest m h = refl
after_nodes-under s sh (Operand leaf ∷ xs) us rest m h = after_nodes-under s sh xs (leaf_array s sh leaf ∷ us) rest m h
after_nodes-under s sh (One f p ∷ xs) [] rest m h = absurd (cc)
after_nodes-under s sh (One f p ∷ xs) (b ∷ us) rest m h =
    elim (applied1 f p b) as (λ v. after_nodes s sh xs (put v (us ++ rest)) ≡ under rest (after_nodes s sh xs (put v us))) [
      | Means c ↦ after_nodes-under s sh xs (c ∷ us) rest m h
      | Faults q ↦ after_nodes-stopped s sh xs q ∙ sym (ap (under rest) (after_nodes-stopped s sh xs q))
    ]
after_nodes-under s sh (Two f p ∷ xs) [] rest m h = absurd (cc)
after_nodes-under s sh (Two f p ∷ xs) (a ∷ []) rest m h = absurd (cc)
after_nodes-under s sh (Two f p ∷ xs) (a ∷ b ∷ us) rest m h =
    elim (applied2 f p a b) as (λ v. after_nodes s sh xs (put v (us ++ rest)) ≡ under rest (after_nodes s sh xs (put v us))) [
      | Means c ↦ after_nodes-under s sh xs (c ∷ us) rest m h
      | Faults q ↦ after_nodes-stopped s sh xs q ∙ sym (ap (under rest) (after_nodes-stopped s sh xs q))
    ]

-- as many arrays are pending as the nodes leave values
abbrev pub HasCount : ℕ → Pending → Type 0
HasCount m (pending us) = length us ≡ m
HasCount m (stopped p) = Unit {0}

pub after_nodes-count : (s : StoreView) (sh : List ℕ) (xs : List Node) (us : List Array) (m : ℕ) → pending_after xs (length us) ≡ Some m → HasCount m (after_nodes s sh xs (pending us))
after_nodes-count s sh [] us m h = let e : length us ≡ m = cc in e
after_nodes-count s sh (Operand leaf ∷ xs) us m h = after_nodes-count s sh xs (leaf_array s sh leaf ∷ us) m h
after_nodes-count s sh (One f p ∷ xs) [] m h = absurd (cc)
after_nodes-count s sh (One f p ∷ xs) (b ∷ us) m h =
    elim (applied1 f p b) as (λ v. HasCount m (after_nodes s sh xs (put v us))) [
      | Means c ↦ after_nodes-count s sh xs (c ∷ us) m h
      | Faults q ↦ subst (HasCount m) (sym (after_nodes-stopped s sh xs q)) tt
    ]
after_nodes-count s sh (Two f p ∷ xs) [] m h = absurd (cc)
after_nodes-count s sh (Two f p ∷ xs) (a ∷ []) m h = absurd (cc)
after_nodes-count s sh (Two f p ∷ xs) (a ∷ b ∷ us) m h =
    elim (applied2 f p a b) as (λ v. HasCount m (after_nodes s sh xs (put v us))) [
      | Means c ↦ after_nodes-count s sh xs (c ∷ us) m h
      | Faults q ↦ subst (HasCount m) (sym (after_nodes-stopped s sh xs q)) tt
    ]

newest-put : (v : Meaning) → newest (put v []) ≡ v
newest-put (Means a) = refl
newest-put (Faults p) = refl

-- a function of what one segment left
pub newest-one : (s : StoreView) (sh : List ℕ) (f : Mon) (p : Place) (st : Pending) → HasCount 1 st → newest (after_node s sh (One f p) st) ≡ combined1 f p (newest st)
newest-one s sh f p (stopped q) h = refl
newest-one s sh f p (pending []) h = absurd (omega (arith, h))
newest-one s sh f p (pending (b ∷ [])) h = newest-put (applied1 f p b)
newest-one s sh f p (pending (b ∷ c ∷ us)) h = absurd (omega (arith, h))

-- the arrays that one list of nodes left on those that another left
abbrev pub over : Pending → Pending → Pending
over left (stopped p) = stopped p
over left (pending bs) = under bs left

-- a function of what two segments left
pub newest-two : (s : StoreView) (sh : List ℕ) (f : Dya) (p : Place) (left right : Pending) → HasCount 1 left → HasCount 1 right → newest (after_node s sh (Two f p) (over left right)) ≡ combined2 f p (newest left) (newest right)
newest-two s sh f p (stopped r) (stopped q) g h = refl
newest-two s sh f p (pending []) (stopped q) g h = refl
newest-two s sh f p (pending (a ∷ us)) (stopped q) g h = refl
newest-two s sh f p left (pending []) g h = absurd (omega (arith, h))
newest-two s sh f p left (pending (b ∷ c ∷ bs)) g h = absurd (omega (arith, h))
newest-two s sh f p (stopped r) (pending (b ∷ [])) g h = refl
newest-two s sh f p (pending []) (pending (b ∷ [])) g h = absurd (omega (arith, g))
newest-two s sh f p (pending (a ∷ [])) (pending (b ∷ [])) g h = newest-put (applied2 f p a b)
newest-two s sh f p (pending (a ∷ c ∷ us)) (pending (b ∷ [])) g h = absurd (omega (arith, g))

-- nodes after the state that others left
after_nodes-over : (s : StoreView) (sh : List ℕ) (xs : List Node) (st : Pending) → pending_after xs 0 ≡ Some 1 → after_nodes s sh xs st ≡ over (after_nodes s sh xs (pending [])) st
after_nodes-over s sh xs (stopped p) h = after_nodes-stopped s sh xs p
after_nodes-over s sh xs (pending bs) h = after_nodes-under s sh xs [] bs 1 h

pub entry-one : (s : StoreView) (sh : List ℕ) (xs : List Node) (f : Mon) (p : Place) → pending_after xs 0 ≡ Some 1 → newest (after_nodes s sh (xs ++ One f p ∷ []) (pending [])) ≡ combined1 f p (newest (after_nodes s sh xs (pending [])))
entry-one s sh xs f p h =
    ap newest (after_nodes-append s sh xs (One f p ∷ []) (pending [])) ∙ newest-one s sh f p (after_nodes s sh xs (pending [])) (after_nodes-count s sh xs [] 1 h)

pub entry-two : (s : StoreView) (sh : List ℕ) (xs ys : List Node) (f : Dya) (p : Place) → pending_after xs 0 ≡ Some 1 → pending_after ys 0 ≡ Some 1 → newest (after_nodes s sh ((xs ++ ys) ++ Two f p ∷ []) (pending [])) ≡ combined2 f p (newest (after_nodes s sh ys (pending []))) (newest (after_nodes s sh xs (pending [])))
entry-two s sh xs ys f p h g =
    let right : Pending = after_nodes s sh xs (pending []) in
    let left : Pending = after_nodes s sh ys (pending []) in
    ap newest (after_nodes-append s sh (xs ++ ys) (Two f p ∷ []) (pending []))
    ∙ ap (λ (st : Pending). newest (after_node s sh (Two f p) st)) (after_nodes-append s sh xs ys (pending []) ∙ after_nodes-over s sh ys right g)
    ∙ newest-two s sh f p left right (after_nodes-count s sh ys [] 1 g) (after_nodes-count s sh xs [] 1 h)

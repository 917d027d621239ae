-- The loop over the nodes: the first ones are selected, the others as they were.
use Rattle.std.proofs.Common.{◌≡◌, ℕ, zero, suc, ◌+◌, ◌<◌, List, [], ◌∷◌, length, get_or, set, refl, sym, ap, ◌∙◌, subst, arith, add-one}
use Rattle.array_desc.specs.Desc.{IsDesc}
use Rattle.drag_along.specs.declared.leaves.Leaf.{Leaf}
use Rattle.drag_along.specs.declared.nodes.Node.{Node}
use Rattle.drag_along.specs.declared.nodes.Node.TheVariants.{Operand, One, Two}
use Rattle.drag_along.specs.Nodes.{leaf_desc, AllLeaves}
use Rattle.beating.specs.declared.selections.Selection.{Selection}
use Rattle.beating.specs.Selecting.{SelectsNodes}
use Rattle.drag_along.proofs.FirstLemmas.{first_leaves, rest_leaves}

-- a node that is selected
pub record NodeSelected (by : Selection) (old new : Node) : Type 0 where
  pub nodes : SelectsNodes by (old ∷ []) (new ∷ [])
  pub lawful : AllLeaves (λ leaf. IsDesc (leaf_desc leaf)) (new ∷ [])

-- the first k are
abbrev pub FirstSelected : Selection → ℕ → List Node → List Node → Type 0
FirstSelected by zero olds news = news ≡ olds
FirstSelected by (suc k) (x ∷ olds) (y ∷ news) = NodeSelected by x y × FirstSelected by k olds news
FirstSelected by (suc k) olds news = ⊥

pub record InNodes (by : Selection) (olds news : List Node) (k : ℕ) : Type 0 where
  pub first : FirstSelected by k olds news

-- ---- one node and others

-- what is so of both is so of all
in_front : (P : Leaf → Type 0) (x : Node) (xs : List Node) → AllLeaves P (x ∷ []) → AllLeaves P xs → AllLeaves P (x ∷ xs)
in_front P (Operand leaf) xs h rest = (h.0, rest)
in_front P (One f place) xs h rest = rest
in_front P (Two f place) xs h rest = rest

-- a selected node in front of selected ones
selects_in_front : (by : Selection) (x y : Node) (xs ys : List Node) → SelectsNodes by (x ∷ []) (y ∷ []) → SelectsNodes by xs ys → SelectsNodes by (x ∷ xs) (y ∷ ys)
selects_in_front by (Operand old) (Operand new) xs ys h rest = (h.0, rest)
selects_in_front by (One f place) (One g at) xs ys h rest = (h.0, h.1, rest)
selects_in_front by (Two f place) (Two g at) xs ys h rest = (h.0, h.1, rest)
selects_in_front by (Operand old) (One g at) xs ys h rest = absurd h
selects_in_front by (Operand old) (Two g at) xs ys h rest = absurd h
selects_in_front by (One f place) (Operand new) xs ys h rest = absurd h
selects_in_front by (One f place) (Two g at) xs ys h rest = absurd h
selects_in_front by (Two f place) (Operand new) xs ys h rest = absurd h
selects_in_front by (Two f place) (One g at) xs ys h rest = absurd h

-- ---- the loop

-- the next node is as it was
same_at : (by : Selection) (k : ℕ) (olds news : List Node) (d : Node) → FirstSelected by k olds news → get_or news k d ≡ get_or olds k d
same_at by zero olds news d h = ap (λ (ns : List Node). get_or ns 0 d) h
same_at by (suc k) (x ∷ olds) (y ∷ news) d h = same_at by k olds news d h.1
same_at by (suc k) [] news d h = absurd h
same_at by (suc k) (x ∷ olds) [] d h = absurd h

-- what is so of all leaves is so of each node
all_at : (P : Leaf → Type 0) (k : ℕ) (olds : List Node) (d : Node) → k < length olds → AllLeaves P olds → AllLeaves P (get_or olds k d ∷ [])
all_at P zero (x ∷ olds) d b h = first_leaves P x olds h
all_at P (suc k) (x ∷ olds) d b h = all_at P k olds d (omega (arith, b)) (rest_leaves P x olds h)
all_at P k [] d b h = absurd (omega (arith, b))

-- so it has what was asked of it
pub next_has : (P : Leaf → Type 0) (by : Selection) (olds news : List Node) (k : ℕ) (x : Node) → InNodes by olds news k → k < length olds → x ≡ get_or news k x → AllLeaves P olds → AllLeaves P (x ∷ [])
next_has P by olds news k x h b e l =
    subst (λ (y : Node). AllLeaves P (y ∷ [])) (sym (e ∙ same_at by k olds news x h.first)) (all_at P k olds x b l)

-- one node more
one_more : (by : Selection) (k : ℕ) (olds news : List Node) (x y : Node) → FirstSelected by k olds news → k < length olds → x ≡ get_or olds k x → NodeSelected by x y → FirstSelected by (suc k) olds (set news k y)
one_more by zero (x' ∷ olds) news x y h b e s =
    subst (λ (ns : List Node). FirstSelected by 1 (x' ∷ olds) (set ns 0 y)) (sym h) (subst (λ (z : Node). NodeSelected by z y) e s, refl)
one_more by (suc k) (x' ∷ olds) (y' ∷ news) x y h b e s = (h.0, one_more by k olds news x y h.1 (omega (arith, b)) e s)
one_more by (suc k) (x' ∷ olds) [] x y h b e s = absurd h
one_more by k [] news x y h b e s = absurd (omega (arith, b))

-- the same of the loop
pub next_selected : (by : Selection) (olds news : List Node) (k : ℕ) (x y : Node) → InNodes by olds news k → k < length olds → x ≡ get_or news k x → NodeSelected by x y → InNodes by olds (set news k y) (k + 1)
next_selected by olds news k x y h b e s = record {
  first = subst (λ n. FirstSelected by n olds (set news k y)) (sym (add-one k)) (one_more by k olds news x y h.first b (e ∙ same_at by k olds news x h.first) s);
}

-- of no nodes none are left
none_left : (by : Selection) (news : List Node) → news ≡ [] → SelectsNodes by [] news
none_left by news e = subst (SelectsNodes by []) (sym e) tt

-- where all are, they are selected
all_selected : (by : Selection) (k : ℕ) (olds news : List Node) → k ≡ length olds → FirstSelected by k olds news → SelectsNodes by olds news
all_selected by zero [] news e h = none_left by news h
all_selected by zero (x ∷ olds) news e h = absurd (omega (arith, e))
all_selected by (suc k) (x ∷ olds) (y ∷ news) e h = selects_in_front by x y olds news h.0.nodes (all_selected by k olds news (omega (arith, e)) h.1)
all_selected by (suc k) [] news e h = absurd h
all_selected by (suc k) (x ∷ olds) [] e h = absurd h

-- and their descriptors are lawful
all_lawful : (by : Selection) (k : ℕ) (olds news : List Node) → k ≡ length olds → FirstSelected by k olds news → AllLeaves (λ leaf. IsDesc (leaf_desc leaf)) news
all_lawful by zero [] news e h = subst (AllLeaves (λ leaf. IsDesc (leaf_desc leaf))) (sym h) tt
all_lawful by zero (x ∷ olds) news e h = absurd (omega (arith, e))
all_lawful by (suc k) (x ∷ olds) (y ∷ news) e h =
    in_front (λ leaf. IsDesc (leaf_desc leaf)) y news h.0.lawful (all_lawful by k olds news (omega (arith, e)) h.1)
all_lawful by (suc k) [] news e h = absurd h
all_lawful by (suc k) (x ∷ olds) [] e h = absurd h

-- at the end all are selected
pub nodes_end : (by : Selection) (olds news : List Node) (k : ℕ) → k ≡ length olds → InNodes by olds news k → SelectsNodes by olds news
nodes_end by olds news k e h = all_selected by k olds news e h.first

-- and lawful
pub nodes_end_lawful : (by : Selection) (olds news : List Node) (k : ℕ) → k ≡ length olds → InNodes by olds news k → AllLeaves (λ leaf. IsDesc (leaf_desc leaf)) news
nodes_end_lawful by olds news k e h = all_lawful by k olds news e h.first

-- Reductions, outer and inner products. Where they have a LIMIT ERROR it is tried before a DOMAIN ERROR (own).
use Rattle.std.specs.Prelude.{ℕ, ◌-◌, ◌==◌, ℤ, not, ◌&&◌, List, [], ◌∷◌, ◌++◌, map, length, take, drop, remove, insert, slice_index, Option, Some, Ok, if◌then◌else◌}
use Rattle.std.specs.Option.{option_map, option_and_then}
use Rattle.apl_base.specs.declared.cells.Kind.TheVariants.{Num}
use Rattle.apl_base.specs.declared.cells.Elem.{Elem}
use Rattle.apl_base.specs.declared.faults.ErrorKind.TheVariants as error
use Rattle.apl_base.specs.declared.rows.Dya.{Dya}
use Rattle.apl_base.specs.Array.{Array, cell_at}
use Rattle.apl_base.specs.Elements.{element, numbers, all_defined, indices}
use Rattle.apl_base.specs.Scalar.{scalar2, identity_of, number}
use Rattle.apl_base.specs.Selection.{upward}
use Rattle.apl_model.specs.declared.functions.Axis.{Axis}
use Rattle.apl_model.specs.Whole.{Answer, rank, is_extendable, first, error_if, within_limit, or_domain}
use Rattle.apl_model.specs.Made.{on_axis}

-- ---- reduction

-- b1 f (b2 f (.. bn)): one element as it is, and for none the identity
abbrev pub reduced : Dya → List Elem → Option Elem
reduced f [] = option_map number (identity_of f)
reduced f (b ∷ []) = Some b
reduced f (b ∷ c ∷ bs) = option_and_then (scalar2 f b) (reduced f (c ∷ bs))

-- the element at an index
abbrev pub elem_at : Array → List ℕ → Elem
elem_at b i = element b.kind (cell_at b i)

-- the elements of b along the axis, in the line of this index of the other axes
abbrev pub line_at : ℕ → Array → List ℕ → List Elem
line_at axis b is = map (λ j. elem_at b (insert is axis j)) (upward 0 (slice_index b.shape axis))

-- an axis of length 1 goes without an application, so characters stay characters
abbrev pub reduced_along : Dya → ℕ → Array → Answer
reduced_along f axis b =
    let ns = remove b.shape axis in
    within_limit ns (λ _. or_domain (all_defined (map (λ is. reduced f (line_at axis b is)) (indices ns)))
    (λ es. record (numbers ns es) { kind = if slice_index b.shape axis == 1 then b.kind else Num }))

-- a scalar is left as it is
abbrev pub reduce_at : Dya → Array → ℕ → Answer
reduce_at f b axis = if rank b == 0 then Ok b else reduced_along f axis b

-- `f/B`, `f/[K]B`, `f⌿B`
abbrev pub reduce : ℤ → Dya → Axis → Array → Answer
reduce o f axis b = on_axis o axis (rank b) (reduce_at f b)

-- ---- outer product: each pair of an element of A and one of B

-- `A∘.f B`
abbrev pub outer : Dya → Array → Array → Answer
outer f a b =
    let ns = a.shape ++ b.shape in
    within_limit ns (λ _. or_domain
    (all_defined (map (λ is. scalar2 f (elem_at a (take (rank a) is)) (elem_at b (drop (rank a) is))) (indices ns))) (numbers ns))

-- ---- inner product: f/ of a row of A's last axis g a column of B's first axis

-- A scalar or a one-element vector extends along the other's axis and gives no axis.
abbrev pub left_axes : Array → List ℕ
left_axes a = if is_extendable a then [] else take (rank a - 1) a.shape

-- and the axes that B gives
abbrev pub right_axes : Array → List ℕ
right_axes b = if is_extendable b then [] else drop 1 b.shape

-- how long A's last axis is
abbrev pub left_length : Array → ℕ
left_length a = slice_index a.shape (rank a - 1)

-- and B's first one
abbrev pub right_length : Array → ℕ
right_length b = slice_index b.shape 0

-- how long the axis is that goes: one where both extend
abbrev pub inner_length : Array → Array → ℕ
inner_length a b = if is_extendable a then (if is_extendable b then 1 else right_length b) else left_length a

-- the element of A for the row `is` and place k of the axis that goes
abbrev pub left_at : Array → List ℕ → ℕ → Elem
left_at a is k = if is_extendable a then element a.kind (first a) else elem_at a (is ++ k ∷ [])

-- the element of B for the column `is` and place k
abbrev pub right_at : Array → List ℕ → ℕ → Elem
right_at b is k = if is_extendable b then element b.kind (first b) else elem_at b (k ∷ is)

-- the element of the result at the index is ++ js
abbrev pub inner_at : Dya → Dya → Array → Array → List ℕ → List ℕ → Option Elem
inner_at f g a b is js =
    option_and_then (reduced f) (all_defined (map (λ k. scalar2 g (left_at a is k) (right_at b js k)) (upward 0 (inner_length a b))))

-- `A f.g B`
abbrev pub inner : Dya → Dya → Array → Array → Answer
inner f g a b =
    let ls = left_axes a in
    let ns = ls ++ right_axes b in
    error_if error.Length (not (is_extendable a) && not (is_extendable b) && not (left_length a == right_length b))
    (within_limit ns (λ _. or_domain
    (all_defined (map (λ is. inner_at f g a b (take (length ls) is) (drop (length ls) is)) (indices ns))) (numbers ns)))

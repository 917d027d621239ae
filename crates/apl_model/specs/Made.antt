-- The functions that are no scalar functions: each gives an array, or the first of its errors, from whole
-- arrays and the origin o. Errors are tried in the order Rank, Length, Domain, Index, Limit; in `A⊤B` Limit is tried
-- before Domain (own).
-- A condition that speaks of values holds only where these are numbers; an argument without elements is taken
-- as numbers where its kind would be a DOMAIN ERROR.
use Rattle.std.specs.Prelude.{ℕ, suc, ◌+◌, ◌-◌, ◌%◌, ◌==◌, nat_le, nat_lt, ℤ, pos, negsuc, ◌+ℤ◌, ◌-ℤ◌, ◌*ℤ◌, int_lt, int_le, unsigned_abs, Bool, true, false, not, ◌&&◌, ◌||◌, List, [], ◌∷◌, ◌++◌, map, reverse, length, replicate, take, remove, slice_index, slice_index_or, slice_set, Option, Some, None, Ok, nat_eq, if◌then◌else◌}
use Rattle.std.specs.Cmp.Lexicographic.{pointwise}
use Rattle.std.specs.List.{flat_map, list_all, list_any, position_or_len}
use Rattle.std.specs.Option.{option_map, option_and_then}
use Rattle.std.specs.Int.{int_rem_euclid, int_div_euclid}
use Rattle.std.specs.Ordering.{int_eq}
use Rattle.apl_base.specs.declared.cells.Kind.{Kind}
use Rattle.apl_base.specs.declared.cells.Kind.TheVariants.{Num}
use Rattle.apl_base.specs.declared.faults.ErrorKind.TheVariants as error
use Rattle.apl_base.specs.Array.{Array, size_of, cell_at}
use Rattle.apl_base.specs.Elements.{elements, all_defined, tabulated, gathered}
use Rattle.apl_base.specs.Scalar.{is_same, is_same_kind, in_range, residue, truth}
use Rattle.apl_base.specs.Selection.{upward, reverse_index, drop_shape, drop_index, transpose_shape, transpose_index}
use Rattle.apl_model.specs.declared.functions.Axis.{Axis}
use Rattle.apl_model.specs.declared.functions.Axis.TheVariants.{Last, First, Numbered}
use Rattle.apl_model.specs.Whole.{Answer, rank, count, is_single, is_empty, is_text, is_extendable, first, vector, scalar, fill, error_if, error_or, within_limit, or_domain}

-- ---- words

-- the places counted from o as they stand in the language
abbrev pub counted_from : ℤ → ℕ → ℤ
counted_from o p = o +ℤ pos p

-- more than one axis
abbrev pub is_above_one : Array → Bool
is_above_one a = nat_lt 1 (rank a)

-- each value is 0 or more
abbrev pub are_counts : Array → Bool
are_counts a = not (is_text a) && list_all (int_le (pos 0)) a.cells

-- 0 or 1
abbrev pub is_bit : ℤ → Bool
is_bit z = int_eq z (pos 0) || int_eq z (pos 1)

-- each value is 0 or 1
abbrev pub are_bits : Array → Bool
are_bits a = not (is_text a) && list_all is_bit a.cells

-- an array is made on an axis, counted from 0. An axis [K] counts from the origin; a K that is none is a RANK
-- ERROR, as each K is for a scalar. For a scalar, which has no axis, the last and the first axis are 0: reversed,
-- rotated or reduced it stays as it is, compressed or expanded it extends.
abbrev pub on_axis : ℤ → Axis → ℕ → (ℕ → Answer) → Answer
on_axis o Last r make = make (r - 1)
on_axis o First r make = make 0
on_axis o (Numbered k) r make = error_if error.Rank (not (int_le o k && int_lt k (o +ℤ pos r))) (make (unsigned_abs (k -ℤ o)))

-- ---- ⍳B

-- the numbers from o up, B of them
abbrev pub interval : ℤ → Array → Answer
interval o b =
    error_if error.Rank (is_above_one b)
    (error_if error.Length (not (is_single b))
    (error_if error.Domain (not (are_counts b))
    (within_limit (unsigned_abs (first b) ∷ []) (λ _. Ok (vector Num (map (counted_from o) (upward 0 (unsigned_abs (first b)))))))))

-- ---- ⍴B

-- the lengths
abbrev pub shape_of : Array → Answer
shape_of b = Ok (vector Num (map pos b.shape))

-- ---- A⍴B

-- the elements of B in the shape A, repeated as needed
abbrev pub reshape : Array → Array → Answer
reshape a b =
    let ns = map unsigned_abs a.cells in
    error_if error.Rank (is_above_one a)
    (error_if error.Length (is_empty b && are_counts a && not (list_any (int_eq (pos 0)) a.cells))
    (error_if error.Domain (not (are_counts a))
    (within_limit ns (λ _. Ok (record { kind = b.kind; shape = ns; cells = map (λ p. slice_index_or b.cells (p % count b) (pos 0)) (upward 0 (size_of ns)) })))))

-- ---- ,B

-- the elements as a vector
abbrev pub ravel : Array → Answer
ravel b = Ok (vector b.kind b.cells)

-- ---- A,B: the elements of A, then those of B

-- the kind of the one that is not empty, of A where both are
abbrev pub joined_kind : Array → Array → Kind
joined_kind a b = if is_empty a && not (is_empty b) then b.kind else a.kind

-- both have elements, of two kinds
abbrev pub kinds_differ : Array → Array → Bool
kinds_differ a b = not (is_empty a) && not (is_empty b) && not (is_same_kind a.kind b.kind)

-- `A,B`
abbrev pub catenate : Array → Array → Answer
catenate a b =
    error_if error.Rank (is_above_one a || is_above_one b)
    (error_if error.Domain (kinds_differ a b)
    (within_limit ((count a + count b) ∷ []) (λ _. Ok (vector (joined_kind a b) (a.cells ++ b.cells)))))

-- ---- ⌽B, ⌽[K]B, ⊖B

-- reversed along the axis
abbrev pub reversed : ℤ → Axis → Array → Answer
reversed o axis b = on_axis o axis (rank b) (λ k. Ok (gathered b.shape (reverse_index b.shape k) b))

-- ---- A⌽B, A⌽[K]B, A⊖B: element i of the axis is element i + a modulo the length

-- how far the line through this index is turned
abbrev pub turn : Array → ℕ → List ℕ → ℤ
turn a axis is = if is_single a then first a else cell_at a (remove is axis)

-- the index with its number on the axis turned by so many places
abbrev pub turned_index : List ℕ → ℕ → ℤ → List ℕ → List ℕ
turned_index ns axis by is = slice_set is axis (unsigned_abs (int_rem_euclid (pos (slice_index is axis) +ℤ by) (pos (slice_index ns axis))))

-- `A⌽B`
abbrev pub rotated : ℤ → Axis → Array → Array → Answer
rotated o axis a b = on_axis o axis (rank b) (λ k.
    error_if error.Rank (not (is_single a) && not (rank a + 1 == rank b))
    (error_if error.Length (not (is_single a) && not (pointwise nat_eq a.shape (remove b.shape k)))
    (error_if error.Domain (is_text a)
    (Ok (gathered b.shape (λ is. turned_index b.shape k (turn a k is) is) b)))))

-- ---- ⍉B

-- the axes in reverse order (own)
abbrev pub flipped : Array → Answer
flipped b = Ok (gathered (reverse b.shape) reverse b)

-- ---- A⍉B: axis i of B becomes the axis that A's element i names; axes that fall together give the diagonal

-- the numbers less o
abbrev pub less_origin : ℤ → Array → List ℤ
less_origin o a = map (λ z. z -ℤ o) a.cells

-- 0, or a number above it with the one before it among them
abbrev pub is_axis_among : List ℤ → ℤ → Bool
is_axis_among zs z = int_le (pos 0) z && (int_eq z (pos 0) || list_any (int_eq (z -ℤ pos 1)) zs)

-- exactly 0 to k - 1 for some k: none is below 0, and with each but 0 there is the number before it
abbrev pub are_axes : List ℤ → Bool
are_axes zs = list_all (is_axis_among zs) zs

-- `A⍉B`
abbrev pub transposed : ℤ → Array → Array → Answer
transposed o a b =
    let axes = map unsigned_abs (less_origin o a) in
    error_if error.Rank (is_above_one a)
    (error_if error.Length (not (count a == rank b))
    (error_or error.Domain (is_text a || not (are_axes (less_origin o a)))
    (λ _. Ok (gathered (transpose_shape axes b.shape) (transpose_index axes) b))))

-- ---- A↑B: the first a of each axis, or the last, padded at the far end

-- a scalar is taken with as many axes of length 1 as A has elements
abbrev pub taken_shape : Array → Array → List ℕ
taken_shape a b = if rank b == 0 then replicate (count a) 1 else b.shape

-- where element i of the taken axis lies on an axis of length n, if it does
abbrev pub taken_place : ℕ → ℤ → ℕ → Option ℕ
taken_place n (pos a) i = if nat_lt i n then Some i else None
taken_place n (negsuc a) i = if nat_le (suc a) (n + i) then Some (n + i - suc a) else None

-- and so for each axis, where all do
abbrev pub taken_places : List ℕ → List ℤ → List ℕ → List (Option ℕ)
taken_places (n ∷ ns) (a ∷ counts) (i ∷ is) = taken_place n a i ∷ taken_places ns counts is
taken_places ns counts is = []

-- the cell at an index, or what fills
abbrev pub read_or_fill : Array → Option (List ℕ) → ℤ
read_or_fill b (Some i) = cell_at b i
read_or_fill b None = fill b.kind

-- the same cells in another shape
abbrev pub with_shape : Array → List ℕ → Array
with_shape b ns = record { kind = b.kind; shape = ns; cells = b.cells }

-- `A↑B`
abbrev pub take_or_pad : Array → Array → Answer
take_or_pad a b =
    let ns = taken_shape a b in
    error_if error.Rank (is_above_one a)
    (error_if error.Length (not (count a == length ns))
    (error_if error.Domain (is_text a)
    (within_limit (map unsigned_abs a.cells) (λ _.
    Ok (tabulated b.kind (map unsigned_abs a.cells) (λ is. read_or_fill (with_shape b ns) (all_defined (taken_places ns a.cells is))))))))

-- ---- A↓B

-- without the first a of each axis, or without the last
abbrev pub drop_from : Array → Array → Answer
drop_from a b =
    let ns = taken_shape a b in
    error_if error.Rank (is_above_one a)
    (error_if error.Length (not (count a == length ns))
    (error_if error.Domain (is_text a)
    (within_limit (drop_shape ns a.cells) (λ _.
    Ok (gathered (drop_shape ns a.cells) (drop_index ns a.cells) (with_shape b ns))))))

-- ---- A⍳B

-- for each element of B, o and the number of elements of A before its first place in A
abbrev pub index_of : ℤ → Array → Array → Answer
index_of o a b =
    error_if error.Rank (not (rank a == 1))
    (Ok (record { kind = Num; shape = b.shape; cells = map (λ e. counted_from o (position_or_len (is_same e) (elements a))) (elements b) }))

-- ---- A∈B

-- for each element of A 1 where it is in B, else 0
abbrev pub member : Array → Array → Answer
member a b = Ok (record { kind = Num; shape = a.shape; cells = map (λ e. truth (list_any (is_same e) (elements b))) (elements a) })

-- ---- ⍋B, ⍒B: the places, counted from o, in rising or falling order; equals keep their order

-- which of two cells comes first
abbrev pub comes_first : Bool → ℤ → ℤ → Bool
comes_first false x y = int_lt x y
comes_first true x y = int_lt y x

-- A place among places in order: behind those whose cells stand before its own. Places are put in from the
-- last to the first, so equal cells keep their order.
abbrev pub place_in : Bool → List ℤ → ℕ → List ℕ → List ℕ
place_in down cells p [] = p ∷ []
place_in down cells p (q ∷ qs) =
    if comes_first down (slice_index_or cells q (pos 0)) (slice_index_or cells p (pos 0)) then q ∷ place_in down cells p qs else p ∷ q ∷ qs

-- places in order
abbrev pub in_order : Bool → List ℤ → List ℕ → List ℕ
in_order down cells [] = []
in_order down cells (p ∷ ps) = place_in down cells p (in_order down cells ps)

-- `⍋B`, and `⍒B` where it goes down
abbrev pub grade : Bool → ℤ → Array → Answer
grade down o b =
    error_if error.Rank (not (rank b == 1))
    (error_if error.Domain (is_text b)
    (Ok (vector Num (map (counted_from o) (in_order down b.cells (upward 0 (count b)))))))

-- ---- A/B, A/[K]B, A⌿B: the elements along the axis where A is 1

-- the places of the ones among the bits, counted from p
abbrev pub ones_from : ℕ → List ℤ → List ℕ
ones_from p [] = []
ones_from p (a ∷ bits) = if int_eq a (pos 1) then p ∷ ones_from (suc p) bits else ones_from (suc p) bits

-- an argument that extends is a vector of n of its element
abbrev pub extended_to : ℕ → Array → Array
extended_to n b = if is_extendable b then vector b.kind (replicate n (first b)) else b

-- the array that is left along the axis
abbrev pub compressed : ℕ → List ℤ → Array → Array
compressed axis bits b =
    let places = ones_from 0 bits in
    gathered (slice_set b.shape axis (length places)) (λ is. slice_set is axis (slice_index places (slice_index is axis))) b

-- a single A extends to the axis
abbrev pub bits_along : ℕ → Array → List ℤ
bits_along n a = if is_single a then replicate n (first a) else a.cells

-- `A/B`
abbrev pub compress : ℤ → Axis → Array → Array → Answer
compress o axis a b =
    error_if error.Rank (is_above_one a)
    (on_axis o axis (rank b) (λ k.
    let c = extended_to (count a) b in
    error_if error.Length (not (is_single a) && not (is_extendable b) && not (count a == slice_index b.shape k))
    (error_if error.Domain (not (are_bits a))
    (Ok (compressed k (bits_along (slice_index c.shape k) a) c)))))

-- ---- A\B, A\[K]B, A⍀B

-- along the axis the next element of B where A is 1, else 0 or a blank
-- how many ones there are
abbrev pub ones : List ℤ → ℕ
ones bits = length (ones_from 0 bits)

-- the element for place i: none at a 0, and at a 1 the one whose number is that of the ones before it
abbrev pub spaced : ℕ → List ℤ → List ℕ → Option (List ℕ)
spaced axis bits is =
    let i = slice_index is axis in
    if int_eq (slice_index_or bits i (pos 0)) (pos 1) then Some (slice_set is axis (ones (take i bits))) else None

-- the array that is spread along the axis
abbrev pub expanded : ℕ → List ℤ → Array → Answer
expanded axis bits b =
    let ns = slice_set b.shape axis (length bits) in
    within_limit ns (λ _. Ok (tabulated b.kind ns (λ is. read_or_fill b (spaced axis bits is))))

-- `A\B`
abbrev pub expand : ℤ → Axis → Array → Array → Answer
expand o axis a b =
    error_if error.Rank (is_above_one a)
    (on_axis o axis (rank b) (λ k.
    error_if error.Length (are_bits a && not (is_extendable b) && not (ones a.cells == slice_index b.shape k))
    (error_if error.Domain (not (are_bits a))
    (expanded k a.cells (extended_to (ones a.cells) b)))))

-- ---- A⊤B: the digits of each element of B in the bases A

-- what is left for the next base to the left
abbrev pub carried : ℤ → ℤ → ℤ
carried a b = if int_eq a (pos 0) then pos 0 else int_div_euclid b (pos (unsigned_abs a))

-- one digit more to the left
abbrev pub cons_digit : ℤ → Option (List ℤ × ℤ) → Option (List ℤ × ℤ)
cons_digit a None = None
cons_digit a (Some s) = option_map (λ d. (d ∷ s.0, carried a s.1)) (residue a s.1)

-- the digits, and what is left of b: from the last base to the first
abbrev pub digits : List ℤ → ℤ → Option (List ℤ × ℤ)
digits [] b = Some ([], b)
digits (a ∷ bases) b = cons_digit a (digits bases b)

-- digit i of each element of B, for each base i
abbrev pub digit_rows : List ℤ → List (List ℤ) → ℕ → List ℤ
digit_rows bases columns i = map (λ ds. slice_index_or ds i (pos 0)) columns

-- the digits of each element of B
abbrev pub columns_of : Array → Array → Option (List (List ℤ))
columns_of a b = all_defined (map (λ z. option_map (λ s. s.0) (digits a.cells z)) b.cells)

-- `A⊤B`
abbrev pub encode : Array → Array → Answer
encode a b =
    let ns = a.shape ++ b.shape in
    error_if error.Rank (is_above_one a || is_above_one b)
    (within_limit ns (λ _.
    error_if error.Domain (is_text a || is_text b)
    (or_domain (columns_of a b) (λ columns. record { kind = Num; shape = ns; cells = flat_map (digit_rows a.cells columns) (upward 0 (count a)) }))))

-- ---- A⊥B

-- r begins at 0, and for each place becomes (r×a)+b
-- the number so far, and what the bases and digits that are left make of it
abbrev pub decoded : Option ℤ → List ℤ → List ℤ → Option ℤ
decoded r (a ∷ bases) (b ∷ ds) = decoded (option_and_then (λ n. option_and_then (λ m. in_range (m +ℤ b)) (in_range (n *ℤ a))) r) bases ds
decoded r bases ds = r

-- a single argument extends to the other's size
abbrev pub matched : Array → ℕ → List ℤ
matched a n = if is_single a then replicate n (first a) else a.cells

-- `A⊥B`
abbrev pub decode : Array → Array → Answer
decode a b =
    let n = if is_single a then count b else count a in
    error_if error.Rank (is_above_one a || is_above_one b)
    (error_if error.Length (not (is_single a) && not (is_single b) && not (count a == count b))
    (error_if error.Domain (is_text a || is_text b)
    (or_domain (decoded (Some (pos 0)) (matched a n) (matched b n)) (scalar Num))))

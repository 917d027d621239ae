-- What an inner product answers. Both arguments are read as lines: for each index of the axes that stay, the elements
-- along the axis that goes.
use Rattle.std.specs.Prelude.{◌≡◌, ℕ, ◌+◌, ◌-◌, ◌*◌, ◌/◌, ◌%◌, ◌<◌, ◌==◌, false, ℤ, [], List, ◌++◌, All, map, length, Option, Some, None, Result}
use Rattle.std.specs.Option.{option_and_then}
use Rattle.apl_base.specs.declared.cells.Kind.{Kind}
use Rattle.apl_base.specs.declared.cells.Kind.TheVariants.{Num}
use Rattle.apl_base.specs.declared.cells.Elem.{Elem}
use Rattle.apl_base.specs.declared.rows.Dya.{Dya}
use Rattle.apl_base.specs.Array.{Array, size_of, index_at}
use Rattle.apl_base.specs.Elements.{all_defined}
use Rattle.apl_base.specs.Number.{IsCell}
use Rattle.apl_base.specs.Scalar.{scalar2, number}
use Rattle.apl_base.specs.Selection.{upward}
use Rattle.array_store.specs.Stores.{StoreView}
use Rattle.drag_along.specs.declared.leaves.Leaf.{Leaf}
use Rattle.drag_along.specs.Nodes.{leaf_shape}
use Rattle.leaf_names.specs.Variables.{array_of}
use Rattle.apl_model.specs.Whole.{Answer, is_extendable, first}
use Rattle.apl_model.specs.Product.{reduced, inner, left_axes, right_axes, left_length, right_length, inner_length, inner_at}
use Rattle.scalar_table.specs.Columns.{cell_in, element_in}
use Rattle.made_leaf.specs.declared.faults.MadeFault.{MadeFault}
use Rattle.made_leaf.specs.Made.{IsMadeAsking}
use Rattle.product_fns.specs.declared.lines.Lined.{Lined}
use Rattle.product_fns.specs.Reduction.{AsksForShape, Applied}

-- `A f.g B` of the arrays that two leaves stand for
abbrev pub inner_of : StoreView → Dya → Dya → Leaf → Leaf → Answer
inner_of store f g a b = inner f g (array_of store a) (array_of store b)

-- the lengths of the result
abbrev pub inner_shape : Array → Array → List ℕ
inner_shape a b = left_axes a ++ right_axes b

-- for each element of the result g is applied for each place of the axis that goes, and f once less
abbrev pub inner_applications : Array → Array → ℕ
inner_applications a b = size_of (inner_shape a b) * (inner_length a b + (inner_length a b - 1))

-- what an inner product answers: each element of both arguments is fetched once at most
abbrev pub IsInnerProduct : StoreView → StoreView → Dya → Dya → Leaf → Leaf → Result Leaf MadeFault → Type 0
IsInnerProduct old new f g a b result =
    IsMadeAsking (Applied old (inner_applications (array_of old a) (array_of old b)) (size_of (leaf_shape a) + size_of (leaf_shape b)))
    (AsksForShape (inner_of old f g a b) (inner_shape (array_of old a) (array_of old b))) old new (inner_of old f g a b) result

-- the element of the result at a place of its row-major order
abbrev pub inner_value : Dya → Dya → Array → Array → ℕ → Option Elem
inner_value f g a b p =
    let q : ℕ = size_of (right_axes b) in
    inner_at f g a b (index_at (left_axes a) (p / q)) (index_at (right_axes b) (p % q))

-- these are all of them, each a number
pub record AreInnerResults (f g : Dya) (a b : Array) (results : List ℤ) : Type 0 where
  pub values : (p : ℕ) → p < length results → inner_value f g a b p ≡ Some (number (cell_in results p))
  pub lawful : All (IsCell Num) results

-- one of so many is undefined
pub record HasUndefinedInner (f g : Dya) (a b : Array) (many : ℕ) : Type 0 where
  pub p : ℕ
  pub within : p < many
  pub none : inner_value f g a b p ≡ None

-- an array of these lengths, where only the lengths matter
abbrev pub shaped : List ℕ → Array
shaped ns = record { kind = Num; shape = ns; cells = [] }

-- these cells are lines of n elements, one for each index of these lengths
pub record AreLines (at : List ℕ → ℕ → Elem) (ns : List ℕ) (n : ℕ) (kind : Kind) (cells : List ℤ) : Type 0 where
  pub many : length cells ≡ size_of ns * n
  pub each : (i k : ℕ) → i < size_of ns → k < n → at (index_at ns i) k ≡ element_in kind cells (i * n + k)
  pub lawful : All (IsCell kind) cells

-- what f of g answers for two lines
abbrev pub product_of : Dya → Dya → Kind → List ℤ → Kind → List ℤ → ℕ → Option Elem
product_of f g left_kind left right_kind right n =
    option_and_then (reduced f) (all_defined (map (λ k. scalar2 g (element_in left_kind left k) (element_in right_kind right k)) (upward 0 n)))

-- both arguments, as lines of n elements; q of the right one
pub record Lines : Type 0 where
  pub f : Dya
  pub g : Dya
  pub left_kind : Kind
  pub left : List ℤ
  pub right_kind : Kind
  pub right : List ℤ
  pub n : ℕ
  pub q : ℕ

-- g of the elements at place k of line i of the left and of line j of the right
abbrev pub pair_at : Lines → ℕ → ℕ → ℕ → Option Elem
pair_at l i j k = scalar2 l.g (element_in l.left_kind l.left (i * l.n + k)) (element_in l.right_kind l.right (j * l.n + k))

-- the result at a place: the lines of the right go through first
abbrev pub product_at : Lines → ℕ → Option Elem
product_at l p = option_and_then (reduced l.f) (all_defined (map (pair_at l (p / l.q) (p % l.q)) (upward 0 l.n)))

-- these are the results at the first places, as many as there are
abbrev pub AreProducts : Lines → List ℤ → Type 0
AreProducts l results = (p : ℕ) → p < length results → product_at l p ≡ Some (number (cell_in results p))

-- these are all results, each a number
pub record AreAllProducts (l : Lines) (results : List ℤ) : Type 0 where
  pub values : AreProducts l results
  pub lawful : All (IsCell Num) results

-- one of so many results is undefined
pub record HasUndefinedProduct (l : Lines) (many : ℕ) : Type 0 where
  pub p : ℕ
  pub within : p < many
  pub none : product_at l p ≡ None

-- two arguments as lines
abbrev pub lines_of : Dya → Dya → Lined → Lined → ℕ → ℕ → Lines
lines_of f g left right n q = record {
  f = f;
  g = g;
  left_kind = left.kind;
  left = left.cells.items;
  right_kind = right.kind;
  right = right.cells.items;
  n = n;
  q = q;
}

-- both arguments have the axis that goes, and its lengths differ
pub record IsLengthFault (a b : Array) : Type 0 where
  pub left : is_extendable a ≡ false
  pub right : is_extendable b ≡ false
  pub apart : (left_length a == right_length b) ≡ false

-- these cells are n times the first one of an array
pub record IsRepeated (a : Array) (n : ℕ) (kind : Kind) (cells : List ℤ) : Type 0 where
  pub is : kind ≡ a.kind
  pub many : length cells ≡ n
  pub each : (k : ℕ) → k < n → cell_in cells k ≡ first a
  pub lawful : All (IsCell kind) cells

-- this is the length of the axis that goes, in each argument that has one
pub record HasLength (n : ℕ) (a b : Array) : Type 0 where
  pub is : n ≡ inner_length a b
  pub left : is_extendable a ≡ false → n ≡ left_length a
  pub right : is_extendable b ≡ false → n ≡ right_length b

-- What is asked of whole arrays, and errors, for the functions of the language.
use Rattle.std.specs.Prelude.{ℕ, ◌^◌, ◌==◌, nat_le, ℤ, pos, Bool, true, false, not, ◌&&◌, List, [], ◌∷◌, length, slice_index_or, Option, Some, None, Result, Ok, Err}
use Rattle.std.specs.List.{list_all}
use Rattle.apl_base.specs.declared.cells.Kind.{Kind}
use Rattle.apl_base.specs.declared.cells.Kind.TheVariants.{Num, Char}
use Rattle.apl_base.specs.declared.faults.ErrorKind.{ErrorKind}
use Rattle.apl_base.specs.declared.faults.ErrorKind.TheVariants as error
use Rattle.apl_base.specs.Array.{Array, size_of}

-- what a function of whole arrays gives: an array, or an error
abbrev pub Answer : Type 0
Answer = Result Array ErrorKind

-- ---- what is asked of an array

-- how many axes there are
abbrev pub rank : Array → ℕ
rank a = length a.shape

-- how many elements there are
abbrev pub count : Array → ℕ
count a = size_of a.shape

-- single: with one element
abbrev pub is_single : Array → Bool
is_single a = count a == 1

-- without elements
abbrev pub is_empty : Array → Bool
is_empty a = count a == 0

-- the kind is characters
abbrev pub is_char : Kind → Bool
is_char Char = true
is_char Num = false

-- characters, and at least one: an array without elements is taken as numbers
abbrev pub is_text : Array → Bool
is_text a = is_char a.kind && not (is_empty a)

-- the first cell, 0 where there is none
abbrev pub first : Array → ℤ
first a = slice_index_or a.cells 0 (pos 0)

-- an array of one element, without axes or with one: it extends where a row says so
abbrev pub is_extendable : Array → Bool
is_extendable a = is_single a && nat_le (rank a) 1

-- ---- how an array is made

-- an array of one axis
abbrev pub vector : Kind → List ℤ → Array
vector k cells = record { kind = k; shape = length cells ∷ []; cells = cells }

-- an array without axes
abbrev pub scalar : Kind → ℤ → Array
scalar k cell = record { kind = k; shape = []; cells = cell ∷ [] }

-- what stands where a longer array has no element: 0, or a blank
abbrev pub fill : Kind → ℤ
fill Num = pos 0
fill Char = pos 32

-- ---- errors

-- lengths that make a shape, as a test
abbrev pub is_shape : List ℕ → Bool
is_shape ns = nat_le (length ns) 8 && list_all (λ n. nat_le n (2 ^ 40)) ns && nat_le (size_of ns) (2 ^ 40)

-- the error where the condition holds, and else what follows
abbrev pub error_if : ErrorKind → Bool → Answer → Answer
error_if e true next = Err e
error_if e false next = next

-- the error where the condition holds, and else what is made, which is made only then
abbrev pub error_or : ErrorKind → Bool → (Unit {0} → Answer) → Answer
error_or e true make = Err e
error_or e false make = make tt

-- LIMIT ERROR where the lengths make no shape, and else the array that is made
abbrev pub within_limit : List ℕ → (Unit {0} → Answer) → Answer
within_limit ns make = error_or error.Limit (not (is_shape ns)) make

-- DOMAIN ERROR where a value is undefined, and else the array that is made of them
abbrev pub or_domain : {X : Type 0} → Option X → (X → Array) → Answer
or_domain None make = Err error.Domain
or_domain (Some x) make = Ok (make x)

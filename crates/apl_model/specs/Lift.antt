-- The lift of a scalar function to whole arrays.
use Rattle.std.specs.Prelude.{ℕ, ◌==◌, nat_lt, Bool, true, false, List, map, length, replicate, Result, Ok, Err, nat_eq, if◌then◌else◌}
use Rattle.std.specs.Cmp.Lexicographic.{pointwise}
use Rattle.std.specs.List.{zip}
use Rattle.apl_base.specs.declared.cells.Elem.{Elem}
use Rattle.apl_base.specs.declared.faults.ErrorKind.{ErrorKind}
use Rattle.apl_base.specs.declared.faults.ErrorKind.TheVariants as error
use Rattle.apl_base.specs.declared.rows.Mon.{Mon}
use Rattle.apl_base.specs.declared.rows.Dya.{Dya}
use Rattle.apl_base.specs.Array.{Array, size_of}
use Rattle.apl_base.specs.Elements.{element, elements, numbers, all_defined}
use Rattle.apl_base.specs.Scalar.{scalar1, scalar2}
use Rattle.apl_model.specs.Whole.{Answer, is_single, first, or_domain}

-- Lengths that are alike fit; one element extends to the other's shape, and of two single operands the one of
-- greater rank gives the shape. Of others unequal ranks are a RANK ERROR, unequal lengths a LENGTH ERROR.
-- (Own: how one-element operands extend.)
abbrev pub shape_by : Bool → Bool → Bool → List ℕ → List ℕ → Result (List ℕ) ErrorKind
shape_by true left_single right_single ls rs = Ok ls
shape_by false true true ls rs = Ok (if nat_lt (length ls) (length rs) then rs else ls)
shape_by false true false ls rs = Ok rs
shape_by false false true ls rs = Ok ls
shape_by false false false ls rs = Err (if length ls == length rs then error.Length else error.Rank)

-- the shape of `A f B` from the lengths of A and B
abbrev pub fitting_shape : List ℕ → List ℕ → Result (List ℕ) ErrorKind
fitting_shape ls rs = shape_by (pointwise nat_eq ls rs) (size_of ls == 1) (size_of rs == 1) ls rs

-- the elements of an operand, a single one repeated n times
abbrev pub spread : Bool → ℕ → Array → List Elem
spread true n a = replicate n (element a.kind (first a))
spread false n a = elements a

-- the elements of an operand for n places
abbrev pub spread_to : ℕ → Array → List Elem
spread_to n a = spread (is_single a) n a

-- `f B`: the value at each element, DOMAIN ERROR exactly where one is undefined
abbrev pub lift1 : Mon → Array → Answer
lift1 f b = or_domain (all_defined (map (scalar1 f) (elements b))) (numbers b.shape)

-- the values at the pairs
abbrev pub lift_pairs : Dya → List ℕ → Array → Array → Answer
lift_pairs f ns a b =
    or_domain (all_defined (map (λ p. scalar2 f p.0 p.1) (zip (spread_to (size_of ns) a) (spread_to (size_of ns) b)))) (numbers ns)

-- over the shape that both fit, if there is one
abbrev pub lift_over : Dya → Array → Array → Result (List ℕ) ErrorKind → Answer
lift_over f a b (Ok ns) = lift_pairs f ns a b
lift_over f a b (Err e) = Err e

-- `A f B`
abbrev pub lift2 : Dya → Array → Array → Answer
lift2 f a b = lift_over f a b (fitting_shape a.shape b.shape)

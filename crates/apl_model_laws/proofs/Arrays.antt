-- Lawful arrays: how they are made.
use Rattle.std.proofs.Common.{◌≡◌, ℕ, ◌^◌, ◌≤◌, Bool, true, false, not, ◌&&◌, leb, ℤ, pos, ◌+ℤ◌, List, [], ◌∷◌, length, Option, Some, None, Ok, refl, ◌∙◌, inl, inr, arith}
use Rattle.std.specs.List.{AllByRecursion, list_all}
use Rattle.std.proofs.lemmas.List.{length-map}
use Rattle.std.proofs.lemmas.Bool.{leb-true, le-leb}
use Rattle.std.proofs.lemmas.Int.{ints}
use Rattle.apl_base.specs.declared.cells.Kind.{Kind}
use Rattle.apl_base.specs.declared.cells.Kind.TheVariants.{Num, Char}
use Rattle.apl_base.specs.declared.cells.Elem.{Elem}
use Rattle.apl_base.specs.declared.faults.ErrorKind.{ErrorKind}
use Rattle.apl_base.specs.declared.faults.ErrorKind.TheVariants as error
use Rattle.apl_base.specs.Array.{Array, IsArray, IsShape, size_of, cell_at, place_at}
use Rattle.apl_base.specs.Elements.{element, elements, numbers, tabulated, gathered}
use Rattle.apl_base.specs.Number.{IsNumber, IsCell}
use Rattle.apl_base.proofs.Elements.{tabulated-count, tabulated-each}
use Rattle.apl_base.proofs.Lists.{all_imp, all_map, all_at}
use Rattle.apl_base.proofs.Numbers.{IsNumber-small}
use Rattle.apl_base.proofs.Booleans.{both_parts, not-false, list_all-each, each-list_all}
use Rattle.scalar_table.specs.Row.{IsElement, IsNumberElement}
use Rattle.apl_model.specs.Whole.{Answer, is_shape, error_if, error_or, within_limit, or_domain, first, vector, scalar, fill}
use Rattle.apl_model_laws.specs.Lawful.{IsAnswer, IsOrigin, ShapesAreTested}

-- ---- tests

is_shape-makes : (ns : List ℕ) → is_shape ns ≡ true → IsShape ns
is_shape-makes ns h =
    let s = both_parts (leb (length ns) 8 && list_all (λ n. leb n (2 ^ 40)) ns) (leb (size_of ns) (2 ^ 40)) h in
    let t = both_parts (leb (length ns) 8) (list_all (λ n. leb n (2 ^ 40)) ns) s.0 in
    record {
      rank = leb-true (length ns) 8 t.0;
      each = all_imp (λ n. leb n (2 ^ 40) ≡ true) (λ n. n ≤ 2 ^ 40) ns (λ n. leb-true n (2 ^ 40)) (list_all-each (λ n. leb n (2 ^ 40)) ns t.1);
      product = leb-true (size_of ns) (2 ^ 40) s.1;
    }

is_shape-is : (ns : List ℕ) → IsShape ns → is_shape ns ≡ true
is_shape-is ns h =
    let a = le-leb (length ns) 8 h.rank in
    let b = each-list_all (λ n. leb n (2 ^ 40)) ns (all_imp (λ n. n ≤ 2 ^ 40) (λ n. leb n (2 ^ 40) ≡ true) ns (λ n. le-leb n (2 ^ 40)) h.each) in
    let c = le-leb (size_of ns) (2 ^ 40) h.product in
    rw (a, b, c) refl

pub shapes_are_tested : ShapesAreTested
shapes_are_tested ns = (is_shape-makes ns, is_shape-is ns)

-- ---- answers

-- an answer that gives a lawful array, if it gives one
pub record Gives (a : Answer) : Type 0 where
  pub answer : IsAnswer a

pub gives : (a : Array) → IsArray a → Gives (Ok a)
gives a h = record { answer = h }

pub error_if-gives : (e : ErrorKind) (b : Bool) (next : Answer) → (b ≡ false → Gives next) → Gives (error_if e b next)
error_if-gives e true next h = record { answer = tt }
error_if-gives e false next h = h refl

pub error_or-gives : (e : ErrorKind) (b : Bool) (make : Unit {0} → Answer) → (b ≡ false → Gives (make tt)) → Gives (error_or e b make)
error_or-gives e true make h = record { answer = tt }
error_or-gives e false make h = h refl

pub within-gives : (ns : List ℕ) (make : Unit {0} → Answer) → (IsShape ns → Gives (make tt)) → Gives (within_limit ns make)
within-gives ns make h = error_or-gives error.Limit (not (is_shape ns)) make (λ e. h (is_shape-makes ns (not-false (is_shape ns) e)))

pub domain-gives : {X : Type 0} (o : Option X) (make : X → Array) → ((x : X) → o ≡ Some x → IsArray (make x)) → Gives (or_domain o make)
domain-gives None make h = record { answer = tt }
domain-gives (Some x) make h = record { answer = h x refl }

-- ---- cells

pub zero_cell : (k : Kind) → IsCell k (pos 0)
zero_cell Num = IsNumber-small 0 (omega arith)
zero_cell Char = refl

pub fill_cell : (k : Kind) → IsCell k (fill k)
fill_cell Num = IsNumber-small 0 (omega arith)
fill_cell Char = refl

-- the cell at any list of numbers is lawful, within the array or not
pub cell_at-lawful : (a : Array) → AllByRecursion (IsCell a.kind) a.cells → (i : List ℕ) → IsCell a.kind (cell_at a i)
cell_at-lawful a h i = all_at (IsCell a.kind) a.cells (place_at a.shape i) (pos 0) h (zero_cell a.kind)

pub first-lawful : (a : Array) → AllByRecursion (IsCell a.kind) a.cells → IsCell a.kind (first a)
first-lawful a h = all_at (IsCell a.kind) a.cells 0 (pos 0) h (zero_cell a.kind)

pub counted-number : (o : ℤ) → IsOrigin o → (p : ℕ) → p ≤ 2 ^ 40 → IsNumber (o +ℤ pos p)
counted-number o h p l =
    elim h [
      | inl e ↦ record { least = omega (arith, ints, e); most = omega (arith, ints, e) }
      | inr e ↦ record { least = omega (arith, ints, e); most = omega (arith, ints, e) }
    ]

-- ---- arrays

pub tabulated-array : (k : Kind) (ns : List ℕ) (cell : List ℕ → ℤ) → IsShape ns → ((i : List ℕ) → IsCell k (cell i)) → IsArray (tabulated k ns cell)
tabulated-array k ns cell s h = record {
  shape = s;
  count = tabulated-count k ns cell;
  cells = tabulated-each (IsCell k) k ns cell (λ i _. h i);
}

pub gathered-array : (ns : List ℕ) (read : List ℕ → List ℕ) (a : Array) → IsShape ns → AllByRecursion (IsCell a.kind) a.cells → IsArray (gathered ns read a)
gathered-array ns read a s h = tabulated-array a.kind ns (λ i. cell_at a (read i)) s (λ i. cell_at-lawful a h (read i))

pub one_axis : (n : ℕ) → n ≤ 2 ^ 40 → IsShape (n ∷ [])
one_axis n h = record { rank = omega arith; each = (h, tt); product = omega (arith, h) }

pub no_axis : IsShape []
no_axis = record { rank = omega arith; each = tt; product = omega arith }

pub vector-array : (k : Kind) (cells : List ℤ) → length cells ≤ 2 ^ 40 → AllByRecursion (IsCell k) cells → IsArray (vector k cells)
vector-array k cells l h = record { shape = one_axis (length cells) l; count = omega arith; cells = h }

pub scalar-array : (k : Kind) (z : ℤ) → IsCell k z → IsArray (scalar k z)
scalar-array k z h = record { shape = no_axis; count = refl; cells = (h, tt) }

pub count-small : (a : Array) → IsArray a → length a.cells ≤ 2 ^ 40
count-small a h = omega (arith, h.count, h.shape.product)

pub numbers-array : (ns : List ℕ) (es : List Elem) → IsShape ns → length es ≡ size_of ns → AllByRecursion IsNumberElement es → IsArray (numbers ns es)
numbers-array ns es s l h = record {
  shape = s;
  count = length-map es (λ e. e.cell) ∙ l;
  cells = all_map (IsCell Num) (λ (e : Elem). e.cell) es (all_imp IsNumberElement (λ e. IsNumber e.cell) es (λ e p. p.cell) h);
}

pub elements-lawful : (a : Array) → IsArray a → AllByRecursion IsElement (elements a)
elements-lawful a h = all_map IsElement (element a.kind) a.cells h.cells

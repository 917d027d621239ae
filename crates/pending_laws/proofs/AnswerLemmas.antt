-- Answers whose tests pass, and arrays that are read alike.
use Rattle.std.proofs.Common.{◌≡◌, ℕ, ◌<◌, ◌≤◌, Bool, true, false, not, ◌||◌, ℤ, ◌≤ℤ◌, ◌<ℤ◌, int_le, int_lt, List, Ok, refl, ap, ◌∙◌, arith}
use Rattle.std.proofs.lemmas.Bool.{lt-leb, leb-false}
use Rattle.std.proofs.lemmas.Int.{ints}
use Rattle.apl_base.specs.declared.faults.ErrorKind.{ErrorKind}
use Rattle.apl_base.specs.declared.faults.ErrorKind.TheVariants as error
use Rattle.apl_base.specs.Array.{Array, IsIndex, cell_at}
use Rattle.apl_base.specs.Elements.{gathered}
use Rattle.apl_base.proofs.Elements.{tabulated-same}
use Rattle.apl_model.specs.Whole.{Answer, rank, error_if, error_or}
use Rattle.apl_model.specs.Made.{is_above_one}

-- ---- tests

-- and back: an answer has passed
pub passed_if : (e : ErrorKind) (t : Bool) (next : Answer) (c : Array) → error_if e t next ≡ Ok c → (t ≡ false) × (next ≡ Ok c)
passed_if e true next c h = absurd cc
passed_if e false next c h = (refl, h)

pub passed_or : (e : ErrorKind) (t : Bool) (make : Unit {0} → Answer) (c : Array) → error_or e t make ≡ Ok c → (t ≡ false) × (make tt ≡ Ok c)
passed_or e true make c h = absurd cc
passed_or e false make c h = (refl, h)

pub above_one-not : (a : Array) → is_above_one a ≡ false → rank a ≤ 1
above_one-not a h = let below : rank a < 2 = leb-false 2 (rank a) h in omega arith

-- an array of at most one axis, as the test says it
pub not-above_one : (a : Array) → rank a ≤ 1 → is_above_one a ≡ false
not-above_one a h = lt-leb 2 (rank a) (omega arith)

-- neither of two errors
pub neither : (t u : Bool) → t ≡ false → u ≡ true → t || not u ≡ false
neither t u e f = rw (e, f) refl

-- at most, as a test
pub le-test : (x y : ℤ) → x ≤ℤ y → int_le x y ≡ true
le-test x y h = by (int_le x y) refl
  where
    by : (t : Bool) → int_le x y ≡ t → t ≡ true
    by true e = refl
    by false e = absurd (omega (arith, ints, e, h))

-- below, as a test
pub lt-test : (x y : ℤ) → x <ℤ y → int_lt x y ≡ true
lt-test x y h = by (int_lt x y) refl
  where
    by : (t : Bool) → int_lt x y ≡ t → t ≡ true
    by true e = refl
    by false e = absurd (omega (arith, ints, e, h))

-- ---- arrays

-- the same index read at each index
pub gathered-same : (ns ms : List ℕ) (f g : List ℕ → List ℕ) (a : Array) → ns ≡ ms → ((is : List ℕ) → IsIndex ms is → f is ≡ g is) → gathered ns f a ≡ gathered ms g a
gathered-same ns ms f g a e h =
    ap (λ (ks : List ℕ). gathered ks f a) e
    ∙ tabulated-same a.kind ms (λ is. cell_at a (f is)) (λ is. cell_at a (g is)) (λ is q. ap (cell_at a) (h is q))

-- Tests of numbers, and errors that come or don't.
use Rattle.std.proofs.Common.{◌≡◌, ℕ, Bool, true, false, ℤ, ◌≤ℤ◌, ◌<ℤ◌, List, Err, refl, arith}
use Rattle.std.specs.Prelude.{int_le, int_lt}
use Rattle.std.proofs.lemmas.Int.{ints}
use Rattle.apl_base.specs.declared.faults.ErrorKind.{ErrorKind}
use Rattle.apl_base.specs.declared.faults.ErrorKind.TheVariants as error
use Rattle.apl_base.specs.Array.{IsShape}
use Rattle.apl_model.specs.Whole.{Answer, error_if, within_limit, is_shape}
use Rattle.apl_model_laws.proofs.Arrays.{shapes_are_tested}

-- ---- tests of numbers

pub int_le-is : (a b : ℤ) → a ≤ℤ b → int_le a b ≡ true
int_le-is a b h = by (int_le a b) refl
  where
    by : (t : Bool) → int_le a b ≡ t → t ≡ true
    by true e = refl
    by false e = absurd (omega (arith, ints, h, e))

pub int_le-not : (a b : ℤ) → b <ℤ a → int_le a b ≡ false
int_le-not a b h = by (int_le a b) refl
  where
    by : (t : Bool) → int_le a b ≡ t → t ≡ false
    by true e = absurd (omega (arith, ints, h, e))
    by false e = refl

pub int_lt-is : (a b : ℤ) → a <ℤ b → int_lt a b ≡ true
int_lt-is a b h = by (int_lt a b) refl
  where
    by : (t : Bool) → int_lt a b ≡ t → t ≡ true
    by true e = refl
    by false e = absurd (omega (arith, ints, h, e))

pub int_lt-not : (a b : ℤ) → b ≤ℤ a → int_lt a b ≡ false
int_lt-not a b h = by (int_lt a b) refl
  where
    by : (t : Bool) → int_lt a b ≡ t → t ≡ false
    by true e = absurd (omega (arith, ints, h, e))
    by false e = refl

-- ---- errors

pub no_error : (e : ErrorKind) (b : Bool) (next : Answer) → b ≡ false → error_if e b next ≡ next
no_error e true next h = absurd cc
no_error e false next h = refl

pub an_error : (e : ErrorKind) (b : Bool) (next : Answer) → b ≡ true → error_if e b next ≡ Err e
an_error e true next h = refl
an_error e false next h = absurd cc

pub within_shape : (ns : List ℕ) (make : Unit {0} → Answer) → IsShape ns → within_limit ns make ≡ make tt
within_shape ns make h = rw ((shapes_are_tested ns).1 h) refl

-- lengths that make no shape
pub no_shape : (ns : List ℕ) → (IsShape ns → ⊥) → is_shape ns ≡ false
no_shape ns h = by (is_shape ns) refl
  where
    by : (t : Bool) → is_shape ns ≡ t → t ≡ false
    by true e = absurd (h ((shapes_are_tested ns).0 e))
    by false e = refl

pub over_limit : (ns : List ℕ) (make : Unit {0} → Answer) → (IsShape ns → ⊥) → within_limit ns make ≡ Err error.Limit
over_limit ns make h = rw (no_shape ns h) refl

-- Errors that come, and errors that are passed over.
use Rattle.std.proofs.Common.{◌≡◌, ℕ, Bool, true, false, not, List, Err, refl, ap}
use Rattle.apl_base.specs.declared.faults.ErrorKind.{ErrorKind}
use Rattle.apl_base.specs.declared.faults.ErrorKind.TheVariants as error
use Rattle.apl_base.specs.Array.{IsShape}
use Rattle.apl_model.specs.Whole.{Answer, is_shape, error_if, error_or, within_limit}
use Rattle.apl_model_laws.proofs.Arrays.{shapes_are_tested}

-- an error whose condition does not hold is passed over
pub passes_if : (e : ErrorKind) (t : Bool) (next : Answer) → t ≡ false → error_if e t next ≡ next
passes_if e t next h = ap (λ (b : Bool). error_if e b next) h

pub passes_or : (e : ErrorKind) (t : Bool) (make : Unit {0} → Answer) → t ≡ false → error_or e t make ≡ make tt
passes_or e t make h = ap (λ (b : Bool). error_or e b make) h

-- one whose condition holds comes
pub fails_if : (e : ErrorKind) (t : Bool) (next : Answer) → t ≡ true → error_if e t next ≡ Err e
fails_if e t next h = ap (λ (b : Bool). error_if e b next) h

pub fails_or : (e : ErrorKind) (t : Bool) (make : Unit {0} → Answer) → t ≡ true → error_or e t make ≡ Err e
fails_or e t make h = ap (λ (b : Bool). error_or e b make) h

-- ---- LIMIT ERROR

-- lengths that make a shape are within the limit
pub passes_limit : (ns : List ℕ) (make : Unit {0} → Answer) → IsShape ns → within_limit ns make ≡ make tt
passes_limit ns make h = passes_or error.Limit (not (is_shape ns)) make (ap not ((shapes_are_tested ns).1 h))

-- lengths that make no shape
pub no_shape : (ns : List ℕ) → (IsShape ns → ⊥) → is_shape ns ≡ false
no_shape ns h = by (is_shape ns) refl
  where
    by : (t : Bool) → is_shape ns ≡ t → t ≡ false
    by true e = absurd (h ((shapes_are_tested ns).0 e))
    by false e = refl

pub over_limit : (ns : List ℕ) (make : Unit {0} → Answer) → (IsShape ns → ⊥) → within_limit ns make ≡ Err error.Limit
over_limit ns make h = fails_or error.Limit (not (is_shape ns)) make (ap not (no_shape ns h))

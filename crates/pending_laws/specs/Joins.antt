-- Joins are lifts: what a join of arrays means is what the language gives for them.
use Rattle.std.specs.Prelude.{◌≡◌, length, Ok, Err}
use Rattle.apl_base.specs.declared.faults.ErrorKind.{ErrorKind}
use Rattle.apl_base.specs.declared.faults.ErrorKind.TheVariants as error
use Rattle.apl_base.specs.declared.faults.Place.{Place}
use Rattle.apl_base.specs.declared.rows.Mon.{Mon}
use Rattle.apl_base.specs.declared.rows.Dya.{Dya}
use Rattle.apl_base.specs.Array.{Array, size_of}
use Rattle.drag_along.specs.Meaning.{Meaning, Means, Faults, combined1, combined2}
use Rattle.apl_model.specs.Whole.{Answer}
use Rattle.apl_model.specs.Lift.{lift1, lift2}

-- what a function's answer means where the function stands at a place: its array, or a fault there
abbrev pub meaning_of : Place → Answer → Meaning
meaning_of place (Ok a) = Means a
meaning_of place (Err e) = Faults place

-- as many cells as its shape has elements
abbrev pub IsComplete : Array → Type 0
IsComplete a = length a.cells ≡ size_of a.shape

-- `f B`
abbrev pub OneIsTheLift : Type 0
OneIsTheLift = (f : Mon) (place : Place) (b : Array) → combined1 f place (Means b) ≡ meaning_of place (lift1 f b)

-- `A f B` of arrays of one shape
abbrev pub TwoAreTheLift : Type 0
TwoAreTheLift =
    (f : Dya) (place : Place) (a b : Array) → IsComplete a → IsComplete b → a.shape ≡ b.shape
    → combined2 f place (Means a) (Means b) ≡ meaning_of place (lift2 f a b)

-- the only error of `f B` is a DOMAIN ERROR
abbrev pub OneFaultIsDomain : Type 0
OneFaultIsDomain = (f : Mon) (b : Array) (e : ErrorKind) → lift1 f b ≡ Err e → e ≡ error.Domain

-- and so it is of `A f B` of arrays of one shape
abbrev pub TwoFaultsAreDomain : Type 0
TwoFaultsAreDomain =
    (f : Dya) (a b : Array) (e : ErrorKind) → IsComplete a → IsComplete b → a.shape ≡ b.shape
    → lift2 f a b ≡ Err e → e ≡ error.Domain

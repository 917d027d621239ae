-- The earlier of two refusals.
use Rattle.std.specs.Prelude.{ℕ, ◌==◌, nat_lt, ◌&&◌, ◌||◌, Bool, true, false, if◌then◌else◌, List, [], ◌∷◌, Option, Some, None}
use Rattle.apl_base.specs.declared.faults.Refusal.{Refusal}
use Rattle.apl_model.specs.Refusal.{order}

-- whether the first difference, if there is one, is not after: the test of the order of refusals
abbrev pub is_not_after : List ℕ → List ℕ → Bool
is_not_after [] ys = true
is_not_after (x ∷ xs) [] = false
is_not_after (x ∷ xs) (y ∷ ys) = nat_lt x y || (x == y && is_not_after xs ys)

-- the earlier of two refusals, where there are any
abbrev pub earlier : Option Refusal → Option Refusal → Option Refusal
earlier None s = s
earlier (Some r) None = Some r
earlier (Some r) (Some s) = if is_not_after (order r) (order s) then Some r else Some s

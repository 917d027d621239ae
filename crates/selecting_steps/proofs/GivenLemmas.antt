-- What a function of arrays gives comes in the place of its operands.
use Rattle.std.proofs.Common.{◌≡◌, ℤ, List, [], ◌∷◌, Ok, Err, refl, ap, ◌∙◌}
use Rattle.apl_base.specs.declared.faults.ErrorKind.{ErrorKind}
use Rattle.apl_base.specs.declared.faults.Place.{Place}
use Rattle.apl_base.specs.Array.{Array}
use Rattle.apl_model.specs.declared.functions.DyaFn.{DyaFn}
use Rattle.apl_model.specs.declared.functions.MonFn.{MonFn}
use Rattle.apl_model.specs.Evaluation.{State, Calls, of_arrays, at_place, monadic_value, dyadic_value}
use Rattle.apl_model.specs.Outcome.{fails, Flow}
use Rattle.apl_model.specs.Whole.{Answer}
use Rattle.drag_along.specs.Meaning.{Means}
use Rattle.apl_compile.specs.declared.codes.Op.TheVariants as op
use Rattle.apl_compile.specs.Execution.{exec, goes_on, put}
use Rattle.standing.specs.Stand.{Stand, going, ended, stand_on}
use Rattle.standing.specs.Laws.{Takes, Ends}
use Rattle.leaf_steps.specs.Origins.{HasOrigin}

-- an array
pub one_given : (o : ℤ) (f : MonFn) (place : Place) (b c : Array) → monadic_value o f b ≡ Ok c → (calls : Calls) (z : Stand) → HasOrigin o z → Takes calls (record { place = place; op = op.Mon f }) (stand_on z (Means b ∷ [])) (stand_on z (Means c ∷ []))
one_given o f place b c e calls (ended x) h rest = refl
one_given o f place b c e calls (going vs to s) h rest =
    ap (λ (r : Answer). goes_on (at_place place r s) (put (of_arrays calls) vs to (exec (of_arrays calls) rest))) (ap (λ (k : ℤ). monadic_value k f b) h ∙ e)

pub two_given : (o : ℤ) (f : DyaFn) (place : Place) (a b c : Array) → dyadic_value o f a b ≡ Ok c → (calls : Calls) (z : Stand) → HasOrigin o z → Takes calls (record { place = place; op = op.Dya f }) (stand_on z (Means b ∷ Means a ∷ [])) (stand_on z (Means c ∷ []))
two_given o f place a b c e calls (ended x) h rest = refl
two_given o f place a b c e calls (going vs to s) h rest =
    ap (λ (r : Answer). goes_on (at_place place r s) (put (of_arrays calls) vs to (exec (of_arrays calls) rest))) (ap (λ (k : ℤ). dyadic_value k f a b) h ∙ e)

-- or the end, at its error
pub one_ends : (o : ℤ) (f : MonFn) (place : Place) (b : Array) (kind : ErrorKind) → monadic_value o f b ≡ Err kind → (calls : Calls) (vs : List Array) (to : Flow) (s : State) → s.variables.origin ≡ o → Ends calls (record { place = place; op = op.Mon f }) (stand_on (going vs to s) (Means b ∷ [])) (fails kind place s)
one_ends o f place b kind e calls vs to s h rest =
    ap (λ (r : Answer). goes_on (at_place place r s) (put (of_arrays calls) vs to (exec (of_arrays calls) rest))) (ap (λ (k : ℤ). monadic_value k f b) h ∙ e)

pub two_ends : (o : ℤ) (f : DyaFn) (place : Place) (a b : Array) (kind : ErrorKind) → dyadic_value o f a b ≡ Err kind → (calls : Calls) (vs : List Array) (to : Flow) (s : State) → s.variables.origin ≡ o → Ends calls (record { place = place; op = op.Dya f }) (stand_on (going vs to s) (Means b ∷ Means a ∷ [])) (fails kind place s)
two_ends o f place a b kind e calls vs to s h rest =
    ap (λ (r : Answer). goes_on (at_place place r s) (put (of_arrays calls) vs to (exec (of_arrays calls) rest))) (ap (λ (k : ℤ). dyadic_value k f a b) h ∙ e)

-- The laws of pending expressions.
use Rattle.std.proofs.Common.{◌≡◌, List, [], ◌∷◌, ◌++◌, map, Ok, Err, refl, sym, ap, ◌∙◌}
use Rattle.std.specs.Prelude.{reverse, Result, ℕ}
use Rattle.std.specs.List.{zip}
use Rattle.std.proofs.lemmas.List.{append_assoc, append-nil, reverse-append}
use Rattle.apl_base.specs.declared.faults.ErrorKind.{ErrorKind}
use Rattle.apl_base.specs.declared.faults.ErrorKind.TheVariants as error
use Rattle.apl_base.specs.declared.faults.Place.{Place}
use Rattle.apl_base.specs.declared.rows.Dya.{Dya}
use Rattle.apl_base.specs.Array.{Array, size_of}
use Rattle.apl_base.specs.declared.cells.Elem.{Elem}
use Rattle.apl_base.specs.Elements.{all_defined}
use Rattle.apl_base.specs.Scalar.{scalar2}
use Rattle.apl_model.specs.declared.functions.DyaFn.TheVariants as dyadic_fn
use Rattle.apl_model.specs.Evaluation.{State, Calls, of_arrays, at_place}
use Rattle.apl_model.specs.Lift.{fitting_shape, lift1, lift2, lift_over, lift_pairs, spread_to}
use Rattle.apl_model.specs.Outcome.{Outcome, fails, Flow}
use Rattle.apl_model.specs.Whole.{Answer}
use Rattle.drag_along.specs.Meaning.{Meaning, Means, Faults, combined2}
use Rattle.pending_laws.specs.Joins.{meaning_of}
use Rattle.pending_laws.proofs.JoinLemmas.{one_fault_is_domain, one_is_the_lift, or_domain-error}
use Rattle.pending_laws.proofs.ExtensionLemmas.{extended_join_is_the_lift}
use Rattle.apl_compile.specs.declared.codes.Instruction.{Instruction}
use Rattle.apl_compile.specs.declared.codes.Op.TheVariants as op
use Rattle.apl_compile.specs.Execution.{comes, exec, goes_on, put}
use Rattle.standing.specs.Stand.{Stand, going, ended, push_on, stand_on, runs_from}
use Rattle.standing.specs.Laws.{OlderThenYounger, ArraysArePending, OldestFaultEnds, EndStays, EndIsKept, OlderStay, OneIsJoined, TwoAreJoined, UnfitEnds}

pub older_then_younger : OlderThenYounger
older_then_younger z [] younger = refl
older_then_younger z (m ∷ older) younger = older_then_younger (push_on m z) older younger

pub end_stays : EndStays
end_stays o [] = refl
end_stays o (Means a ∷ younger) = end_stays o younger
end_stays o (Faults p ∷ younger) = end_stays o younger

-- the last of a list comes first in the reverse one
reverse-step : (a : Array) (arrays vs : List Array) → reverse (a ∷ arrays) ++ vs ≡ reverse arrays ++ a ∷ vs
reverse-step a arrays vs = ap (λ (l : List Array). l ++ vs) (reverse-append (a ∷ []) arrays) ∙ append_assoc (reverse arrays) (a ∷ []) vs

-- arrays are pending on others
arrays-on : (arrays vs : List Array) (to : Flow) (s : State) → stand_on (going vs to s) (map Means arrays) ≡ going (reverse arrays ++ vs) to s
arrays-on [] vs to s = refl
arrays-on (a ∷ arrays) vs to s = arrays-on arrays (a ∷ vs) to s ∙ ap (λ (l : List Array). going l to s) (sym (reverse-step a arrays vs))

pub arrays_are_pending : ArraysArePending
arrays_are_pending arrays to s = arrays-on arrays [] to s ∙ ap (λ (l : List Array). going l to s) (append-nil (reverse arrays))

pub oldest_fault_ends : OldestFaultEnds
oldest_fault_ends arrays place younger to s =
    older_then_younger (going [] to s) (map Means arrays) (Faults place ∷ younger)
    ∙ ap (λ (z : Stand). stand_on z (Faults place ∷ younger)) (arrays_are_pending arrays to s)
    ∙ end_stays (fails error.Domain place s) younger

-- ---- instructions

pub end_is_kept : EndIsKept
end_is_kept calls i o rest = refl

pub older_stay : OlderStay
older_stay calls i (going vs to s) taken given h rest = h vs to s refl rest
older_stay calls i (ended o) taken given h rest =
    ap (λ (z : Stand). runs_from (of_arrays calls) (i ∷ rest) z) (end_stays o taken)
    ∙ sym (ap (λ (z : Stand). runs_from (of_arrays calls) rest z) (end_stays o given))

-- an answer whose only error is a DOMAIN ERROR goes on as what it means
answered : (calls : Calls) (place : Place) (answer : Answer) (vs : List Array) (to : Flow) (s : State) (rest : List Instruction) → ((e : ErrorKind) → answer ≡ Err e → e ≡ error.Domain) → goes_on (at_place place answer s) (put (of_arrays calls) vs to (exec (of_arrays calls) rest)) ≡ runs_from (of_arrays calls) rest (push_on (meaning_of place answer) (going vs to s))
answered calls place (Ok a) vs to s rest h = refl
answered calls place (Err e) vs to s rest h = ap (λ (k : ErrorKind). comes (fails k place s)) (h e refl)

pub one_is_joined : OneIsJoined
one_is_joined calls f place (ended o) (Means b) rest = refl
one_is_joined calls f place (ended o) (Faults q) rest = refl
one_is_joined calls f place (going vs to s) (Faults q) rest = refl
one_is_joined calls f place (going vs to s) (Means b) rest =
    answered calls place (lift1 f b) vs to s rest (one_fault_is_domain f b)
    ∙ ap (λ (m : Meaning). runs_from (of_arrays calls) rest (push_on m (going vs to s))) (sym (one_is_the_lift f place b))

-- values at pairs have no other error
pairs_fault : (f : Dya) (ns : List ℕ) (a b : Array) (e : ErrorKind) → lift_pairs f ns a b ≡ Err e → e ≡ error.Domain
pairs_fault f ns a b e h = or_domain-error ns (all_defined (map (λ (p : Elem × Elem). scalar2 f p.0 p.1) (zip (spread_to (size_of ns) a) (spread_to (size_of ns) b)))) e h

-- where the shapes fit, the only error is a DOMAIN ERROR
fit_fault : (f : Dya) (a b : Array) (ns : List ℕ) → fitting_shape a.shape b.shape ≡ Ok ns → (e : ErrorKind) → lift2 f a b ≡ Err e → e ≡ error.Domain
fit_fault f a b ns fit e h = pairs_fault f ns a b e (ap (lift_over f a b) (sym fit) ∙ h)

-- on an end nothing is pushed
push_end : (m : Meaning) (o : Outcome State Flow) → push_on m (ended o) ≡ ended o
push_end (Means a) o = refl
push_end (Faults p) o = refl

pub two_are_joined : TwoAreJoined
two_are_joined calls f place (ended o) ns left right wide tall fit l r rest =
    ap (λ (z : Stand). runs_from (of_arrays calls) (record { place = place; op = op.Dya (dyadic_fn.Scalar f) } ∷ rest) z) (ap (push_on left) (push_end right o) ∙ push_end left o)
    ∙ sym (ap (λ (z : Stand). runs_from (of_arrays calls) rest z) (push_end (combined2 f place wide tall) o))
two_are_joined calls f place (going vs to s) ns (Means a) (Means b) (Means c) (Means d) fit l r rest =
    answered calls place (lift2 f a b) vs to s rest (fit_fault f a b ns fit)
    ∙ ap (λ (m : Meaning). runs_from (of_arrays calls) rest (push_on m (going vs to s))) (sym (extended_join_is_the_lift f place a b c d ns l.0 r.0 fit l.1 r.1))
two_are_joined calls f place (going vs to s) ns (Faults p) (Means b) (Faults q) (Means d) fit l r rest =
    ap (λ (x : Place). comes (fails error.Domain x s)) l
two_are_joined calls f place (going vs to s) ns (Means a) (Faults p) (Means c) (Faults q) fit l r rest =
    ap (λ (x : Place). comes (fails error.Domain x s)) r
two_are_joined calls f place (going vs to s) ns (Faults p) (Faults t) (Faults q) (Faults u) fit l r rest =
    ap (λ (x : Place). comes (fails error.Domain x s)) r
two_are_joined calls f place (going vs to s) ns (Means a) (Means b) (Means c) (Faults q) fit l r rest = elim r [ ]
two_are_joined calls f place (going vs to s) ns (Means a) (Means b) (Faults q) tall fit l r rest = elim l [ ]
two_are_joined calls f place (going vs to s) ns (Means a) (Faults p) (Means c) (Means d) fit l r rest = elim r [ ]
two_are_joined calls f place (going vs to s) ns (Means a) (Faults p) (Faults q) tall fit l r rest = elim l [ ]
two_are_joined calls f place (going vs to s) ns (Faults p) (Means b) (Means c) tall fit l r rest = elim l [ ]
two_are_joined calls f place (going vs to s) ns (Faults p) (Means b) (Faults q) (Faults u) fit l r rest = elim r [ ]
two_are_joined calls f place (going vs to s) ns (Faults p) (Faults t) (Means c) tall fit l r rest = elim l [ ]
two_are_joined calls f place (going vs to s) ns (Faults p) (Faults t) (Faults q) (Means d) fit l r rest = elim r [ ]

pub unfit_ends : UnfitEnds
unfit_ends calls f place vs to s a b e fit rest =
    ap (λ (r : Result (List ℕ) ErrorKind). goes_on (at_place place (lift_over f a b r) s) (put (of_arrays calls) vs to (exec (of_arrays calls) rest))) fit

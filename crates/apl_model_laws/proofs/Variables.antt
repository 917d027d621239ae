-- Lawful variables stay lawful: each call of the environment, and the frame of a call.
use Rattle.std.proofs.Common.{ℕ, suc, ◌+◌, ◌≤◌, Bool, true, false, if◌then◌else◌, pos, List, [], ◌∷◌, ◌++◌, length, map, Option, Some, None, arith}
use Rattle.std.specs.List.{AllByRecursion, fold}
use Rattle.std.proofs.lemmas.Int.{ints}
use Rattle.std.proofs.lemmas.List.{length-map}
use Rattle.apl_base.specs.declared.cells.Kind.TheVariants.{Num}
use Rattle.apl_base.specs.Array.{Array, IsArray}
use Rattle.apl_base.specs.Number.{IsNumber}
use Rattle.apl_model.specs.Call.{Routine, RoutineLine, labels_of}
use Rattle.apl_model.specs.Frames.{line_number, argument_binding, label_bindings, unset, frame_of, result_in}
use Rattle.apl_model.specs.Environment.{Environment, Bindings, is_same_name, declares, bound_in, bound_to, found_in, look_up, set_in_frames, declared_in, set_name, unset_global, innermost_gone}
use Rattle.apl_model_laws.specs.Lawful.{IsOptional, AreBindings, IsEnvironment}
use Rattle.apl_base.proofs.Lists.{all_append}
use Rattle.apl_model_laws.proofs.Arrays.{scalar-array}

-- what a name is bound to in bindings
bound_in-lawful : (bs : Bindings Array) (name : List ℕ) → AreBindings bs → IsOptional (bound_in bs name)
bound_in-lawful [] name h = tt
bound_in-lawful (b ∷ bs) name h = by (is_same_name b.0 name) (bound_in bs name) h.0 (bound_in-lawful bs name h.1)
  where
    by : (t : Bool) (r : Option Array) → IsOptional b.1 → IsOptional r → IsOptional (if t then b.1 else r)
    by true r p q = p
    by false r p q = q

-- a name bound anew
bound_to-lawful : (bs : Bindings Array) (name : List ℕ) (a : Option Array) → AreBindings bs → IsOptional a → AreBindings (bound_to bs name a)
bound_to-lawful [] name a h p = (p, tt)
bound_to-lawful (b ∷ bs) name a h p = by (is_same_name b.0 name) (bound_to bs name a) h.1 (bound_to-lawful bs name a h.1 p)
  where
    by : (t : Bool) (r : Bindings Array) → AreBindings bs → AreBindings r → AreBindings (if t then (name, a) ∷ bs else b ∷ r)
    by true r q c = (p, q)
    by false r q c = (h.0, c)

-- what a name is bound to in frames and globals
found_in-lawful : (fs : List (Bindings Array)) (globals : Bindings Array) (name : List ℕ) → AllByRecursion AreBindings fs → AreBindings globals → IsOptional (found_in fs globals name)
found_in-lawful [] globals name h g = bound_in-lawful globals name g
found_in-lawful (f ∷ fs) globals name h g = by (declares f name) (bound_in f name) (found_in fs globals name) (bound_in-lawful f name h.0) (found_in-lawful fs globals name h.1 g)
  where
    by : (t : Bool) (q r : Option Array) → IsOptional q → IsOptional r → IsOptional (if t then q else r)
    by true q r a b = a
    by false q r a b = b

-- what a name is bound to
pub look_up-lawful : (e : Environment Array) (name : List ℕ) → IsEnvironment e → IsOptional (look_up e name)
look_up-lawful e name h = found_in-lawful e.frames e.globals name h.frames h.globals

-- a name set in a frame
set_in_frames-lawful : (fs : List (Bindings Array)) (name : List ℕ) (a : Array) → AllByRecursion AreBindings fs → IsArray a → AllByRecursion AreBindings (set_in_frames fs name a)
set_in_frames-lawful [] name a h p = tt
set_in_frames-lawful (f ∷ fs) name a h p = by (declares f name) (set_in_frames fs name a) (set_in_frames-lawful fs name a h.1 p)
  where
    by : (t : Bool) (r : List (Bindings Array)) → AllByRecursion AreBindings r → AllByRecursion AreBindings (if t then bound_to f name (Some a) ∷ fs else f ∷ r)
    by true r q = (bound_to-lawful f name (Some a) h.0 p, h.1)
    by false r q = (h.0, q)

-- a name set
pub set_name-lawful : (e : Environment Array) (name : List ℕ) (a : Array) → IsEnvironment e → IsArray a → IsEnvironment (set_name e name a)
set_name-lawful e name a h p = by (declared_in e.frames name)
  where
    by : (t : Bool) → IsEnvironment (if t then record e { frames = set_in_frames e.frames name a } else record e { globals = bound_to e.globals name (Some a) })
    by true = record { globals = h.globals; frames = set_in_frames-lawful e.frames name a h.frames p; origin = h.origin }
    by false = record { globals = bound_to-lawful e.globals name (Some a) h.globals p; frames = h.frames; origin = h.origin }

-- a global made unset
unset-global : (bs : Bindings Array) (name : List ℕ) → AreBindings bs → AreBindings (unset_global bs name)
unset-global bs name h = by (declares bs name)
  where
    by : (t : Bool) → AreBindings (if t then bound_to bs name None else bs)
    by true = bound_to-lawful bs name None h tt
    by false = h

-- globals made unset
pub unset-globals : (names : List (List ℕ)) (bs : Bindings Array) → AreBindings bs → AreBindings (fold unset_global bs names)
unset-globals [] bs h = h
unset-globals (n ∷ ns) bs h = unset-globals ns (unset_global bs n) (unset-global bs n h)

-- ---- the frame of a call

-- an argument
argument_binding-lawful : (name : Option (List ℕ)) (a : Option Array) → IsOptional a → AreBindings (argument_binding name a)
argument_binding-lawful None a h = tt
argument_binding-lawful (Some name) a h = (h, tt)

-- names that are not set
unset-lawful : (names : List (List ℕ)) → AreBindings (map unset names)
unset-lawful [] = tt
unset-lawful (n ∷ ns) = (tt, unset-lawful ns)

-- a number below one of the language is one
pub below-number : (k n : ℕ) → k ≤ n → IsNumber (pos n) → IsNumber (pos k)
below-number k n l h = record { least = omega (arith, ints, h.most, l); most = omega (arith, ints, h.most, l) }

-- labels, of which a number of the language counts the last
labels-lawful : (k n : ℕ) (ls : List (Option (List ℕ))) → k + length ls ≤ suc n → IsNumber (pos n) → AreBindings (label_bindings line_number k ls)
labels-lawful k n [] l h = tt
labels-lawful k n (x ∷ ls) l h =
    all_append (λ (b : List ℕ × Option Array). IsOptional b.1) (argument_binding x (Some (line_number k))) (label_bindings line_number (suc k) ls)
    (argument_binding-lawful x (Some (line_number k)) (scalar-array Num (pos k) (below-number k n (omega (arith, l)) h)))
    (labels-lawful (suc k) n ls (omega (arith, l)) h)

-- bindings behind others
bindings_append : (xs ys : Bindings Array) → AreBindings xs → AreBindings ys → AreBindings (xs ++ ys)
bindings_append xs ys a b = all_append (λ (b : List ℕ × Option Array). IsOptional b.1) xs ys a b

-- the frame of a call
pub frame-lawful : {T : Type 0} (r : Routine T) (left right : Option Array) → IsNumber (pos (length r.body)) → IsOptional left → IsOptional right → AreBindings (frame_of line_number r.header (labels_of r.body) left right)
frame-lawful {T} r left right h p q =
    let a = argument_binding r.header.result None in
    let b = argument_binding r.header.left left in
    let c = argument_binding r.header.right right in
    let d = map unset r.header.locals in
    bindings_append (a ++ b ++ c ++ d) (label_bindings line_number 1 (labels_of r.body)) (bindings_append (a ++ b ++ c) d (bindings_append (a ++ b) c (bindings_append a b
    (argument_binding-lawful r.header.result None tt) (argument_binding-lawful r.header.left left p)) (argument_binding-lawful r.header.right right q)) (unset-lawful r.header.locals))
    (labels-lawful 1 (length r.body) (labels_of r.body) (omega (arith, length-map r.body (λ (l : RoutineLine T). l.label))) h)

-- the frames but for the innermost
pub gone-lawful : (fs : List (Bindings Array)) → AllByRecursion AreBindings fs → AllByRecursion AreBindings (innermost_gone fs)
gone-lawful [] h = tt
gone-lawful (f ∷ fs) h = h.1

-- the value of the result's name
pub result-lawful : (e : Environment Array) (name : Option (List ℕ)) → IsEnvironment e → IsOptional (result_in e name)
result-lawful e None h = tt
result-lawful e (Some name) h = look_up-lawful e name h

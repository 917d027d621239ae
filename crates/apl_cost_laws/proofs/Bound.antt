-- What is so of all that names are bound to stays so, through each call of the environment and in the frame of a call.
use Rattle.std.proofs.Common.{ℕ, suc, Bool, true, false, if◌then◌else◌, List, [], ◌∷◌, ◌++◌, map, Option, Some, None}
use Rattle.std.specs.List.{AllByRecursion, fold}
use Rattle.apl_base.proofs.Lists.{all_append}
use Rattle.apl_model.specs.declared.scripts.Header.{Header}
use Rattle.apl_model.specs.Environment.{Environment, Bindings, is_same_name, declares, bound_in, bound_to, found_in, look_up, set_in_frames, declared_in, set_name, unset_global, innermost_gone}
use Rattle.apl_model.specs.Frames.{argument_binding, label_bindings, unset, frame_of, result_in}

module _ {A : Type 0} (Q : Option A → Type 0) (none : Q None) where
  -- each name of these
  abbrev pub Each : Bindings A → Type 0
  Each bindings = AllByRecursion (λ (b : List ℕ × Option A). Q b.1) bindings

  -- what a name is bound to in bindings
  each-bound : (bs : Bindings A) (name : List ℕ) → Each bs → Q (bound_in bs name)
  each-bound [] name h = none
  each-bound (b ∷ bs) name h = by (is_same_name b.0 name) (bound_in bs name) h.0 (each-bound bs name h.1)
    where
      by : (t : Bool) (r : Option A) → Q b.1 → Q r → Q (if t then b.1 else r)
      by true r p q = p
      by false r p q = q

  -- a name bound anew
  each-set : (bs : Bindings A) (name : List ℕ) (a : Option A) → Each bs → Q a → Each (bound_to bs name a)
  each-set [] name a h p = (p, tt)
  each-set (b ∷ bs) name a h p = by (is_same_name b.0 name) (bound_to bs name a) h.1 (each-set bs name a h.1 p)
    where
      by : (t : Bool) (r : Bindings A) → Each bs → Each r → Each (if t then (name, a) ∷ bs else b ∷ r)
      by true r q c = (p, q)
      by false r q c = (h.0, c)

  -- in frames and globals
  each-found : (fs : List (Bindings A)) (globals : Bindings A) (name : List ℕ) → AllByRecursion Each fs → Each globals → Q (found_in fs globals name)
  each-found [] globals name h g = each-bound globals name g
  each-found (f ∷ fs) globals name h g =
      by (declares f name) (bound_in f name) (found_in fs globals name) (each-bound f name h.0) (each-found fs globals name h.1 g)
    where
      by : (t : Bool) (q r : Option A) → Q q → Q r → Q (if t then q else r)
      by true q r a b = a
      by false q r a b = b

  -- what a name is bound to
  pub each-look_up : (e : Environment A) (name : List ℕ) → Each e.globals → AllByRecursion Each e.frames → Q (look_up e name)
  each-look_up e name g h = each-found e.frames e.globals name h g

  -- the value of the result's name
  pub each-result : (e : Environment A) (name : Option (List ℕ)) → Each e.globals → AllByRecursion Each e.frames → Q (result_in e name)
  each-result e None g h = none
  each-result e (Some name) g h = each-look_up e name g h

  each-in-frames : (fs : List (Bindings A)) (name : List ℕ) (a : A) → AllByRecursion Each fs → Q (Some a) → AllByRecursion Each (set_in_frames fs name a)
  each-in-frames [] name a h p = tt
  each-in-frames (f ∷ fs) name a h p = by (declares f name) (set_in_frames fs name a) (each-in-frames fs name a h.1 p)
    where
      by : (t : Bool) (r : List (Bindings A)) → AllByRecursion Each r → AllByRecursion Each (if t then bound_to f name (Some a) ∷ fs else f ∷ r)
      by true r q = (each-set f name (Some a) h.0 p, h.1)
      by false r q = (h.0, q)

  -- globals and frames of an environment
  pub record EachIn (e : Environment A) : Type 0 where
    pub globals : Each e.globals
    pub frames : AllByRecursion Each e.frames

  -- a name set
  pub each-set_name : (e : Environment A) (name : List ℕ) (a : A) → Each e.globals → AllByRecursion Each e.frames → Q (Some a) → EachIn (set_name e name a)
  each-set_name e name a g h p = by (declared_in e.frames name)
    where
      by : (t : Bool) → EachIn (if t then record e { frames = set_in_frames e.frames name a } else record e { globals = bound_to e.globals name (Some a) })
      by true = record { globals = g; frames = each-in-frames e.frames name a h p }
      by false = record { globals = each-set e.globals name (Some a) g p; frames = h }

  -- a global made unset
  each-unset : (bs : Bindings A) (name : List ℕ) → Each bs → Each (unset_global bs name)
  each-unset bs name h = by (declares bs name)
    where
      by : (t : Bool) → Each (if t then bound_to bs name None else bs)
      by true = each-set bs name None h none
      by false = h

  -- globals made unset
  pub each-erased : (names : List (List ℕ)) (bs : Bindings A) → Each bs → Each (fold unset_global bs names)
  each-erased [] bs h = h
  each-erased (n ∷ ns) bs h = each-erased ns (unset_global bs n) (each-unset bs n h)

  -- the frames but for the innermost
  pub each-gone : (fs : List (Bindings A)) → AllByRecursion Each fs → AllByRecursion Each (innermost_gone fs)
  each-gone [] h = tt
  each-gone (f ∷ fs) h = h.1

  -- ---- the frame of a call

  each-argument : (name : Option (List ℕ)) (a : Option A) → Q a → Each (argument_binding name a)
  each-argument None a h = tt
  each-argument (Some name) a h = (h, tt)

  each-local : (names : List (List ℕ)) → Each (map unset names)
  each-local [] = tt
  each-local (n ∷ ns) = (none, each-local ns)

  -- bindings behind others
  each-append : (xs ys : Bindings A) → Each xs → Each ys → Each (xs ++ ys)
  each-append xs ys a b = all_append (λ (b : List ℕ × Option A). Q b.1) xs ys a b

  -- each line that has a label
  abbrev pub EachLabel : (ℕ → A) → ℕ → List (Option (List ℕ)) → Type 0
  EachLabel number k [] = Unit {0}
  EachLabel number k (l ∷ ls) = Q (Some (number k)) × EachLabel number (suc k) ls

  each-label : (number : ℕ → A) (k : ℕ) (ls : List (Option (List ℕ))) → EachLabel number k ls → Each (label_bindings number k ls)
  each-label number k [] h = tt
  each-label number k (l ∷ ls) h =
      each-append (argument_binding l (Some (number k))) (label_bindings number (suc k) ls) (each-argument l (Some (number k)) h.0)
      (each-label number (suc k) ls h.1)

  pub each-frame : (number : ℕ → A) (header : Header) (labels : List (Option (List ℕ))) (left right : Option A) → EachLabel number 1 labels → Q left → Q right →
      Each (frame_of number header labels left right)
  each-frame number header labels left right l p q =
      let a = argument_binding header.result None in
      let b = argument_binding header.left left in
      let c = argument_binding header.right right in
      let d = map unset header.locals in
      each-append (a ++ b ++ c ++ d) (label_bindings number 1 labels)
      (each-append (a ++ b ++ c) d (each-append (a ++ b) c (each-append a b (each-argument header.result None none) (each-argument header.left left p))
      (each-argument header.right right q)) (each-local header.locals))
      (each-label number 1 labels l)

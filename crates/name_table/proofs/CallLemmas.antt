-- A frame of names that are all unset becomes the frame of a call.
use Rattle.std.proofs.Common.{◌≡◌, ℕ, suc, true, false, ◌||◌, if◌then◌else◌, List, [], ◌∷◌, ◌++◌, map, Option, Some, None, refl, sym, ap, ◌∙◌, subst}
use Rattle.std.specs.List.{AllByRecursion, IsDistinct}
use Rattle.std.specs.Option.{option_to_list}
use Rattle.std.proofs.lemmas.List.{map-append, append_assoc}
use Rattle.std.proofs.lemmas.Map.Keys.{IsDistinct-head, IsDistinct-tail}
use Rattle.apl_model.specs.declared.scripts.Header.{Header}
use Rattle.apl_model.specs.Environment.{Bindings, Environment, is_same_name, declares, bound_to, set_in_frames, declared_in, set_name, with_frame}
use Rattle.apl_model.specs.Frames.{unset, argument_binding, label_bindings, frame_of}
use Rattle.name_table.specs.Scopes.{names_of}
use Rattle.name_table.specs.Laws.{label_names, declared_by, with_argument, with_labels, CallFrameIsFilled}
use Rattle.name_table.proofs.BindingLemmas.{true_or}
use Rattle.apl_model.proofs.SameNames.{same_self}

unset-names : (A : Type 0) (names : List (List ℕ)) → names_of (let bs : Bindings A = map unset names in bs) ≡ names
unset-names A [] = refl
unset-names A (n ∷ ns) = ap (λ (ms : List (List ℕ)). n ∷ ms) (unset-names A ns)

module _ {A : Type 0} where
  -- what bindings set, set one after the other
  abbrev filled : Bindings A → Environment A → Environment A
  filled [] e = e
  filled ((name, None) ∷ bs) e = filled bs e
  filled ((name, Some a) ∷ bs) e = filled bs (set_name e name a)

  filled-append : (xs ys : Bindings A) (e : Environment A) → filled (xs ++ ys) e ≡ filled ys (filled xs e)
  filled-append [] ys e = refl
  filled-append ((name, None) ∷ xs) ys e = filled-append xs ys e
  filled-append ((name, Some a) ∷ xs) ys e = filled-append xs ys (set_name e name a)

  argument-filled : (name : Option (List ℕ)) (a : Option A) (e : Environment A) → filled (argument_binding name a) e ≡ with_argument name a e
  argument-filled None a e = refl
  argument-filled (Some name) None e = refl
  argument-filled (Some name) (Some a) e = refl

  nothing-filled : (name : Option (List ℕ)) (e : Environment A) → filled (argument_binding name None) e ≡ e
  nothing-filled None e = refl
  nothing-filled (Some name) e = refl

  unset-filled : (names : List (List ℕ)) (e : Environment A) → filled (map unset names) e ≡ e
  unset-filled [] e = refl
  unset-filled (n ∷ ns) e = unset-filled ns e

  labels-filled : (number : ℕ → A) (k : ℕ) (labels : List (Option (List ℕ))) (e : Environment A) → filled (label_bindings number k labels) e ≡ with_labels number k labels e
  labels-filled number k [] e = refl
  labels-filled number k (label ∷ labels) e =
      filled-append (argument_binding label (Some (number k))) (label_bindings number (suc k) labels) e
      ∙ ap (filled (label_bindings number (suc k) labels)) (argument-filled label (Some (number k)) e)
      ∙ labels-filled number (suc k) labels (with_argument label (Some (number k)) e)

  -- the parts of a call's frame in order
  frame-filled : (number : ℕ → A) (header : Header) (labels : List (Option (List ℕ))) (left right : Option A) (e : Environment A) →
      filled (frame_of number header labels left right) e ≡ with_labels number 1 labels (with_argument header.right right (with_argument header.left left e))
  frame-filled number header labels left right e =
      let r : Bindings A = argument_binding header.result None in
      let x : Bindings A = argument_binding header.left left in
      let y : Bindings A = argument_binding header.right right in
      let n : Bindings A = map unset header.locals in
      let l : Bindings A = label_bindings number 1 labels in
      let after_left : Environment A = with_argument header.left left e in
      let after_right : Environment A = with_argument header.right right after_left in
      filled-append (((r ++ x) ++ y) ++ n) l e
      ∙ ap (filled l) (
      filled-append ((r ++ x) ++ y) n e
      ∙ unset-filled header.locals (filled ((r ++ x) ++ y) e)
      ∙ filled-append (r ++ x) y e
      ∙ ap (filled y) (filled-append r x e ∙ ap (filled x) (nothing-filled header.result e) ∙ argument-filled header.left left e)
      ∙ argument-filled header.right right after_left
      )
      ∙ labels-filled number 1 labels after_right

  -- ---- the names of a call's frame

  names-append : (xs ys : Bindings A) → names_of (xs ++ ys) ≡ names_of xs ++ names_of ys
  names-append xs ys = map-append (λ (b : List ℕ × Option A). b.0) xs ys

  argument-names : (name : Option (List ℕ)) (a : Option A) → names_of (argument_binding name a) ≡ option_to_list name
  argument-names None a = refl
  argument-names (Some name) a = refl

  joined : (xs ys : Bindings A) (ms ns : List (List ℕ)) → names_of xs ≡ ms → names_of ys ≡ ns → names_of (xs ++ ys) ≡ ms ++ ns
  joined xs ys ms ns p q = names-append xs ys ∙ ap (λ (zs : List (List ℕ)). zs ++ names_of ys) p ∙ ap (λ (zs : List (List ℕ)). ms ++ zs) q

  labels-names : (number : ℕ → A) (k : ℕ) (labels : List (Option (List ℕ))) → names_of (label_bindings number k labels) ≡ label_names labels
  labels-names number k [] = refl
  labels-names number k (label ∷ labels) =
      joined (argument_binding label (Some (number k))) (label_bindings number (suc k) labels) (option_to_list label) (label_names labels) (argument-names label (Some (number k))) (labels-names number (suc k) labels)

  frame-names : (number : ℕ → A) (header : Header) (labels : List (Option (List ℕ))) (left right : Option A) → names_of (frame_of number header labels left right) ≡ declared_by header labels
  frame-names number header labels left right =
      let r : Bindings A = argument_binding header.result None in
      let x : Bindings A = argument_binding header.left left in
      let y : Bindings A = argument_binding header.right right in
      let n : Bindings A = map unset header.locals in
      let l : Bindings A = label_bindings number 1 labels in
      let rs : List (List ℕ) = option_to_list header.result in
      let xs : List (List ℕ) = option_to_list header.left in
      let ys : List (List ℕ) = option_to_list header.right in
      joined (((r ++ x) ++ y) ++ n) l (((rs ++ xs) ++ ys) ++ header.locals) (label_names labels)
      (joined ((r ++ x) ++ y) n ((rs ++ xs) ++ ys) header.locals
      (joined (r ++ x) y (rs ++ xs) ys
      (joined r x rs xs (argument-names header.result None) (argument-names header.left left)) (argument-names header.right right))
      (unset-names A header.locals)) (labels-names number 1 labels)

  -- ---- a frame that is filled name by name

  -- a name that stands after others is bound in its place
  bound_in_place : (done : Bindings A) (name : List ℕ) (u : Option A) (rest : Bindings A) (a : Option A) → IsDistinct is_same_name (names_of (done ++ (name, u) ∷ rest)) →
      (bound_to (done ++ (name, u) ∷ rest) name a ≡ done ++ (name, a) ∷ rest) × (declares (done ++ (name, u) ∷ rest) name ≡ true)
  bound_in_place [] name u rest a d =
      (ap (λ t. if t then (name, a) ∷ rest else (name, u) ∷ bound_to rest name a) (same_self name), true_or (is_same_name name name) (same_self name) (declares rest name))
  bound_in_place (b ∷ bs) name u rest a d =
      let all : Bindings A = bs ++ (name, u) ∷ rest in
      let apart : is_same_name b.0 name ≡ false = apart_from bs (IsDistinct-head is_same_name b.0 (names_of all) d) in
      let further = bound_in_place bs name u rest a (IsDistinct-tail is_same_name b.0 (names_of all) d) in (
        ap (λ t. if t then (name, a) ∷ all else b ∷ bound_to all name a) apart ∙ ap (λ (xs : Bindings A). b ∷ xs) further.0,
        ap (λ t. t || declares all name) apart ∙ further.1,
      )
    where
      apart_from : (cs : Bindings A) → AllByRecursion (λ y. is_same_name b.0 y ≡ false) (names_of (cs ++ (name, u) ∷ rest)) → is_same_name b.0 name ≡ false
      apart_from [] h = h.0
      apart_from (c ∷ cs) h = apart_from cs h.1

  -- a name that the innermost frame declares is set in it
  set_in_frame : (frame : Bindings A) (e : Environment A) (name : List ℕ) (a : A) → declares frame name ≡ true → set_name (with_frame frame e) name a ≡ with_frame (bound_to frame name (Some a)) e
  set_in_frame frame e name a has =
      let f : Environment A = with_frame frame e in
      ap (λ t. if t || declared_in e.frames name then record f { frames = if t then bound_to frame name (Some a) ∷ e.frames else frame ∷ set_in_frames e.frames name a } else record f { globals = bound_to e.globals name (Some a) }) has

  -- one more is passed
  passed : (done rest : Bindings A) (b : List ℕ × Option A) → (done ++ b ∷ []) ++ rest ≡ done ++ b ∷ rest
  passed done rest b = append_assoc done (b ∷ []) rest

  frame-set : (done rest : Bindings A) (e : Environment A) → IsDistinct is_same_name (names_of (done ++ rest)) → filled rest (with_frame (done ++ map unset (names_of rest)) e) ≡ with_frame (done ++ rest) e
  frame-set done [] e d = refl
  frame-set done ((name, None) ∷ rest) e d =
      let b : List ℕ × Option A = (name, None) in
      let us : Bindings A = map unset (names_of rest) in
      ap (λ (f : Bindings A). filled rest (with_frame f e)) (sym (passed done us b))
      ∙ frame-set (done ++ b ∷ []) rest e (subst (λ (f : Bindings A). IsDistinct is_same_name (names_of f)) (sym (passed done rest b)) d)
      ∙ ap (λ (f : Bindings A). with_frame f e) (passed done rest b)
  frame-set done ((name, Some a) ∷ rest) e d =
      let b : List ℕ × Option A = (name, Some a) in
      let us : Bindings A = map unset (names_of rest) in
      let same : names_of (done ++ (name, Some a) ∷ rest) ≡ names_of (done ++ (name, None) ∷ us) =
      names-append done (b ∷ rest) ∙ ap (λ (ns : List (List ℕ)). names_of done ++ name ∷ ns) (sym (unset-names A (names_of rest))) ∙ sym (names-append done ((name, None) ∷ us)) in
      let put = bound_in_place done name None us (Some a) (subst (IsDistinct is_same_name) same d) in
      ap (filled rest) (
      set_in_frame (done ++ (name, None) ∷ us) e name a put.1
      ∙ ap (λ (f : Bindings A). with_frame f e) (put.0 ∙ sym (passed done us b))
      )
      ∙ frame-set (done ++ b ∷ []) rest e (subst (λ (f : Bindings A). IsDistinct is_same_name (names_of f)) (sym (passed done rest b)) d)
      ∙ ap (λ (f : Bindings A). with_frame f e) (passed done rest b)

pub call_frame_is_filled : (A : Type 0) → CallFrameIsFilled A
call_frame_is_filled A number header labels left right e differ =
    let frame : Bindings A = frame_of number header labels left right in
    let start : List (List ℕ) → Environment A = λ ns. with_frame (map unset ns) e in
    let names = frame-names number header labels left right in
    sym (frame-filled number header labels left right (start (declared_by header labels)))
    ∙ ap (λ (ns : List (List ℕ)). filled frame (start ns)) (sym names)
    ∙ frame-set [] frame e (subst (IsDistinct is_same_name) (sym names) differ)

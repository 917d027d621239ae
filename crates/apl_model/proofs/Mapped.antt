-- Variables before and after a function of what names are bound to: one lemma for each call of the environment.
use Rattle.std.proofs.Common.{◌≡◌, ℕ, Bool, true, false, List, [], ◌∷◌, ◌++◌, suc, map, Option, Some, None, refl, sym, ap, ◌∙◌, ◌||◌, if◌then◌else◌}
use Rattle.std.specs.List.{fold}
use Rattle.std.proofs.lemmas.List.{map-append}
use Rattle.std.specs.Option.{option_map}
use Rattle.apl_model.specs.Environment.{Bindings, Environment, is_same_name, declares, bound_in, bound_to, found_in, look_up, set_in_frames, declared_in, set_name, unset_global, erased, set_names, innermost_gone, without_frame, mapped, mapped_bindings}
use Rattle.apl_model.specs.declared.scripts.Header.{Header}
use Rattle.apl_model.specs.Frames.{unset, argument_binding, label_bindings, frame_of, result_in}
use Rattle.apl_model.specs.Mapped.{LookUpIsMapped, SetNameIsMapped, ErasedIsMapped, SetNamesAreMapped, FrameIsMapped, ResultIsMapped}

-- a choice between two values, and what a function makes of it
pub chosen : {A B : Type 0} (f : A → B) (t : Bool) (x y : A) (v w : B) → v ≡ f x → w ≡ f y → (if t then v else w) ≡ f (if t then x else y)
chosen f true x y v w p q = p
chosen f false x y v w p q = q

module _ {A B : Type 0} (f : A → B) where
  -- the same names stand there
  pub declares-mapped : (bs : Bindings A) (name : List ℕ) → declares (mapped_bindings f bs) name ≡ declares bs name
  declares-mapped [] name = refl
  declares-mapped (b ∷ bs) name = ap (λ t. is_same_name b.0 name || t) (declares-mapped bs name)

  -- what a name is bound to in bindings
  pub bound_in-mapped : (bs : Bindings A) (name : List ℕ) → bound_in (mapped_bindings f bs) name ≡ option_map f (bound_in bs name)
  bound_in-mapped [] name = refl
  bound_in-mapped (b ∷ bs) name =
      chosen (option_map f) (is_same_name b.0 name) b.1 (bound_in bs name) (option_map f b.1) (bound_in (mapped_bindings f bs) name) refl (bound_in-mapped bs name)

  -- a name bound anew
  pub bound_to-mapped : (bs : Bindings A) (name : List ℕ) (a : Option A) → bound_to (mapped_bindings f bs) name (option_map f a) ≡ mapped_bindings f (bound_to bs name a)
  bound_to-mapped [] name a = refl
  bound_to-mapped (b ∷ bs) name a =
      chosen (mapped_bindings f) (is_same_name b.0 name) ((name, a) ∷ bs) (b ∷ bound_to bs name a) ((name, option_map f a) ∷ mapped_bindings f bs) ((b.0, option_map f b.1) ∷ bound_to (mapped_bindings f bs) name (option_map f a))
      refl (ap (λ r. (b.0, option_map f b.1) ∷ r) (bound_to-mapped bs name a))

  -- what a name is bound to in frames and globals
  pub found_in-mapped : (fs : List (Bindings A)) (globals : Bindings A) (name : List ℕ) →
      found_in (map (mapped_bindings f) fs) (mapped_bindings f globals) name ≡ option_map f (found_in fs globals name)
  found_in-mapped [] globals name = bound_in-mapped globals name
  found_in-mapped (b ∷ fs) globals name =
      ap (λ t. if t then bound_in (mapped_bindings f b) name else found_in (map (mapped_bindings f) fs) (mapped_bindings f globals) name) (declares-mapped b name)
      ∙ chosen (option_map f) (declares b name) (bound_in b name) (found_in fs globals name) (bound_in (mapped_bindings f b) name) (found_in (map (mapped_bindings f) fs) (mapped_bindings f globals) name)
      (bound_in-mapped b name) (found_in-mapped fs globals name)

  -- what a name is bound to
  pub look_up-mapped : (e : Environment A) (name : List ℕ) → look_up (mapped f e) name ≡ option_map f (look_up e name)
  look_up-mapped e name = found_in-mapped e.frames e.globals name

  -- a name set in a frame
  pub set_in_frames-mapped : (fs : List (Bindings A)) (name : List ℕ) (a : A) → set_in_frames (map (mapped_bindings f) fs) name (f a) ≡ map (mapped_bindings f) (set_in_frames fs name a)
  set_in_frames-mapped [] name a = refl
  set_in_frames-mapped (b ∷ fs) name a =
      let rest : List (Bindings B) = map (mapped_bindings f) fs in
      ap (λ t. if t then bound_to (mapped_bindings f b) name (Some (f a)) ∷ rest else mapped_bindings f b ∷ set_in_frames rest name (f a)) (declares-mapped b name)
      ∙ chosen (map (mapped_bindings f)) (declares b name) (bound_to b name (Some a) ∷ fs) (b ∷ set_in_frames fs name a) (bound_to (mapped_bindings f b) name (Some (f a)) ∷ rest) (mapped_bindings f b ∷ set_in_frames rest name (f a))
      (ap (λ r. r ∷ rest) (bound_to-mapped b name (Some a))) (ap (λ r. mapped_bindings f b ∷ r) (set_in_frames-mapped fs name a))

  -- the same frames declare the name
  pub declared_in-mapped : (fs : List (Bindings A)) (name : List ℕ) → declared_in (map (mapped_bindings f) fs) name ≡ declared_in fs name
  declared_in-mapped [] name = refl
  declared_in-mapped (b ∷ fs) name =
      ap (λ t. t || declared_in (map (mapped_bindings f) fs) name) (declares-mapped b name) ∙ ap (λ t. declares b name || t) (declared_in-mapped fs name)

  -- a name set
  pub set_name-mapped : (e : Environment A) (name : List ℕ) (a : A) → set_name (mapped f e) name (f a) ≡ mapped f (set_name e name a)
  set_name-mapped e name a =
      let m : Environment B = mapped f e in
      ap (λ t. if t then record m { frames = set_in_frames m.frames name (f a) } else record m { globals = bound_to m.globals name (Some (f a)) }) (declared_in-mapped e.frames name)
      ∙ chosen (mapped f) (declared_in e.frames name) (record e { frames = set_in_frames e.frames name a }) (record e { globals = bound_to e.globals name (Some a) })
      (record m { frames = set_in_frames m.frames name (f a) }) (record m { globals = bound_to m.globals name (Some (f a)) })
      (ap (λ (r : List (Bindings B)). record m { frames = r }) (set_in_frames-mapped e.frames name a)) (ap (λ (r : Bindings B). record m { globals = r }) (bound_to-mapped e.globals name (Some a)))

  -- a global made unset
  pub unset_global-mapped : (bs : Bindings A) (name : List ℕ) → unset_global (mapped_bindings f bs) name ≡ mapped_bindings f (unset_global bs name)
  unset_global-mapped bs name =
      ap (λ t. if t then bound_to (mapped_bindings f bs) name None else mapped_bindings f bs) (declares-mapped bs name)
      ∙ chosen (mapped_bindings f) (declares bs name) (bound_to bs name None) bs (bound_to (mapped_bindings f bs) name None) (mapped_bindings f bs) (bound_to-mapped bs name None) refl

  unset_globals-mapped : (names : List (List ℕ)) (bs : Bindings A) → fold unset_global (mapped_bindings f bs) names ≡ mapped_bindings f (fold unset_global bs names)
  unset_globals-mapped [] bs = refl
  unset_globals-mapped (n ∷ ns) bs = ap (λ b. fold unset_global b ns) (unset_global-mapped bs n) ∙ unset_globals-mapped ns (unset_global bs n)

  -- globals made unset
  pub erased-mapped : (names : List (List ℕ)) (e : Environment A) → erased names (mapped f e) ≡ mapped f (erased names e)
  erased-mapped names e = ap (λ (r : Bindings B). record (mapped f e) { globals = r }) (unset_globals-mapped names e.globals)

  -- the same names are set
  pub set_names-mapped : (bs : Bindings A) → set_names (mapped_bindings f bs) ≡ set_names bs
  set_names-mapped [] = refl
  set_names-mapped ((n, None) ∷ bs) = set_names-mapped bs
  set_names-mapped ((n, Some a) ∷ bs) = ap (λ ns. n ∷ ns) (set_names-mapped bs)

  gone-mapped : (fs : List (Bindings A)) → innermost_gone (map (mapped_bindings f) fs) ≡ map (mapped_bindings f) (innermost_gone fs)
  gone-mapped [] = refl
  gone-mapped (b ∷ fs) = refl

  -- the innermost frame taken away
  pub without_frame-mapped : (e : Environment A) → without_frame (mapped f e) ≡ mapped f (without_frame e)
  without_frame-mapped e = ap (λ (r : List (Bindings B)). record (mapped f e) { frames = r }) (gone-mapped e.frames)

-- ---- the frame of a call

module _ {A B : Type 0} (f : A → B) where
  binding-mapped : (name : Option (List ℕ)) (a : Option A) → argument_binding name (option_map f a) ≡ mapped_bindings f (argument_binding name a)
  binding-mapped None a = refl
  binding-mapped (Some name) a = refl

  unset-mapped : (names : List (List ℕ)) → map unset names ≡ mapped_bindings f (map unset names)
  unset-mapped [] = refl
  unset-mapped (n ∷ ns) = ap (λ bs. (n, None) ∷ bs) (unset-mapped ns)

  joined-mapped : (xs ys : Bindings A) (vs ws : Bindings B) → vs ≡ mapped_bindings f xs → ws ≡ mapped_bindings f ys → vs ++ ws ≡ mapped_bindings f (xs ++ ys)
  joined-mapped xs ys vs ws p q =
      ap (λ v. v ++ ws) p ∙ ap (λ w. mapped_bindings f xs ++ w) q ∙ sym (map-append (λ (b : List ℕ × Option A). (b.0, option_map f b.1)) xs ys)

  labels-mapped : (number : ℕ → A) (k : ℕ) (labels : List (Option (List ℕ))) → label_bindings (λ k. f (number k)) k labels ≡ mapped_bindings f (label_bindings number k labels)
  labels-mapped number k [] = refl
  labels-mapped number k (l ∷ ls) =
      joined-mapped (argument_binding l (Some (number k))) (label_bindings number (suc k) ls) (argument_binding l (Some (f (number k)))) (label_bindings (λ k. f (number k)) (suc k) ls)
      (binding-mapped l (Some (number k))) (labels-mapped number (suc k) ls)

  -- the frame of a call
  pub frame_of-mapped : (number : ℕ → A) (header : Header) (labels : List (Option (List ℕ))) (left right : Option A) →
      frame_of (λ k. f (number k)) header labels (option_map f left) (option_map f right) ≡ mapped_bindings f (frame_of number header labels left right)
  frame_of-mapped number header labels left right =
      let a : Bindings A = argument_binding header.result None in
      let b : Bindings A = argument_binding header.left left in
      let c : Bindings A = argument_binding header.right right in
      let d : Bindings A = map unset header.locals in
      let a' : Bindings B = argument_binding header.result None in
      let b' : Bindings B = argument_binding header.left (option_map f left) in
      let c' : Bindings B = argument_binding header.right (option_map f right) in
      let d' : Bindings B = map unset header.locals in
      joined-mapped (a ++ b ++ c ++ d) (label_bindings number 1 labels) (a' ++ b' ++ c' ++ d') (label_bindings (λ k. f (number k)) 1 labels)
      (joined-mapped (a ++ b ++ c) d (a' ++ b' ++ c') d'
      (joined-mapped (a ++ b) c (a' ++ b') c' (joined-mapped a b a' b' (binding-mapped header.result None) (binding-mapped header.left left)) (binding-mapped header.right right))
      (unset-mapped header.locals)) (labels-mapped number 1 labels)

  -- the value of the result's name
  pub result_in-mapped : (e : Environment A) (name : Option (List ℕ)) → result_in (mapped f e) name ≡ option_map f (result_in e name)
  result_in-mapped e None = refl
  result_in-mapped e (Some name) = look_up-mapped f e name

pub look_up_is_mapped : (A B : Type 0) → LookUpIsMapped A B
look_up_is_mapped A B f e name = look_up-mapped f e name

pub set_name_is_mapped : (A B : Type 0) → SetNameIsMapped A B
set_name_is_mapped A B f e name a = set_name-mapped f e name a

pub erased_is_mapped : (A B : Type 0) → ErasedIsMapped A B
erased_is_mapped A B f names e = erased-mapped f names e

pub set_names_are_mapped : (A B : Type 0) → SetNamesAreMapped A B
set_names_are_mapped A B f bs = set_names-mapped f bs

pub frame_is_mapped : (A B : Type 0) → FrameIsMapped A B
frame_is_mapped A B f number header labels left right = frame_of-mapped f number header labels left right

pub result_is_mapped : (A B : Type 0) → ResultIsMapped A B
result_is_mapped A B f e name = result_in-mapped f e name

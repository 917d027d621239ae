-- Where a name is declared, in frames of which the last is the innermost.
use Rattle.std.proofs.Common.{◌≡◌, ℕ, suc, ◌+◌, ◌<◌, true, false, ◌||◌, if◌then◌else◌, List, [], ◌∷◌, ◌++◌, length, take, drop, get_or, set, Option, Some, refl, sym, ap, ◌∙◌, subst, arith}
use Rattle.std.specs.Prelude.{reverse, pos}
use Rattle.std.proofs.lemmas.List.{reverse-append, take-append-drop, length-take-le, get_or_at, set_at, append_assoc, drop_more}
use Rattle.apl_model.specs.Environment.{Bindings, Environment, declares, bound_in, bound_to, found_in, look_up, set_in_frames, declared_in, set_name, with_frame}
use Rattle.name_table.specs.Scopes.{IsInnermost}
use Rattle.name_table.proofs.BindingLemmas.{false_or, not_in_frames}

module _ {A : Type 0} where
  -- frames of which none declares the name, before others
  declared_in-append : (fs gs : List (Bindings A)) (name : List ℕ) → declared_in fs name ≡ false → declared_in (fs ++ gs) name ≡ declared_in gs name
  declared_in-append [] gs name none = refl
  declared_in-append (f ∷ fs) gs name none =
      let no = false_or (declares f name) (declared_in fs name) none in
      ap (λ t. t || declared_in (fs ++ gs) name) no.0 ∙ declared_in-append fs gs name no.1

  found_in-append : (fs gs : List (Bindings A)) (globals : Bindings A) (name : List ℕ) → declared_in fs name ≡ false → found_in (fs ++ gs) globals name ≡ found_in gs globals name
  found_in-append [] gs globals name none = refl
  found_in-append (f ∷ fs) gs globals name none =
      let no = false_or (declares f name) (declared_in fs name) none in
      ap (λ t. if t then bound_in f name else found_in (fs ++ gs) globals name) no.0 ∙ found_in-append fs gs globals name no.1

  set_in-append : (fs gs : List (Bindings A)) (name : List ℕ) (a : A) → declared_in fs name ≡ false → set_in_frames (fs ++ gs) name a ≡ fs ++ set_in_frames gs name a
  set_in-append [] gs name a none = refl
  set_in-append (f ∷ fs) gs name a none =
      let no = false_or (declares f name) (declared_in fs name) none in
      ap (λ t. if t then bound_to f name (Some a) ∷ (fs ++ gs) else f ∷ set_in_frames (fs ++ gs) name a) no.0
      ∙ ap (λ (hs : List (Bindings A)). f ∷ hs) (set_in-append fs gs name a no.1)

  -- frames in the order of the definitions, split at one
  reverse-split : (before after : List (Bindings A)) (frame : Bindings A) → reverse (before ++ frame ∷ after) ≡ reverse after ++ frame ∷ reverse before
  reverse-split before after frame =
      reverse-append before (frame ∷ after)
      ∙ ap (λ (xs : List (Bindings A)). xs ++ reverse before) (reverse-append (frame ∷ []) after)
      ∙ append_assoc (reverse after) (frame ∷ []) (reverse before)

  module _ (frames : List (Bindings A)) (name : List ℕ) (at : ℕ) (is : IsInnermost frames name at) where
    split : reverse frames ≡ reverse is.after ++ is.frame ∷ reverse is.before
    split = ap (λ (xs : List (Bindings A)). reverse xs) is.there ∙ reverse-split is.before is.after is.frame

    pub innermost-within : at < length frames
    innermost-within = omega (arith, is.place, ap length is.there, length-split is.before is.after is.frame)
      where
        length-split : (before after : List (Bindings A)) (frame : Bindings A) → length (before ++ frame ∷ after) ≡ length before + suc (length after)
        length-split [] after frame = omega arith
        length-split (b ∷ before) after frame = omega (arith, length-split before after frame)

    pub innermost-frame : (d : Bindings A) → get_or frames at d ≡ is.frame
    innermost-frame d = ap (λ (xs : List (Bindings A)). get_or xs at d) is.there ∙ get_or_at is.before is.frame is.after d at is.place

    pub innermost-declared : declared_in (reverse frames) name ≡ true
    innermost-declared =
        ap (λ (xs : List (Bindings A)). declared_in xs name) split
        ∙ declared_in-append (reverse is.after) (is.frame ∷ reverse is.before) name is.hidden
        ∙ ap (λ t. t || declared_in (reverse is.before) name) is.declares

    pub innermost-found : (globals : Bindings A) → found_in (reverse frames) globals name ≡ bound_in is.frame name
    innermost-found globals =
        ap (λ (xs : List (Bindings A)). found_in xs globals name) split
        ∙ found_in-append (reverse is.after) (is.frame ∷ reverse is.before) globals name is.hidden
        ∙ ap (λ t. if t then bound_in is.frame name else found_in (reverse is.before) globals name) is.declares

    pub innermost-set : (a : A) → set_in_frames (reverse frames) name a ≡ reverse (set frames at (bound_to is.frame name (Some a)))
    innermost-set a =
        let put : Bindings A = bound_to is.frame name (Some a) in
        ap (λ (xs : List (Bindings A)). set_in_frames xs name a) split
        ∙ set_in-append (reverse is.after) (is.frame ∷ reverse is.before) name a is.hidden
        ∙ ap (λ t. reverse is.after ++ (if t then put ∷ reverse is.before else is.frame ∷ set_in_frames (reverse is.before) name a)) is.declares
        ∙ sym (reverse-split is.before is.after put)
        ∙ ap (λ (xs : List (Bindings A)). reverse xs) (sym (ap (λ (xs : List (Bindings A)). set xs at put) is.there ∙ set_at is.before is.frame is.after put at is.place))

    -- what the name is bound to, and the variables with the name set
    pub innermost-look_up : (e : Environment A) → e.frames ≡ reverse frames → look_up e name ≡ bound_in is.frame name
    innermost-look_up e fs = ap (λ (xs : List (Bindings A)). found_in xs e.globals name) fs ∙ innermost-found e.globals

    pub innermost-set_name : (e : Environment A) (a : A) → e.frames ≡ reverse frames → set_name e name a ≡ record e { frames = reverse (set frames at (bound_to is.frame name (Some a))) }
    innermost-set_name e a fs =
        ap (λ t. if t then record e { frames = set_in_frames e.frames name a } else record e { globals = bound_to e.globals name (Some a) }) (ap (λ (xs : List (Bindings A)). declared_in xs name) fs ∙ innermost-declared)
        ∙ ap (λ (xs : List (Bindings A)). record e { frames = xs }) (ap (λ (xs : List (Bindings A)). set_in_frames xs name a) fs ∙ innermost-set a)

  -- where no frame declares the name
  pub global-set_name : (e : Environment A) (name : List ℕ) (a : A) → declared_in e.frames name ≡ false → set_name e name a ≡ record e { globals = bound_to e.globals name (Some a) }
  global-set_name e name a none = ap (λ t. if t then record e { frames = set_in_frames e.frames name a } else record e { globals = bound_to e.globals name (Some a) }) none

  -- ---- the search, from the last frame to the first

  -- none from the place on declares the name
  abbrev pub NoneFrom : List (Bindings A) → List ℕ → ℕ → Type 0
  NoneFrom frames name at = declared_in (reverse (drop at frames)) name ≡ false

  pub search-found : (frames : List (Bindings A)) (name : List ℕ) (at next : ℕ) (frame : Bindings A) → at + 1 ≡ next → at < length frames → frame ≡ get_or frames at frame → declares frame name ≡ true → NoneFrom frames name next → IsInnermost frames name at
  search-found frames name at next frame e within read has none = record {
    frame = frame;
    before = take at frames;
    after = drop next frames;
    place = length-take-le at frames (omega (arith, within));
    there =
        sym (take-append-drop at frames)
        ∙ ap (λ (xs : List (Bindings A)). take at frames ++ xs) (drop_more frames at frame within ∙ ap (λ (f : Bindings A). f ∷ drop (at + 1) frames) (sym read) ∙ ap (λ n. frame ∷ drop n frames) e);
    declares = has;
    hidden = none;
  }

  pub search-passed : (frames : List (Bindings A)) (name : List ℕ) (at next : ℕ) (frame : Bindings A) → at + 1 ≡ next → at < length frames → frame ≡ get_or frames at frame → declares frame name ≡ false → NoneFrom frames name next → NoneFrom frames name at
  search-passed frames name at next frame e within read lacks none =
      ap (λ (xs : List (Bindings A)). declared_in (reverse xs) name) (drop_more frames at frame within ∙ ap (λ (f : Bindings A). f ∷ drop (at + 1) frames) (sym read) ∙ ap (λ n. frame ∷ drop n frames) e)
      ∙ ap (λ (xs : List (Bindings A)). declared_in xs name) (reverse-append (frame ∷ []) (drop next frames))
      ∙ declared_in-append (reverse (drop next frames)) (frame ∷ []) name none
      ∙ ap (λ t. t || false) lacks

-- ---- names as they are kept: the globals, and the frames with the innermost last

abbrev pub whole : {A : Type 0} → Bindings A → List (Bindings A) → Environment A
whole globals frames = record { globals = globals; frames = reverse frames; origin = pos 1 }

module _ {A : Type 0} (globals : Bindings A) (frames slice : List (Bindings A)) (now : Environment A) (name : List ℕ) (view : whole globals frames ≡ now) (same : slice ≡ frames) where
  module _ (at : ℕ) (is : IsInnermost slice name at) (frame : Bindings A) (read : frame ≡ get_or frames at frame) where
    its : IsInnermost frames name at
    its = subst (λ (xs : List (Bindings A)). IsInnermost xs name at) same is

    frame_is : frame ≡ its.frame
    frame_is = read ∙ innermost-frame frames name at its frame

    pub in_frame-found : (r : Option A) → r ≡ bound_in frame name → r ≡ look_up now name
    in_frame-found r e =
        e ∙ ap (λ (f : Bindings A). bound_in f name) frame_is ∙ sym (innermost-look_up frames name at its (whole globals frames) refl) ∙ ap (λ (x : Environment A). look_up x name) view

    pub in_frame-set : (put : Bindings A) (a : A) → put ≡ bound_to frame name (Some a) → whole globals (set frames at put) ≡ set_name now name a
    in_frame-set put a e =
        ap (λ (f : Bindings A). whole globals (set frames at f)) (e ∙ ap (λ (f : Bindings A). bound_to f name (Some a)) frame_is)
        ∙ sym (innermost-set_name frames name at its (whole globals frames) a refl)
        ∙ ap (λ (x : Environment A). set_name x name a) view

    pub in_frame-declared : declares frame name ≡ true
    in_frame-declared = ap (λ (f : Bindings A). declares f name) frame_is ∙ its.declares

  module _ (none : declared_in (reverse slice) name ≡ false) where
    none_here : declared_in (reverse frames) name ≡ false
    none_here = ap (λ (xs : List (Bindings A)). declared_in (reverse xs) name) (sym same) ∙ none

    pub global-found : (r : Option A) → r ≡ bound_in globals name → r ≡ look_up now name
    global-found r e = e ∙ sym (not_in_frames (reverse frames) globals name none_here) ∙ ap (λ (x : Environment A). look_up x name) view

    pub global-set : (put : Bindings A) (a : A) → put ≡ bound_to globals name (Some a) → whole put frames ≡ set_name now name a
    global-set put a e =
        ap (λ (gs : Bindings A). whole gs frames) e
        ∙ sym (global-set_name (whole globals frames) name a none_here)
        ∙ ap (λ (x : Environment A). set_name x name a) view

module _ {A : Type 0} (globals : Bindings A) (frames : List (Bindings A)) (now : Environment A) (view : whole globals frames ≡ now) where
  -- a frame is put at the end
  pub whole-pushed : (new : List (Bindings A)) (frame put : Bindings A) → new ≡ frames ++ frame ∷ [] → frame ≡ put → whole globals new ≡ with_frame put now
  whole-pushed new frame put is same =
      ap (whole globals) (is ∙ ap (λ (f : Bindings A). frames ++ f ∷ []) same)
      ∙ ap (λ (xs : List (Bindings A)). record (whole globals frames) { frames = xs }) (reverse-append frames (put ∷ []))
      ∙ ap (with_frame put) view

  -- the last one is taken away
  pub whole-popped : (rest : List (Bindings A)) (frame : Bindings A) → frames ≡ rest ++ frame ∷ [] → now ≡ with_frame frame (whole globals rest)
  whole-popped rest frame is =
      sym view ∙ ap (whole globals) is ∙ ap (λ (xs : List (Bindings A)). record (whole globals rest) { frames = xs }) (reverse-append rest (frame ∷ []))

-- What the second pass finds, with one line or one part more.
use Rattle.std.proofs.Common.{◌≡◌, ℕ, List, [], ◌∷◌, ◌++◌, map, Option, None, Some, ◌⊎◌, inl, inr, refl, sym, ap, subst, ◌∙◌, append_assoc, append-nil}
use Rattle.std.proofs.lemmas.List.{map-append}
use Rattle.std.specs.List.{IsAmong, AllZip}
use Rattle.apl_base.specs.declared.faults.Cause.TheVariants as cause
use Rattle.apl_base.specs.declared.faults.Refusal.{Refusal}
use Rattle.apl_model.proofs.Accepted.{no_stop}
use Rattle.apl_model.proofs.Rows.{one_stop, before_after}
use Rattle.apl_model.proofs.Unique.{one_header}
use Rattle.apl_model.specs.Mirror.{item_of, body_line_of}
use Rattle.apl_model.specs.Refusal.{refusal, LineKind, outside, in_body, IsLawful, StopsAt, IsFirstIfAny}
use Rattle.apl_model.specs.Script.{Part, alone, defined, parts, IsHeadOf, IsItem, IsBodyLine}
use Rattle.apl_model.specs.Tree as plain
use Rattle.apl_model.specs.declared.scripts.BodyLine.{BodyLine}
use Rattle.apl_model.specs.declared.scripts.Header.{Header}
use Rattle.apl_model.specs.declared.scripts.ScriptItem.{ScriptItem}
use Rattle.apl_model.specs.declared.tokens.Heading.{Heading}
use Rattle.apl_model.specs.declared.tokens.Line.{Line}
use Rattle.apl_defn.proofs.EarlierLemmas.{first_like, earlier_first, only_first}
use Rattle.apl_defn.proofs.FormLemmas.{neither}
use Rattle.apl_defn.proofs.PhaseLemmas.{none_of_none, first_more}
use Rattle.apl_defn.specs.Earliest.{earlier}
use Rattle.apl_defn.specs.NameRules.{IsAssigned, IsErased, IsDeclared, IsTooDeep}
use Rattle.apl_defn.specs.PartRefusals.{OfSome, IsStopped, IsOutsideRefusal, IsBodyRefusal, IsUseRefusal}
use Rattle.apl_defn.specs.Passes.{AreHeaders, IsBody, AreUses}
use Rattle.apl_defn.specs.Reading.{IsReadLine}
use Rattle.apl_defn.specs.declared.uses.Body.{Body}
use Rattle.apl_defn.specs.declared.uses.Uses.{Uses}

-- ---- Where a line stops ----

module _ (kind : LineKind) (hs : List Heading) (l : Line) where
  -- a lawful line stops nowhere
  lawful_goes : (r : Refusal) → IsReadLine l → IsLawful kind hs l.number l.tokens → IsStopped kind hs l r → ⊥
  lawful_goes r read h x = no_stop kind hs l.number l.text l.tokens read.tokens x.column h x.stops

  -- another one stops at one place
  stops_once : (k : ℕ) → StopsAt kind hs l.number l.tokens k → IsFirstIfAny (IsStopped kind hs l) (Some (refusal cause.Grammar l.number k))
  stops_once k s = only_first (IsStopped kind hs l) (refusal cause.Grammar l.number k) (record { column = k; stops = s; is = refl })
      (λ v x. x.is ∙ ap (λ j. refusal cause.Grammar l.number j) (one_stop kind hs l.number l.tokens x.column k x.stops s))

-- ---- The first refusal of one line ----

module _ (hs : List Heading) (l : Line) (a d : Option Refusal) (fa : IsFirstIfAny (IsAssigned hs l) a) (fd : IsFirstIfAny (IsTooDeep l) d) where
  -- of a line of a body that is read
  pub body_first : IsReadLine l → IsLawful in_body hs l.number l.tokens → IsFirstIfAny (IsBodyRefusal hs l) (earlier a d)
  body_first read h = first_like (λ r. IsAssigned hs l r ⊎ IsTooDeep l r) (IsBodyRefusal hs l) (earlier a d) to from (earlier_first (IsAssigned hs l) (IsTooDeep l) a d fa fd)
    where
      to : (r : Refusal) → IsAssigned hs l r ⊎ IsTooDeep l r → IsBodyRefusal hs l r
      to r (inl x) = inl x
      to r (inr x) = inr (inl x)

      from : (r : Refusal) → IsBodyRefusal hs l r → IsAssigned hs l r ⊎ IsTooDeep l r
      from r (inl x) = inl x
      from r (inr (inl x)) = inr x
      from r (inr (inr x)) = absurd (lawful_goes in_body hs l r read h x)

  -- and of one that stops
  pub body_stops : (k : ℕ) → StopsAt in_body hs l.number l.tokens k → IsFirstIfAny (IsBodyRefusal hs l) (earlier (earlier a d) (Some (refusal cause.Grammar l.number k)))
  body_stops k s =
      let q : Refusal = refusal cause.Grammar l.number k in
      first_like (λ r. (IsAssigned hs l r ⊎ IsTooDeep l r) ⊎ IsStopped in_body hs l r) (IsBodyRefusal hs l) (earlier (earlier a d) (Some q)) to from
      (earlier_first (λ r. IsAssigned hs l r ⊎ IsTooDeep l r) (IsStopped in_body hs l) (earlier a d) (Some q) (earlier_first (IsAssigned hs l) (IsTooDeep l) a d fa fd) (stops_once in_body hs l k s))
    where
      to : (r : Refusal) → (IsAssigned hs l r ⊎ IsTooDeep l r) ⊎ IsStopped in_body hs l r → IsBodyRefusal hs l r
      to r (inl (inl x)) = inl x
      to r (inl (inr x)) = inr (inl x)
      to r (inr x) = inr (inr x)

      from : (r : Refusal) → IsBodyRefusal hs l r → (IsAssigned hs l r ⊎ IsTooDeep l r) ⊎ IsStopped in_body hs l r
      from r (inl x) = inl (inl x)
      from r (inr (inl x)) = inl (inr x)
      from r (inr (inr x)) = inr x

  module _ (e : Option Refusal) (fe : IsFirstIfAny (IsErased hs l) e) where
    abbrev Names : Refusal → Type 0
    Names r = (IsAssigned hs l r ⊎ IsErased hs l r) ⊎ IsTooDeep l r

    names_first : IsFirstIfAny Names (earlier (earlier a e) d)
    names_first = earlier_first (λ r. IsAssigned hs l r ⊎ IsErased hs l r) (IsTooDeep l) (earlier a e) d (earlier_first (IsAssigned hs l) (IsErased hs l) a e fa fe) fd

    -- of a line outside definitions that is read
    pub outside_first : IsReadLine l → IsLawful outside hs l.number l.tokens → IsFirstIfAny (IsOutsideRefusal hs l) (earlier (earlier a e) d)
    outside_first read h = first_like Names (IsOutsideRefusal hs l) (earlier (earlier a e) d) to from names_first
      where
        to : (r : Refusal) → (IsAssigned hs l r ⊎ IsErased hs l r) ⊎ IsTooDeep l r → IsOutsideRefusal hs l r
        to r (inl (inl x)) = inl x
        to r (inl (inr x)) = inr (inl x)
        to r (inr x) = inr (inr (inl x))

        from : (r : Refusal) → IsOutsideRefusal hs l r → (IsAssigned hs l r ⊎ IsErased hs l r) ⊎ IsTooDeep l r
        from r (inl x) = inl (inl x)
        from r (inr (inl x)) = inl (inr x)
        from r (inr (inr (inl x))) = inr x
        from r (inr (inr (inr x))) = absurd (lawful_goes outside hs l r read h x)

    -- and of one that stops
    pub outside_stops : (k : ℕ) → StopsAt outside hs l.number l.tokens k → IsFirstIfAny (IsOutsideRefusal hs l) (earlier (earlier (earlier a e) d) (Some (refusal cause.Grammar l.number k)))
    outside_stops k s =
        let q : Refusal = refusal cause.Grammar l.number k in
        first_like (λ r. Names r ⊎ IsStopped outside hs l r) (IsOutsideRefusal hs l) (earlier (earlier (earlier a e) d) (Some q)) to from
        (earlier_first Names (IsStopped outside hs l) (earlier (earlier a e) d) (Some q) names_first (stops_once outside hs l k s))
      where
        to : (r : Refusal) → ((IsAssigned hs l r ⊎ IsErased hs l r) ⊎ IsTooDeep l r) ⊎ IsStopped outside hs l r → IsOutsideRefusal hs l r
        to r (inl (inl (inl x))) = inl x
        to r (inl (inl (inr x))) = inr (inl x)
        to r (inl (inr x)) = inr (inr (inl x))
        to r (inr x) = inr (inr (inr x))

        from : (r : Refusal) → IsOutsideRefusal hs l r → ((IsAssigned hs l r ⊎ IsErased hs l r) ⊎ IsTooDeep l r) ⊎ IsStopped outside hs l r
        from r (inl x) = inl (inl (inl x))
        from r (inr (inl x)) = inl (inl (inr x))
        from r (inr (inr (inl x))) = inl (inr x)
        from r (inr (inr (inr x))) = inr x

pub body_is_lawful : (hs : List Heading) (l : Line) (b : plain.BodyLine) → IsBodyLine hs l b → IsLawful in_body hs l.number l.tokens
body_is_lawful hs l b h = (b.label, b.statement, h.label, h.statement, h.spells)

-- ---- Lists of lines and items that fit ----

zip_more : {A B : Type 0} (R : A → B → Type 0) (xs : List A) (ys : List B) (x : A) (y : B) → AllZip R xs ys → R x y → AllZip R (xs ++ (x ∷ [])) (ys ++ (y ∷ []))
zip_more R [] [] x y z r = (r, tt)
zip_more R [] (v ∷ ys) x y z r = absurd z
zip_more R (u ∷ xs) [] x y z r = absurd z
zip_more R (u ∷ xs) (v ∷ ys) x y z r = (z.0, zip_more R xs ys x y z.1 r)

some_none : {r : Refusal} → Some r ≡ None → ⊥
some_none e = cc

-- ---- The lines of a body ----

pub body_of_none : (hs : List Heading) (b : Body) → b.earliest ≡ None → b.lines.items ≡ [] → IsBody hs [] b
body_of_none hs b e n = record {
  earliest = subst (λ v. IsFirstIfAny (OfSome (IsBodyRefusal hs) []) v) (sym e) (none_of_none (IsBodyRefusal hs));
  lines = λ f. subst (λ v. AllZip (IsBodyLine hs) [] (map body_line_of v)) (sym n) tt;
}

pub body_more : (hs : List Heading) (ls : List Line) (l : Line) (f g : Body) (b : Option Refusal) (read : BodyLine) → g.earliest ≡ earlier f.earliest b → g.lines.items ≡ f.lines.items ++ (read ∷ []) →
    IsBodyLine hs l (body_line_of read) → IsFirstIfAny (IsBodyRefusal hs l) b → IsBody hs ls f → IsBody hs (ls ++ (l ∷ [])) g
body_more hs ls l f g b read e n is first a = record {
  earliest = subst (λ v. IsFirstIfAny (OfSome (IsBodyRefusal hs) (ls ++ (l ∷ []))) v) (sym e) (first_more (IsBodyRefusal hs) ls l f.earliest b a.earliest first);
  lines = λ none. subst (λ v. AllZip (IsBodyLine hs) (ls ++ (l ∷ [])) v) (sym (ap (λ v. map body_line_of v) n ∙ map-append body_line_of f.lines.items (read ∷ [])))
      (zip_more (IsBodyLine hs) ls (map body_line_of f.lines.items) l (body_line_of read) (a.lines (neither f.earliest b (sym e ∙ none)).0) is);
}

pub body_stopped : (hs : List Heading) (ls : List Line) (l : Line) (f g : Body) (b : Option Refusal) (r : Refusal) → g.earliest ≡ earlier f.earliest (earlier b (Some r)) →
    IsFirstIfAny (IsBodyRefusal hs l) (earlier b (Some r)) → IsBody hs ls f → IsBody hs (ls ++ (l ∷ [])) g
body_stopped hs ls l f g b r e first a = record {
  earliest = subst (λ v. IsFirstIfAny (OfSome (IsBodyRefusal hs) (ls ++ (l ∷ []))) v) (sym e) (first_more (IsBodyRefusal hs) ls l f.earliest (earlier b (Some r)) a.earliest first);
  lines = λ none. absurd (some_none (neither b (Some r) (neither f.earliest (earlier b (Some r)) (sym e ∙ none)).1).1);
}

-- ---- The parts of a script ----

pub uses_of_none : (hs : List Heading) (u : Uses) → u.earliest ≡ None → u.items.items ≡ [] → AreUses hs [] u
uses_of_none hs u e n = record {
  earliest = subst (λ v. IsFirstIfAny (OfSome (IsUseRefusal hs) []) v) (sym e) (none_of_none (IsUseRefusal hs));
  items = λ f. subst (λ v. AllZip (IsItem hs) [] (map item_of v)) (sym n) tt;
}

pub uses_more : (hs : List Heading) (ps : List Part) (p : Part) (f g : Uses) (b : Option Refusal) (item : ScriptItem) → g.earliest ≡ earlier f.earliest b → g.items.items ≡ f.items.items ++ (item ∷ []) →
    (b ≡ None → IsItem hs p (item_of item)) → IsFirstIfAny (IsUseRefusal hs p) b → AreUses hs ps f → AreUses hs (ps ++ (p ∷ [])) g
uses_more hs ps p f g b item e n is first a = record {
  earliest = subst (λ v. IsFirstIfAny (OfSome (IsUseRefusal hs) (ps ++ (p ∷ []))) v) (sym e) (first_more (IsUseRefusal hs) ps p f.earliest b a.earliest first);
  items = λ none. let x = neither f.earliest b (sym e ∙ none) in
      subst (λ v. AllZip (IsItem hs) (ps ++ (p ∷ [])) v) (sym (ap (λ v. map item_of v) n ∙ map-append item_of f.items.items (item ∷ [])))
      (zip_more (IsItem hs) ps (map item_of f.items.items) p (item_of item) (a.items x.0) (is x.1));
}

pub uses_stopped : (hs : List Heading) (ps : List Part) (p : Part) (f g : Uses) (b : Option Refusal) (r : Refusal) → g.earliest ≡ earlier f.earliest (earlier b (Some r)) →
    IsFirstIfAny (IsUseRefusal hs p) (earlier b (Some r)) → AreUses hs ps f → AreUses hs (ps ++ (p ∷ [])) g
uses_stopped hs ps p f g b r e first a = record {
  earliest = subst (λ v. IsFirstIfAny (OfSome (IsUseRefusal hs) (ps ++ (p ∷ []))) v) (sym e) (first_more (IsUseRefusal hs) ps p f.earliest (earlier b (Some r)) a.earliest first);
  items = λ none. absurd (some_none (neither b (Some r) (neither f.earliest (earlier b (Some r)) (sym e ∙ none)).1).1);
}

-- the first refusal of a definition with a header
pub definition_first : (hs : List Heading) (top : Line) (body : List Line) (last : Option Line) (h : Header) (d b : Option Refusal) → IsHeadOf top h →
    IsFirstIfAny (IsDeclared hs h.f top body) d → IsFirstIfAny (OfSome (IsBodyRefusal hs) body) b → IsFirstIfAny (IsUseRefusal hs (defined top body last)) (earlier d b)
definition_first hs top body last h d b i fd fb =
    first_like (λ r. IsDeclared hs h.f top body r ⊎ OfSome (IsBodyRefusal hs) body r) (IsUseRefusal hs (defined top body last)) (earlier d b) to from
    (earlier_first (IsDeclared hs h.f top body) (OfSome (IsBodyRefusal hs) body) d b fd fb)
  where
    to : (r : Refusal) → IsDeclared hs h.f top body r ⊎ OfSome (IsBodyRefusal hs) body r → IsUseRefusal hs (defined top body last) r
    to r (inl x) = inl (record { header = h; head = i; declared = x })
    to r (inr x) = inr x

    from : (r : Refusal) → IsUseRefusal hs (defined top body last) r → IsDeclared hs h.f top body r ⊎ OfSome (IsBodyRefusal hs) body r
    from r (inl x) =
        let e = one_header top.number top.tokens x.header h x.head.header i.header x.head.spells i.spells in
        inl (subst (λ (v : Header). IsDeclared hs v.f top body r) e x.declared)
    from r (inr x) = inr x

-- ---- Over the parts of a script ----

-- when these lines, and the headers of their definitions, are left
pub record UsesSoFar (hs : List Heading) (ls rest : List Line) (headers : List Header) (u : Uses) : Type 0 where
  pub done : List Part
  pub split : parts ls ≡ done ++ parts rest
  pub heads : AreHeaders (parts rest) headers
  pub found : AreUses hs done u

pub uses_begin : (hs : List Heading) (ls rest : List Line) (headers : List Header) (u : Uses) → rest ≡ ls → AreHeaders (parts ls) headers → AreUses hs [] u → UsesSoFar hs ls rest headers u
uses_begin hs ls rest headers u e a f = record { done = []; split = sym (ap parts e); heads = subst (λ v. AreHeaders (parts v) headers) (sym e) a; found = f }

module _ (hs : List Heading) (ls rest more : List Line) (u v : Uses) where
  -- after a line alone
  pub uses_alone : (l : Line) (headers : List Header) → parts rest ≡ alone l ∷ parts more → UsesSoFar hs ls rest headers u →
      ((ps : List Part) → AreUses hs ps u → AreUses hs (ps ++ (alone l ∷ [])) v) → UsesSoFar hs ls more headers v
  uses_alone l headers e s step = record {
    done = s.done ++ (alone l ∷ []);
    split = s.split ∙ ap (λ x. s.done ++ x) e ∙ sym (append_assoc s.done (alone l ∷ []) (parts more));
    heads = subst (λ x. AreHeaders x headers) e s.heads;
    found = step s.done s.found;
  }

  -- the header of a definition is the first one that is left
  pub next_header : (top : Line) (body : List Line) (last : Option Line) (headers : List Header) → parts rest ≡ defined top body last ∷ parts more → UsesSoFar hs ls rest headers u →
      (h : Header) × (left : List Header) × (headers ≡ h ∷ left) × IsHeadOf top h × AreHeaders (parts more) left
  next_header top body last headers e s = go headers (subst (λ x. AreHeaders x headers) e s.heads)
    where
      go : (headers : List Header) → AreHeaders (defined top body last ∷ parts more) headers →
          (h : Header) × (left : List Header) × (headers ≡ h ∷ left) × IsHeadOf top h × AreHeaders (parts more) left
      go [] a = absurd a
      go (h ∷ left) a = (h, left, refl, a.0, a.1)

  -- after a definition
  pub uses_defined : (top : Line) (body : List Line) (last : Option Line) (headers left : List Header) → parts rest ≡ defined top body last ∷ parts more → UsesSoFar hs ls rest headers u →
      AreHeaders (parts more) left → ((ps : List Part) → AreUses hs ps u → AreUses hs (ps ++ (defined top body last ∷ [])) v) → UsesSoFar hs ls more left v
  uses_defined top body last headers left e s a step = record {
    done = s.done ++ (defined top body last ∷ []);
    split = s.split ∙ ap (λ x. s.done ++ x) e ∙ sym (append_assoc s.done (defined top body last ∷ []) (parts more));
    heads = a;
    found = step s.done s.found;
  }

  pub part_among : (p : Part) (headers : List Header) → parts rest ≡ p ∷ parts more → UsesSoFar hs ls rest headers u → IsAmong (parts ls) p
  part_among p headers e s = subst (λ x. IsAmong x p) (sym (s.split ∙ ap (λ x. s.done ++ x) e)) (before_after s.done (parts more) p)

pub uses_end : (hs : List Heading) (ls rest : List Line) (headers : List Header) (u : Uses) → parts rest ≡ [] → UsesSoFar hs ls rest headers u → AreUses hs (parts ls) u
uses_end hs ls rest headers u e s = subst (λ x. AreUses hs x u) (sym (s.split ∙ ap (λ x. s.done ++ x) e ∙ append-nil s.done)) s.found

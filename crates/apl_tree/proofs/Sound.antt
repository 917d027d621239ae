-- What the reader gives is a statement of the language, and spells the tokens.
use Rattle.std.proofs.Common.{◌≡◌, ℕ, zero, suc, List, [], ◌∷◌, ◌++◌, Option, None, Some, ℤ, refl, sym, ap, subst, ◌∙◌, append_assoc, append-nil}
use Rattle.std.specs.Option.{option_and_then}
use Rattle.apl_base.specs.declared.cells.Kind.{Kind}
use Rattle.apl_base.specs.declared.cells.Kind.TheVariants as kind
use Rattle.apl_base.specs.declared.faults.Place.{Place}
use Rattle.apl_base.specs.declared.rows.Dya.{Dya}
use Rattle.apl_base.specs.declared.rows.Mon.{Mon}
use Rattle.apl_model.proofs.Machine.{Sort, literal, named, scalar, plain, turn, slash, slash_first, backslash, jot, dot, assign, arrow, quad, open_paren, close_paren, open_bracket, close_bracket, semicolon, other, sort, for_monadic, for_dyadic, filled, Stack, bottom, waiting, in_parenthesis, in_subscript, Along, along_axis, Status, first, must, may, operand, glyph_first, glyph_after, axis_or_none, axis_opened, axis_given, after_jot, after_jot_dot, after_dot, after_quad, State, state, begun, wind, then_position, close_parenthesis, close_subscript, next_position, assigned, followed, may_begin, first_taken, after_first, after_scalar, axis_begun, axis_number, axis_taken, axis_closed, dot_taken, outer_taken, inner_taken, quad_taken, taken_by, taken, step, run, start, finished, finished_with, read}
use Rattle.apl_model.specs.Grammar.{IsLiteral, IsOperand, IsExpression, IsStatement, IsPosition}
use Rattle.apl_model.specs.Spelling.{Mark, at, some, glyph, mon_glyph, dya_glyph, dyadic_marks, literal_word, spelling, slot_spelling, position_spelling, statement_spelling, Spell}
use Rattle.apl_model.specs.Tree.{Tree, variable, subscript, Slot, elided, given, Statement}
use Rattle.apl_model.specs.declared.functions.Axis.{Axis}
use Rattle.apl_model.specs.declared.functions.Axis.TheVariants as axis
use Rattle.apl_model.specs.declared.functions.DyaFn.TheVariants as two
use Rattle.apl_model.specs.declared.functions.MonFn.TheVariants as one
use Rattle.apl_model.specs.declared.tokens.Heading.{Heading}
use Rattle.apl_model.specs.declared.tokens.Token.{Token}
use Rattle.apl_model.specs.declared.tokens.Word.{Word}
use Rattle.apl_model.specs.declared.tokens.Word.TheVariants as word
use Rattle.apl_tree.proofs.Formed.{filled_marks, then_closed, then_open, then_has, axis_last, axis_numbered, filled_lawful, then_are, axis_last_lawful, axis_numbered_lawful}
use Rattle.apl_tree.proofs.Shown.{open_positions, wait_marks, stack_marks, along_marks, number_marks, marks, Agree, IsNumbered, IsStack, IsAlong, IsStatus, IsState, Imply, after_same, imply_eq, imply_by, last_on, last_in, spell_implied, spell_more}
use Rattle.apl_tree.proofs.SortFacts.{IsWord, AreWords, IsSortOf, sort_holds}

module _ (hs : List Heading) where
  -- ---- A complete expression ----

  record IsWound (ms : List Mark) (e : Tree) (o : Stack) : Type 0 where
    tree : IsExpression hs e
    stack : IsStack hs o
    marks : stack_marks o ++ spelling e ≡ ms

  wind_holds : (e : Tree) (o : Stack) → IsExpression hs e → IsStack hs o → IsWound (stack_marks o ++ spelling e) (wind e o).tree (wind e o).stack
  wind_holds e (bottom b) h i = record { tree = h; stack = i; marks = refl }
  wind_holds e (waiting w o) h i =
      let r = wind_holds (filled w e) o (filled_lawful hs w e i.0 h) i.1 in
      record {
        tree = r.tree;
        stack = r.stack;
        marks = r.marks ∙ ap (λ ms. stack_marks o ++ ms) (filled_marks w e) ∙ sym (append_assoc (stack_marks o) (wait_marks w) (spelling e));
      }
  wind_holds e (in_parenthesis p o) h i = record { tree = h; stack = i; marks = refl }
  wind_holds e (in_subscript a qs p o) h i = record { tree = h; stack = i; marks = refl }

  -- ---- One token ----

  pub record Grows (ms : List Mark) (p : Place) (w : Word) (y : State) : Type 0 where
    pub lawful : IsState hs y
    pub marks : Imply (ms ++ at p w ∷ []) (marks y)

  -- what is read with one more token, where the reader goes on
  abbrev pub GoesOn : List Mark → Place → Word → Option State → Type 0
  GoesOn ms p w None = Unit {0}
  GoesOn ms p w (Some y) = Grows ms p w y

  from_marks : (ks bs : List Mark) (p : Place) (w : Word) (y : Option State) → ks ≡ bs → GoesOn ks p w y → GoesOn bs p w y
  from_marks ks bs p w y e h = subst (λ ms. GoesOn ms p w y) e h

  begun_holds : (o : Stack) (p : Place) (w : Word) (s : Sort) → IsStack hs o → IsSortOf hs w s → GoesOn (stack_marks o) p w (begun o p s)
  begun_holds o p w (literal l) i g =
      record { lawful = record { stack = i; status = (tt, g.1) }; marks = after_same (stack_marks o) (at p w ∷ []) (at p (literal_word l) ∷ []) ((refl, g.0), tt) }
  begun_holds o p w (named n None) i g =
      record { lawful = record { stack = i; status = (tt, record { name = g.1; free = g.2 }) }; marks = after_same (stack_marks o) (at p w ∷ []) (at p (word.Name n) ∷ []) ((refl, g.0), tt) }
  begun_holds o p w (named n (Some zero)) i g =
      record { lawful = record { stack = i; status = (tt, record { name = g.1; heads = g.2 }) }; marks = after_same (stack_marks o) (at p w ∷ []) (at p (word.Name n) ∷ []) ((refl, g.0), tt) }
  begun_holds o p w (named n (Some (suc zero))) i g =
      record { lawful = record { stack = (record { name = g.1; heads = g.2 }, i); status = tt }; marks = after_same (stack_marks o) (at p w ∷ []) (at p (word.Name n) ∷ []) ((refl, g.0), tt) }
  begun_holds o p w (named n (Some (suc (suc k)))) i g = tt
  begun_holds o p w (scalar f m) i g =
      record { lawful = record { stack = i; status = g.1 }; marks = after_same (stack_marks o) (at p w ∷ []) (at p (dya_glyph f) ∷ []) ((refl, g.0), tt) }
  begun_holds o p w (plain (Some f) b) i g =
      record { lawful = record { stack = (g.0.0, i); status = tt }; marks = after_same (stack_marks o) (at p w ∷ []) (wait_marks (for_monadic f p)) (imply_eq (at p w ∷ []) (wait_marks (for_monadic f p)) (sym (g.0.1 p))) }
  begun_holds o p w (plain None b) i g = tt
  begun_holds o p w turn i g =
      record { lawful = record { stack = i; status = tt }; marks = after_same (stack_marks o) (at p w ∷ []) (at p (glyph "⌽") ∷ []) ((refl, g), tt) }
  begun_holds o p w quad i g =
      record { lawful = record { stack = i; status = tt }; marks = after_same (stack_marks o) (at p w ∷ []) (at p (glyph "⎕") ∷ []) ((refl, g), tt) }
  begun_holds o p w open_paren i g =
      record { lawful = record { stack = i; status = tt }; marks = after_same (stack_marks o) (at p w ∷ []) (at p (glyph "(") ∷ []) ((refl, g), tt) }
  begun_holds o p w _ i g = tt

  close_parenthesis_holds : (e : Tree) (o : Stack) (p : Place) (w : Word) → IsExpression hs e → IsStack hs o → w ≡ glyph ")" →
      GoesOn (stack_marks o ++ spelling e) p w (close_parenthesis e o)
  close_parenthesis_holds e (bottom b) p w h i g = tt
  close_parenthesis_holds e (waiting v o) p w h i g = tt
  close_parenthesis_holds e (in_parenthesis q o) p w h i g =
      record {
        lawful = record { stack = i; status = (tt, h) };
        marks = imply_by (((stack_marks o ++ (at q (glyph "(") ∷ [])) ++ spelling e) ++ at p w ∷ []) ((stack_marks o ++ (at q (glyph "(") ∷ spelling e)) ++ at p w ∷ [])
            (stack_marks o ++ (at q (glyph "(") ∷ (spelling e ++ (some (glyph ")") ∷ [])))) (stack_marks o ++ (at q (glyph "(") ∷ (spelling e ++ (some (glyph ")") ∷ []))))
            (ap (λ ms. ms ++ at p w ∷ []) (append_assoc (stack_marks o) (at q (glyph "(") ∷ []) (spelling e))) refl
            (last_on (stack_marks o) (at q (glyph "(") ∷ spelling e) (at p w) (at q (glyph "(") ∷ (spelling e ++ (some (glyph ")") ∷ [])))
            ((refl, refl), after_same (spelling e) (at p w ∷ []) (some (glyph ")") ∷ []) (g, tt)));
      }
  close_parenthesis_holds e (in_subscript a qs q o) p w h i g = tt

  -- a last mark behind the positions of a subscript
  in_position : (S A P X : List Mark) (m d : Mark) (ds : List Mark) → ds ≡ (P ++ X) ++ d ∷ [] → Imply (m ∷ []) (d ∷ []) →
      Imply (((S ++ (A ++ P)) ++ X) ++ m ∷ []) (S ++ (A ++ ds))
  in_position S A P X m d ds e h =
      imply_by (((S ++ (A ++ P)) ++ X) ++ m ∷ []) (S ++ (A ++ ((P ++ X) ++ m ∷ []))) (S ++ (A ++ ds)) (S ++ (A ++ ((P ++ X) ++ d ∷ [])))
      (simp append_assoc) (ap (λ ms. S ++ (A ++ ms)) e)
      (after_same S (A ++ ((P ++ X) ++ m ∷ [])) (A ++ ((P ++ X) ++ d ∷ []))
      (after_same A ((P ++ X) ++ m ∷ []) ((P ++ X) ++ d ∷ []) (after_same (P ++ X) (m ∷ []) (d ∷ []) h)))

  close_subscript_holds : (s : Slot) (o : Stack) (p : Place) (w : Word) → IsPosition hs s → IsStack hs o → w ≡ glyph "]" →
      GoesOn (stack_marks o ++ slot_spelling s) p w (close_subscript s o)
  close_subscript_holds s (bottom b) p w h i g = tt
  close_subscript_holds s (waiting v o) p w h i g = tt
  close_subscript_holds s (in_parenthesis q o) p w h i g = tt
  close_subscript_holds s (in_subscript a qs q o) p w h i g =
      record {
        lawful = record { stack = i.3; status = (tt, (i.0, i.1, then_has qs s, then_are hs qs s i.2 h)) };
        marks = in_position (stack_marks o) (spelling a) (open_positions (at q (glyph "[")) qs) (slot_spelling s) (at p w) (some (glyph "]"))
            (position_spelling (at q (glyph "[")) (then_position qs s) ++ (some (glyph "]") ∷ []))
            (ap (λ ms. ms ++ (some (glyph "]") ∷ [])) (then_closed (at q (glyph "[")) qs s)) (g, tt);
      }

  next_position_holds : (s : Slot) (o : Stack) (p : Place) (w : Word) → IsPosition hs s → IsStack hs o → w ≡ glyph ";" →
      GoesOn (stack_marks o ++ slot_spelling s) p w (next_position s o)
  next_position_holds s (bottom b) p w h i g = tt
  next_position_holds s (waiting v o) p w h i g = tt
  next_position_holds s (in_parenthesis q o) p w h i g = tt
  next_position_holds s (in_subscript a qs q o) p w h i g =
      record {
        lawful = record { stack = (i.0, i.1, then_are hs qs s i.2 h, i.3); status = tt };
        marks = in_position (stack_marks o) (spelling a) (open_positions (at q (glyph "[")) qs) (slot_spelling s) (at p w) (some (glyph ";"))
            (open_positions (at q (glyph "[")) (then_position qs s)) (then_open (at q (glyph "[")) qs s) (g, tt);
      }

  assigned_holds : (e : Tree) (o : Stack) (p : Place) (w : Word) → IsExpression hs e → IsStack hs o → w ≡ glyph "←" →
      GoesOn (stack_marks o ++ spelling e) p w (assigned e o)
  assigned_holds (variable n q) o p w h i g =
      record {
        lawful = record { stack = (h, i); status = tt };
        marks = last_on (stack_marks o) (at q (word.Name n) ∷ []) (at p w) (at q (word.Name n) ∷ some (glyph "←") ∷ []) ((refl, refl), (g, tt));
      }
  assigned_holds (subscript (variable n q') qs q) o p w h i g =
      record {
        lawful = record { stack = ((h.1, h.2, h.3), i); status = tt };
        marks = last_on (stack_marks o) (at q' (word.Name n) ∷ (position_spelling (at q (glyph "[")) qs ++ (some (glyph "]") ∷ []))) (at p w)
            (some (word.Name n) ∷ (position_spelling (at q (glyph "[")) qs ++ (some (glyph "]") ∷ some (glyph "←") ∷ [])))
            (refl, last_on (position_spelling (at q (glyph "[")) qs) (some (glyph "]") ∷ []) (at p w) (some (glyph "]") ∷ some (glyph "←") ∷ []) (refl, (g, tt)));
      }
  assigned_holds _ o p w h i g = tt

  followed_holds : (o : Stack) (e : Tree) (p : Place) (w : Word) (s : Sort) → IsStack hs o → IsOperand e → IsExpression hs e → IsSortOf hs w s →
      GoesOn (stack_marks o ++ spelling e) p w (followed o e p s)
  followed_holds o e p w (literal l) i a h g = tt
  followed_holds o e p w (named n None) i a h g = tt
  followed_holds o e p w (named n (Some zero)) i a h g = tt
  followed_holds o e p w (named n (Some (suc zero))) i a h g = tt
  followed_holds o e p w (named n (Some (suc (suc zero)))) i a h g =
      record {
        lawful = record { stack = ((record { name = g.1; heads = g.2 }, a, h), i); status = tt };
        marks = last_on (stack_marks o) (spelling e) (at p w) (spelling e ++ (at p (word.Name n) ∷ [])) (after_same (spelling e) (at p w ∷ []) (at p (word.Name n) ∷ []) ((refl, g.0), tt));
      }
  followed_holds o e p w (named n (Some (suc (suc (suc k))))) i a h g = tt
  followed_holds o e p w (scalar f m) i a h g =
      record {
        lawful = record { stack = i; status = (a, h) };
        marks = last_on (stack_marks o) (spelling e) (at p w) (spelling e ++ (at p (dya_glyph f) ∷ [])) (after_same (spelling e) (at p w ∷ []) (at p (dya_glyph f) ∷ []) ((refl, g.0), tt));
      }
  followed_holds o e p w (plain f (Some b)) i a h g =
      record {
        lawful = record { stack = ((g.1.0, a, h), i); status = tt };
        marks = last_on (stack_marks o) (spelling e) (at p w) (wait_marks (for_dyadic b e p)) (after_same (spelling e) (at p w ∷ []) (dyadic_marks b p) (imply_eq (at p w ∷ []) (dyadic_marks b p) (sym (g.1.1 p))));
      }
  followed_holds o e p w (plain f None) i a h g = tt
  followed_holds o e p w turn i a h g =
      record {
        lawful = record { stack = i; status = (a, h) };
        marks = last_on (stack_marks o) (spelling e) (at p w) (spelling e ++ (at p (glyph "⌽") ∷ [])) (after_same (spelling e) (at p w ∷ []) (at p (glyph "⌽") ∷ []) ((refl, g), tt));
      }
  followed_holds o e p w slash i a h g =
      record {
        lawful = record { stack = i; status = (a, h) };
        marks = last_on (stack_marks o) (spelling e) (at p w) (spelling e ++ (at p (glyph "/") ∷ [])) (after_same (spelling e) (at p w ∷ []) (at p (glyph "/") ∷ []) ((refl, g), tt));
      }
  followed_holds o e p w slash_first i a h g =
      record {
        lawful = record { stack = ((tt, a, h), i); status = tt };
        marks = last_on (stack_marks o) (spelling e) (at p w) (spelling e ++ (at p (glyph "⌿") ∷ [])) (after_same (spelling e) (at p w ∷ []) (at p (glyph "⌿") ∷ []) ((refl, g), tt));
      }
  followed_holds o e p w backslash i a h g =
      record {
        lawful = record { stack = i; status = (a, h) };
        marks = last_on (stack_marks o) (spelling e) (at p w) (spelling e ++ (at p (glyph "\\") ∷ [])) (after_same (spelling e) (at p w ∷ []) (at p (glyph "\\") ∷ []) ((refl, g), tt));
      }
  followed_holds o e p w jot i a h g =
      record {
        lawful = record { stack = i; status = (a, h) };
        marks = last_on (stack_marks o) (spelling e) (at p w) (spelling e ++ (at p (glyph "∘") ∷ [])) (after_same (spelling e) (at p w ∷ []) (at p (glyph "∘") ∷ []) ((refl, g), tt));
      }
  followed_holds o e p w dot i a h g = tt
  followed_holds o e p w assign i a h g = assigned_holds e o p w h i g
  followed_holds o e p w arrow i a h g = tt
  followed_holds o e p w quad i a h g = tt
  followed_holds o e p w open_paren i a h g = tt
  followed_holds o e p w close_paren i a h g =
      let r = wind_holds e o h i in
      from_marks (stack_marks (wind e o).stack ++ spelling (wind e o).tree) (stack_marks o ++ spelling e) p w (close_parenthesis (wind e o).tree (wind e o).stack) r.marks
      (close_parenthesis_holds (wind e o).tree (wind e o).stack p w r.tree r.stack g)
  followed_holds o e p w open_bracket i a h g =
      record {
        lawful = record { stack = (a, h, tt, i); status = tt };
        marks = last_on (stack_marks o) (spelling e) (at p w) (spelling e ++ (at p (glyph "[") ∷ [])) (after_same (spelling e) (at p w ∷ []) (at p (glyph "[") ∷ []) ((refl, g), tt));
      }
  followed_holds o e p w close_bracket i a h g =
      let r = wind_holds e o h i in
      from_marks (stack_marks (wind e o).stack ++ spelling (wind e o).tree) (stack_marks o ++ spelling e) p w (close_subscript (given (wind e o).tree) (wind e o).stack) r.marks
      (close_subscript_holds (given (wind e o).tree) (wind e o).stack p w r.tree r.stack g)
  followed_holds o e p w semicolon i a h g =
      let r = wind_holds e o h i in
      from_marks (stack_marks (wind e o).stack ++ spelling (wind e o).tree) (stack_marks o ++ spelling e) p w (next_position (given (wind e o).tree) (wind e o).stack) r.marks
      (next_position_holds (given (wind e o).tree) (wind e o).stack p w r.tree r.stack g)
  followed_holds o e p w other i a h g = tt

  first_holds : (o : Stack) (p : Place) (w : Word) (s : Sort) → IsStack hs o → stack_marks o ≡ [] → IsSortOf hs w s → GoesOn (stack_marks o) p w (first_taken o p s)
  first_holds o p w arrow i a g =
      record { lawful = record { stack = tt; status = tt }; marks = imply_by (stack_marks o ++ at p w ∷ []) (at p w ∷ []) (at p (glyph "→") ∷ []) (at p (glyph "→") ∷ []) (ap (λ ms. ms ++ at p w ∷ []) a) refl ((refl, g), tt) }
  first_holds o p w s i a g = begun_holds o p w s i g

  may_holds : (o : Stack) (p : Place) (w : Word) (s : Sort) → IsStack hs o → IsSortOf hs w s → GoesOn (stack_marks o) p w (may_begin o p s)
  may_holds o p w close_bracket i g = from_marks (stack_marks o ++ []) (stack_marks o) p w (close_subscript elided o) (append-nil (stack_marks o)) (close_subscript_holds elided o p w tt i g)
  may_holds o p w semicolon i g = from_marks (stack_marks o ++ []) (stack_marks o) p w (next_position elided o) (append-nil (stack_marks o)) (next_position_holds elided o p w tt i g)
  may_holds o p w s i g = begun_holds o p w s i g

  after_first_holds : (o : Stack) (f : Dya) (m : Option Mon) (q p : Place) (w : Word) (s : Sort) → IsStack hs o → Agree f m → IsSortOf hs w s →
      GoesOn (stack_marks o ++ (at q (dya_glyph f) ∷ [])) p w (after_first o f m q p s)
  after_first_holds o f m q p w slash i a g =
      record { lawful = record { stack = i; status = tt }; marks = last_on (stack_marks o) (at q (dya_glyph f) ∷ []) (at p w) (some (dya_glyph f) ∷ at p (glyph "/") ∷ []) (refl, ((refl, g), tt)) }
  after_first_holds o f m q p w slash_first i a g =
      record { lawful = record { stack = (tt, i); status = tt }; marks = last_on (stack_marks o) (at q (dya_glyph f) ∷ []) (at p w) (some (dya_glyph f) ∷ at p (glyph "⌿") ∷ []) (refl, ((refl, g), tt)) }
  after_first_holds o f None q p w s i a g = tt
  after_first_holds o f (Some m) q p w s i a g =
      from_marks (stack_marks o ++ (at q (mon_glyph m) ∷ [])) (stack_marks o ++ (at q (dya_glyph f) ∷ [])) p w (begun (waiting (for_monadic (one.Scalar m) q) o) p s)
      (ap (λ v. stack_marks o ++ (at q v ∷ [])) a) (begun_holds (waiting (for_monadic (one.Scalar m) q) o) p w s (tt, i) g)

  after_scalar_holds : (o : Stack) (f : Dya) (e : Tree) (q p : Place) (w : Word) (s : Sort) → IsStack hs o → IsOperand e → IsExpression hs e → IsSortOf hs w s →
      GoesOn (stack_marks o ++ (spelling e ++ (at q (dya_glyph f) ∷ []))) p w (after_scalar o f e q p s)
  after_scalar_holds o f e q p w dot i a h g =
      record { lawful = record { stack = i; status = (a, h) }; marks = last_in (stack_marks o) (spelling e) (at q (dya_glyph f) ∷ []) (at p w) (some (dya_glyph f) ∷ at p (glyph ".") ∷ []) (refl, ((refl, g), tt)) }
  after_scalar_holds o f e q p w s i a h g = begun_holds (waiting (for_dyadic (two.Scalar f) e q) o) p w s ((tt, a, h), i) g

  axis_begun_holds : (o : Stack) (a : Along) (p : Place) (w : Word) (s : Sort) → IsStack hs o → IsAlong hs a → IsSortOf hs w s →
      GoesOn (stack_marks o ++ along_marks a) p w (axis_begun o a p s)
  axis_begun_holds o a p w open_bracket i h g =
      record { lawful = record { stack = i; status = h }; marks = last_on (stack_marks o) (along_marks a) (at p w) (along_marks a ++ (some (glyph "[") ∷ [])) (after_same (along_marks a) (at p w ∷ []) (some (glyph "[") ∷ []) (g, tt)) }
  axis_begun_holds o a p w s i h g =
      from_marks (stack_marks o ++ wait_marks (along_axis a axis.Last)) (stack_marks o ++ along_marks a) p w (begun (waiting (along_axis a axis.Last) o) p s)
      (ap (λ ms. stack_marks o ++ ms) (axis_last a)) (begun_holds (waiting (along_axis a axis.Last) o) p w s (axis_last_lawful hs a h, i) g)

  axis_number_holds : (o : Stack) (a : Along) (k : Kind) (zs : List ℤ) (p : Place) (w : Word) → IsStack hs o → IsAlong hs a →
      w ≡ literal_word (record { kind = k; cells = zs }) → IsLiteral (record { kind = k; cells = zs }) →
      GoesOn (stack_marks o ++ (along_marks a ++ (some (glyph "[") ∷ []))) p w (axis_number o a (record { kind = k; cells = zs }))
  axis_number_holds o a kind.Char zs p w i h g l = tt
  axis_number_holds o a kind.Num [] p w i h g l = tt
  axis_number_holds o a kind.Num (z ∷ []) p w i h g l =
      record {
        lawful = record { stack = i; status = (h, l.cells.0) };
        marks = last_in (stack_marks o) (along_marks a) (some (glyph "[") ∷ []) (at p w) (some (glyph "[") ∷ some (word.Numbers (z ∷ [])) ∷ []) (refl, (g, tt));
      }
  axis_number_holds o a kind.Num (z ∷ y ∷ ys) p w i h g l = tt

  axis_taken_holds : (o : Stack) (a : Along) (p : Place) (w : Word) (s : Sort) → IsStack hs o → IsAlong hs a → IsSortOf hs w s →
      GoesOn (stack_marks o ++ (along_marks a ++ (some (glyph "[") ∷ []))) p w (axis_taken o a s)
  axis_taken_holds o a p w (literal l) i h g = axis_number_holds o a l.kind l.cells p w i h g.0 g.1
  axis_taken_holds o a p w _ i h g = tt

  axis_closed_holds : (o : Stack) (a : Along) (x : Axis) (p : Place) (w : Word) (s : Sort) → IsStack hs o → IsAlong hs a → IsNumbered x → IsSortOf hs w s →
      GoesOn (stack_marks o ++ (along_marks a ++ number_marks x)) p w (axis_closed o a x s)
  axis_closed_holds o a axis.Last p w s i h k g = absurd k
  axis_closed_holds o a axis.First p w s i h k g = absurd k
  axis_closed_holds o a (axis.Numbered z) p w close_bracket i h k g =
      record {
        lawful = record { stack = (axis_numbered_lawful hs a z h k, i); status = tt };
        marks = imply_by ((stack_marks o ++ (along_marks a ++ number_marks (axis.Numbered z))) ++ at p w ∷ []) ((stack_marks o ++ (along_marks a ++ number_marks (axis.Numbered z))) ++ at p w ∷ [])
            (stack_marks o ++ wait_marks (along_axis a (axis.Numbered z))) (stack_marks o ++ (along_marks a ++ (some (glyph "[") ∷ some (word.Numbers (z ∷ [])) ∷ some (glyph "]") ∷ [])))
            refl (ap (λ ms. stack_marks o ++ ms) (axis_numbered a z))
            (last_in (stack_marks o) (along_marks a) (number_marks (axis.Numbered z)) (at p w) (some (glyph "[") ∷ some (word.Numbers (z ∷ [])) ∷ some (glyph "]") ∷ []) (refl, (refl, (g, tt))));
      }
  axis_closed_holds o a (axis.Numbered z) p w _ i h k g = tt

  dot_holds : (o : Stack) (e : Tree) (q p : Place) (w : Word) (s : Sort) → IsStack hs o → IsOperand e → IsExpression hs e → IsSortOf hs w s →
      GoesOn (stack_marks o ++ (spelling e ++ (at q (glyph "∘") ∷ []))) p w (dot_taken o e q s)
  dot_holds o e q p w dot i a h g =
      record { lawful = record { stack = i; status = (a, h) }; marks = last_in (stack_marks o) (spelling e) (at q (glyph "∘") ∷ []) (at p w) (at q (glyph "∘") ∷ some (glyph ".") ∷ []) ((refl, refl), (g, tt)) }
  dot_holds o e q p w _ i a h g = tt

  outer_holds : (o : Stack) (e : Tree) (q p : Place) (w : Word) (s : Sort) → IsStack hs o → IsOperand e → IsExpression hs e → IsSortOf hs w s →
      GoesOn (stack_marks o ++ (spelling e ++ (at q (glyph "∘") ∷ some (glyph ".") ∷ []))) p w (outer_taken o e q s)
  outer_holds o e q p w (scalar f m) i a h g =
      record { lawful = record { stack = ((a, h), i); status = tt }; marks = last_in (stack_marks o) (spelling e) (at q (glyph "∘") ∷ some (glyph ".") ∷ []) (at p w) (at q (glyph "∘") ∷ some (glyph ".") ∷ some (dya_glyph f) ∷ []) ((refl, refl), (refl, (g.0, tt))) }
  outer_holds o e q p w _ i a h g = tt

  inner_holds : (o : Stack) (f : Dya) (e : Tree) (q p : Place) (w : Word) (s : Sort) → IsStack hs o → IsOperand e → IsExpression hs e → IsSortOf hs w s →
      GoesOn (stack_marks o ++ (spelling e ++ (some (dya_glyph f) ∷ at q (glyph ".") ∷ []))) p w (inner_taken o f e q s)
  inner_holds o f e q p w (scalar d m) i a h g =
      record { lawful = record { stack = ((a, h), i); status = tt }; marks = last_in (stack_marks o) (spelling e) (some (dya_glyph f) ∷ at q (glyph ".") ∷ []) (at p w) (some (dya_glyph f) ∷ at q (glyph ".") ∷ some (dya_glyph d) ∷ []) (refl, ((refl, refl), (g.0, tt))) }
  inner_holds o f e q p w _ i a h g = tt

  quad_holds : (o : Stack) (q p : Place) (w : Word) (s : Sort) → IsStack hs o → IsSortOf hs w s →
      GoesOn (stack_marks o ++ (at q (glyph "⎕") ∷ [])) p w (quad_taken o q s)
  quad_holds o q p w assign i g =
      record { lawful = record { stack = (tt, i); status = tt }; marks = last_on (stack_marks o) (at q (glyph "⎕") ∷ []) (at p w) (at q (glyph "⎕") ∷ some (glyph "←") ∷ []) ((refl, refl), (g, tt)) }
  quad_holds o q p w _ i g = tt

  taken_holds : (x : State) (p : Place) (w : Word) (s : Sort) → IsState hs x → IsSortOf hs w s → GoesOn (marks x) p w (taken x p s)
  taken_holds x p w s h g = by_status x.stack x.status h.stack h.status
    where
      by_status : (o : Stack) (y : Status) → IsStack hs o → IsStatus hs o y → GoesOn (marks (state o y)) p w (taken_by o y p s)
      by_status o first i a = first_holds o p w s i a g
      by_status o must i a = begun_holds o p w s i g
      by_status o may i a = may_holds o p w s i g
      by_status o (operand e) i a = followed_holds o e p w s i a.0 a.1 g
      by_status o (glyph_first f m q) i a = after_first_holds o f m q p w s i a g
      by_status o (glyph_after f e q) i a = after_scalar_holds o f e q p w s i a.0 a.1 g
      by_status o (axis_or_none b) i a = axis_begun_holds o b p w s i a g
      by_status o (axis_opened b) i a = axis_taken_holds o b p w s i a g
      by_status o (axis_given b z) i a = axis_closed_holds o b z p w s i a.0 a.1 g
      by_status o (after_jot e q) i a = dot_holds o e q p w s i a.0 a.1 g
      by_status o (after_jot_dot e q) i a = outer_holds o e q p w s i a.0 a.1 g
      by_status o (after_dot f e q) i a = inner_holds o f e q p w s i a.0 a.1 g
      by_status o (after_quad q) i a = quad_holds o q p w s i g

  -- ---- All tokens ----

  module _ (n : ℕ) where
    -- what has been read, where the reader goes on
    abbrev pub HasRead : Option State → List Token → Type 0
    HasRead None ts = Unit {0}
    HasRead (Some x) ts = IsState hs x × Spell n (marks x) ts

    one_more : (x : State) (ts : List Token) (t : Token) (y : Option State) → Spell n (marks x) ts →
        GoesOn (marks x) (record { line = n; column = t.from }) t.word y → HasRead y (ts ++ t ∷ [])
    one_more x ts t None s g = tt
    one_more x ts t (Some y) s g = (
      g.lawful,
      spell_implied n (marks x ++ at (record { line = n; column = t.from }) t.word ∷ []) (marks y) (ts ++ t ∷ []) g.marks
          (spell_more n (marks x) ts (at (record { line = n; column = t.from }) t.word) t s (refl, refl)),
    )

    step_read : (x : Option State) (ts : List Token) (t : Token) → IsWord t.word → HasRead x ts → HasRead (option_and_then (λ y. step hs n y t) x) (ts ++ t ∷ [])
    step_read None ts t i h = tt
    step_read (Some x) ts t i h =
        one_more x ts t (step hs n x t) h.1 (taken_holds x (record { line = n; column = t.from }) t.word (sort hs t.word) h.0 (sort_holds hs t.word i))

    pub run_read : (x : Option State) (ts us : List Token) → AreWords us → HasRead x ts → HasRead (run hs n x us) (ts ++ us)
    run_read x ts [] i h = subst (λ v. HasRead x v) (sym (append-nil ts)) h
    run_read x ts (t ∷ us) i h =
        subst (λ v. HasRead (run hs n (option_and_then (λ y. step hs n y t) x) us) v) (append_assoc ts (t ∷ []) us)
        (run_read (option_and_then (λ y. step hs n y t) x) (ts ++ t ∷ []) us i.1 (step_read x ts t i.0 h))

    abbrev pub IsEnding : List Token → Option Statement → Type 0
    IsEnding ts None = Unit {0}
    IsEnding ts (Some s) = IsStatement hs s × Spell n (statement_spelling s) ts

    finished_with_holds : (e : Tree) (o : Stack) (ts : List Token) → IsExpression hs e → Spell n (stack_marks o ++ spelling e) ts → IsEnding ts (finished_with e o)
    finished_with_holds e (bottom None) ts h s = (h, s)
    finished_with_holds e (bottom (Some p)) ts h s = (h, s)
    finished_with_holds e (waiting w o) ts h s = tt
    finished_with_holds e (in_parenthesis p o) ts h s = tt
    finished_with_holds e (in_subscript a qs p o) ts h s = tt

    finished_by : (o : Stack) (y : Status) (ts : List Token) → IsStack hs o → IsStatus hs o y → Spell n (marks (state o y)) ts → IsEnding ts (finished (state o y))
    finished_by o first ts i a s = (tt, subst (λ ms. Spell n ms ts) a s)
    finished_by o (operand e) ts i a s =
        let r = wind_holds e o a.1 i in
        finished_with_holds (wind e o).tree (wind e o).stack ts r.tree (subst (λ ms. Spell n ms ts) (sym r.marks) s)
    finished_by o _ ts i a s = tt

    read_holds : (x : Option State) (ts : List Token) → HasRead x ts → IsEnding ts (option_and_then finished x)
    read_holds None ts h = tt
    read_holds (Some x) ts h = finished_by x.stack x.status ts h.0.stack h.0.status h.1

    -- a statement that the reader gives is one of the language, and spells the tokens
    pub read_sound : (ts : List Token) (s : Statement) → AreWords ts → read hs n ts ≡ Some s → IsStatement hs s × Spell n (statement_spelling s) ts
    read_sound ts s i e =
        subst (λ v. IsEnding ts v) e (read_holds (run hs n (Some start) ts) ts (run_read (Some start) [] ts i (record { stack = tt; status = refl }, tt)))

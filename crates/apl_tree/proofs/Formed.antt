-- A form that is put together: a wait with its right argument, one more position, an axis.
use Rattle.std.proofs.Common.{◌≡◌, List, [], ◌∷◌, ◌++◌, ℤ, refl, sym, ap, ◌∙◌, append_assoc, append-nil}
use Rattle.apl_model.proofs.Machine.{Wait, for_call, for_monadic, for_dyadic, for_reduction, for_outer, for_inner, for_assignment, for_indexed, for_output, filled, Along, reduces, reverses, rotates, compresses, expands, along_axis, then_position}
use Rattle.apl_model.specs.Grammar.{IsExpression, HasPosition, IsPosition, ArePositions}
use Rattle.apl_model.specs.Spelling.{Mark, at, some, glyph, dya_glyph, dyadic_marks, spelling, slot_spelling, position_spelling}
use Rattle.apl_model.specs.Tree.{Tree, Slot, elided, given, Positions, no_position, position}
use Rattle.apl_model.specs.declared.functions.Axis.TheVariants as axis
use Rattle.apl_model.specs.declared.tokens.Heading.{Heading}
use Rattle.apl_model.specs.declared.tokens.Word.TheVariants as word
use Rattle.apl_tree.proofs.Shown.{open_positions, wait_marks, along_marks, IsNumbered, IsWait, IsAlong}

-- ---- A form with its right argument ----

pub filled_marks : (w : Wait) (e : Tree) → spelling (filled w e) ≡ wait_marks w ++ spelling e
filled_marks (for_call f elided p) e = refl
filled_marks (for_call f (given l) p) e = sym (append_assoc (spelling l) (at p (word.Name f) ∷ []) (spelling e))
filled_marks (for_monadic f p) e = refl
filled_marks (for_dyadic f l p) e = sym (append_assoc (spelling l) (dyadic_marks f p) (spelling e))
filled_marks (for_reduction f x p) e = refl
filled_marks (for_outer f l p) e = sym (append_assoc (spelling l) (at p (glyph "∘") ∷ some (glyph ".") ∷ some (dya_glyph f) ∷ []) (spelling e))
filled_marks (for_inner f g l p) e = sym (append_assoc (spelling l) (some (dya_glyph f) ∷ at p (glyph ".") ∷ some (dya_glyph g) ∷ []) (spelling e))
filled_marks (for_assignment n p) e = refl
filled_marks (for_indexed n qs p) e = ap (λ ms. some (word.Name n) ∷ ms) (sym (append_assoc (position_spelling (at p (glyph "[")) qs) (some (glyph "]") ∷ some (glyph "←") ∷ []) (spelling e)))
filled_marks (for_output p) e = refl

-- ---- One more position ----

pub then_closed : (lead : Mark) (qs : Positions) (s : Slot) → position_spelling lead (then_position qs s) ≡ open_positions lead qs ++ slot_spelling s
then_closed lead no_position s = ap (λ ms. lead ∷ ms) (append-nil (slot_spelling s))
then_closed lead (position q qs) s =
    ap (λ ms. lead ∷ ms) (ap (λ ms. slot_spelling q ++ ms) (then_closed (some (glyph ";")) qs s)
    ∙ sym (append_assoc (slot_spelling q) (open_positions (some (glyph ";")) qs) (slot_spelling s)))

pub then_open : (lead : Mark) (qs : Positions) (s : Slot) → open_positions lead (then_position qs s) ≡ (open_positions lead qs ++ slot_spelling s) ++ (some (glyph ";") ∷ [])
then_open lead no_position s = refl
then_open lead (position q qs) s =
    ap (λ ms. lead ∷ ms) (ap (λ ms. slot_spelling q ++ ms) (then_open (some (glyph ";")) qs s)
    ∙ sym (append_assoc (slot_spelling q) (open_positions (some (glyph ";")) qs ++ slot_spelling s) (some (glyph ";") ∷ []))
    ∙ ap (λ ms. ms ++ (some (glyph ";") ∷ [])) (sym (append_assoc (slot_spelling q) (open_positions (some (glyph ";")) qs) (slot_spelling s))))

pub then_has : (qs : Positions) (s : Slot) → HasPosition (then_position qs s)
then_has no_position s = tt
then_has (position q qs) s = tt

-- ---- An axis ----

pub axis_last : (a : Along) → wait_marks (along_axis a axis.Last) ≡ along_marks a
axis_last (reduces f p) = refl
axis_last (reverses p) = refl
axis_last (rotates l p) = refl
axis_last (compresses l p) = refl
axis_last (expands l p) = refl

pub axis_numbered : (a : Along) (k : ℤ) → wait_marks (along_axis a (axis.Numbered k)) ≡ along_marks a ++ (some (glyph "[") ∷ some (word.Numbers (k ∷ [])) ∷ some (glyph "]") ∷ [])
axis_numbered (reduces f p) k = refl
axis_numbered (reverses p) k = refl
axis_numbered (rotates l p) k = sym (append_assoc (spelling l) (at p (glyph "⌽") ∷ []) (some (glyph "[") ∷ some (word.Numbers (k ∷ [])) ∷ some (glyph "]") ∷ []))
axis_numbered (compresses l p) k = sym (append_assoc (spelling l) (at p (glyph "/") ∷ []) (some (glyph "[") ∷ some (word.Numbers (k ∷ [])) ∷ some (glyph "]") ∷ []))
axis_numbered (expands l p) k = sym (append_assoc (spelling l) (at p (glyph "\\") ∷ []) (some (glyph "[") ∷ some (word.Numbers (k ∷ [])) ∷ some (glyph "]") ∷ []))

module _ (hs : List Heading) where
  pub filled_lawful : (w : Wait) (e : Tree) → IsWait hs w → IsExpression hs e → IsExpression hs (filled w e)
  filled_lawful (for_call f elided p) e h i = (h, i)
  filled_lawful (for_call f (given l) p) e h i = (h.0, h.1, h.2, i)
  filled_lawful (for_monadic f p) e h i = (h, i)
  filled_lawful (for_dyadic f l p) e h i = (h.0, h.1, h.2, i)
  filled_lawful (for_reduction f x p) e h i = (h, i)
  filled_lawful (for_outer f l p) e h i = (h.0, h.1, i)
  filled_lawful (for_inner f g l p) e h i = (h.0, h.1, i)
  filled_lawful (for_assignment n p) e h i = (h, i)
  filled_lawful (for_indexed n qs p) e h i = (h.0, h.1, h.2, i)
  filled_lawful (for_output p) e h i = i

  pub then_are : (qs : Positions) (s : Slot) → ArePositions hs qs → IsPosition hs s → ArePositions hs (then_position qs s)
  then_are no_position s h i = (i, tt)
  then_are (position q qs) s h i = (h.0, then_are qs s h.1 i)

  pub axis_last_lawful : (a : Along) → IsAlong hs a → IsWait hs (along_axis a axis.Last)
  axis_last_lawful (reduces f p) h = tt
  axis_last_lawful (reverses p) h = tt
  axis_last_lawful (rotates l p) h = (tt, h.0, h.1)
  axis_last_lawful (compresses l p) h = (tt, h.0, h.1)
  axis_last_lawful (expands l p) h = (tt, h.0, h.1)

  pub axis_numbered_lawful : (a : Along) (k : ℤ) → IsAlong hs a → IsNumbered (axis.Numbered k) → IsWait hs (along_axis a (axis.Numbered k))
  axis_numbered_lawful (reduces f p) k h i = i
  axis_numbered_lawful (reverses p) k h i = i
  axis_numbered_lawful (rotates l p) k h i = (i, h.0, h.1)
  axis_numbered_lawful (compresses l p) k h i = (i, h.0, h.1)
  axis_numbered_lawful (expands l p) k h i = (i, h.0, h.1)

-- What the reader has read so far, as marks, and which of its states are lawful.
use Rattle.std.proofs.Common.{◌≡◌, ℕ, List, [], ◌∷◌, ◌++◌, Option, None, Some, refl, sym, subst, ◌∙◌, append_assoc}
use Rattle.apl_base.specs.Number.{IsNumber}
use Rattle.apl_base.specs.declared.faults.Place.{Place}
use Rattle.apl_base.specs.declared.rows.Dya.{Dya}
use Rattle.apl_base.specs.declared.rows.Mon.{Mon}
use Rattle.apl_model.proofs.Machine.{Wait, for_call, for_monadic, for_dyadic, for_reduction, for_outer, for_inner, for_assignment, for_indexed, for_output, Stack, bottom, waiting, in_parenthesis, in_subscript, Along, reduces, reverses, rotates, compresses, expands, Status, first, must, may, operand, glyph_first, glyph_after, axis_or_none, axis_opened, axis_given, after_jot, after_jot_dot, after_dot, after_quad, State}
use Rattle.apl_model.specs.Grammar.{IsAxis, IsMonadic, IsDyadic, IsOperand, IsVariable, IsFunction, HasPosition, IsExpression, ArePositions}
use Rattle.apl_model.specs.Spelling.{Mark, at, some, glyph, mon_glyph, dya_glyph, along, monadic_marks, dyadic_marks, spelling, slot_spelling, position_spelling, Fits, Spell}
use Rattle.apl_model.specs.Tree.{elided, given, Positions, no_position, position}
use Rattle.apl_model.specs.declared.functions.Axis.{Axis}
use Rattle.apl_model.specs.declared.functions.Axis.TheVariants as axis
use Rattle.apl_model.specs.declared.tokens.Heading.{Heading}
use Rattle.apl_model.specs.declared.tokens.Token.{Token}
use Rattle.apl_model.specs.declared.tokens.Word.TheVariants as word

-- ---- The marks ----

-- positions that are not closed yet: the last mark opens one more
abbrev pub open_positions : Mark → Positions → List Mark
open_positions lead no_position = lead ∷ []
open_positions lead (position q qs) = lead ∷ (slot_spelling q ++ open_positions (some (glyph ";")) qs)

abbrev pub wait_marks : Wait → List Mark
wait_marks (for_call f left p) = slot_spelling left ++ (at p (word.Name f) ∷ [])
wait_marks (for_monadic f p) = monadic_marks f p
wait_marks (for_dyadic f left p) = spelling left ++ dyadic_marks f p
wait_marks (for_reduction f x p) = some (dya_glyph f) ∷ along "/" "⌿" x p
wait_marks (for_outer f left p) = spelling left ++ (at p (glyph "∘") ∷ some (glyph ".") ∷ some (dya_glyph f) ∷ [])
wait_marks (for_inner f g left p) = spelling left ++ (some (dya_glyph f) ∷ at p (glyph ".") ∷ some (dya_glyph g) ∷ [])
wait_marks (for_assignment n p) = at p (word.Name n) ∷ some (glyph "←") ∷ []
wait_marks (for_indexed n qs p) = some (word.Name n) ∷ (position_spelling (at p (glyph "[")) qs ++ (some (glyph "]") ∷ some (glyph "←") ∷ []))
wait_marks (for_output p) = at p (glyph "⎕") ∷ some (glyph "←") ∷ []

abbrev pub branch_marks : Option Place → List Mark
branch_marks None = []
branch_marks (Some p) = at p (glyph "→") ∷ []

abbrev pub stack_marks : Stack → List Mark
stack_marks (bottom b) = branch_marks b
stack_marks (waiting w o) = stack_marks o ++ wait_marks w
stack_marks (in_parenthesis p o) = stack_marks o ++ (at p (glyph "(") ∷ [])
stack_marks (in_subscript a qs p o) = stack_marks o ++ (spelling a ++ open_positions (at p (glyph "[")) qs)

abbrev pub along_marks : Along → List Mark
along_marks (reduces f p) = some (dya_glyph f) ∷ at p (glyph "/") ∷ []
along_marks (reverses p) = at p (glyph "⌽") ∷ []
along_marks (rotates left p) = spelling left ++ (at p (glyph "⌽") ∷ [])
along_marks (compresses left p) = spelling left ++ (at p (glyph "/") ∷ [])
along_marks (expands left p) = spelling left ++ (at p (glyph "\\") ∷ [])

-- the [ and the number of an axis
abbrev pub number_marks : Axis → List Mark
number_marks axis.Last = []
number_marks axis.First = []
number_marks (axis.Numbered k) = some (glyph "[") ∷ some (word.Numbers (k ∷ [])) ∷ []

abbrev pub marks_by : Stack → Status → List Mark
marks_by o first = stack_marks o
marks_by o must = stack_marks o
marks_by o may = stack_marks o
marks_by o (operand e) = stack_marks o ++ spelling e
marks_by o (glyph_first f m p) = stack_marks o ++ (at p (dya_glyph f) ∷ [])
marks_by o (glyph_after f e p) = stack_marks o ++ (spelling e ++ (at p (dya_glyph f) ∷ []))
marks_by o (axis_or_none a) = stack_marks o ++ along_marks a
marks_by o (axis_opened a) = stack_marks o ++ (along_marks a ++ (some (glyph "[") ∷ []))
marks_by o (axis_given a x) = stack_marks o ++ (along_marks a ++ number_marks x)
marks_by o (after_jot e p) = stack_marks o ++ (spelling e ++ (at p (glyph "∘") ∷ []))
marks_by o (after_jot_dot e p) = stack_marks o ++ (spelling e ++ (at p (glyph "∘") ∷ some (glyph ".") ∷ []))
marks_by o (after_dot f e p) = stack_marks o ++ (spelling e ++ (some (dya_glyph f) ∷ at p (glyph ".") ∷ []))
marks_by o (after_quad p) = stack_marks o ++ (at p (glyph "⎕") ∷ [])

abbrev pub marks : State → List Mark
marks x = marks_by x.stack x.status

-- ---- Lawful states ----

-- the two readings of a glyph have the same glyph
abbrev pub Agree : Dya → Option Mon → Type 0
Agree f None = Unit {0}
Agree f (Some m) = mon_glyph m ≡ dya_glyph f

abbrev pub IsNumbered : Axis → Type 0
IsNumbered axis.Last = ⊥
IsNumbered axis.First = ⊥
IsNumbered (axis.Numbered k) = IsNumber k

module _ (hs : List Heading) where
  abbrev pub IsWait : Wait → Type 0
  IsWait (for_call f elided p) = IsFunction hs f 1
  IsWait (for_call f (given left) p) = IsFunction hs f 2 × IsOperand left × IsExpression hs left
  IsWait (for_monadic f p) = IsMonadic f
  IsWait (for_dyadic f left p) = IsDyadic f × IsOperand left × IsExpression hs left
  IsWait (for_reduction f x p) = IsAxis x
  IsWait (for_outer f left p) = IsOperand left × IsExpression hs left
  IsWait (for_inner f g left p) = IsOperand left × IsExpression hs left
  IsWait (for_assignment n p) = IsVariable hs n
  IsWait (for_indexed n qs p) = IsVariable hs n × HasPosition qs × ArePositions hs qs
  IsWait (for_output p) = Unit {0}

  abbrev pub IsStack : Stack → Type 0
  IsStack (bottom b) = Unit {0}
  IsStack (waiting w o) = IsWait w × IsStack o
  IsStack (in_parenthesis p o) = IsStack o
  IsStack (in_subscript a qs p o) = IsOperand a × IsExpression hs a × ArePositions hs qs × IsStack o

  abbrev pub IsAlong : Along → Type 0
  IsAlong (reduces f p) = Unit {0}
  IsAlong (reverses p) = Unit {0}
  IsAlong (rotates left p) = IsOperand left × IsExpression hs left
  IsAlong (compresses left p) = IsOperand left × IsExpression hs left
  IsAlong (expands left p) = IsOperand left × IsExpression hs left

  abbrev pub IsStatus : Stack → Status → Type 0
  IsStatus o first = stack_marks o ≡ []
  IsStatus o must = Unit {0}
  IsStatus o may = Unit {0}
  IsStatus o (operand e) = IsOperand e × IsExpression hs e
  IsStatus o (glyph_first f m p) = Agree f m
  IsStatus o (glyph_after f e p) = IsOperand e × IsExpression hs e
  IsStatus o (axis_or_none a) = IsAlong a
  IsStatus o (axis_opened a) = IsAlong a
  IsStatus o (axis_given a x) = IsAlong a × IsNumbered x
  IsStatus o (after_jot e p) = IsOperand e × IsExpression hs e
  IsStatus o (after_jot_dot e p) = IsOperand e × IsExpression hs e
  IsStatus o (after_dot f e p) = IsOperand e × IsExpression hs e
  IsStatus o (after_quad p) = Unit {0}

  pub record IsState (x : State) : Type 0 where
    pub stack : IsStack x.stack
    pub status : IsStatus x.stack x.status

-- ---- Marks that say no more than others ----

abbrev pub Implies : Mark → Mark → Type 0
Implies (at p v) (at q w) = (p ≡ q) × (v ≡ w)
Implies (at p v) (some w) = v ≡ w
Implies (some v) (at q w) = ⊥
Implies (some v) (some w) = v ≡ w

abbrev pub Imply : List Mark → List Mark → Type 0
Imply [] [] = Unit {0}
Imply [] (b ∷ bs) = ⊥
Imply (a ∷ ks) [] = ⊥
Imply (a ∷ ks) (b ∷ bs) = Implies a b × Imply ks bs

implies_refl : (a : Mark) → Implies a a
implies_refl (at p w) = (refl, refl)
implies_refl (some w) = refl

pub imply_refl : (ks : List Mark) → Imply ks ks
imply_refl [] = tt
imply_refl (a ∷ ks) = (implies_refl a, imply_refl ks)

pub imply_append : (ks bs cs ds : List Mark) → Imply ks bs → Imply cs ds → Imply (ks ++ cs) (bs ++ ds)
imply_append [] [] cs ds h i = i
imply_append [] (b ∷ bs) cs ds h i = absurd h
imply_append (a ∷ ks) [] cs ds h i = absurd h
imply_append (a ∷ ks) (b ∷ bs) cs ds h i = (h.0, imply_append ks bs cs ds h.1 i)

-- the same marks before
pub after_same : (ks cs ds : List Mark) → Imply cs ds → Imply (ks ++ cs) (ks ++ ds)
after_same ks cs ds h = imply_append ks ks cs ds (imply_refl ks) h

pub imply_eq : (ks bs : List Mark) → ks ≡ bs → Imply ks bs
imply_eq ks bs e = subst (λ v. Imply ks v) e (imply_refl ks)

pub imply_by : (ks bs cs ds : List Mark) → ks ≡ bs → cs ≡ ds → Imply bs ds → Imply ks cs
imply_by ks bs cs ds e f h = subst (λ v. Imply v cs) (sym e) (subst (λ v. Imply bs v) (sym f) h)

-- a last mark, behind marks that stay and some that may say less
pub last_on : (ks cs : List Mark) (m : Mark) (ds : List Mark) → Imply (cs ++ m ∷ []) ds → Imply ((ks ++ cs) ++ m ∷ []) (ks ++ ds)
last_on ks cs m ds h = imply_by ((ks ++ cs) ++ m ∷ []) (ks ++ (cs ++ m ∷ [])) (ks ++ ds) (ks ++ ds) (append_assoc ks cs (m ∷ [])) refl (after_same ks (cs ++ m ∷ []) ds h)

pub last_in : (ks bs cs : List Mark) (m : Mark) (ds : List Mark) → Imply (cs ++ m ∷ []) ds → Imply ((ks ++ (bs ++ cs)) ++ m ∷ []) (ks ++ (bs ++ ds))
last_in ks bs cs m ds h = last_on ks (bs ++ cs) m (bs ++ ds) (last_on bs cs m ds h)

fits_implies : (n : ℕ) (a b : Mark) (t : Token) → Implies a b → Fits n a t → Fits n b t
fits_implies n (at p v) (at q w) t h f = (sym h.0 ∙ f.0, sym h.1 ∙ f.1)
fits_implies n (at p v) (some w) t h f = sym h ∙ f.1
fits_implies n (some v) (at q w) t h f = absurd h
fits_implies n (some v) (some w) t h f = sym h ∙ f

pub spell_implied : (n : ℕ) (ks bs : List Mark) (ts : List Token) → Imply ks bs → Spell n ks ts → Spell n bs ts
spell_implied n [] [] ts h s = s
spell_implied n [] (b ∷ bs) ts h s = absurd h
spell_implied n (a ∷ ks) [] ts h s = absurd h
spell_implied n (a ∷ ks) (b ∷ bs) [] h s = absurd s
spell_implied n (a ∷ ks) (b ∷ bs) (t ∷ ts) h s = (fits_implies n a b t h.0 s.0, spell_implied n ks bs ts h.1 s.1)

-- one more mark fits one more token
pub spell_more : (n : ℕ) (ks : List Mark) (ts : List Token) (m : Mark) (t : Token) → Spell n ks ts → Fits n m t → Spell n (ks ++ m ∷ []) (ts ++ t ∷ [])
spell_more n [] [] m t s f = (f, tt)
spell_more n [] (u ∷ ts) m t s f = absurd s
spell_more n (a ∷ ks) [] m t s f = absurd s
spell_more n (a ∷ ks) (u ∷ ts) m t s f = (s.0, spell_more n ks ts m t s.1 f)

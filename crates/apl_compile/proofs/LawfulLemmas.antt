-- Lawful code has its operands, and the code of each statement is lawful.
use Rattle.std.proofs.Common.{◌≡◌, ◌≢◌, ℕ, zero, suc, Bool, true, false, List, [], ◌∷◌, ◌++◌, Option, Some, None, refl, ap, sym, subst, ◌∙◌, append_assoc}
use Rattle.std.specs.Option.{option_map, option_and_then}
use Rattle.apl_base.specs.declared.faults.Place.{Place}
use Rattle.apl_model.specs.Order.{Values}
use Rattle.apl_model.specs.Outcome.{Outcome, done, fails, spent, Flow, onwards}
use Rattle.apl_model.specs.Tree.{Tree, Slot, Positions, constant, variable, call, parenthesis, monadic, dyadic, reduction, outer_product, inner_product, subscript, assignment, indexed_assignment, output, elided, given, no_position, position, nothing, branch, expression}
use Rattle.apl_compile.specs.declared.codes.Instruction.{Instruction}
use Rattle.apl_compile.specs.declared.codes.Op.{Op}
use Rattle.apl_compile.specs.declared.codes.Op.TheVariants as op
use Rattle.apl_compile.specs.Code.{at, arguments, mask_of, expression_code, slot_code, positions_code, ending, printing, whole_code}
use Rattle.apl_compile.specs.Execution.{Doing, missing, goes_on, Taken, with_position, taken, with_result, put, indexed, replaced_by, replaced, called, called_with, act, exec}
use Rattle.apl_compile.specs.Lawful.{Operands, just, result_or_none, ended, less, with_value, after_call, after, after_code, Leads, IsLawfulCode, StatementsAreLawful, LawfulCodeHasOperands}

-- ---- lawful code has its operands

-- so many values
abbrev HasValues : {V : Type 0} → ℕ → List V → Type 0
HasValues zero [] = Unit {0}
HasValues (suc n) (v ∷ vs) = HasValues n vs
HasValues zero (v ∷ vs) = ⊥
HasValues (suc n) [] = ⊥

abbrev Fits : {V : Type 0} → Operands → List V → Type 0
Fits (just n) vs = HasValues n vs
Fits result_or_none [] = Unit {0}
Fits result_or_none (v ∷ []) = Unit {0}
Fits result_or_none (v ∷ w ∷ vs) = ⊥
Fits ended vs = ⊥

none_is_some : {A : Type 0} (a : A) → None ≡ Some a → ⊥
none_is_some a e = cc

just_is_ended : (n : ℕ) → Some (just n) ≡ Some ended → ⊥
just_is_ended n e = cc

call_is_ended : Some result_or_none ≡ Some ended → ⊥
call_is_ended e = cc

some_same : {A : Type 0} (a b : A) → Some a ≡ Some b → a ≡ b
some_same a b e = cc

goes_on-present : {S A B : Type 0} (o : Outcome S A) (next : A → S → Doing S B) → ((a : A) (s : S) → next a s ≢ missing) → goes_on o next ≢ missing
goes_on-present (done a s) next h = h a s
goes_on-present (fails kind place s) next h = λ e. cc
goes_on-present (spent s) next h = λ e. cc

counted_as : {V : Type 0} (n k : ℕ) (vs : List V) → HasValues n vs → Some n ≡ Some k → HasValues k vs
counted_as n k vs h e = let same : n ≡ k = cc in subst (λ m. HasValues m vs) same h

-- what is taken by a mask, where there are enough values
record Takes {V : Type 0} (mask : List Bool) (vs : List V) (k : ℕ) : Type 0 where
  what : Taken V
  is : taken mask vs ≡ Some what
  left : HasValues k what.left

takes : {V : Type 0} (mask : List Bool) (n k : ℕ) (vs : List V) → HasValues n vs → less mask n ≡ Some k → Takes mask vs k
takes [] n k vs h e = record { what = record { positions = []; left = vs }; is = refl; left = counted_as n k vs h e }
takes (false ∷ mask) n k vs h e = let t = takes mask n k vs h e in record { what = with_position None t.what; is = ap (option_map (with_position None)) t.is; left = t.left }
takes (true ∷ mask) (suc n) k (v ∷ vs) h e = let t = takes mask n k vs h e in record { what = with_position (Some v) t.what; is = ap (option_map (with_position (Some v))) t.is; left = t.left }
takes (true ∷ mask) zero k vs h e = absurd (none_is_some k e)
takes (true ∷ mask) (suc n) k [] h e = absurd h

module _ {S V : Type 0} (M : Values S V) where
  -- what goes on after an instruction doesn't miss an operand
  abbrev Present : Option Operands → (List V → Flow → S → Doing S Flow) → Type 0
  Present left next = (to : Operands) → left ≡ Some to → (ws : List V) (flow : Flow) (t : S) → Fits to ws → next ws flow t ≢ missing

  index_present : (mask : List Bool) (place : Place) (n : ℕ) (left : Option ℕ) (to : Operands) (a : V) (vs : List V) (flow : Flow) (s : S) (next : List V → Flow → S → Doing S Flow) → less mask n ≡ left → after (op.Index mask) (just (suc n)) ≡ Some to → HasValues n vs → Present (after (op.Index mask) (just (suc n))) next → act M (op.Index mask) place (a ∷ vs) flow s next ≢ missing
  index_present mask place n None to a vs flow s next e there fits h = absurd (none_is_some to (sym (ap (option_map (λ k. just (suc k))) e) ∙ there))
  index_present mask place n (Some k) to a vs flow s next e there fits h =
      let t = takes mask n k vs fits e in
      subst (λ x. indexed M place a x flow s next ≢ missing) (sym t.is)
      (goes_on-present (M.index a t.what.positions place s) (put M t.what.left flow next) (λ v u. h (just (suc k)) (ap (option_map (λ m. just (suc m))) e) (v ∷ t.what.left) flow u t.left))

  replace_present : (name : List ℕ) (place : Place) (ps : List (Option V)) (left : List V) (k : ℕ) (flow : Flow) (s : S) (next : List V → Flow → S → Doing S Flow) → HasValues (suc k) left → ((ws : List V) (f : Flow) (t : S) → HasValues (suc k) ws → next ws f t ≢ missing) → replaced_by M name place ps left flow s next ≢ missing
  replace_present name place ps [] k flow s next fits h = absurd fits
  replace_present name place ps (b ∷ vs) k flow s next fits h = goes_on-present (M.replace name ps b place s) (put M vs flow next) (λ v u. h (v ∷ vs) flow u fits)

  assign_present : (name : List ℕ) (mask : List Bool) (place : Place) (n : ℕ) (left : Option ℕ) (to : Operands) (vs : List V) (flow : Flow) (s : S) (next : List V → Flow → S → Doing S Flow) → less mask n ≡ left → with_value (less mask n) ≡ Some to → HasValues n vs → Present (with_value (less mask n)) next → act M (op.Iasg name mask) place vs flow s next ≢ missing
  assign_present name mask place n None to vs flow s next e there fits h = absurd (none_is_some to (sym (ap with_value e) ∙ there))
  assign_present name mask place n (Some zero) to vs flow s next e there fits h = absurd (none_is_some to (sym (ap with_value e) ∙ there))
  assign_present name mask place n (Some (suc k)) to vs flow s next e there fits h =
      let t = takes mask n (suc k) vs fits e in
      subst (λ x. replaced M name place x flow s next ≢ missing) (sym t.is)
      (replace_present name place t.what.positions t.what.left k flow s next t.left (λ ws f u g. h (just (suc k)) (ap with_value e) ws f u g))

  called_present : (f : List ℕ) (place : Place) (a b : Option V) (vs : List V) (n : ℕ) (flow : Flow) (s : S) (next : List V → Flow → S → Doing S Flow) → HasValues n vs → ((ws : List V) (g : Flow) (t : S) → HasValues (suc n) ws → next ws g t ≢ missing) → called M false f place a b vs flow s next ≢ missing
  called_present f place a b vs n flow s next fits h =
      goes_on-present (M.calls f place a b s) (λ r t. goes_on (M.need place r t) (put M vs flow next)) (λ r t. goes_on-present (M.need place r t) (put M vs flow next) (λ v u. h (v ∷ vs) flow u fits))

  result_fits : (r : Option V) → Fits result_or_none (with_result r [])
  result_fits None = tt
  result_fits (Some v) = tt

  whole_present : (f : List ℕ) (place : Place) (a b : Option V) (flow : Flow) (s : S) (next : List V → Flow → S → Doing S Flow) → ((ws : List V) (g : Flow) (t : S) → Fits result_or_none ws → next ws g t ≢ missing) → called M true f place a b [] flow s next ≢ missing
  whole_present f place a b flow s next h = goes_on-present (M.calls f place a b s) (λ r t. next (with_result r []) flow t) (λ r t. h (with_result r []) flow t (result_fits r))

  call_present : (f : List ℕ) (k : ℕ) (whole : Bool) (place : Place) (n : ℕ) (to : Operands) (vs : List V) (flow : Flow) (s : S) (next : List V → Flow → S → Doing S Flow) → after_call k whole n ≡ Some to → HasValues n vs → Present (after_call k whole n) next → called_with M k whole f place vs flow s next ≢ missing
  call_present f zero false place n to vs flow s next there fits h = called_present f place None None vs n flow s next fits (h (just (suc n)) refl)
  call_present f (suc zero) false place (suc n) to (b ∷ vs) flow s next there fits h = called_present f place None (Some b) vs n flow s next fits (h (just (suc n)) refl)
  call_present f (suc (suc zero)) false place (suc (suc n)) to (a ∷ b ∷ vs) flow s next there fits h = called_present f place (Some a) (Some b) vs n flow s next fits (h (just (suc n)) refl)
  call_present f (suc (suc (suc zero))) false place (suc n) to (a ∷ vs) flow s next there fits h = called_present f place (Some a) None vs n flow s next fits (h (just (suc n)) refl)
  call_present f zero true place zero to [] flow s next there fits h = whole_present f place None None flow s next (h result_or_none refl)
  call_present f (suc zero) true place (suc zero) to (b ∷ []) flow s next there fits h = whole_present f place None (Some b) flow s next (h result_or_none refl)
  call_present f (suc (suc zero)) true place (suc (suc zero)) to (a ∷ b ∷ []) flow s next there fits h = whole_present f place (Some a) (Some b) flow s next (h result_or_none refl)
  call_present f (suc (suc (suc zero))) true place (suc zero) to (a ∷ []) flow s next there fits h = whole_present f place (Some a) None flow s next (h result_or_none refl)
  call_present f (suc zero) false place zero to vs flow s next there fits h = absurd (none_is_some to there)
  call_present f (suc zero) false place (suc n) to [] flow s next there fits h = absurd fits
  call_present f (suc (suc zero)) false place zero to vs flow s next there fits h = absurd (none_is_some to there)
  call_present f (suc (suc zero)) false place (suc zero) to vs flow s next there fits h = absurd (none_is_some to there)
  call_present f (suc (suc zero)) false place (suc (suc n)) to [] flow s next there fits h = absurd fits
  call_present f (suc (suc zero)) false place (suc (suc n)) to (a ∷ []) flow s next there fits h = absurd fits
  call_present f (suc (suc (suc zero))) false place zero to vs flow s next there fits h = absurd (none_is_some to there)
  call_present f (suc (suc (suc zero))) false place (suc n) to [] flow s next there fits h = absurd fits
  call_present f (suc (suc (suc (suc k)))) false place n to vs flow s next there fits h = absurd (none_is_some to there)
  call_present f zero true place (suc n) to vs flow s next there fits h = absurd (none_is_some to there)
  call_present f zero true place zero to (v ∷ vs) flow s next there fits h = absurd fits
  call_present f (suc zero) true place zero to vs flow s next there fits h = absurd (none_is_some to there)
  call_present f (suc zero) true place (suc zero) to [] flow s next there fits h = absurd fits
  call_present f (suc zero) true place (suc zero) to (a ∷ b ∷ vs) flow s next there fits h = absurd fits
  call_present f (suc zero) true place (suc (suc n)) to vs flow s next there fits h = absurd (none_is_some to there)
  call_present f (suc (suc zero)) true place zero to vs flow s next there fits h = absurd (none_is_some to there)
  call_present f (suc (suc zero)) true place (suc zero) to vs flow s next there fits h = absurd (none_is_some to there)
  call_present f (suc (suc zero)) true place (suc (suc zero)) to [] flow s next there fits h = absurd fits
  call_present f (suc (suc zero)) true place (suc (suc zero)) to (a ∷ []) flow s next there fits h = absurd fits
  call_present f (suc (suc zero)) true place (suc (suc zero)) to (a ∷ b ∷ c ∷ vs) flow s next there fits h = absurd fits
  call_present f (suc (suc zero)) true place (suc (suc (suc n))) to vs flow s next there fits h = absurd (none_is_some to there)
  call_present f (suc (suc (suc zero))) true place zero to vs flow s next there fits h = absurd (none_is_some to there)
  call_present f (suc (suc (suc zero))) true place (suc zero) to [] flow s next there fits h = absurd fits
  call_present f (suc (suc (suc zero))) true place (suc zero) to (a ∷ b ∷ vs) flow s next there fits h = absurd fits
  call_present f (suc (suc (suc zero))) true place (suc (suc n)) to vs flow s next there fits h = absurd (none_is_some to there)
  call_present f (suc (suc (suc (suc k)))) true place n to vs flow s next there fits h = absurd (none_is_some to there)

  -- an instruction that finds what it needs doesn't miss it
  act_present : (what : Op) (place : Place) (found to : Operands) (vs : List V) (flow : Flow) (s : S) (next : List V → Flow → S → Doing S Flow) → after what found ≡ Some to → Fits found vs → Present (after what found) next → act M what place vs flow s next ≢ missing
  act_present (op.Lit l) place (just n) to vs flow s next there fits h = goes_on-present (M.literal l s) (put M vs flow next) (λ v t. h (just (suc n)) refl (v ∷ vs) flow t fits)
  act_present (op.Name m) place (just n) to vs flow s next there fits h = goes_on-present (M.name m place s) (put M vs flow next) (λ v t. h (just (suc n)) refl (v ∷ vs) flow t fits)
  act_present (op.Index mask) place (just (suc n)) to (a ∷ vs) flow s next there fits h = index_present mask place n (less mask n) to a vs flow s next refl there fits h
  act_present (op.Iasg name mask) place (just n) to vs flow s next there fits h = assign_present name mask place n (less mask n) to vs flow s next refl there fits h
  act_present (op.Call f k whole) place (just n) to vs flow s next there fits h = call_present f k whole place n to vs flow s next there fits h
  act_present op.Print place (just (suc zero)) to (v ∷ []) flow s next there fits h = goes_on-present (M.show (Some v) s) (next []) (λ f t. h (just zero) refl [] f t tt)
  act_present op.Print place result_or_none to [] flow s next there fits h = goes_on-present (M.show None s) (next []) (λ f t. h (just zero) refl [] f t tt)
  act_present op.Print place result_or_none to (v ∷ []) flow s next there fits h = goes_on-present (M.show (Some v) s) (next []) (λ f t. h (just zero) refl [] f t tt)
  act_present op.Goto place (just (suc zero)) to (v ∷ []) flow s next there fits h = goes_on-present (M.branch place v s) (next []) (λ f t. h (just zero) refl [] f t tt)
  act_present op.End place found to vs flow s next there fits h = λ e. cc
  act_present (op.Mon f) place (just (suc n)) to (b ∷ vs) flow s next there fits h = goes_on-present (M.apply1 f b place s) (put M vs flow next) (λ v t. h (just (suc n)) refl (v ∷ vs) flow t fits)
  act_present (op.Mon f) place (just (suc n)) to [] flow s next there fits h = absurd fits
  act_present (op.Mon f) place (just zero) to vs flow s next there fits h = absurd (none_is_some to there)
  act_present (op.Red f axis) place (just (suc n)) to (b ∷ vs) flow s next there fits h = goes_on-present (M.reduce f axis b place s) (put M vs flow next) (λ v t. h (just (suc n)) refl (v ∷ vs) flow t fits)
  act_present (op.Red f axis) place (just (suc n)) to [] flow s next there fits h = absurd fits
  act_present (op.Red f axis) place (just zero) to vs flow s next there fits h = absurd (none_is_some to there)
  act_present (op.Asg m) place (just (suc n)) to (b ∷ vs) flow s next there fits h = goes_on-present (M.assign m b s) (put M vs flow next) (λ v t. h (just (suc n)) refl (v ∷ vs) flow t fits)
  act_present (op.Asg m) place (just (suc n)) to [] flow s next there fits h = absurd fits
  act_present (op.Asg m) place (just zero) to vs flow s next there fits h = absurd (none_is_some to there)
  act_present op.Show place (just (suc n)) to (b ∷ vs) flow s next there fits h = goes_on-present (M.print b s) (put M vs flow next) (λ v t. h (just (suc n)) refl (v ∷ vs) flow t fits)
  act_present op.Show place (just (suc n)) to [] flow s next there fits h = absurd fits
  act_present op.Show place (just zero) to vs flow s next there fits h = absurd (none_is_some to there)
  act_present (op.Dya f) place (just (suc (suc n))) to (a ∷ b ∷ vs) flow s next there fits h = goes_on-present (M.apply2 f a b place s) (put M vs flow next) (λ v t. h (just (suc n)) refl (v ∷ vs) flow t fits)
  act_present (op.Dya f) place (just (suc (suc n))) to [] flow s next there fits h = absurd fits
  act_present (op.Dya f) place (just (suc (suc n))) to (a ∷ []) flow s next there fits h = absurd fits
  act_present (op.Dya f) place (just zero) to vs flow s next there fits h = absurd (none_is_some to there)
  act_present (op.Dya f) place (just (suc zero)) to vs flow s next there fits h = absurd (none_is_some to there)
  act_present (op.Outer f) place (just (suc (suc n))) to (a ∷ b ∷ vs) flow s next there fits h = goes_on-present (M.outer f a b place s) (put M vs flow next) (λ v t. h (just (suc n)) refl (v ∷ vs) flow t fits)
  act_present (op.Outer f) place (just (suc (suc n))) to [] flow s next there fits h = absurd fits
  act_present (op.Outer f) place (just (suc (suc n))) to (a ∷ []) flow s next there fits h = absurd fits
  act_present (op.Outer f) place (just zero) to vs flow s next there fits h = absurd (none_is_some to there)
  act_present (op.Outer f) place (just (suc zero)) to vs flow s next there fits h = absurd (none_is_some to there)
  act_present (op.Inner f g) place (just (suc (suc n))) to (a ∷ b ∷ vs) flow s next there fits h = goes_on-present (M.inner f g a b place s) (put M vs flow next) (λ v t. h (just (suc n)) refl (v ∷ vs) flow t fits)
  act_present (op.Inner f g) place (just (suc (suc n))) to [] flow s next there fits h = absurd fits
  act_present (op.Inner f g) place (just (suc (suc n))) to (a ∷ []) flow s next there fits h = absurd fits
  act_present (op.Inner f g) place (just zero) to vs flow s next there fits h = absurd (none_is_some to there)
  act_present (op.Inner f g) place (just (suc zero)) to vs flow s next there fits h = absurd (none_is_some to there)
  act_present (op.Index mask) place (just (suc n)) to [] flow s next there fits h = absurd fits
  act_present (op.Index mask) place (just zero) to vs flow s next there fits h = absurd (none_is_some to there)
  act_present op.Print place (just zero) to vs flow s next there fits h = absurd (none_is_some to there)
  act_present op.Print place (just (suc zero)) to [] flow s next there fits h = absurd fits
  act_present op.Print place (just (suc zero)) to (v ∷ w ∷ vs) flow s next there fits h = absurd fits
  act_present op.Print place (just (suc (suc n))) to vs flow s next there fits h = absurd (none_is_some to there)
  act_present op.Print place result_or_none to (v ∷ w ∷ vs) flow s next there fits h = absurd fits
  act_present op.Goto place (just zero) to vs flow s next there fits h = absurd (none_is_some to there)
  act_present op.Goto place (just (suc zero)) to [] flow s next there fits h = absurd fits
  act_present op.Goto place (just (suc zero)) to (v ∷ w ∷ vs) flow s next there fits h = absurd fits
  act_present op.Goto place (just (suc (suc n))) to vs flow s next there fits h = absurd (none_is_some to there)
  act_present (op.Lit l) place result_or_none to vs flow s next there fits h = absurd (none_is_some to there)
  act_present (op.Name m) place result_or_none to vs flow s next there fits h = absurd (none_is_some to there)
  act_present (op.Mon f) place result_or_none to vs flow s next there fits h = absurd (none_is_some to there)
  act_present (op.Dya f) place result_or_none to vs flow s next there fits h = absurd (none_is_some to there)
  act_present (op.Red f axis) place result_or_none to vs flow s next there fits h = absurd (none_is_some to there)
  act_present (op.Outer f) place result_or_none to vs flow s next there fits h = absurd (none_is_some to there)
  act_present (op.Inner f g) place result_or_none to vs flow s next there fits h = absurd (none_is_some to there)
  act_present (op.Index mask) place result_or_none to vs flow s next there fits h = absurd (none_is_some to there)
  act_present (op.Asg m) place result_or_none to vs flow s next there fits h = absurd (none_is_some to there)
  act_present (op.Iasg m mask) place result_or_none to vs flow s next there fits h = absurd (none_is_some to there)
  act_present (op.Call f k whole) place result_or_none to vs flow s next there fits h = absurd (none_is_some to there)
  act_present op.Show place result_or_none to vs flow s next there fits h = absurd (none_is_some to there)
  act_present op.Goto place result_or_none to vs flow s next there fits h = absurd (none_is_some to there)
  act_present (op.Lit l) place ended to vs flow s next there fits h = absurd (none_is_some to there)
  act_present (op.Name m) place ended to vs flow s next there fits h = absurd (none_is_some to there)
  act_present (op.Mon f) place ended to vs flow s next there fits h = absurd (none_is_some to there)
  act_present (op.Dya f) place ended to vs flow s next there fits h = absurd (none_is_some to there)
  act_present (op.Red f axis) place ended to vs flow s next there fits h = absurd (none_is_some to there)
  act_present (op.Outer f) place ended to vs flow s next there fits h = absurd (none_is_some to there)
  act_present (op.Inner f g) place ended to vs flow s next there fits h = absurd (none_is_some to there)
  act_present (op.Index mask) place ended to vs flow s next there fits h = absurd (none_is_some to there)
  act_present (op.Asg m) place ended to vs flow s next there fits h = absurd (none_is_some to there)
  act_present (op.Iasg m mask) place ended to vs flow s next there fits h = absurd (none_is_some to there)
  act_present (op.Call f k whole) place ended to vs flow s next there fits h = absurd (none_is_some to there)
  act_present op.Show place ended to vs flow s next there fits h = absurd (none_is_some to there)
  act_present op.Goto place ended to vs flow s next there fits h = absurd (none_is_some to there)
  act_present op.Print place ended to vs flow s next there fits h = absurd (none_is_some to there)

  parts_of : (o : Option Operands) (f : Operands → Option Operands) (to : Operands) → option_and_then f o ≡ Some to → (found : Operands) × (o ≡ Some found) × (f found ≡ Some to)
  parts_of None f to e = absurd (none_is_some to e)
  parts_of (Some found) f to e = (found, refl, e)

  code_present : (code : List Instruction) (found : Operands) (vs : List V) (flow : Flow) (s : S) → Leads code found ended → Fits found vs → exec M code vs flow s ≢ missing
  code_present [] (just n) vs flow s leads fits = absurd (just_is_ended n leads)
  code_present [] result_or_none vs flow s leads fits = absurd (call_is_ended leads)
  code_present [] ended vs flow s leads fits = absurd fits
  code_present (i ∷ is) found vs flow s leads fits =
      let p = parts_of (after i.op found) (after_code is) ended leads in
      act_present i.op i.place found p.0 vs flow s (exec M is) p.1 fits
      (λ to e ws f t g. code_present is to ws f t (subst (λ x. after_code is x ≡ Some ended) (some_same p.0 to (sym p.1 ∙ e)) p.2) g)

pub lawful_code_has_operands : (S V : Type 0) → LawfulCodeHasOperands S V
lawful_code_has_operands S V M code s lawful = code_present M code (just 0) [] onwards s lawful tt

-- ---- the code of each statement is lawful

-- how many operands an argument and positions leave above n
abbrev with_slot : Slot → ℕ → ℕ
with_slot elided n = n
with_slot (given t) n = suc n

abbrev with_slots : Positions → ℕ → ℕ
with_slots no_position n = n
with_slots (position q qs) n = with_slot q (with_slots qs n)

less-slots : (qs : Positions) (n : ℕ) → less (mask_of qs) (with_slots qs n) ≡ Some n
less-slots no_position n = refl
less-slots (position elided qs) n = less-slots qs n
less-slots (position (given t) qs) n = less-slots qs n

call-leaves : (left right : Slot) (n : ℕ) → after_call (arguments left right) false (with_slot left (with_slot right n)) ≡ Some (just (suc n))
call-leaves elided elided n = refl
call-leaves elided (given r) n = refl
call-leaves (given l) elided n = refl
call-leaves (given l) (given r) n = refl

whole-leaves : (left right : Slot) → after_call (arguments left right) true (with_slot left (with_slot right 0)) ≡ Some result_or_none
whole-leaves elided elided = refl
whole-leaves elided (given r) = refl
whole-leaves (given l) elided = refl
whole-leaves (given l) (given r) = refl

assoc_after : (a b rest : List Instruction) (found : Operands) → after_code ((a ++ b) ++ rest) found ≡ after_code (a ++ (b ++ rest)) found
assoc_after a b rest found = ap (λ c. after_code c found) (append_assoc a b rest)

after_last : (code : List Instruction) (n : ℕ) (left : Option Operands) → left ≡ Some (just (suc n)) → option_and_then (after_code code) left ≡ after_code code (just (suc n))
after_last code n left e = ap (option_and_then (after_code code)) e

mutual
  one_more : (t : Tree) (rest : List Instruction) (n : ℕ) → after_code (expression_code t ++ rest) (just n) ≡ after_code rest (just (suc n))
  one_more (constant l p) rest n = refl
  one_more (variable m p) rest n = refl
  one_more (call f left right p) rest n =
      let last = at p (op.Call f (arguments left right) false) in
      assoc_after (slot_code right) (slot_code left ++ last) rest (just n) ∙ slot_more right ((slot_code left ++ last) ++ rest) n
      ∙ assoc_after (slot_code left) last rest (just (with_slot right n)) ∙ slot_more left (last ++ rest) (with_slot right n)
      ∙ after_last rest n (after_call (arguments left right) false (with_slot left (with_slot right n))) (call-leaves left right n)
  one_more (parenthesis inner p) rest n = one_more inner rest n
  one_more (monadic f right p) rest n = assoc_after (expression_code right) (at p (op.Mon f)) rest (just n) ∙ one_more right (at p (op.Mon f) ++ rest) n
  one_more (dyadic f left right p) rest n = assoc_after (expression_code right) (expression_code left ++ at p (op.Dya f)) rest (just n) ∙ one_more right ((expression_code left ++ at p (op.Dya f)) ++ rest) n ∙ assoc_after (expression_code left) (at p (op.Dya f)) rest (just (suc n)) ∙ one_more left (at p (op.Dya f) ++ rest) (suc n)
  one_more (reduction f axis right p) rest n = assoc_after (expression_code right) (at p (op.Red f axis)) rest (just n) ∙ one_more right (at p (op.Red f axis) ++ rest) n
  one_more (outer_product f left right p) rest n = assoc_after (expression_code right) (expression_code left ++ at p (op.Outer f)) rest (just n) ∙ one_more right ((expression_code left ++ at p (op.Outer f)) ++ rest) n ∙ assoc_after (expression_code left) (at p (op.Outer f)) rest (just (suc n)) ∙ one_more left (at p (op.Outer f) ++ rest) (suc n)
  one_more (inner_product f g left right p) rest n = assoc_after (expression_code right) (expression_code left ++ at p (op.Inner f g)) rest (just n) ∙ one_more right ((expression_code left ++ at p (op.Inner f g)) ++ rest) n ∙ assoc_after (expression_code left) (at p (op.Inner f g)) rest (just (suc n)) ∙ one_more left (at p (op.Inner f g) ++ rest) (suc n)
  one_more (subscript array qs p) rest n =
      let last = at p (op.Index (mask_of qs)) in
      assoc_after (positions_code qs) (expression_code array ++ last) rest (just n) ∙ slots_more qs ((expression_code array ++ last) ++ rest) n
      ∙ assoc_after (expression_code array) last rest (just (with_slots qs n)) ∙ one_more array (last ++ rest) (with_slots qs n)
      ∙ after_last rest n (option_map (λ k. just (suc k)) (less (mask_of qs) (with_slots qs n))) (ap (option_map (λ k. just (suc k))) (less-slots qs n))
  one_more (assignment m value p) rest n = assoc_after (expression_code value) (at p (op.Asg m)) rest (just n) ∙ one_more value (at p (op.Asg m) ++ rest) n
  one_more (indexed_assignment m qs value p) rest n =
      let last = at p (op.Iasg m (mask_of qs)) in
      assoc_after (expression_code value) (positions_code qs ++ last) rest (just n) ∙ one_more value ((positions_code qs ++ last) ++ rest) n
      ∙ assoc_after (positions_code qs) last rest (just (suc n)) ∙ slots_more qs (last ++ rest) (suc n)
      ∙ after_last rest n (with_value (less (mask_of qs) (with_slots qs (suc n)))) (ap with_value (less-slots qs (suc n)))
  one_more (output value p) rest n = assoc_after (expression_code value) (at p op.Show) rest (just n) ∙ one_more value (at p op.Show ++ rest) n

  slot_more : (q : Slot) (rest : List Instruction) (n : ℕ) → after_code (slot_code q ++ rest) (just n) ≡ after_code rest (just (with_slot q n))
  slot_more elided rest n = refl
  slot_more (given t) rest n = one_more t rest n

  slots_more : (qs : Positions) (rest : List Instruction) (n : ℕ) → after_code (positions_code qs ++ rest) (just n) ≡ after_code rest (just (with_slots qs n))
  slots_more no_position rest n = refl
  slots_more (position q qs) rest n = assoc_after (positions_code qs) (slot_code q) rest (just n) ∙ slots_more qs (slot_code q ++ rest) n ∙ slot_more q rest (with_slots qs n)

whole_lawful : (line : ℕ) (t : Tree) → IsLawfulCode (whole_code line t)
whole_lawful line (call f left right p) =
    let last = at p (op.Call f (arguments left right) true) in
    slot_more right (slot_code left ++ (last ++ printing line)) 0
    ∙ slot_more left (last ++ printing line) (with_slot right 0)
    ∙ ap (option_and_then (after_code (printing line))) (whole-leaves left right)
whole_lawful line (assignment m value p) = one_more (assignment m value p) (ending line) 0
whole_lawful line (indexed_assignment m qs value p) = one_more (indexed_assignment m qs value p) (ending line) 0
whole_lawful line (output value p) = one_more (output value p) (ending line) 0
whole_lawful line (constant l p) = one_more (constant l p) (printing line) 0
whole_lawful line (variable m p) = one_more (variable m p) (printing line) 0
whole_lawful line (parenthesis inner p) = one_more (parenthesis inner p) (printing line) 0
whole_lawful line (monadic f right p) = one_more (monadic f right p) (printing line) 0
whole_lawful line (dyadic f left right p) = one_more (dyadic f left right p) (printing line) 0
whole_lawful line (reduction f axis right p) = one_more (reduction f axis right p) (printing line) 0
whole_lawful line (outer_product f left right p) = one_more (outer_product f left right p) (printing line) 0
whole_lawful line (inner_product f g left right p) = one_more (inner_product f g left right p) (printing line) 0
whole_lawful line (subscript array qs p) = one_more (subscript array qs p) (printing line) 0

pub statements_are_lawful : StatementsAreLawful
statements_are_lawful line nothing = refl
statements_are_lawful line (branch value p) = one_more value (at p op.Goto ++ ending line) 0
statements_are_lawful line (expression value) = whole_lawful line value

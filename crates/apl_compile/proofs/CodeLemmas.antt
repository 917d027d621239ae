-- The code of a tree does what the tree does, and goes on with its value; the code of a statement does what it does.
use Rattle.std.proofs.Common.{◌≡◌, ℕ, Bool, true, false, List, [], ◌∷◌, ◌++◌, Option, Some, None, refl, ap, sym, ◌∙◌, append_assoc}
use Rattle.std.specs.Option.{option_map}
use Rattle.apl_base.specs.declared.faults.Place.{Place}
use Rattle.apl_model.specs.Order.{Values, value_in, argument_in, positions_in, expression_in, flow_in, show_value, silently}
use Rattle.apl_model.specs.Outcome.{Outcome, done, fails, spent, and_then, Flow, onwards}
use Rattle.apl_model.specs.Tree.{Tree, Slot, Positions, Statement, constant, variable, call, parenthesis, monadic, dyadic, reduction, outer_product, inner_product, subscript, assignment, indexed_assignment, output, elided, given, no_position, position, nothing, branch, expression}
use Rattle.apl_compile.specs.Code.{at, arguments, is_given, mask_of, expression_code, slot_code, positions_code, ending, printing, whole_code, code_on}
use Rattle.apl_compile.specs.Execution.{Doing, comes, goes_on, with_position, taken, with_result, indexed, replaced, called, called_with, exec}
use Rattle.apl_compile.specs.declared.codes.Instruction.{Instruction}
use Rattle.apl_compile.specs.declared.codes.Op.TheVariants as op

-- ---- what goes on after an outcome

-- a fact of the value, where there is one
abbrev pub OnDone : {S A : Type 0} → Outcome S A → (A → Type 0) → Type 0
OnDone (done a s) P = P a
OnDone (fails kind place s) P = Unit {0}
OnDone (spent s) P = Unit {0}

pub OnDone-then : {S A B : Type 0} (o : Outcome S A) (f : A → S → Outcome S B) (P : A → Type 0) (Q : B → Type 0) → OnDone o P → ((a : A) (s : S) → P a → OnDone (f a s) Q) → OnDone (and_then o f) Q
OnDone-then (done a s) f P Q p h = h a s p
OnDone-then (fails kind place s) f P Q p h = tt
OnDone-then (spent s) f P Q p h = tt

pub anything : {S A : Type 0} (o : Outcome S A) → OnDone o (λ a. Unit {0})
anything (done a s) = tt
anything (fails kind place s) = tt
anything (spent s) = tt

-- one thing after another, and what goes on after both
pub then_on : {S A B C : Type 0} (o : Outcome S A) (P : A → Type 0) (f : A → S → Outcome S B) (k : B → S → Doing S C) (n : A → S → Doing S C) → OnDone o P → ((a : A) (s : S) → P a → n a s ≡ goes_on (f a s) k) → goes_on o n ≡ goes_on (and_then o f) k
then_on (done a s) P f k n p h = h a s p
then_on (fails kind place s) P f k n p h = refl
then_on (spent s) P f k n p h = refl

pub code_then : {S A B C : Type 0} (o : Outcome S A) (f : A → S → Outcome S B) (k : B → S → Doing S C) (n : A → S → Doing S C) → ((a : A) (s : S) → n a s ≡ goes_on (f a s) k) → goes_on o n ≡ goes_on (and_then o f) k
code_then (done a s) f k n h = h a s
code_then (fails kind place s) f k n h = refl
code_then (spent s) f k n h = refl

-- what goes on may be told in another way, where there is a value
pub same_on : {S A C : Type 0} (o : Outcome S A) (P : A → Type 0) (n m : A → S → Doing S C) → OnDone o P → ((a : A) (s : S) → P a → n a s ≡ m a s) → goes_on o n ≡ goes_on o m
same_on (done a s) P n m p h = h a s p
same_on (fails kind place s) P n m p h = refl
same_on (spent s) P n m p h = refl

regrouped : {A : Type 0} (a b c d : List A) → a ++ (b ++ (c ++ d)) ≡ (a ++ (b ++ c)) ++ d
regrouped a b c d = ap (λ x. a ++ x) (sym (append_assoc b c d)) ∙ sym (append_assoc a (b ++ c) d)

-- and where nothing goes on after both
pub ends_on : {S A B : Type 0} (o : Outcome S A) (P : A → Type 0) (f : A → S → Outcome S B) (n : A → S → Doing S B) → OnDone o P → ((a : A) (s : S) → P a → n a s ≡ comes (f a s)) → goes_on o n ≡ comes (and_then o f)
ends_on (done a s) P f n p h = h a s p
ends_on (fails kind place s) P f n p h = refl
ends_on (spent s) P f n p h = refl

pub ends_then : {S A B : Type 0} (o : Outcome S A) (f : A → S → Outcome S B) (n : A → S → Doing S B) → ((a : A) (s : S) → n a s ≡ comes (f a s)) → goes_on o n ≡ comes (and_then o f)
ends_then (done a s) f n h = h a s
ends_then (fails kind place s) f n h = refl
ends_then (spent s) f n h = refl

pub comes_of : {S A : Type 0} (o : Outcome S A) → goes_on o (λ a s. comes (done a s)) ≡ comes o
comes_of (done a s) = refl
comes_of (fails kind place s) = refl
comes_of (spent s) = refl

-- ---- operands

-- the values of positions put there, the first one last
abbrev pub with_positions : {V : Type 0} → List (Option V) → List V → List V
with_positions [] vs = vs
with_positions (p ∷ ps) vs = with_result p (with_positions ps vs)

-- a value where one is given, and none where it is left out
abbrev pub FitsSlot : {V : Type 0} → Bool → Option V → Type 0
FitsSlot true (Some v) = Unit {0}
FitsSlot false None = Unit {0}
FitsSlot true None = ⊥
FitsSlot false (Some v) = ⊥

abbrev pub FitsMask : {V : Type 0} → List Bool → List (Option V) → Type 0
FitsMask [] [] = Unit {0}
FitsMask (g ∷ mask) (p ∷ ps) = FitsSlot g p × FitsMask mask ps
FitsMask [] (p ∷ ps) = ⊥
FitsMask (g ∷ mask) [] = ⊥

-- what was put there is taken again
pub taken-positions : {V : Type 0} (mask : List Bool) (ps : List (Option V)) (vs : List V) → FitsMask mask ps → taken mask (with_positions ps vs) ≡ Some (record { positions = ps; left = vs })
taken-positions [] [] vs fits = refl
taken-positions (true ∷ mask) (Some v ∷ ps) vs fits = ap (λ t. option_map (with_position (Some v)) t) (taken-positions mask ps vs fits.1)
taken-positions (false ∷ mask) (None ∷ ps) vs fits = ap (λ t. option_map (with_position None) t) (taken-positions mask ps vs fits.1)
taken-positions (true ∷ mask) (None ∷ ps) vs fits = absurd fits.0
taken-positions (false ∷ mask) (Some v ∷ ps) vs fits = absurd fits.0
taken-positions [] (p ∷ ps) vs fits = absurd fits
taken-positions (g ∷ mask) [] vs fits = absurd fits

module _ {S V : Type 0} (M : Values S V) where
  -- an argument and positions have the values that their mask says
  pub argument_fits : (q : Slot) (s : S) → OnDone (argument_in M q s) (FitsSlot (is_given q))
  argument_fits elided s = tt
  argument_fits (given t) s = OnDone-then (value_in M t s) (λ a u. done (Some a) u) (λ a. Unit {0}) (FitsSlot true) (anything (value_in M t s)) (λ a u h. tt)

  pub positions_fit : (qs : Positions) (s : S) → OnDone (positions_in M qs s) (FitsMask (mask_of qs))
  positions_fit no_position s = tt
  positions_fit (position q qs) s =
      OnDone-then (positions_in M qs s) (λ vs t. and_then (argument_in M q t) (λ v u. done (v ∷ vs) u)) (FitsMask (mask_of qs)) (FitsMask (is_given q ∷ mask_of qs)) (positions_fit qs s)
      (λ vs t h. OnDone-then (argument_in M q t) (λ v u. done (v ∷ vs) u) (FitsSlot (is_given q)) (FitsMask (is_given q ∷ mask_of qs)) (argument_fits q t) (λ v u g. (g, h)))

  -- a call takes the arguments that were put there
  pub called-arguments : (left right : Slot) (a b : Option V) (whole : Bool) (f : List ℕ) (place : Place) (vs : List V) (to : Flow) (s : S) (next : List V → Flow → S → Doing S Flow) → FitsSlot (is_given left) a → FitsSlot (is_given right) b → called_with M (arguments left right) whole f place (with_result a (with_result b vs)) to s next ≡ called M whole f place a b vs to s next
  called-arguments elided elided None None whole f place vs to s next g h = refl
  called-arguments elided (given r) None (Some b) whole f place vs to s next g h = refl
  called-arguments (given l) (given r) (Some a) (Some b) whole f place vs to s next g h = refl
  called-arguments (given l) elided (Some a) None whole f place vs to s next g h = refl
  called-arguments elided right (Some a) b whole f place vs to s next g h = absurd g
  called-arguments (given l) right None b whole f place vs to s next g h = absurd g
  called-arguments elided elided None (Some b) whole f place vs to s next g h = absurd h
  called-arguments (given l) elided (Some a) (Some b) whole f place vs to s next g h = absurd h
  called-arguments elided (given r) None None whole f place vs to s next g h = absurd h
  called-arguments (given l) (given r) (Some a) None whole f place vs to s next g h = absurd h

-- ---- trees

-- a code, with any code after it, does what gives a value, and goes on with the value
pub record Does {S V : Type 0} (M : Values S V) (code : List Instruction) (what : S → Outcome S V) : Type 0 where
  pub does : (rest : List Instruction) (vs : List V) (to : Flow) (s : S) → exec M (code ++ rest) vs to s ≡ goes_on (what s) (λ v u. exec M rest (v ∷ vs) to u)

-- an argument's code, and an instruction that takes its value
after_one : {S V : Type 0} (M : Values S V) (right : List Instruction) (what : S → Outcome S V) (last : List Instruction) (f : V → S → Outcome S V) → Does M right what → ((rest : List Instruction) (vs : List V) (to : Flow) (b : V) (t : S) → exec M (last ++ rest) (b ∷ vs) to t ≡ goes_on (f b t) (λ v u. exec M rest (v ∷ vs) to u)) → Does M (right ++ last) (λ s. and_then (what s) f)
after_one M right what last f argument does = record {
  does = λ rest vs to s.
      ap (λ c. exec M c vs to s) (append_assoc right last rest)
      ∙ argument.does (last ++ rest) vs to s
      ∙ code_then (what s) f (λ v u. exec M rest (v ∷ vs) to u) (λ b u. exec M (last ++ rest) (b ∷ vs) to u) (does rest vs to);
}

-- the same with two: the right one's code, then the left one's
after_two : {S V : Type 0} (M : Values S V) (right left : List Instruction) (what then : S → Outcome S V) (last : List Instruction) (f : V → V → S → Outcome S V) → Does M right what → Does M left then → ((rest : List Instruction) (vs : List V) (to : Flow) (b a : V) (u : S) → exec M (last ++ rest) (a ∷ b ∷ vs) to u ≡ goes_on (f b a u) (λ v w. exec M rest (v ∷ vs) to w)) → Does M (right ++ (left ++ last)) (λ s. and_then (what s) (λ b t. and_then (then t) (f b)))
after_two M right left what then last f argument other does = record {
  does = λ rest vs to s.
      ap (λ c. exec M c vs to s) (append_assoc right (left ++ last) rest)
      ∙ argument.does ((left ++ last) ++ rest) vs to s
      ∙ code_then (what s) (λ b t. and_then (then t) (f b)) (λ v u. exec M rest (v ∷ vs) to u) (λ b t. exec M ((left ++ last) ++ rest) (b ∷ vs) to t)
      (λ b t. ap (λ c. exec M c (b ∷ vs) to t) (append_assoc left last rest)
      ∙ other.does (last ++ rest) (b ∷ vs) to t
      ∙ code_then (then t) (f b) (λ v u. exec M rest (v ∷ vs) to u) (λ a u. exec M (last ++ rest) (a ∷ b ∷ vs) to u) (does rest vs to b));
}

-- the same for an argument and for positions, which may be left out
pub record DoesSlot {S V : Type 0} (M : Values S V) (code : List Instruction) (what : S → Outcome S (Option V)) : Type 0 where
  pub does : (rest : List Instruction) (vs : List V) (to : Flow) (s : S) → exec M (code ++ rest) vs to s ≡ goes_on (what s) (λ v u. exec M rest (with_result v vs) to u)

pub record DoesPositions {S V : Type 0} (M : Values S V) (code : List Instruction) (what : S → Outcome S (List (Option V))) : Type 0 where
  pub does : (rest : List Instruction) (vs : List V) (to : Flow) (s : S) → exec M (code ++ rest) vs to s ≡ goes_on (what s) (λ ps u. exec M rest (with_positions ps vs) to u)

module _ {S V : Type 0} (M : Values S V) where
  slot_given : (code : List Instruction) (what : S → Outcome S V) → Does M code what → DoesSlot M code (λ s. and_then (what s) (λ a u. done (Some a) u))
  slot_given code what argument = record {
    does = λ rest vs to s.
        argument.does rest vs to s
        ∙ code_then (what s) (λ a u. done (Some a) u) (λ v u. exec M rest (with_result v vs) to u) (λ v u. exec M rest (v ∷ vs) to u) (λ a u. refl);
  }

  positions_more : (q : Slot) (qs : Positions) → DoesSlot M (slot_code q) (argument_in M q) → DoesPositions M (positions_code qs) (positions_in M qs) → DoesPositions M (positions_code (position q qs)) (positions_in M (position q qs))
  positions_more q qs one more = record {
    does = λ rest vs to s.
        let k = λ (ps : List (Option V)) (u : S). exec M rest (with_positions ps vs) to u in
        ap (λ c. exec M c vs to s) (append_assoc (positions_code qs) (slot_code q) rest)
        ∙ more.does (slot_code q ++ rest) vs to s
        ∙ code_then (positions_in M qs s) (λ ps t. and_then (argument_in M q t) (λ v u. done (v ∷ ps) u)) k (λ ps t. exec M (slot_code q ++ rest) (with_positions ps vs) to t)
        (λ ps t. one.does rest (with_positions ps vs) to t
        ∙ code_then (argument_in M q t) (λ v u. done (v ∷ ps) u) k (λ v u. exec M rest (with_result v (with_positions ps vs)) to u) (λ v u. refl));
  }

  -- the arguments of a call, and what takes them
  call_with : (left right : Slot) (whole : Bool) (f : List ℕ) (place : Place) (rest : List Instruction) (vs : List V) (to : Flow) (s : S) → DoesSlot M (slot_code right) (argument_in M right) → DoesSlot M (slot_code left) (argument_in M left)
      → exec M ((slot_code right ++ (slot_code left ++ at place (op.Call f (arguments left right) whole))) ++ rest) vs to s
      ≡ goes_on (argument_in M right s) (λ b t. goes_on (argument_in M left t) (λ a u. called M whole f place a b vs to u (exec M rest)))
  call_with left right whole f place rest vs to s r l =
      let last = at place (op.Call f (arguments left right) whole) in
      ap (λ c. exec M c vs to s) (append_assoc (slot_code right) (slot_code left ++ last) rest)
      ∙ r.does ((slot_code left ++ last) ++ rest) vs to s
      ∙ same_on (argument_in M right s) (FitsSlot (is_given right)) _ _ (argument_fits M right s)
      (λ b t h. ap (λ c. exec M c (with_result b vs) to t) (append_assoc (slot_code left) last rest)
      ∙ l.does (last ++ rest) (with_result b vs) to t
      ∙ same_on (argument_in M left t) (FitsSlot (is_given left)) _ _ (argument_fits M left t)
      (λ a u g. called-arguments M left right a b whole f place vs to u (exec M rest) g h))

  call_does : (f : List ℕ) (left right : Slot) (place : Place) → DoesSlot M (slot_code right) (argument_in M right) → DoesSlot M (slot_code left) (argument_in M left) → Does M (expression_code (call f left right place)) (value_in M (call f left right place))
  call_does f left right place r l = record {
    does = λ rest vs to s.
        let k = λ (v : V) (u : S). exec M rest (v ∷ vs) to u in
        call_with left right false f place rest vs to s r l
        ∙ code_then (argument_in M right s) (λ b t. and_then (argument_in M left t) (λ a u. and_then (M.calls f place a b u) (M.need place))) k (λ b t. goes_on (argument_in M left t) (λ a u. called M false f place a b vs to u (exec M rest)))
        (λ b t. code_then (argument_in M left t) (λ a u. and_then (M.calls f place a b u) (M.need place)) k (λ a u. called M false f place a b vs to u (exec M rest))
        (λ a u. code_then (M.calls f place a b u) (M.need place) k (λ r w. goes_on (M.need place r w) k) (λ r w. refl)));
  }

  subscript_does : (array : Tree) (qs : Positions) (place : Place) → Does M (expression_code array) (value_in M array) → DoesPositions M (positions_code qs) (positions_in M qs) → Does M (expression_code (subscript array qs place)) (value_in M (subscript array qs place))
  subscript_does array qs place inner ps = record {
    does = λ rest vs to s.
        let k = λ (v : V) (u : S). exec M rest (v ∷ vs) to u in
        let last = at place (op.Index (mask_of qs)) in
        ap (λ c. exec M c vs to s) (append_assoc (positions_code qs) (expression_code array ++ last) rest)
        ∙ ps.does ((expression_code array ++ last) ++ rest) vs to s
        ∙ then_on (positions_in M qs s) (FitsMask (mask_of qs)) (λ vs t. and_then (value_in M array t) (λ a u. M.index a vs place u)) k (λ vs' u. exec M ((expression_code array ++ last) ++ rest) (with_positions vs' vs) to u) (positions_fit M qs s)
        (λ vs' t h. ap (λ c. exec M c (with_positions vs' vs) to t) (append_assoc (expression_code array) last rest)
        ∙ inner.does (last ++ rest) (with_positions vs' vs) to t
        ∙ code_then (value_in M array t) (λ a u. M.index a vs' place u) k (λ a u. exec M (last ++ rest) (a ∷ with_positions vs' vs) to u)
        (λ a u. ap (λ found. indexed M place a found to u (exec M rest)) (taken-positions (mask_of qs) vs' vs h)));
  }

  replace_does : (name : List ℕ) (qs : Positions) (value : Tree) (place : Place) → Does M (expression_code value) (value_in M value) → DoesPositions M (positions_code qs) (positions_in M qs) → Does M (expression_code (indexed_assignment name qs value place)) (value_in M (indexed_assignment name qs value place))
  replace_does name qs value place inner ps = record {
    does = λ rest vs to s.
        let k = λ (v : V) (u : S). exec M rest (v ∷ vs) to u in
        let last = at place (op.Iasg name (mask_of qs)) in
        ap (λ c. exec M c vs to s) (append_assoc (expression_code value) (positions_code qs ++ last) rest)
        ∙ inner.does ((positions_code qs ++ last) ++ rest) vs to s
        ∙ code_then (value_in M value s) (λ b t. and_then (positions_in M qs t) (λ vs u. M.replace name vs b place u)) k (λ b u. exec M ((positions_code qs ++ last) ++ rest) (b ∷ vs) to u)
        (λ b t. ap (λ c. exec M c (b ∷ vs) to t) (append_assoc (positions_code qs) last rest)
        ∙ ps.does (last ++ rest) (b ∷ vs) to t
        ∙ then_on (positions_in M qs t) (FitsMask (mask_of qs)) (λ vs u. M.replace name vs b place u) k (λ vs' u. exec M (last ++ rest) (with_positions vs' (b ∷ vs)) to u) (positions_fit M qs t)
        (λ vs' u h. ap (λ found. replaced M name place found to u (exec M rest)) (taken-positions (mask_of qs) vs' (b ∷ vs) h)));
  }

  mutual
    -- the code of an expression does what evaluation does, and goes on with its value
    pub code_does : (t : Tree) → Does M (expression_code t) (value_in M t)
    code_does (constant literal place) = record { does = λ rest vs to s. refl }
    code_does (variable name place) = record { does = λ rest vs to s. refl }
    code_does (call f left right place) = call_does f left right place (slot_does right) (slot_does left)
    code_does (parenthesis inner place) = record { does = λ rest vs to s. (code_does inner).does rest vs to s }
    code_does (monadic f right place) = after_one M (expression_code right) (value_in M right) (at place (op.Mon f)) (λ b t. M.apply1 f b place t) (code_does right) (λ rest vs to b t. refl)
    code_does (dyadic f left right place) = after_two M (expression_code right) (expression_code left) (value_in M right) (value_in M left) (at place (op.Dya f)) (λ b a u. M.apply2 f a b place u) (code_does right) (code_does left) (λ rest vs to b a u. refl)
    code_does (reduction f axis right place) = after_one M (expression_code right) (value_in M right) (at place (op.Red f axis)) (λ b t. M.reduce f axis b place t) (code_does right) (λ rest vs to b t. refl)
    code_does (outer_product f left right place) = after_two M (expression_code right) (expression_code left) (value_in M right) (value_in M left) (at place (op.Outer f)) (λ b a u. M.outer f a b place u) (code_does right) (code_does left) (λ rest vs to b a u. refl)
    code_does (inner_product f g left right place) = after_two M (expression_code right) (expression_code left) (value_in M right) (value_in M left) (at place (op.Inner f g)) (λ b a u. M.inner f g a b place u) (code_does right) (code_does left) (λ rest vs to b a u. refl)
    code_does (subscript array qs place) = subscript_does array qs place (code_does array) (positions_does qs)
    code_does (assignment name value place) = after_one M (expression_code value) (value_in M value) (at place (op.Asg name)) (λ b t. M.assign name b t) (code_does value) (λ rest vs to b t. refl)
    code_does (indexed_assignment name qs value place) = replace_does name qs value place (code_does value) (positions_does qs)
    code_does (output value place) = after_one M (expression_code value) (value_in M value) (at place op.Show) (λ b t. M.print b t) (code_does value) (λ rest vs to b t. refl)

    pub slot_does : (q : Slot) → DoesSlot M (slot_code q) (argument_in M q)
    slot_does elided = record { does = λ rest vs to s. refl }
    slot_does (given t) = slot_given (expression_code t) (value_in M t) (code_does t)

    pub positions_does : (qs : Positions) → DoesPositions M (positions_code qs) (positions_in M qs)
    positions_does no_position = record { does = λ rest vs to s. refl }
    positions_does (position q qs) = positions_more q qs (slot_does q) (positions_does qs)

  -- ---- statements

  -- an expression whose value is printed, and one after which nothing is
  printed_whole : (t : Tree) (line : ℕ) (s : S) → exec M (expression_code t ++ printing line) [] onwards s ≡ comes (and_then (value_in M t s) (show_value M))
  printed_whole t line s =
      (code_does t).does (printing line) [] onwards s
      ∙ ends_then (value_in M t s) (show_value M) (λ v u. exec M (printing line) (v ∷ []) onwards u) (λ v u. comes_of (M.show (Some v) u))

  silent_whole : (t : Tree) (line : ℕ) (s : S) → exec M (expression_code t ++ ending line) [] onwards s ≡ comes (and_then (value_in M t s) silently)
  silent_whole t line s =
      (code_does t).does (ending line) [] onwards s
      ∙ ends_then (value_in M t s) silently (λ v u. exec M (ending line) (v ∷ []) onwards u) (λ v u. refl)

  -- after a call that is the whole statement there may be a result or none
  shown_result : (r : Option V) (line : ℕ) (u : S) → exec M (printing line) (with_result r []) onwards u ≡ comes (M.show r u)
  shown_result None line u = comes_of (M.show None u)
  shown_result (Some v) line u = comes_of (M.show (Some v) u)

  call_whole : (f : List ℕ) (left right : Slot) (place : Place) (line : ℕ) (s : S) → exec M (whole_code line (call f left right place)) [] onwards s ≡ comes (expression_in M (call f left right place) s)
  call_whole f left right place line s =
      ap (λ c. exec M c [] onwards s) (regrouped (slot_code right) (slot_code left) (at place (op.Call f (arguments left right) true)) (printing line))
      ∙ call_with left right true f place (printing line) [] onwards s (slot_does right) (slot_does left)
      ∙ ends_then (argument_in M right s) (λ b t. and_then (argument_in M left t) (λ a u. and_then (M.calls f place a b u) M.show)) (λ b t. goes_on (argument_in M left t) (λ a u. called M true f place a b [] onwards u (exec M (printing line))))
      (λ b t. ends_then (argument_in M left t) (λ a u. and_then (M.calls f place a b u) M.show) (λ a u. called M true f place a b [] onwards u (exec M (printing line)))
      (λ a u. ends_then (M.calls f place a b u) M.show (λ r w. exec M (printing line) (with_result r []) onwards w) (λ r w. shown_result r line w)))

  pub expression_whole : (t : Tree) (line : ℕ) (s : S) → exec M (whole_code line t) [] onwards s ≡ comes (expression_in M t s)
  expression_whole (call f left right place) line s = call_whole f left right place line s
  expression_whole (assignment name value place) line s = silent_whole (assignment name value place) line s
  expression_whole (indexed_assignment name qs value place) line s = silent_whole (indexed_assignment name qs value place) line s
  expression_whole (output value place) line s = silent_whole (output value place) line s
  expression_whole (constant literal place) line s = printed_whole (constant literal place) line s
  expression_whole (variable name place) line s = printed_whole (variable name place) line s
  expression_whole (parenthesis inner place) line s = printed_whole (parenthesis inner place) line s
  expression_whole (monadic f right place) line s = printed_whole (monadic f right place) line s
  expression_whole (dyadic f left right place) line s = printed_whole (dyadic f left right place) line s
  expression_whole (reduction f axis right place) line s = printed_whole (reduction f axis right place) line s
  expression_whole (outer_product f left right place) line s = printed_whole (outer_product f left right place) line s
  expression_whole (inner_product f g left right place) line s = printed_whole (inner_product f g left right place) line s
  expression_whole (subscript array qs place) line s = printed_whole (subscript array qs place) line s

  -- the code of a statement does what the statement does
  pub statement_does : (st : Statement) (line : ℕ) (s : S) → exec M (code_on line st) [] onwards s ≡ comes (flow_in M st s)
  statement_does nothing line s = refl
  statement_does (branch value place) line s =
      (code_does value).does (at place op.Goto ++ ending line) [] onwards s
      ∙ ends_then (value_in M value s) (M.branch place) (λ a u. exec M (at place op.Goto ++ ending line) (a ∷ []) onwards u) (λ a u. comes_of (M.branch place a u))
  statement_does (expression value) line s = expression_whole value line s

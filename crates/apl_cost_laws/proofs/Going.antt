-- What is done with arrays and what a statement does goes on with more turns, and does the same where they were enough.
use Rattle.std.proofs.Common.{◌≡◌, ℕ, ◌≤◌, Bool, true, false, List, [], ◌∷◌, ◌++◌, Option, Some, None, Ok, Err, refl, sym, ap, subst, ◌∙◌, arith}
use Rattle.std.specs.Option.{option_map}
use Rattle.std.proofs.Common.{append_assoc}
use Rattle.apl_base.specs.declared.faults.Place.{Place}
use Rattle.apl_base.specs.Array.{Array, size_of}
use Rattle.apl_model.specs.declared.trees.Literal.{Literal}
use Rattle.apl_model.specs.Agreement.{mapped_outcome}
use Rattle.apl_model.specs.Environment.{look_up}
use Rattle.apl_model.specs.Evaluation.{at_place, monadic_value, dyadic_value, replace_in, branch_by, print_result}
use Rattle.apl_model.specs.Order.{CallsOf, flow_in}
use Rattle.apl_model.specs.Outcome.{Outcome, done, fails, spent, and_then, Flow}
use Rattle.apl_model.specs.Product as product
use Rattle.apl_model.specs.Subscript as places
use Rattle.apl_model.specs.Tree as tree
use Rattle.apl_model.specs.Tree.{Tree, Slot, Positions, Statement, Item, Definition, constant, variable, call, parenthesis, monadic, dyadic, reduction, outer_product, inner_product, assignment, indexed_assignment, output, elided, given, no_position, position, nothing, branch, expression}
use Rattle.apl_model.specs.Whole.{Answer, count, is_empty, is_text}
use Rattle.apl_cost.specs.Footprint.{Measured, measured, valued, valued_from, resulted, written_value, moment, elements_named, ranged_arrays, of_measured, judged, judged_by, finished_from, with_finished, entered_from, measured_flow, result_shape1, result_shape2, reduction_shape, outer_shape, inner_shape}
use Rattle.apl_cost.specs.Laws.{AreOlderOf}
use Rattle.apl_cost.specs.Ranges.{RangedArray, array_of, ranged, other_source, scalar2_source, source1, source2, subscript_source, written, write_source}
use Rattle.apl_cost.specs.RangedEvaluation.{RangedState, beside, needed, of_variable, arrays_of, with_name}
use Rattle.apl_cost.specs.Sharing.{only_shares}
use Rattle.apl_cost_laws.proofs.Actions.{InTree, InSlot, InPositions, InStatement, IsOptionalOf, Any, IsOfActions, each-flow}
use Rattle.apl_cost_laws.proofs.MoreTurns.{ranged_more, work-same}

-- ---- every literal will do

abbrev AnyLiteral : Literal → Type 0
AnyLiteral l = Unit {0}

mutual
  any-tree : (t : Tree) → InTree AnyLiteral t
  any-tree (constant l p) = tt
  any-tree (variable n p) = tt
  any-tree (call f left right p) = (any-slot left, any-slot right)
  any-tree (parenthesis e p) = any-tree e
  any-tree (monadic f right p) = any-tree right
  any-tree (dyadic f left right p) = (any-tree left, any-tree right)
  any-tree (reduction f x right p) = any-tree right
  any-tree (outer_product f left right p) = (any-tree left, any-tree right)
  any-tree (inner_product f g left right p) = (any-tree left, any-tree right)
  any-tree (tree.subscript array qs p) = (any-tree array, any-positions qs)
  any-tree (assignment n value p) = any-tree value
  any-tree (indexed_assignment n qs value p) = (any-positions qs, any-tree value)
  any-tree (output value p) = any-tree value

  any-slot : (q : Slot) → InSlot AnyLiteral q
  any-slot elided = tt
  any-slot (given t) = any-tree t

  any-positions : (qs : Positions) → InPositions AnyLiteral qs
  any-positions no_position = tt
  any-positions (position q qs) = (any-slot q, any-positions qs)

any-statement : (t : Statement) → InStatement AnyLiteral t
any-statement nothing = tt
any-statement (branch t p) = any-tree t
any-statement (expression t) = any-tree t

-- ---- states and outcomes

-- where an outcome leaves the run
abbrev pub left_by : {S A : Type 0} → Outcome S A → S
left_by (done a s) = s
left_by (fails kind place s) = s
left_by (spent s) = s

-- footprints are only added, and turns only taken
pub record Onward (m n : Measured) : Type 0 where
  pub older : AreOlderOf m.moments n.moments
  pub turns : n.ranged.turns ≤ m.ranged.turns

pub onward-same : (m : Measured) → Onward m m
onward-same m = record { older = ([], refl); turns = omega arith }

pub older-then : (ks ls ms : List ℕ) → AreOlderOf ks ls → AreOlderOf ls ms → AreOlderOf ks ms
older-then ks ls ms h g = (g.0 ++ h.0, g.1 ∙ ap (λ xs. g.0 ++ xs) h.1 ∙ sym (append_assoc g.0 h.0 ks))

pub onward-then : (m n p : Measured) → Onward m n → Onward n p → Onward m p
onward-then m n p h g = record { older = older-then m.moments n.moments p.moments h.older g.older; turns = omega (arith, h.turns, g.turns) }

module _ (k : ℕ) where
  -- the same state, with k more turns left
  abbrev pub more : Measured → Measured
  more m = record m { ranged = ranged_more k m.ranged }

  -- the outcome with k more turns: the same, where the turns were enough; else its footprints go on from those
  abbrev pub IsLater : {A : Type 0} → Outcome Measured A → Outcome Measured A → Type 0
  IsLater (done a m) q = q ≡ done a (more m)
  IsLater (fails kind place m) q = q ≡ fails kind place (more m)
  IsLater (spent m) q = AreOlderOf m.moments (left_by q).moments

  pub record Later {A : Type 0} (o q : Outcome Measured A) : Type 0 where
    pub is : IsLater o q

  -- an action goes on, and does the same with more turns
  pub record Goes {A : Type 0} (act : Measured → Outcome Measured A) : Type 0 where
    pub later : (m : Measured) → Later (act m) (act (more m))
    pub onward : (m : Measured) → Onward m (left_by (act m))

  -- and gives values that are so
  record Acts (A : Type 0) (R : A → Type 0) (act : Measured → Outcome Measured A) : Type 0 where
    goes : Goes act
    gives : (m : Measured) (a : A) (t : Measured) → act m ≡ done a t → R a

  -- any value will do
  acts : {A : Type 0} (act : Measured → Outcome Measured A) → Goes act → Acts A Any act
  acts act h = record { goes = h; gives = λ m a t e. tt }

  acts-done : (A : Type 0) (R : A → Type 0) (a : A) → R a → Acts A R (λ m. done a m)
  acts-done A R a h = record {
    goes = record { later = λ m. record { is = refl }; onward = onward-same };
    gives = λ m b t e. let f : a ≡ b = cc in subst R f h;
  }

  -- after an outcome, what follows goes on; it is told where the value came from
  pub then-onward : {A B : Type 0} (o : Outcome Measured A) (next : A → Measured → Outcome Measured B) →
      ((a : A) (t : Measured) → o ≡ done a t → Onward t (left_by (next a t))) →
      Onward (left_by o) (left_by (and_then o next))
  then-onward (done a t) next h = h a t refl
  then-onward (fails kind place t) next h = onward-same t
  then-onward (spent t) next h = onward-same t

  -- what follows a value is told where the value came from
  pub later-next : {A B : Type 0} (o q : Outcome Measured A) (next other : A → Measured → Outcome Measured B) → Later o q →
      ((a : A) (t : Measured) → o ≡ done a t → Later (next a t) (other a (more t))) → ((a : A) (t : Measured) → q ≡ done a t → Onward t (left_by (other a t))) →
      Later (and_then o next) (and_then q other)
  later-next (done a t) q next other h n g = subst (λ x. Later (next a t) (and_then x other)) (sym h.is) (n a t refl)
  later-next (fails kind place t) q next other h n g = record { is = ap (λ x. and_then x other) h.is }
  later-next (spent t) q next other h n g =
      record { is = older-then t.moments (left_by q).moments (left_by (and_then q other)).moments h.is (then-onward q other g).older }

  -- a value that follows
  then-gives : {A B : Type 0} (T : B → Type 0) (o : Outcome Measured A) (next : A → Measured → Outcome Measured B) →
      ((a : A) (t : Measured) → o ≡ done a t → (b : B) (u : Measured) → next a t ≡ done b u → T b) → (b : B) (u : Measured) → and_then o next ≡ done b u → T b
  then-gives T (done a t) next h b u e = h a t refl b u e
  then-gives T (fails kind place t) next h b u e = absurd cc
  then-gives T (spent t) next h b u e = absurd cc

  acts-then : (A B : Type 0) (R : A → Type 0) (T : B → Type 0) (act : Measured → Outcome Measured A) (next : A → Measured → Outcome Measured B) →
      Acts A R act → ((a : A) → R a → Acts B T (λ m. next a m)) → Acts B T (λ m. and_then (act m) next)
  acts-then A B R T act next h n = record {
    goes = record {
      later = λ m. later-next (act m) (act (more m)) next next (h.goes.later m) (λ a t e. (n a (h.gives m a t e)).goes.later t)
          (λ a t e. (n a (h.gives (more m) a t e)).goes.onward t);
      onward = λ m. onward-then m (left_by (act m)) (left_by (and_then (act m) next)) (h.goes.onward m)
          (then-onward (act m) next (λ a t e. (n a (h.gives m a t e)).goes.onward t));
    };
    gives = λ m b u e. then-gives T (act m) next (λ a t f b u g. (n a (h.gives m a t f)).gives t b u g) b u e;
  }

  -- ---- what is done with arrays

  -- an act of ranged evaluation that takes no turns, and does the same with more of them
  record Steady {A : Type 0} (act : RangedState → Outcome RangedState A) : Type 0 where
    same : (s : RangedState) → act (ranged_more k s) ≡ mapped_outcome (ranged_more k) (λ a. a) (act s)
    turns : (s : RangedState) → (left_by (act s)).turns ≡ s.turns

  measured-same : {A : Type 0} (m : Measured) (o : Outcome RangedState A) →
      measured (more m) (mapped_outcome (ranged_more k) (λ a. a) o) ≡ mapped_outcome more (λ a. a) (measured m o)
  measured-same m (done a s) = refl
  measured-same m (fails kind place s) = refl
  measured-same m (spent s) = refl

  valued-same : (o : Outcome Measured RangedArray) → valued (mapped_outcome more (λ a. a) o) ≡ mapped_outcome more (λ a. a) (valued o)
  valued-same (done v m) = refl
  valued-same (fails kind place m) = refl
  valued-same (spent m) = refl

  written-same : (name : List ℕ) (o : Outcome Measured RangedArray) →
      written_value name (mapped_outcome more (λ a. a) o) ≡ mapped_outcome more (λ a. a) (written_value name o)
  written-same name (done v m) = refl
  written-same name (fails kind place m) = refl
  written-same name (spent m) = refl

  -- the same outcome with more turns is later
  same-later : {A : Type 0} (o q : Outcome Measured A) → q ≡ mapped_outcome more (λ a. a) o → Later o q
  same-later (done a m) q e = record { is = e }
  same-later (fails kind place m) q e = record { is = e }
  same-later {A} (spent m) q e = record { is = subst (λ (x : Outcome Measured A). AreOlderOf m.moments (left_by x).moments) (sym e) ([], refl) }

  -- one footprint more
  moment-onward : (n : ℕ) (m : Measured) → Onward m (moment n m)
  moment-onward n m = record { older = (_ ∷ [], refl); turns = omega arith }

  measured-onward : {A : Type 0} (m : Measured) (o : Outcome RangedState A) → (left_by o).turns ≡ m.ranged.turns → Onward m (left_by (measured m o))
  measured-onward m (done a s) e = record { older = ([], refl); turns = omega (arith, e) }
  measured-onward m (fails kind place s) e = record { older = ([], refl); turns = omega (arith, e) }
  measured-onward m (spent s) e = record { older = ([], refl); turns = omega (arith, e) }

  valued-onward : (o : Outcome Measured RangedArray) → Onward (left_by o) (left_by (valued o))
  valued-onward (done v m) = moment-onward (count v.array) m
  valued-onward (fails kind place m) = onward-same m
  valued-onward (spent m) = onward-same m

  written-onward : (name : List ℕ) (o : Outcome Measured RangedArray) → Onward (left_by o) (left_by (written_value name o))
  written-onward name (done v m) =
      let n = elements_named name m.ranged in
      onward-then m (moment n m) (moment (count v.array) (moment n m)) (moment-onward n m) (moment-onward (count v.array) (moment n m))
  written-onward name (fails kind place m) = onward-same m
  written-onward name (spent m) = onward-same m

  -- without a value that is noted
  goes-measured : {A : Type 0} (act : RangedState → Outcome RangedState A) → Steady act → Goes (λ m. measured m (act m.ranged))
  goes-measured act h = record {
    later = λ m. same-later (measured m (act m.ranged)) (measured (more m) (act (ranged_more k m.ranged)))
        (ap (measured (more m)) (h.same m.ranged) ∙ measured-same m (act m.ranged));
    onward = λ m. measured-onward m (act m.ranged) (h.turns m.ranged);
  }

  -- a value that is noted
  goes-valued : (act : RangedState → Outcome RangedState RangedArray) → Steady act → Goes (λ m. valued (measured m (act m.ranged)))
  goes-valued act h = record {
    later = λ m. same-later (valued (measured m (act m.ranged))) (valued (measured (more m) (act (ranged_more k m.ranged))))
        (ap (λ o. valued (measured (more m) o)) (h.same m.ranged) ∙ ap valued (measured-same m (act m.ranged)) ∙ valued-same (measured m (act m.ranged)));
    onward = λ m. onward-then m (left_by (measured m (act m.ranged))) (left_by (valued (measured m (act m.ranged))))
        (measured-onward m (act m.ranged) (h.turns m.ranged)) (valued-onward (measured m (act m.ranged)));
  }

  -- an indexed assignment
  goes-written : (name : List ℕ) (act : RangedState → Outcome RangedState RangedArray) → Steady act → Goes (λ m. written_value name (measured m (act m.ranged)))
  goes-written name act h = record {
    later = λ m. same-later (written_value name (measured m (act m.ranged))) (written_value name (measured (more m) (act (ranged_more k m.ranged))))
        (ap (λ o. written_value name (measured (more m) o)) (h.same m.ranged) ∙ ap (written_value name) (measured-same m (act m.ranged))
        ∙ written-same name (measured m (act m.ranged)));
    onward = λ m. onward-then m (left_by (measured m (act m.ranged))) (left_by (written_value name (measured m (act m.ranged))))
        (measured-onward m (act m.ranged) (h.turns m.ranged))
        (written-onward name (measured m (act m.ranged)));
  }

  -- a value that counts from where its shape is known
  from-later : (shape : Option (List ℕ)) (act : RangedState → Outcome RangedState RangedArray) → Steady act → (m : Measured) →
      Later (valued_from shape m (λ n. measured n (act n.ranged))) (valued_from shape (more m) (λ n. measured n (act n.ranged)))
  from-later (Some ns) act h m = (goes-measured act h).later (moment (size_of ns) m)
  from-later None act h m = (goes-valued act h).later m

  from-onward : (shape : Option (List ℕ)) (act : RangedState → Outcome RangedState RangedArray) → Steady act → (m : Measured) →
      Onward m (left_by (valued_from shape m (λ n. measured n (act n.ranged))))
  from-onward (Some ns) act h m =
      onward-then m (moment (size_of ns) m) (left_by (measured (moment (size_of ns) m) (act m.ranged))) (moment-onward (size_of ns) m)
      ((goes-measured act h).onward (moment (size_of ns) m))
  from-onward None act h m = (goes-valued act h).onward m

  goes-from : (shape : Measured → Option (List ℕ)) (act : RangedState → Outcome RangedState RangedArray) → ((m : Measured) → shape (more m) ≡ shape m) →
      Steady act →
      Goes (λ m. valued_from (shape m) m (λ n. measured n (act n.ranged)))
  goes-from shape act e h = record {
    later = λ m. subst (λ ns. Later (valued_from (shape m) m (λ n. measured n (act n.ranged))) (valued_from ns (more m) (λ n. measured n (act n.ranged))))
        (sym (e m)) (from-later (shape m) act h m);
    onward = λ m. from-onward (shape m) act h m;
  }

  -- ---- acts that are steady

  record SameMore {A : Type 0} (s : RangedState) (o q : Outcome RangedState A) : Type 0 where
    same : q ≡ mapped_outcome (ranged_more k) (λ a. a) o
    turns : (left_by o).turns ≡ s.turns

  steady : {A : Type 0} (act : RangedState → Outcome RangedState A) → ((s : RangedState) → SameMore s (act s) (act (ranged_more k s))) → Steady act
  steady act h = record { same = λ s. (h s).same; turns = λ s. (h s).turns }

  beside-steady : (value : Array → RangedArray) (place : Place) (answer : Answer) (s : RangedState) →
      SameMore s (beside value s (at_place place answer)) (beside value (ranged_more k s) (at_place place answer))
  beside-steady value place (Ok a) s = record { same = refl; turns = refl }
  beside-steady value place (Err e) s = record { same = refl; turns = refl }

  needed-steady : (place : Place) (v : Option RangedArray) (s : RangedState) → SameMore s (needed place v s) (needed place v (ranged_more k s))
  needed-steady place (Some v) s = record { same = refl; turns = refl }
  needed-steady place None s = record { same = refl; turns = refl }

  replaced-steady : (name : List ℕ) (old : Option RangedArray) (ps : List (Option Array)) (b : RangedArray) (place : Place) (answer : Answer) (s : RangedState) →
      SameMore s (and_then (beside (written old ps b) s (at_place place answer)) (λ a t. done (ranged (write_source b) b.array) (with_name name a t)))
      (and_then (beside (written old ps b) (ranged_more k s) (at_place place answer)) (λ a t. done (ranged (write_source b) b.array) (with_name name a t)))
  replaced-steady name old ps b place (Ok a) s = record { same = refl; turns = refl }
  replaced-steady name old ps b place (Err e) s = record { same = refl; turns = refl }

  branch-steady : (x y : Bool) (a : Array) (place : Place) (s : RangedState) →
      SameMore s (beside (λ (flow : Flow). flow) s (branch_by x y a place)) (beside (λ (flow : Flow). flow) (ranged_more k s) (branch_by x y a place))
  branch-steady true y a place s = record { same = refl; turns = refl }
  branch-steady false true a place s = record { same = refl; turns = refl }
  branch-steady false false a place s = record { same = refl; turns = refl }

  show-steady : (v : Option Array) (s : RangedState) →
      SameMore s (beside (λ (flow : Flow). flow) s (print_result v)) (beside (λ (flow : Flow). flow) (ranged_more k s) (print_result v))
  show-steady (Some v) s = record { same = refl; turns = refl }
  show-steady None s = record { same = refl; turns = refl }

  -- a call's result that is noted
  resulted-onward : (o : Outcome Measured (Option RangedArray)) → Onward (left_by o) (left_by (resulted o))
  resulted-onward (done (Some v) m) = moment-onward (count v.array) m
  resulted-onward (done None m) = onward-same m
  resulted-onward (fails kind place m) = onward-same m
  resulted-onward (spent m) = onward-same m

  resulted-later : (o q : Outcome Measured (Option RangedArray)) → Later o q → Later (resulted o) (resulted q)
  resulted-later (done (Some v) m) q h = record { is = ap resulted h.is }
  resulted-later (done None m) q h = record { is = ap resulted h.is }
  resulted-later (fails kind place m) q h = record { is = ap resulted h.is }
  resulted-later (spent m) q h = record { is = older-then m.moments (left_by q).moments (left_by (resulted q)).moments h.is (resulted-onward q).older }

  -- calls that go on
  abbrev pub CallsGo : CallsOf Measured RangedArray → Type 0
  CallsGo calls = (f : List ℕ) (place : Place) (left right : Option RangedArray) → Goes (λ m. calls f place left right m)

  goes-resulted : (act : Measured → Outcome Measured (Option RangedArray)) → Goes act → Goes (λ m. resulted (act m))
  goes-resulted act h = record {
    later = λ m. resulted-later (act m) (act (more m)) (h.later m);
    onward = λ m. onward-then m (left_by (act m)) (left_by (resulted (act m))) (h.onward m) (resulted-onward (act m));
  }

  any-option : (a : Option RangedArray) → IsOptionalOf Any a
  any-option None = tt
  any-option (Some v) = tt

  values-go : (calls : CallsOf Measured RangedArray) → CallsGo calls → IsOfActions (of_measured calls) AnyLiteral Any Acts
  values-go calls h = record {
    literal = λ l x. acts _ (goes-valued (ranged_arrays.literal l) (steady _ (λ s. record { same = refl; turns = refl })));
    name = λ name place. acts _ (goes-valued (ranged_arrays.name name place)
        (steady _ (λ s. needed-steady place (option_map of_variable (look_up s.variables name)) s)));
    apply1 = λ f b place x. acts _ (goes-from (λ m. result_shape1 f b.array) (ranged_arrays.apply1 f b place) (λ m. refl)
        (steady _ (λ s. beside-steady (ranged (source1 f b)) place (monadic_value s.variables.origin f b.array) s)));
    apply2 = λ f a b place x y. acts _ (goes-from (λ m. result_shape2 f a.array b.array) (ranged_arrays.apply2 f a b place) (λ m. refl)
        (steady _ (λ s. beside-steady (ranged (source2 f a b)) place (dyadic_value s.variables.origin f a.array b.array) s)));
    reduce = λ f axis b place x. acts _ (goes-from (λ m. reduction_shape m.ranged.variables.origin axis b.array) (ranged_arrays.reduce f axis b place)
        (λ m. refl)
        (steady _ (λ s. beside-steady (ranged other_source) place (product.reduce s.variables.origin f axis b.array) s)));
    outer = λ f a b place x y. acts _ (goes-from (λ m. outer_shape a.array b.array) (ranged_arrays.outer f a b place) (λ m. refl)
        (steady _ (λ s. beside-steady (ranged (scalar2_source f a b)) place (product.outer f a.array b.array) s)));
    inner = λ f g a b place x y. acts _ (goes-from (λ m. inner_shape a.array b.array) (ranged_arrays.inner f g a b place) (λ m. refl)
        (steady _ (λ s. beside-steady (ranged other_source) place (product.inner f g a.array b.array) s)));
    index = λ a ps place x y. acts _ (goes-valued (ranged_arrays.index a ps place)
        (steady _ (λ s. beside-steady (ranged (subscript_source a (arrays_of ps))) place (places.subscript s.variables.origin a.array (arrays_of ps)) s)));
    assign = λ name a x. acts _ (goes-valued (ranged_arrays.assign name a) (steady _ (λ s. record { same = refl; turns = refl })));
    replace = λ name ps b place x y. acts _ (goes-written name (ranged_arrays.replace name ps b place)
        (steady _ (λ s. replaced-steady name (look_up s.variables name) (arrays_of ps) b place
        (replace_in s.variables.origin (option_map array_of (look_up s.variables name)) (arrays_of ps) b.array) s)));
    calls = λ f place left right x y. record { goes = goes-resulted (λ m. calls f place left right m) (h f place left right); gives = λ m a t e. any-option a };
    print = λ a x. acts _ (goes-valued (ranged_arrays.print a) (steady _ (λ s. record { same = refl; turns = refl })));
    need = λ place a x. acts _ (goes-measured (ranged_arrays.need place a) (steady _ (λ s. needed-steady place a s)));
    branch = λ place a x. acts _ (goes-measured (ranged_arrays.branch place a)
        (steady _ (λ s. branch-steady (is_empty a.array) (is_text a.array) a.array place s)));
    show = λ a x. acts _ (goes-measured (ranged_arrays.show a) (steady _ (λ s. show-steady (option_map array_of a) s)));
  }

  -- ---- statements

  entered-later : (t : Statement) (s : RangedState) (o q : Outcome Measured Flow) → Later o q → Later (entered_from t s o) (entered_from t (ranged_more k s) q)
  entered-later t s (done flow m) q h =
      let f : entered_from t (ranged_more k s) (done flow (more m)) ≡ done flow (more (with_finished (finished_from t s true) m)) =
      ap (λ w. done flow (more (with_finished (record { statement = t; number = s.begun; work = w; shares = only_shares s t; well = true }) m)))
      (work-same k t s) in
      record { is = ap (entered_from t (ranged_more k s)) h.is ∙ f }
  entered-later t s (fails kind place m) q h =
      let f : entered_from t (ranged_more k s) (fails kind place (more m)) ≡ fails kind place (more (with_finished (finished_from t s false) m)) =
      ap (λ w. fails kind place (more (with_finished (record { statement = t; number = s.begun; work = w; shares = only_shares s t; well = false }) m)))
      (work-same k t s) in
      record { is = ap (entered_from t (ranged_more k s)) h.is ∙ f }
  entered-later t s (spent m) (done flow n) h = record { is = h.is }
  entered-later t s (spent m) (fails kind place n) h = record { is = h.is }
  entered-later t s (spent m) (spent n) h = record { is = h.is }

  entered-onward : (t : Statement) (s : RangedState) (o : Outcome Measured Flow) → Onward (left_by o) (left_by (entered_from t s o))
  entered-onward t s (done flow m) = record { older = ([], refl); turns = omega arith }
  entered-onward t s (fails kind place m) = record { older = ([], refl); turns = omega arith }
  entered-onward t s (spent m) = onward-same m

  -- whether a statement is plain is judged alike
  judged-more : (t : Statement) (m : Measured) → judged t (more m) ≡ more (judged t m)
  judged-more t m = ap (λ w. record (more m) { progress = judged_by w m.progress }) (work-same k t m.ranged)

  pub statement-goes : (calls : CallsOf Measured RangedArray) → CallsGo calls → (t : Statement) → Goes (λ m. measured_flow calls t m)
  statement-goes calls h t = record {
    later = λ m. entered-later t m.ranged (flow_in (of_measured calls) t (judged t m)) (flow_in (of_measured calls) t (judged t (more m)))
        (subst (λ x. Later (flow_in (of_measured calls) t (judged t m)) (flow_in (of_measured calls) t x)) (sym (judged-more t m)) (flow.later (judged t m)));
    onward = λ m. let f = flow_in (of_measured calls) t (judged t m) in
        onward-then m (left_by f) (left_by (entered_from t m.ranged f))
        (onward-then m (judged t m) (left_by f) (record { older = ([], refl); turns = omega arith }) (flow.onward (judged t m))) (entered-onward t m.ranged f);
  }
    where
      flow : Goes (λ m. flow_in (of_measured calls) t m)
      flow = (each-flow (of_measured calls) AnyLiteral Any Acts acts-done acts-then (values-go calls h) t (any-statement t)).goes

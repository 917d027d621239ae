-- The parts of the beginning of a call, one after the other.
use Rattle.std.proofs.Common.{◌≡◌, ℕ, zero, suc, ◌+◌, ◌<◌, ◌≤◌, ℤ, Bool, List, [], ◌∷◌, ◌++◌, length, map, drop, Option, Some, refl, sym, ap, ◌∙◌, subst, arith, get_or, append_assoc}
use Rattle.std.specs.List.{IsDistinct}
use Rattle.std.specs.Option.{option_to_list}
use Rattle.std.proofs.lemmas.List.{map-append, length-map}
use Rattle.apl_base.specs.Array.{Array}
use Rattle.array_store.specs.Stores.{StoreView}
use Rattle.array_store.specs.Follows.{LeafCounts}
use Rattle.drag_along.specs.declared.leaves.Leaf.{Leaf}
use Rattle.drag_along.specs.Meaning.{Meaning, Means}
use Rattle.apl_model.specs.declared.outlines.OutlineBody.{OutlineBody}
use Rattle.apl_model.specs.declared.scripts.Header.{Header}
use Rattle.apl_model.specs.Environment.{Environment, is_same_name, mapped_bindings, with_frame}
use Rattle.apl_model.specs.Frames.{frame_of, line_number, unset}
use Rattle.leaf_names.specs.Variables.{array_of, named_by_names, variables_of, AreLawfulNames, FillOwners}
use Rattle.name_table.specs.Laws.{declared_by, with_argument, with_labels}
use Rattle.name_table.proofs.CallLemmas.{call_frame_is_filled}
use Rattle.machine_state.specs.declared.machines.Machine.{Machine}
use Rattle.machine_state.specs.StandsFor.{IsLawfulMachine, variables}
use Rattle.machine_state.specs.Steps.{pending, IsLawfulBeside, IsSameCount, Keeps}
use Rattle.calling_steps.specs.Calls.{labels_in, takes_left, takes_right, Enters}
use Rattle.calling_steps.specs.Ready.{AreArrays, Changes, Passes}
use Rattle.calling_steps.proofs.LeaveLemmas.{same_counts}

-- ---- the frame

pub frame_bound : (old : Machine) (names : Environment Leaf) (declared : List (List ℕ)) → ((store : StoreView) (origin : ℤ) → variables_of store origin names ≡ with_frame (map unset declared) (variables_of store origin old.names)) → ((store : StoreView) → AreLawfulNames store old.names → AreLawfulNames store names) → ((store : StoreView) → FillOwners store old.names → FillOwners store names) → ((key : ℕ) → named_by_names names key ≡ named_by_names old.names key) → Changes old (record old { names = names }) (with_frame (map unset declared))
frame_bound old names declared means lawful fills leaves = record {
  lawful = λ hand l. record {
    desk = record {
      lawful = lawful old.store l.desk.lawful;
      filling = fills old.store l.desk.filling;
      entries = l.desk.entries;
      held = λ key. omega (arith, l.desk.held key, leaves key);
    };
    origin = l.origin;
  };
  variables = λ hand l. means old.store old.origin;
  pending = λ hand l. refl;
  limit = refl;
}

-- ---- what is so along the way

pub changed_beside : (old new : Machine) (to : Environment Array → Environment Array) → Changes old new to → IsLawfulBeside old → IsLawfulBeside new
changed_beside old new to c some = (some.0, c.lawful some.0 some.1)

pub changed_arrays : (old new : Machine) (to : Environment Array → Environment Array) → Changes old new to → IsLawfulBeside old → AreArrays old → AreArrays new
changed_arrays old new to c some arrays = (arrays.0, c.pending some.0 some.1 ∙ arrays.1)

pub passed_beside : (old new : Machine) (asked : Bool) (name : Option (List ℕ)) → Passes old new asked name → IsLawfulBeside old → IsLawfulBeside new
passed_beside old new asked name p some = (some.0, p.lawful some.0 some.1)

-- ---- all of it

grown : (m0 m1 : Machine) (frame : List (List ℕ × Option Array)) → variables m1 ≡ with_frame frame (variables m0) → length m1.names.frames ≡ suc (length m0.names.frames)
grown m0 m1 frame e =
    sym (length-map m1.names.frames (mapped_bindings (array_of m1.store)))
    ∙ ap (λ (v : Environment Array). length v.frames) e
    ∙ ap (λ (n : ℕ). suc n) (length-map m0.names.frames (mapped_bindings (array_of m0.store)))

pub entered : (m0 m1 m2 m3 m4 : Machine) (header : Header) (labels : List (Option (List ℕ))) (number : ℕ) → IsLawfulBeside m0 → IsDistinct is_same_name (declared_by header labels) → Changes m0 m1 (with_frame (map unset (declared_by header labels))) → Passes m1 m2 (takes_left number) header.left → Passes m2 m3 (takes_right number) header.right → Changes m3 m4 (with_labels line_number 1 labels) → Enters m0 m4 header labels number
entered m0 m1 m2 m3 m4 header labels number some distinct bound left right set =
    let l1 = λ (hand : LeafCounts) (l : IsLawfulMachine m0 hand). bound.lawful hand l in
    let l2 = λ (hand : LeafCounts) (l : IsLawfulMachine m0 hand). left.lawful hand (l1 hand l) in
    let l3 = λ (hand : LeafCounts) (l : IsLawfulMachine m0 hand). right.lawful hand (l2 hand l) in
    let means : (hand : LeafCounts) → IsLawfulMachine m0 hand → variables m4 ≡ with_frame (frame_of line_number header labels left.value right.value) (variables m0) = λ hand l.
    set.variables hand (l3 hand l)
    ∙ ap (λ (e : Environment Array). with_labels line_number 1 labels e) (
    right.variables hand (l2 hand l)
    ∙ ap (λ (e : Environment Array). with_argument header.right right.value e) (
    left.variables hand (l1 hand l)
    ∙ ap (λ (e : Environment Array). with_argument header.left left.value e) (bound.variables hand l)
    )
    )
    ∙ call_frame_is_filled Array line_number header labels left.value right.value (variables m0) distinct in
    record {
      older = right.older;
      left = left.value;
      right = right.value;
      left_given = left.given;
      right_given = right.given;
      were =
          sym (bound.pending some.0 some.1)
          ∙ left.were
          ∙ map-append (λ (a : Array). Means a) left.older (option_to_list left.value)
          ∙ ap (λ (ms : List Meaning). ms ++ map (λ a. Means a) (option_to_list left.value)) (sym left.are ∙ right.were)
          ∙ sym (map-append (λ (a : Array). Means a) (right.older ++ option_to_list right.value) (option_to_list left.value))
          ∙ ap (λ (xs : List Array). map (λ a. Means a) xs) (append_assoc right.older (option_to_list right.value) (option_to_list left.value));
      are = set.pending some.0 (l3 some.0 some.1) ∙ right.are;
      lawful = λ hand l. set.lawful hand (l3 hand l);
      variables = means;
      depth = grown m0 m4 (frame_of line_number header labels left.value right.value) (means some.0 some.1);
      limit = set.limit ∙ right.limit ∙ left.limit ∙ bound.limit;
    }

-- after every entry that may fail was computed
pub settled_enters : (m0 m1 m4 : Machine) (header : Header) (labels : List (Option (List ℕ))) (number : ℕ) → m1.names ≡ m0.names → Keeps m0 m1 → pending m1 ≡ pending m0 → Enters m1 m4 header labels number → Enters m0 m4 header labels number
settled_enters m0 m1 m4 header labels number names k same e = record {
  older = e.older;
  left = e.left;
  right = e.right;
  left_given = e.left_given;
  right_given = e.right_given;
  were = sym same ∙ e.were;
  are = e.are;
  lawful = λ hand l. e.lawful hand (k.lawful hand l);
  variables = λ hand l. e.variables hand (k.lawful hand l) ∙ ap (λ (v : Environment Array). with_frame (frame_of line_number header labels e.left e.right) v) (k.variables hand l);
  depth = e.depth ∙ ap (λ (n : Environment Leaf). suc (length n.frames)) names;
  limit = e.limit ∙ k.limit;
}

-- ---- labels

-- so many labels were set: what is still to be set makes of the variables what all of them make of the old ones
pub record LabelsSet (old now : Machine) (labels : List (Option (List ℕ))) (count : ℕ) : Type 0 where
  pub lawful : (hand : LeafCounts) → IsLawfulMachine old hand → IsLawfulMachine now hand
  pub variables : (hand : LeafCounts) → IsLawfulMachine old hand → with_labels line_number (suc count) (drop count labels) (variables now) ≡ with_labels line_number 1 labels (variables old)
  pub pending : (hand : LeafCounts) → IsLawfulMachine old hand → pending now ≡ pending old
  pub limit : now.store.limit ≡ old.store.limit
  pub run : IsSameCount old now

pub no_label_set : (m : Machine) (labels : List (Option (List ℕ))) → LabelsSet m m labels 0
no_label_set m labels = record { lawful = λ hand l. l; variables = λ hand l. refl; pending = λ hand l. refl; limit = refl; run = record { turns = refl; begun = refl; traced = refl; costs = refl; origin = refl; limit = refl } }

pub label_set_too : (old m0 m1 : Machine) (labels rest : List (Option (List ℕ))) (count : ℕ) (label : Option (List ℕ)) → drop count labels ≡ label ∷ rest → drop (suc count) labels ≡ rest → LabelsSet old m0 labels count → Changes m0 m1 (with_argument label (Some (line_number (suc count)))) → IsSameCount m0 m1 → LabelsSet old m1 labels (suc count)
label_set_too old m0 m1 labels rest count label here there s c run = record {
  lawful = λ hand l. c.lawful hand (s.lawful hand l);
  variables = λ hand l.
      ap (λ (ls : List (Option (List ℕ))). with_labels line_number (suc (suc count)) ls (variables m1)) there
      ∙ ap (λ (e : Environment Array). with_labels line_number (suc (suc count)) rest e) (c.variables hand (s.lawful hand l))
      ∙ ap (λ (ls : List (Option (List ℕ))). with_labels line_number (suc count) ls (variables m0)) (sym here)
      ∙ s.variables hand l;
  pending = λ hand l. c.pending hand (s.lawful hand l) ∙ s.pending hand l;
  limit = c.limit ∙ s.limit;
  run = same_counts old m0 m1 s.run run;
}

labels_all_set : (old now : Machine) (labels : List (Option (List ℕ))) (count : ℕ) → drop count labels ≡ [] → LabelsSet old now labels count → Changes old now (with_labels line_number 1 labels)
labels_all_set old now labels count none s = record {
  lawful = s.lawful;
  variables = λ hand l. ap (λ (ls : List (Option (List ℕ))). with_labels line_number (suc count) ls (variables now)) (sym none) ∙ s.variables hand l;
  pending = s.pending;
  limit = s.limit;
}

-- the label of the line at a place, and those after it
label_there : (body : List OutlineBody) (k : ℕ) (b : OutlineBody) → k < length body → b ≡ get_or body k b → drop k (labels_in body) ≡ b.label ∷ drop (suc k) (labels_in body)
label_there [] k b within is = absurd (omega (arith, within))
label_there (a ∷ body) zero b within is = ap (λ (x : OutlineBody). x.label ∷ labels_in body) (sym is)
label_there (a ∷ body) (suc k) b within is = label_there body k b (omega (arith, within)) is

pub next_label_set : (old m0 m1 : Machine) (body : List OutlineBody) (at : ℕ) (b : OutlineBody) → at < length body → b ≡ get_or body at b → LabelsSet old m0 (labels_in body) at → Changes m0 m1 (with_argument b.label (Some (line_number (at + 1)))) → IsSameCount m0 m1 → LabelsSet old m1 (labels_in body) (at + 1)
next_label_set old m0 m1 body at b within is s c run =
    let next : at + 1 ≡ suc at = omega arith in
    let labels : List (Option (List ℕ)) = labels_in body in
    subst (λ (n : ℕ). LabelsSet old m1 labels n) (sym next)
    (label_set_too old m0 m1 labels (drop (suc at) labels) at b.label (label_there body at b within is) refl s
    (subst (λ (n : ℕ). Changes m0 m1 (with_argument b.label (Some (line_number n)))) next c) run)

no_more : (A : Type 0) (xs : List A) (k : ℕ) → length xs ≤ k → drop k xs ≡ []
no_more A [] zero over = refl
no_more A [] (suc k) over = refl
no_more A (x ∷ xs) zero over = absurd (omega (arith, over))
no_more A (x ∷ xs) (suc k) over = no_more A xs k (omega (arith, over))

pub every_label_set : (old now : Machine) (body : List OutlineBody) (at : ℕ) → length body ≤ at → LabelsSet old now (labels_in body) at → Changes old now (with_labels line_number 1 (labels_in body))
every_label_set old now body at over s =
    labels_all_set old now (labels_in body) at (no_more (Option (List ℕ)) (labels_in body) at (omega (arith, over, length-map body (λ (l : OutlineBody). l.label)))) s

pub labels_beside : (old now : Machine) (labels : List (Option (List ℕ))) (count : ℕ) → LabelsSet old now labels count → IsLawfulBeside old → IsLawfulBeside now
labels_beside old now labels count s some = (some.0, s.lawful some.0 some.1)

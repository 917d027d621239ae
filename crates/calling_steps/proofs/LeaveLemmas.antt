-- Results that come and frames that go.
use Rattle.std.proofs.Common.{◌≡◌, ℕ, ◌+◌, ◌<◌, ℤ, List, [], ◌∷◌, ◌++◌, length, map, Option, Some, None, refl, sym, ap, ◌∙◌, subst, arith}
use Rattle.std.specs.Prelude.{IsSome, ◌-◌, ◌≤◌, slice_get}
use Rattle.std.proofs.Common.{length-append}
use Rattle.std.proofs.lemmas.List.{length-map}
use Rattle.drag_along.specs.Segments.{SegmentView}
use Rattle.std.specs.Option.{option_to_list}
use Rattle.std.proofs.lemmas.List.{append-nil}
use Rattle.apl_base.specs.Array.{Array}
use Rattle.array_store.specs.Stores.{StoreView}
use Rattle.array_store.specs.Follows.{LeafCounts, Holds, both, none}
use Rattle.drag_along.specs.declared.leaves.Leaf.{Leaf}
use Rattle.drag_along.specs.Meaning.{Meaning, Means, entry}
use Rattle.drag_along.proofs.KeptLemmas.{follows_keeps}
use Rattle.value_stack.specs.Stacks.{named_on}
use Rattle.value_stack.proofs.EntriesLemmas.{stack_kept}
use Rattle.apl_model.specs.Environment.{Bindings, Environment, innermost_gone, look_up, without_frame, without_frames}
use Rattle.apl_model.specs.Frames.{result_in}
use Rattle.leaf_names.specs.Variables.{array_of, named_by_names, variables_of}
use Rattle.name_table.specs.Names.{LetsGo}
use Rattle.pending_steps.specs.Leaves.{PutsHeld}
use Rattle.pending_steps.specs.Steps.{Moves}
use Rattle.machine_state.specs.declared.machines.Machine.{Machine}
use Rattle.machine_state.specs.StandsFor.{IsLawfulMachine, variables}
use Rattle.machine_state.specs.Steps.{pending, IsLawfulBeside, IsSameCount, Keeps}
use Rattle.machine_state.proofs.KeepsLemmas.{keeps}
use Rattle.machine_state.proofs.NameLemmas.{found_value}
use Rattle.calling_steps.specs.Calls.{EndsAll, Leaves}
use Rattle.calling_steps.specs.Ready.{PutsResult, UnwindsOne}
use Rattle.value_stack.proofs.NewestLemmas.{last_there}

-- ---- the result

pub no_result : (m : Machine) (name : Option (List ℕ)) → result_in (variables m) name ≡ None → PutsResult m m name
no_result m name none = record {
  keeps = record { lawful = λ hand l. l; variables = λ hand l. refl; limit = refl };
  puts = sym (append-nil (pending m)) ∙ ap (λ (o : Option Array). pending m ++ map (λ a. Means a) (option_to_list o)) (sym none);
}

pub result_found : (m : Machine) (name : List ℕ) (leaf : Leaf) → look_up m.names name ≡ Some leaf → result_in (variables m) (Some name) ≡ Some (array_of m.store leaf)
result_found m name leaf found = found_value m name (Some leaf) found

pub result_unset : (m : Machine) (name : List ℕ) → look_up m.names name ≡ None → result_in (variables m) (Some name) ≡ None
result_unset m name unset = found_value m name None unset

pub result_put : (old new : Machine) (name : List ℕ) (leaf : Leaf) → look_up old.names name ≡ Some leaf → new.names ≡ old.names → new.origin ≡ old.origin → PutsHeld old.store new.store old.stack new.stack leaf → PutsResult old new (Some name)
result_put old new name leaf found names origin puts = record {
  keeps = keeps old new names origin puts.moves;
  puts = puts.means ∙ ap (λ (o : Option Array). pending old ++ map (λ a. Means a) (option_to_list o)) (sym (result_found old name leaf found));
}

-- ---- a frame

pub unwound : (old : Machine) (store : StoreView) (names : Environment Leaf) → names ≡ without_frame old.names → ((origin : ℤ) → variables_of store origin names ≡ without_frame (variables_of old.store origin old.names)) → LetsGo old.store store old.names names → IsLawfulBeside old → UnwindsOne old (record old { store = store; names = names })
unwound old store names are means go some =
    let kept = λ (hand : LeafCounts) (l : IsLawfulMachine old hand).
    (let held : Holds old.store (both (named_by_names old.names) (named_on old.stack)) = λ key. omega (arith, l.desk.held key) in
    stack_kept old.store store old.stack (follows_keeps old.store store (named_by_names old.names) (named_by_names names) (named_on old.stack) (named_on old.stack) go.follows held (λ key. omega arith)) l.desk.entries) in
    record {
      changes = record {
        lawful = λ hand l. record {
          desk = record {
            lawful = go.lawful;
            filling = go.fills l.desk.filling;
            entries = (kept hand l).0;
            held = λ key. omega (arith, l.desk.held key, go.follows.holders key);
          };
          origin = l.origin;
        };
        variables = λ hand l. means old.origin;
        pending = λ hand l. (kept hand l).1;
        limit = go.follows.limit;
      };
      names = are;
      stack = refl;
      counts = go.counts;
    }

pub left : (m0 m1 m2 : Machine) (name : Option (List ℕ)) → m1.names ≡ m0.names → PutsResult m0 m1 name → UnwindsOne m1 m2 → Leaves m0 m2 name
left m0 m1 m2 name names p u = record {
  lawful = λ hand l. u.changes.lawful hand (p.keeps.lawful hand l);
  variables = λ hand l. u.changes.variables hand (p.keeps.lawful hand l) ∙ ap (λ (e : Environment Array). without_frame e) (p.keeps.variables hand l);
  pending = λ hand l. u.changes.pending hand (p.keeps.lawful hand l) ∙ p.puts;
  names = u.names ∙ ap (λ (n : Environment Leaf). without_frame n) names;
  limit = u.changes.limit ∙ p.keeps.limit;
}

-- ---- all frames, and all entries

-- some frames went: so many are left, and without the others all is the same
pub record Unwinds (old now : Machine) (gone : ℕ) : Type 0 where
  pub lawful : (hand : LeafCounts) → IsLawfulMachine old hand → IsLawfulMachine now hand
  pub variables : (hand : LeafCounts) → IsLawfulMachine old hand → without_frames (variables now) ≡ without_frames (variables old)
  pub names : without_frames now.names ≡ without_frames old.names
  pub count : length now.names.frames + gone ≡ length old.names.frames
  pub counts : now.store.counts ≡ old.store.counts
  pub limit : now.store.limit ≡ old.store.limit

pub none_unwound : (m : Machine) → Unwinds m m 0
none_unwound m = record { lawful = λ hand l. l; variables = λ hand l. refl; names = refl; count = omega arith; counts = refl; limit = refl }

one_less : {A : Type 0} (fs : List (Bindings A)) → 0 < length fs → length (innermost_gone fs) + 1 ≡ length fs
one_less [] some = absurd (omega (arith, some))
one_less (f ∷ fs) some = omega arith

pub one_unwound : (old m0 m1 : Machine) (gone : ℕ) → 0 < length m0.names.frames → Unwinds old m0 gone → UnwindsOne m0 m1 → Unwinds old m1 (gone + 1)
one_unwound old m0 m1 gone some s u = record {
  lawful = λ hand l. u.changes.lawful hand (s.lawful hand l);
  variables = λ hand l. ap (λ (e : Environment Array). without_frames e) (u.changes.variables hand (s.lawful hand l)) ∙ s.variables hand l;
  names = ap (λ (e : Environment Leaf). without_frames e) u.names ∙ s.names;
  count = omega (arith, s.count, one_less m0.names.frames some, ap (λ (e : Environment Leaf). length e.frames) u.names);
  counts = u.counts ∙ s.counts;
  limit = u.changes.limit ∙ s.limit;
}

-- all frames went
no_frames : {A : Type 0} (fs : List (Bindings A)) → length fs ≡ 0 → fs ≡ []
no_frames [] none = refl
no_frames (f ∷ fs) none = absurd (omega (arith, none))

pub record UnwindsAll (old now : Machine) : Type 0 where
  pub lawful : (hand : LeafCounts) → IsLawfulMachine old hand → IsLawfulMachine now hand
  pub variables : (hand : LeafCounts) → IsLawfulMachine old hand → variables now ≡ without_frames (variables old)
  pub names : now.names ≡ without_frames old.names
  pub counts : now.store.counts ≡ old.store.counts
  pub limit : now.store.limit ≡ old.store.limit

pub all_unwound : (old now : Machine) (gone : ℕ) → length now.names.frames ≡ 0 → Unwinds old now gone → UnwindsAll old now
all_unwound old now gone none s =
    let bare : now.names ≡ without_frames now.names = ap (λ (fs : List (Bindings Leaf)). let e : Environment Leaf = record now.names { frames = fs } in e) (no_frames now.names.frames none) in
    record {
      lawful = s.lawful;
      variables = λ hand l. ap (λ (n : Environment Leaf). variables_of now.store now.origin n) bare ∙ s.variables hand l;
      names = bare ∙ s.names;
      counts = s.counts;
      limit = s.limit;
    }

-- entries that are dropped one after the other
pub dropped_too : (old m0 m1 : Machine) → m1.names ≡ m0.names → m1.origin ≡ m0.origin → m1.store.counts ≡ m0.store.counts → UnwindsAll old m0 → Moves m0.store m1.store m0.stack m1.stack none none → UnwindsAll old m1
dropped_too old m0 m1 names origin counts s moves =
    let k : Keeps m0 m1 = keeps m0 m1 names origin moves in
    record {
      lawful = λ hand l. k.lawful hand (s.lawful hand l);
      variables = λ hand l. k.variables hand (s.lawful hand l) ∙ s.variables hand l;
      names = names ∙ s.names;
      counts = counts ∙ s.counts;
      limit = k.limit ∙ s.limit;
    }

pub all_ended : (old now : Machine) → now.stack ≡ [] → UnwindsAll old now → EndsAll old now
all_ended old now stack s = record { lawful = s.lawful; variables = s.variables; stack = stack; names = s.names; counts = s.counts; limit = s.limit }

-- ---- loops

pub record FramesGo (old now : Machine) (gone end : ℕ) : Type 0 where
  pub unwinds : Unwinds old now gone
  pub run : IsSameCount old now
  pub some : IsLawfulBeside old
  pub all : end ≡ length old.names.frames

pub record EntriesGo (old now : Machine) (gone end : ℕ) : Type 0 where
  pub frames : UnwindsAll old now
  pub run : IsSameCount old now
  pub some : IsLawfulBeside old
  pub all : length now.stack + gone ≡ end

pub same_counts : (a b c : Machine) → IsSameCount a b → IsSameCount b c → IsSameCount a c
same_counts a b c j k = record {
  turns = k.turns ∙ j.turns;
  begun = k.begun ∙ j.begun;
  traced = k.traced ∙ j.traced;
  costs = k.costs ∙ j.costs;
  origin = k.origin ∙ j.origin;
  limit = k.limit ∙ j.limit;
}

pub no_frame_gone : (m : Machine) (end : ℕ) → end ≡ length m.names.frames → IsLawfulBeside m → FramesGo m m 0 end
no_frame_gone m end all some = record { unwinds = none_unwound m; run = record { turns = refl; begun = refl; traced = refl; costs = refl; origin = refl; limit = refl }; some = some; all = all }

pub frame_is_there : (old now : Machine) (gone end : ℕ) → gone < end → FramesGo old now gone end → 0 < length now.names.frames
frame_is_there old now gone end less s = omega (arith, less, s.unwinds.count, s.all)

pub frame_gone_too : (old m0 m1 : Machine) (gone end : ℕ) → gone < end → FramesGo old m0 gone end → UnwindsOne m0 m1 → IsSameCount m0 m1 → FramesGo old m1 (gone + 1) end
frame_gone_too old m0 m1 gone end less s u run = record {
  unwinds = one_unwound old m0 m1 gone (frame_is_there old m0 gone end less s) s.unwinds u;
  run = same_counts old m0 m1 s.run run;
  some = s.some;
  all = s.all;
}

pub no_entry_gone : (old now : Machine) (gone last end : ℕ) → last ≤ gone → FramesGo old now gone last → end ≡ length now.stack → EntriesGo old now 0 end
no_entry_gone old now gone last end over s all = record {
  frames = all_unwound old now gone (omega (arith, over, s.unwinds.count, s.all)) s.unwinds;
  run = s.run;
  some = s.some;
  all = omega (arith, all);
}

pub go_beside : (old now : Machine) (gone end : ℕ) → EntriesGo old now gone end → IsLawfulBeside now
go_beside old now gone end s = (s.some.0, s.frames.lawful s.some.0 s.some.1)

one_dropped : (m0 m1 : Machine) → 0 < length m0.stack → ((s : SegmentView) → slice_get m0.stack (length m0.stack - 1) ≡ Some s → pending m0 ≡ pending m1 ++ entry m0.store s ∷ []) → length m0.stack ≡ length m1.stack + 1
one_dropped m0 m1 some dropped =
    let last = last_there m0.stack some in
    omega (
      arith,
      length-map m0.stack (entry m0.store),
      length-map m1.stack (entry m1.store),
      ap (λ (ms : List Meaning). length ms) (dropped last.0 last.1),
      length-append (pending m1) (entry m0.store last.0 ∷ []),
    )

pub entry_gone_too : (old m0 m1 : Machine) (gone end : ℕ) → gone < end → m1.names ≡ m0.names → m1.store.counts ≡ m0.store.counts → IsSameCount m0 m1 → EntriesGo old m0 gone end → Moves m0.store m1.store m0.stack m1.stack none none → ((s : SegmentView) → slice_get m0.stack (length m0.stack - 1) ≡ Some s → pending m0 ≡ pending m1 ++ entry m0.store s ∷ []) → EntriesGo old m1 (gone + 1) end
entry_gone_too old m0 m1 gone end less names counts run s moves dropped = record {
  frames = dropped_too old m0 m1 names run.origin counts s.frames moves;
  run = same_counts old m0 m1 s.run run;
  some = s.some;
  all = omega (arith, s.all, one_dropped m0 m1 (omega (arith, s.all, less)) dropped);
}

no_entries : (stack : List SegmentView) → length stack ≡ 0 → stack ≡ []
no_entries [] none = refl
no_entries (s ∷ stack) none = absurd (omega (arith, none))

pub every_entry_gone : (old now : Machine) (gone end : ℕ) → end ≤ gone → EntriesGo old now gone end → EndsAll old now
every_entry_gone old now gone end over s = all_ended old now (no_entries now.stack (omega (arith, s.all, over))) s.frames

-- ---- whether there is a value

pub some_is : {A : Type 0} (o : Option A) (a : A) → o ≡ Some a → IsSome o
some_is o a e = subst (λ (p : Option _). IsSome p) (sym e) refl

pub none_is_not : {A : Type 0} (o : Option A) → o ≡ None → IsSome o → ⊥
none_is_not None e s = absurd cc
none_is_not (Some a) e s = absurd cc

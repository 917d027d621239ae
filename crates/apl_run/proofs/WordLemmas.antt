-- The run that words ask for, and what the top call says of it.
use mir.Val.{SFits}
use mir.Syntax.{w128}
use Rattle.std.proofs.Common.{◌≡◌, ℤ, ℕ, ◌+◌, ◌^◌, ◌<◌, ◌≤◌, ◌⊎◌, Bool, true, false, List, [], ◌∷◌, ◌++◌, map, length, Option, Some, None, Err, IfSome, IsSome, pos, refl, sym, ap, ◌∙◌, subst, arith, inl, inr, true≢false}
use Rattle.apl_base.specs.declared.faults.Cause.TheVariants.{TooLong}
use Rattle.apl_base.specs.declared.faults.TheConstants.{MOST_BYTES}
use Rattle.apl_outside.specs.Bytes.{Gains}
use Rattle.apl_outside.specs.Faults.{Rose}
use Rattle.apl_model.specs.Refusal.{refusal}
use Rattle.machine_state.specs.declared.machines.Machine.{Machine}
use Rattle.machine_state.specs.StandsFor.{IsAtRest, variables}
use Rattle.d_machine.specs.Answers.{Scene, statements_in}
use Rattle.d_machine.specs.Running.{scene}
use Rattle.apl_base.specs.declared.faults.Refusal.{Refusal}
use Rattle.apl_outside.proofs.Parts.{gains_then}
use Rattle.apl_print.specs.Bytes.{GainsPrefix}
use Rattle.apl_print.specs.declared.costs.Cost.{Cost}
use Rattle.apl_model.specs.declared.faults.ReadFault.{ReadFault}
use Rattle.apl_model.specs.declared.faults.ReadFault.TheVariants as read_fault
use Rattle.apl_model.specs.ReadFaults.{IfRefused}
use Rattle.apl_model.specs.Environment.{Bindings, no_variables}
use Rattle.array_store.specs.Stores.{empty_store}
use Rattle.drag_along.specs.declared.leaves.Leaf.{Leaf}
use Rattle.leaf_names.specs.Variables.{variables_of as variables_over}
use Rattle.script_run.proofs.SceneLemmas.{rose-later}
use Rattle.apl_words.specs.declared.options.WordsFault.{WordsFault}
use Rattle.apl_words.specs.declared.options.WordsFault.TheVariants as words_fault
use Rattle.apl_words.specs.declared.options.Options.{Options}
use Rattle.apl_run.specs.declared.statuses.Ended.{Ended}
use Rattle.apl_run.specs.declared.statuses.Workspace.{Workspace}
use Rattle.apl_run.specs.Workspaces.{variables_in}
use Rattle.apl_run.specs.declared.statuses.Status.{Status}
use Rattle.apl_run.specs.declared.statuses.Status.TheVariants as status
use Rattle.apl_run.specs.declared.statuses.Which.TheVariants as which
use Rattle.apl_run.specs.Answers.{Answer, ran, refused, ForAnswer, HasAnswer, IsAnswer, asks_trace, bytes_of, ended_of, script_bytes, status_of, variables_of}
use Rattle.apl_run.specs.Endings.{Ends, EndsSo, HasCause, IsCut, IsFresh, IsWhole, Leaves, RunsBytes, RunsOptions, RunsWords}
use Rattle.apl_run.specs.Statuses.{last_line, IsCutShort, IsEnd, IsLasting, IsUnread}
use Rattle.apl_run.specs.Traces.{AreWrittenIf, GainsLast, IsFront, IsLast, Traces}
use Rattle.apl_run.proofs.AnswerLemmas.{long_is_refused}
use Rattle.apl_run.proofs.EndLemmas.{unrun-leaves, wanting-none}
use Rattle.apl_run.proofs.ScriptLemmas.{of-answer}

-- what follows for what is there
pub if-some : {A : Type 0} (P Q : A → Type 0) (o : Option A) → ((a : A) → P a → Q a) → IfSome o P → IfSome o Q
if-some P Q None next h = tt
if-some P Q (Some a) next h = next a h

-- what holds of all is so of what is there
pub some-all : {A : Type 0} (Q : A → Type 0) (o : Option A) → ((a : A) → Q a) → IfSome o Q
some-all Q None next = tt
some-all Q (Some a) next = next a

-- a script that was read is not told as unread
pub was-read : (old new : Scene) (s : Status) → HasCause old new s → IsUnread s → ⊥
was-read old new status.ReadFault c u = c
was-read old new status.Words c u = c
was-read old new status.Done c u = u
was-read old new status.Reported c u = u
was-read old new (status.Refused r) c u = u
was-read old new status.Spent c u = u
was-read old new (status.WsFull live asked) c u = u
was-read old new status.NoMemory c u = u
was-read old new (status.WriteFault w) c u = u

-- ---- the options

module _ (number : Option ℕ) (left : Option (List ℕ)) (old new : Scene) (s : Status) where
  -- a script was read
  pub options-ran : (bytes : List ℕ) → IfSome (script_bytes number left) (λ told. bytes ≡ told) → RunsBytes bytes old new s → RunsOptions number left old new s
  options-ran bytes told h = record {
    answer = if-some (λ t. bytes ≡ t) (λ t. (a : Answer) → IsAnswer t old.machine.turns_left a → EndsSo a old new s) (script_bytes number left)
        (λ t e. subst (λ (xs : List ℕ). (a : Answer) → IsAnswer xs old.machine.turns_left a → EndsSo a old new s) e h.answer) told;
    answered = λ i. if-some (λ t. bytes ≡ t) (λ t. (a : Answer) × IsAnswer t old.machine.turns_left a) (script_bytes number left)
        (λ t e. subst (λ (xs : List ℕ). (a : Answer) × IsAnswer xs old.machine.turns_left a) e (h.answered i)) told;
    cause = inr h.cause;
    leaves = h.leaves;
  }

  -- it had too many bytes
  pub options-long : IfSome (script_bytes number left) (λ told. MOST_BYTES < length told) → Ends (refused (refusal TooLong 0 0)) old new s → RunsOptions number left old new s
  options-long long h = record {
    answer = if-some (λ t. MOST_BYTES < length t) (λ t. (a : Answer) → IsAnswer t old.machine.turns_left a → EndsSo a old new s) (script_bytes number left)
        (λ t l. (of-answer t (refused (refusal TooLong 0 0)) old new s (long_is_refused t old.machine.turns_left l) h).answer) long;
    answered = λ i. if-some (λ t. MOST_BYTES < length t) (λ t. (a : Answer) × IsAnswer t old.machine.turns_left a) (script_bytes number left)
        (λ t l. (refused (refusal TooLong 0 0), long_is_refused t old.machine.turns_left l)) long;
    cause = inr h.cause;
    leaves = h.leaves;
  }

module _ (number : Option ℕ) (left : Option (List ℕ)) (old : Scene) (f : IsFresh old.machine) where
  -- the source failed
  pub options-failed : RunsOptions number left old old status.ReadFault
  options-failed = record {
    answer = some-all (λ t. (a : Answer) → IsAnswer t old.machine.turns_left a → EndsSo a old old status.ReadFault) (script_bytes number left) (λ t a i. tt);
    answered = λ i. absurd i;
    cause = inl refl;
    leaves = unrun-leaves old old status.ReadFault f refl refl (λ l. f.rest) (λ costs globals. refl) (omega arith) (omega arith);
  }

  -- memory was wanting before it was read
  pub options-wanting : RunsOptions number left old old status.NoMemory
  options-wanting = record {
    answer = some-all (λ t. (a : Answer) → IsAnswer t old.machine.turns_left a → EndsSo a old old status.NoMemory) (script_bytes number left) (λ t a i. (wanting-none old a f).so);
    answered = λ i. absurd i;
    cause = inr tt;
    leaves = (wanting-none old (refused (refusal TooLong 0 0)) f).leaves;
  }

-- ---- the words

module _ (asked : Option Options) (left : Option (List ℕ)) (old new : Scene) (s : Status) where
  -- the words ask for these options
  pub words-ran : (o : Options) → asked ≡ Some o → IsFresh old.machine → old.machine.turns_left ≡ o.turns → old.machine.traced ≡ o.traced
      → RunsOptions o.workload left old new s → RunsWords asked left old new s
  words-ran o e f turns traced h = record {
    fresh = f;
    traced = traced ∙ sym (ap asks_trace e);
    answer = subst (λ (x : Option Options). IfSome x (λ q. IfSome (script_bytes q.workload left) (λ bytes. (a : Answer) → IsAnswer bytes q.turns a → EndsSo a old new s))) (sym e)
        (subst (λ (n : ℕ). IfSome (script_bytes o.workload left) (λ bytes. (a : Answer) → IsAnswer bytes n a → EndsSo a old new s)) turns h.answer);
    answered = λ i. subst (λ (x : Option Options). IfSome x (λ q. IfSome (script_bytes q.workload left) (λ bytes. (a : Answer) × IsAnswer bytes q.turns a))) (sym e)
        (subst (λ (n : ℕ). IfSome (script_bytes o.workload left) (λ bytes. (a : Answer) × IsAnswer bytes n a)) turns (h.answered i));
    cause = by h.cause;
    leaves = h.leaves;
  }
    where
      by : (s ≡ status.ReadFault) ⊎ HasCause old new s → IsUnread s ⊎ HasCause old new s
      by (inl e) = inl (subst (λ (x : Status). IsUnread x) (sym e) tt)
      by (inr c) = inr c

module _ (asked : Option Options) (left : Option (List ℕ)) (old : Scene) (f : IsFresh old.machine) where
  -- the words are refused
  pub words-refused : asked ≡ None → old.machine.traced ≡ false → RunsWords asked left old old status.Words
  words-refused e traced = record {
    fresh = f;
    traced = traced ∙ sym (ap asks_trace e);
    answer = some-all _ asked (λ q. some-all (λ bytes. (a : Answer) → IsAnswer bytes q.turns a → EndsSo a old old status.Words) (script_bytes q.workload left) (λ bytes a i. tt));
    answered = λ i. absurd i;
    cause = inl tt;
    leaves = unrun-leaves old old status.Words f refl refl (λ l. f.rest) (λ costs globals. refl) (omega arith) (omega arith);
  }

-- a machine with a trace or without one is as fresh
abbrev pub as_traced : Machine → Bool → Machine
as_traced m t = record m { traced = t }

pub fresh-traced : (m : Machine) (t : Bool) → IsFresh m → IsFresh (as_traced m t)
fresh-traced m t f = record {
  rest = record {
    lawful = record { desk = f.rest.lawful.desk; origin = f.rest.lawful.origin };
    stack = f.rest.stack;
    frames = f.rest.frames;
    turns = f.rest.turns;
  };
  variables = f.variables;
  globals = f.globals;
  begun = f.begun;
  costs = f.costs;
  limit = f.limit;
}

-- memory was wanting when the words were read
pub words-wanting : (asked : Option Options) (left out trace : Option (List ℕ)) (m : Machine) (faults trace_faults : ℕ) → IsFresh m → (t : Bool) → t ≡ asks_trace asked
    → RunsWords asked left (scene (as_traced m t) out faults trace trace_faults) (scene m out faults trace trace_faults) status.NoMemory
words-wanting asked left out trace m faults trace_faults f t e =
    let old : Scene = scene (as_traced m t) out faults trace trace_faults in
    let new : Scene = scene m out faults trace trace_faults in
    let g : IsFresh (as_traced m t) = fresh-traced m t f in
    let none : Leaves old old status.NoMemory = (wanting-none old (refused (refusal TooLong 0 0)) g).leaves in record {
      fresh = g;
      traced = e;
      answer = some-all _ asked (λ q. some-all (λ bytes. (a : Answer) → IsAnswer bytes q.turns a → EndsSo a old new status.NoMemory) (script_bytes q.workload left)
          (λ bytes a i. let c = (wanting-none old a g).so in record { bytes = c.bytes; ended = c.ended }));
      answered = λ i. absurd i;
      cause = inr tt;
      leaves = record {
        rest = λ l. absurd l;
        not_run = λ h. absurd h;
        untraced = none.untraced;
        trace = none.trace;
        out_faults = none.out_faults;
        trace_faults = none.trace_faults;
      };
    }

-- ---- what the top call says

module _ (asked : Option Options) (left : Option (List ℕ)) (old new : Scene) (s : Status) (h : RunsWords asked left old new s) where
  -- what follows of each answer
  pub for-each : (P Q : Answer → Type 0) → ((a : Answer) → P a → Q a) → ForAnswer asked left P → ForAnswer asked left Q
  for-each P Q next i =
      if-some (λ o. IfSome (script_bytes o.workload left) (λ bytes. (a : Answer) → IsAnswer bytes o.turns a → P a))
      (λ o. IfSome (script_bytes o.workload left) (λ bytes. (a : Answer) → IsAnswer bytes o.turns a → Q a)) asked
      (λ o. if-some (λ bytes. (a : Answer) → IsAnswer bytes o.turns a → P a) (λ bytes. (a : Answer) → IsAnswer bytes o.turns a → Q a) (script_bytes o.workload left)
      (λ bytes k a j. next a (k a j))) i

  -- an end is whole
  pub whole-end : IsEnd s → ForAnswer asked left (λ a. IsWhole a old new s)
  whole-end e = for-each (λ a. EndsSo a old new s) (λ a. IsWhole a old new s) (by s e) h.answer
    where
      by : (t : Status) → IsEnd t → (a : Answer) → EndsSo a old new t → IsWhole a old new t
      by status.Done e a i = i
      by status.Reported e a i = i
      by (status.Refused r) e a i = i
      by status.Spent e a i = i
      by (status.WsFull live asked) e a i = absurd e
      by status.NoMemory e a i = absurd e
      by (status.WriteFault w) e a i = absurd e
      by status.ReadFault e a i = absurd e
      by status.Words e a i = absurd e

  -- what was cut short is cut
  pub cut-end : IsCutShort s → ForAnswer asked left (λ a. IsCut a old new)
  cut-end e = for-each (λ a. EndsSo a old new s) (λ a. IsCut a old new) (by s e) h.answer
    where
      by : (t : Status) → IsCutShort t → (a : Answer) → EndsSo a old new t → IsCut a old new
      by status.Done e a i = absurd e
      by status.Reported e a i = absurd e
      by (status.Refused r) e a i = absurd e
      by status.Spent e a i = absurd e
      by (status.WsFull live asked) e a i = i
      by status.NoMemory e a i = i
      by (status.WriteFault w) e a i = i
      by status.ReadFault e a i = absurd e
      by status.Words e a i = absurd e

  pub top-status : IsEnd s → ForAnswer asked left (λ a. s ≡ status_of a)
  top-status e = for-each (λ a. IsWhole a old new s) (λ a. s ≡ status_of a) (λ a w. w.is) (whole-end e)

  pub top-bytes : IsEnd s → ForAnswer asked left (λ a. Gains old.out new.out (bytes_of a))
  top-bytes e = for-each (λ a. IsWhole a old new s) (λ a. Gains old.out new.out (bytes_of a)) (λ a w. w.bytes) (whole-end e)

  -- of a workspace that has what the machine had
  pub top-variables : (ws : Workspace) → variables_in ws ≡ variables new.machine → IsEnd s → ForAnswer asked left (λ a. variables_in ws ≡ variables_of a)
  top-variables ws same e = for-each (λ a. IsWhole a old new s) (λ a. variables_in ws ≡ variables_of a) (λ a w. same ∙ w.variables) (whole-end e)

  pub top-costs : IsEnd s → asks_trace asked ≡ true → ForAnswer asked left (λ a. statements_in new.machine.costs.items ≡ ended_of a)
  top-costs e t = for-each (λ a. IsWhole a old new s) (λ a. statements_in new.machine.costs.items ≡ ended_of a) (λ a w. w.ended (h.traced ∙ t)) (whole-end e)

  pub top-prefix : IsCutShort s → ForAnswer asked left (λ a. GainsPrefix old.out new.out (bytes_of a))
  top-prefix e = for-each (λ a. IsCut a old new) (λ a. GainsPrefix old.out new.out (bytes_of a)) (λ a w. w.bytes) (cut-end e)

  pub top-first : IsCutShort s → asks_trace asked ≡ true → ForAnswer asked left (λ a. IsFront (statements_in new.machine.costs.items) (ended_of a))
  top-first e t = for-each (λ a. IsCut a old new) (λ a. IsFront (statements_in new.machine.costs.items) (ended_of a)) (λ a w. w.ended (h.traced ∙ t)) (cut-end e)

  -- the lines, and then the last one
  pub top-trace : (ended : Ended) → ended.status ≡ s → ended.costs.items ≡ new.machine.costs.items → ended.ws.names.globals ≡ new.machine.names.globals → (trace : Option (List ℕ)) (faults : ℕ)
      → GainsLast (last_line s) (Rose new.trace_faults faults) new.trace trace → Traces (asks_trace asked) ended old.trace trace (Rose old.trace_faults faults)
  top-trace ended e f i trace faults l = record {
    lines = h.leaves.trace.lines;
    last = l.last;
    written = subst (λ (b : Bool). AreWrittenIf b ended.status ended.costs.items ended.ws.names.globals h.leaves.trace.lines) h.traced
        (subst (λ (x : Status). AreWrittenIf old.machine.traced x ended.costs.items ended.ws.names.globals h.leaves.trace.lines) (sym e)
        (subst (λ (xs : List Cost). AreWrittenIf old.machine.traced s xs ended.ws.names.globals h.leaves.trace.lines) (sym f)
        (subst (λ (gs : Bindings Leaf). AreWrittenIf old.machine.traced s new.machine.costs.items gs h.leaves.trace.lines) (sym i) h.leaves.trace.written)));
    at_last = by l.at_last;
    gained = gains_then old.trace new.trace trace h.leaves.trace.lines l.last h.leaves.trace.gained l.gained;
  }
    where
      by : IsLast (Rose new.trace_faults faults) (last_line s) l.last → IsLast (Rose old.trace_faults faults) (last_line ended.status) l.last
      by (inl q) = inl (q ∙ ap last_line (sym e))
      by (inr q) = inr (rose-later old.trace_faults new.trace_faults faults h.leaves.trace_faults q.0, subst (λ (x : Status). IsFront l.last (last_line x)) (sym e) q.1)

-- ---- where the words come from

-- a new machine is fresh
pub fresh-new : (m : Machine) → IsAtRest m → m.store ≡ empty_store (2 ^ 24) → m.names ≡ no_variables → m.begun ≡ 0 → m.costs.items ≡ [] → m.origin ≡ pos 1 → IsFresh m
fresh-new m rest store names begun costs origin = record {
  rest = rest;
  variables = λ i. variables_over m.store (origin i) (names i);
  globals = ap (λ n. n.globals) names;
  begun = begun;
  costs = costs;
  limit = ap (λ s. s.limit) store;
}

-- what a fault of the words tells
pub words-none : (fault : WordsFault) (none : Type 0) → fault ≡ words_fault.Refused → (fault ≡ words_fault.NoMemory) ⊎ ((fault ≡ words_fault.Refused) × none) → none
words-none fault none e (inl f) = absurd (let g : words_fault.Refused ≡ words_fault.NoMemory = sym e ∙ f in cc)
words-none fault none e (inr f) = f.1

-- a script that has too many bytes was not the workload's, or its source held them
pub long-left : (number : Option ℕ) (left rest : Option (List ℕ)) → IfSome (script_bytes number left) (λ told. MOST_BYTES < length told)
    → IsSome number ⊎ IfSome left (λ script. (rest ≡ Some []) ⊎ (MOST_BYTES < length script))
long-left None left rest h = inr (if-some (λ t. MOST_BYTES < length t) (λ t. (rest ≡ Some []) ⊎ (MOST_BYTES < length t)) left (λ t l. inr l) h)
long-left (Some k) left rest h = inl search

-- memory was wanting before the script was read
pub wanting-bytes : (bytes : List ℕ) (old : Scene) → IsFresh old.machine → RunsBytes bytes old old status.NoMemory
wanting-bytes bytes old f = record {
  answer = λ a i. (wanting-none old a f).so;
  answered = λ i. absurd i;
  cause = tt;
  leaves = (wanting-none old (refused (refusal TooLong 0 0)) f).leaves;
}

-- the refusal that a reader answers
pub first-of : (A : Type 0) (P : Refusal → Type 0) (e : ReadFault) (r : Refusal) → e ≡ read_fault.Refused r → IfRefused {A = A} (Err e) P → P r
first-of A P e r same h = subst (λ (x : ReadFault). IfRefused {A = A} (Err x) P) same h

-- the same script by other words
pub bytes-as : (xs ys : List ℕ) (old new : Scene) (s : Status) → xs ≡ ys → RunsBytes xs old new s → RunsBytes ys old new s
bytes-as xs ys old new s e h = subst (λ (zs : List ℕ). RunsBytes zs old new s) e h

-- ---- what an end leaves may be asked for

pub end-lasts : (s : Status) → IsEnd s → IsLasting s
end-lasts status.Done e = tt
end-lasts status.Reported e = tt
end-lasts (status.Refused r) e = tt
end-lasts status.Spent e = tt
end-lasts (status.WsFull live asked) e = absurd e
end-lasts status.NoMemory e = absurd e
end-lasts (status.WriteFault w) e = absurd e
end-lasts status.ReadFault e = absurd e
end-lasts status.Words e = absurd e

-- an origin is a cell
pub origin-fits : (o : ℤ) → (o ≡ pos 0) ⊎ (o ≡ pos 1) → SFits w128 o
origin-fits o (inl e) = subst (λ (z : ℤ). SFits w128 z) (sym e) (record { sfits = omega arith })
origin-fits o (inr e) = subst (λ (z : ℤ). SFits w128 z) (sym e) (record { sfits = omega arith })

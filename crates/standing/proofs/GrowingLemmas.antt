-- Every relation that each step of evaluation keeps holds between the state before and the state after code.
use Rattle.std.proofs.Common.{ℕ, zero, suc, Bool, true, false, List, [], ◌∷◌, ◌++◌, Option, Some, None, refl, sym, ap, subst, ◌∙◌, append_assoc, append-nil}
use Rattle.apl_base.specs.declared.faults.Place.{Place}
use Rattle.apl_base.specs.Array.{Array}
use Rattle.apl_model.specs.Environment.{look_up}
use Rattle.apl_model.specs.Evaluation.{State, Calls, of_arrays, origin_of, replace_in}
use Rattle.apl_model.specs.Immediate.{of_states}
use Rattle.apl_model.specs.Outcome.{Outcome, done, fails, spent, Flow, onwards}
use Rattle.apl_model_laws.specs.Turns.{state_of}
use Rattle.apl_model_laws.specs.Printing.{BeginsWith}
use Rattle.apl_model_laws.proofs.Kept.{IsKept, Leads, leads_at, leads_branch, leads_call, leads_done, leads_name, leads_needed, leads_print, leads_show, leads_then}
use Rattle.apl_model_laws.proofs.Counted.{begins_onward, turns_kept}
use Rattle.apl_compile.specs.declared.codes.Code.{Code}
use Rattle.apl_compile.specs.declared.codes.Instruction.{Instruction}
use Rattle.apl_compile.specs.declared.codes.Op.{Op}
use Rattle.apl_compile.specs.declared.codes.Op.TheVariants as op
use Rattle.apl_compile.specs.Execution.{Doing, comes, missing, goes_on, Taken, taken, with_result, newest, others, indexed, replaced_by, replaced, called, called_with, act, exec, stopping}
use Rattle.apl_compile.specs.Running.{code_meaning}
use Rattle.standing.specs.Growing.{Grows, CallsGrow, CodeGrows, FunctionsGrow}

-- where code comes to something, the relation holds up to there
abbrev pub DoingLeads : (R : State → State → Type 0) {A : Type 0} → State → Doing State A → Type 0
DoingLeads R s (comes o) = Leads R s o
DoingLeads R s missing = Unit {0}

goes_leads : {R : State → State → Type 0} → IsKept R → {A B : Type 0} (s : State) (o : Outcome State A) (next : A → State → Doing State B) → Leads R s o → ((a : A) (t : State) → DoingLeads R t (next a t)) → DoingLeads R s (goes_on o next)
goes_leads {R} k s (done a t) next h n = further (next a t) (n a t)
  where
    further : {B : Type 0} (d : Doing State B) → DoingLeads R t d → DoingLeads R s d
    further (comes o) g = record { to = k.onward s t (state_of o) h.to g.to }
    further missing g = tt
goes_leads k s (fails kind place t) next h n = record { to = h.to }
goes_leads k s (spent t) next h n = record { to = h.to }

module _ (R : State → State → Type 0) (k : IsKept R) (calls : Calls)
    (kept : (f : List ℕ) (place : Place) (left right : Option Array) (s : State) → Leads R s (calls f place left right s)) where
  abbrev Next : Type 0
  Next = List Array → Flow → State → Doing State Flow

  abbrev Leading : Next → Type 0
  Leading next = (vs : List Array) (to : Flow) (t : State) → DoingLeads R t (next vs to t)

  called_leads : (whole : Bool) (f : List ℕ) (place : Place) (a b : Option Array) (vs : List Array) (to : Flow) (s : State) (next : Next) → Leading next → DoingLeads R s (called (of_arrays calls) whole f place a b vs to s next)
  called_leads false f place a b vs to s next n = goes_leads k s _ _ (kept f place a b s) (λ r t. goes_leads k t _ _ (leads_needed k place r t) (λ v u. n (v ∷ vs) to u))
  called_leads true f place a b vs to s next n = goes_leads k s _ _ (kept f place a b s) (λ r t. n (with_result r vs) to t)

  called_with_leads : (m : ℕ) (whole : Bool) (f : List ℕ) (place : Place) (vs : List Array) (to : Flow) (s : State) (next : Next) → Leading next → DoingLeads R s (called_with (of_arrays calls) m whole f place vs to s next)
  called_with_leads zero whole f place vs to s next n = called_leads whole f place None None vs to s next n
  called_with_leads (suc zero) whole f place (b ∷ vs) to s next n = called_leads whole f place None (Some b) vs to s next n
  called_with_leads (suc zero) whole f place [] to s next n = tt
  called_with_leads (suc (suc zero)) whole f place (a ∷ b ∷ vs) to s next n = called_leads whole f place (Some a) (Some b) vs to s next n
  called_with_leads (suc (suc zero)) whole f place (a ∷ []) to s next n = tt
  called_with_leads (suc (suc zero)) whole f place [] to s next n = tt
  called_with_leads (suc (suc (suc zero))) whole f place (a ∷ vs) to s next n = called_leads whole f place (Some a) None vs to s next n
  called_with_leads (suc (suc (suc zero))) whole f place [] to s next n = tt
  called_with_leads (suc (suc (suc (suc m)))) whole f place vs to s next n = tt

  indexed_leads : (place : Place) (a : Array) (t : Option (Taken Array)) (to : Flow) (s : State) (next : Next) → Leading next → DoingLeads R s (indexed (of_arrays calls) place a t to s next)
  indexed_leads place a None to s next n = tt
  indexed_leads place a (Some t) to s next n = goes_leads k s _ _ (leads_at k place _ s) (λ v u. n (v ∷ t.left) to u)

  replaced_leads : (name : List ℕ) (place : Place) (t : Option (Taken Array)) (to : Flow) (s : State) (next : Next) → Leading next → DoingLeads R s (replaced (of_arrays calls) name place t to s next)
  replaced_leads name place None to s next n = tt
  replaced_leads name place (Some t) to s next n = by t.left
    where
      by : (vs : List Array) → DoingLeads R s (replaced_by (of_arrays calls) name place t.positions vs to s next)
      by [] = tt
      by (b ∷ vs) = goes_leads k s _ _ (leads_then k (leads_at k place (replace_in (origin_of s) (look_up s.variables name) t.positions b) s) (λ a u. leads_name k b name a u)) (λ v u. n (v ∷ vs) to u)

  act_leads : (o : Op) (place : Place) (vs : List Array) (to : Flow) (s : State) (next : Next) → Leading next → DoingLeads R s (act (of_arrays calls) o place vs to s next)
  act_leads (op.Lit literal) place vs to s next n = goes_leads k s _ _ (leads_done k _ s) (λ v u. n (v ∷ vs) to u)
  act_leads (op.Name name) place vs to s next n = goes_leads k s _ _ (leads_needed k place _ s) (λ v u. n (v ∷ vs) to u)
  act_leads (op.Mon f) place (b ∷ vs) to s next n = goes_leads k s _ _ (leads_at k place _ s) (λ v u. n (v ∷ vs) to u)
  act_leads (op.Mon f) place [] to s next n = tt
  act_leads (op.Dya f) place (a ∷ b ∷ vs) to s next n = goes_leads k s _ _ (leads_at k place _ s) (λ v u. n (v ∷ vs) to u)
  act_leads (op.Dya f) place (a ∷ []) to s next n = tt
  act_leads (op.Dya f) place [] to s next n = tt
  act_leads (op.Red f axis) place (b ∷ vs) to s next n = goes_leads k s _ _ (leads_at k place _ s) (λ v u. n (v ∷ vs) to u)
  act_leads (op.Red f axis) place [] to s next n = tt
  act_leads (op.Outer f) place (a ∷ b ∷ vs) to s next n = goes_leads k s _ _ (leads_at k place _ s) (λ v u. n (v ∷ vs) to u)
  act_leads (op.Outer f) place (a ∷ []) to s next n = tt
  act_leads (op.Outer f) place [] to s next n = tt
  act_leads (op.Inner f g) place (a ∷ b ∷ vs) to s next n = goes_leads k s _ _ (leads_at k place _ s) (λ v u. n (v ∷ vs) to u)
  act_leads (op.Inner f g) place (a ∷ []) to s next n = tt
  act_leads (op.Inner f g) place [] to s next n = tt
  act_leads (op.Index mask) place (a ∷ vs) to s next n = indexed_leads place a (taken mask vs) to s next n
  act_leads (op.Index mask) place [] to s next n = tt
  act_leads (op.Asg name) place (a ∷ vs) to s next n = goes_leads k s _ _ (leads_name k a name a s) (λ v u. n (v ∷ vs) to u)
  act_leads (op.Asg name) place [] to s next n = tt
  act_leads (op.Iasg name mask) place vs to s next n = replaced_leads name place (taken mask vs) to s next n
  act_leads (op.Call f m whole) place vs to s next n = called_with_leads m whole f place vs to s next n
  act_leads op.Show place (a ∷ vs) to s next n = goes_leads k s _ _ (leads_print k a _ s) (λ v u. n (v ∷ vs) to u)
  act_leads op.Show place [] to s next n = tt
  act_leads op.Print place vs to s next n = goes_leads k s _ _ (leads_show k (newest vs) s) (λ to u. n (others vs) to u)
  act_leads op.Goto place (a ∷ vs) to s next n = goes_leads k s _ _ (leads_branch k place a s) (λ to u. n vs to u)
  act_leads op.Goto place [] to s next n = tt
  act_leads op.End place vs to s next n = leads_done k to s

  pub exec_leads : (code : List Instruction) (vs : List Array) (to : Flow) (s : State) → DoingLeads R s (exec (of_arrays calls) code vs to s)
  exec_leads [] vs to s = tt
  exec_leads (i ∷ is) vs to s = act_leads i.op i.place vs to s (exec (of_arrays calls) is) (exec_leads is)

  pub flow_leads : (code : Code) (s : State) → Leads R s (code_meaning of_states of_arrays calls code s)
  flow_leads code s = by (exec (of_arrays calls) code.instructions [] onwards s) (exec_leads code.instructions [] onwards s)
    where
      by : (d : Doing State Flow) → DoingLeads R s d → Leads R s (stopping (of_arrays calls) s d)
      by (comes o) h = h
      by missing h = record { to = k.same s }

-- ---- what grows

begins_self : (text : List ℕ) → BeginsWith text text
begins_self text = ([], sym (append-nil text))

pub growing : IsKept Grows
growing = record {
  same = λ s. record { printed = begins_self s.printed; entered = []; ended = sym (append-nil s.ended); turns = turns_kept.same s };
  onward = λ s t u a b. record {
    printed = begins_onward s.printed t.printed u.printed a.printed b.printed;
    entered = a.entered ++ b.entered;
    ended = b.ended ∙ ap (λ x. x ++ b.entered) a.ended ∙ append_assoc s.ended a.entered b.entered;
    turns = turns_kept.onward s t u a.turns b.turns;
  };
  variables = λ s e. record { printed = begins_self s.printed; entered = []; ended = sym (append-nil s.ended); turns = turns_kept.variables s e };
  printed = λ s text. record { printed = (text, refl); entered = []; ended = sym (append-nil s.ended); turns = turns_kept.printed s text };
  cut = λ s t left e h. record { printed = h.printed; entered = h.entered; ended = h.ended; turns = turns_kept.cut s t left e h.turns };
  over = λ s t left line number e h. record {
    printed = h.printed;
    entered = h.entered ++ record { line = line; begun = number } ∷ [];
    ended = ap (λ x. x ++ record { line = line; begun = number } ∷ []) h.ended ∙ append_assoc s.ended h.entered (record { line = line; begun = number } ∷ []);
    turns = turns_kept.over s t left line number e h.turns;
  };
}

calls_lead : (calls : Calls) → CallsGrow calls → (f : List ℕ) (place : Place) (left right : Option Array) (s : State) → Leads Grows s (calls f place left right s)
calls_lead calls h f place left right s = record { to = h f place left right s }

pub code_grows : CodeGrows
code_grows calls code vs to s o h e =
    let leads : DoingLeads Grows s (comes o) = subst (λ (d : Doing State Flow). DoingLeads Grows s d) e (exec_leads Grows growing calls (calls_lead calls h) code vs to s) in
    leads.to

pub functions_grow : FunctionsGrow
functions_grow routines n f place left right s =
    (leads_call Code (code_meaning of_states of_arrays) Grows growing (flow_leads Grows growing) routines n f place left right s).to

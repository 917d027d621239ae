-- The run of a program's items, one after the other.
use Rattle.std.proofs.Common.{◌≡◌, ℕ, zero, suc, ◌+◌, ◌<◌, ◌≤◌, List, [], ◌∷◌, map, length, take, drop, slice_index_or, Result, Ok, Err, refl, sym, ap, ◌∙◌, subst, arith, append-nil, take-append-drop}
use Rattle.std.proofs.lemmas.List.{length-map}
use Rattle.apl_print.specs.Bytes.{GainsPrefix}
use Rattle.apl_model.specs.declared.outlines.OutlineItem.{OutlineItem}
use Rattle.apl_model.specs.Evaluation.{State}
use Rattle.apl_model.specs.Immediate.{Ending, well, Run}
use Rattle.apl_model.specs.Tree.{Script}
use Rattle.apl_compile.specs.Laws.{statements_of}
use Rattle.apl_compile.specs.Program.{ProgramView, outline_item, program_of}
use Rattle.apl_compile.specs.Tables.{codes_at}
use Rattle.machine_state.specs.StandsFor.{IsAtRest, beginning}
use Rattle.d_machine.specs.declared.answers.Stop.{Stop}
use Rattle.d_machine.specs.declared.answers.Stop.TheVariants as stop
use Rattle.d_machine.specs.Answers.{Scene, StopsBefore, statements_in}
use Rattle.run_laws.specs.ItemRuns.{go_on, run_of}
use Rattle.run_laws.proofs.Running.{runs_joined}
use Rattle.script_run.specs.declared.ends.End.{End}
use Rattle.script_run.specs.declared.ends.End.TheVariants as end
use Rattle.script_run.specs.ProgramRuns.{Comes, ending_of, HasItemAt, IsCompiled, IsItemAt, Keeps, RunsItem, RunsProgram}
use Rattle.script_run.proofs.ItemLemmas.{ends-same}
use Rattle.script_run.proofs.OutlineLemmas.{codes-more, item-at, IsAt}
use Rattle.script_run.proofs.RunLemmas.{stopped-in-longer, then-run}
use Rattle.script_run.proofs.SceneLemmas.{front-all, keeps-same, keeps-then}

-- so many items of the program have been run, and this was reported
pub record Went (p : ProgramView) (start now : Scene) (end : End) (k : ℕ) : Type 0 where
  pub rest : IsAtRest now.machine
  pub keeps : Keeps start now
  pub comes : (script : Script) → p ≡ program_of script → Comes start now (run_of script (take k script.items) well (beginning start.machine)) (Ok end)

-- so many codes stand before the next item
pub Counts : ProgramView → ℕ → ℕ → Type 0
Counts p code k = (script : Script) → p ≡ program_of script → code ≡ length (statements_of (take k script.items))

pub went-none : (p : ProgramView) (start : Scene) → IsAtRest start.machine → Went p start start end.Done 0
went-none p start h = record { rest = h; keeps = keeps-same start; comes = λ script e. (refl, ends-same start h) }

pub counts-none : (p : ProgramView) → Counts p 0 0
unfolding Counts
counts-none p script e = refl

module _ (p : ProgramView) (items : List OutlineItem) (lent : items ≡ p.outline.items) (k : ℕ) (item : OutlineItem) (inside : k < length items) (is : item ≡ slice_index_or items k item) where
  -- the item of a script whose outline has this one there
  abbrev Here : Script → Type 0
  Here script = IsAt script.items k item

  here : (script : Script) → p ≡ program_of script → Here script
  here script e =
      let same : items ≡ map outline_item script.items = lent ∙ ap (λ q. q.outline.items) e in
      item-at script.items k item (subst (λ n. k < n) (ap length same ∙ length-map script.items outline_item) inside)
      (is ∙ ap (λ xs. slice_index_or xs k item) same)

  place : (code : ℕ) → Counts p code k → (script : Script) (e : p ≡ program_of script) → IsItemAt script code item (here script e).item
  unfolding Counts
  place code counts script e = record {
    before = take k script.items;
    after = drop (suc k) script.items;
    items = (here script e).items;
    outlined = (here script e).outlined;
    number = counts script e;
  }

  pub has-item : (code : ℕ) → Counts p code k → IsCompiled p → HasItemAt p code item
  has-item code counts c = record { is_compiled = c; item = (here c.script c.compiled).item; there = place code counts c.script c.compiled }

  pub counts-next : (code : ℕ) → Counts p code k → (next : ℕ) → next ≡ code + codes_at item → Counts p next (suc k)
  unfolding Counts
  counts-next code counts next e = λ script f.
      let i = here script f in
      e ∙ ap (λ n. n + codes_at item) (counts script f) ∙ ap (λ o. length (statements_of (take k script.items)) + codes_at o) i.outlined
      ∙ sym (ap (λ xs. length (statements_of xs)) i.next ∙ codes-more (take k script.items) i.item)

  -- a run that goes on with this item
  on-with : (script : Script) (r : Run State) (e : End) → r.ending ≡ ending_of e → (next : Ending → State → Run State) → go_on r next ≡ next (ending_of e) r.state
  on-with script r e h next = ap (λ d. go_on (record { ending = d; state = r.state }) next) h ∙ by e
    where
      by : (e : End) → go_on (record { ending = ending_of e; state = r.state }) next ≡ next (ending_of e) r.state
      by end.Done = refl
      by end.Reported = refl

  module _ (start now new : Scene) (before : End) (code : ℕ) (counts : Counts p code k) (went : Went p start now before k) (answer : Result End Stop) (ran : RunsItem p code item before now new answer) where
    -- the items so far, and this one
    more : (script : Script) → p ≡ program_of script → Comes start new (run_of script (take (suc k) script.items) well (beginning start.machine)) answer
    more script e =
        let i = here script e in
        let w = went.comes script e in
        let first : Run State = run_of script (take k script.items) well (beginning start.machine) in
        let one : Comes start new (run_of script (i.item ∷ []) (ending_of before) first.state) answer =
        then-run script start now new went.keeps ran.keeps first.state w.1 (i.item ∷ []) (ending_of before) answer (ran.comes script i.item e (place code counts script e)) in
        let whole : run_of script (take (suc k) script.items) well (beginning start.machine) ≡ run_of script (i.item ∷ []) (ending_of before) first.state =
        ap (λ xs. run_of script xs well (beginning start.machine)) i.next ∙ runs_joined script (take k script.items) (i.item ∷ []) well (beginning start.machine) (λ f. cc)
        ∙ on-with script first before w.0 (run_of script (i.item ∷ [])) in
        subst (λ (r : Run State). Comes start new r answer) (sym whole) one

  pub went-next : (start now new : Scene) (before after : End) (code : ℕ) → Counts p code k → Went p start now before k → IsCompiled p
      → RunsItem p code item before now new (Ok after) → Went p start new after (suc k)
  went-next start now new before after code counts went c ran =
      let there = more start now new before code counts went (Ok after) ran in
      record { rest = (there c.script c.compiled).1.comes.rest; keeps = keeps-then start now new went.keeps ran.keeps; comes = there }

  pub went-stops : (start now new : Scene) (before : End) (cause : Stop) (code : ℕ) → Counts p code k → Went p start now before k
      → RunsItem p code item before now new (Err cause) → RunsProgram p start new (Err cause)
  went-stops start now new before cause code counts went ran = record {
    comes = λ script e.
        subst (λ xs. Comes start new (run_of script xs well (beginning start.machine)) (Err cause)) (take-append-drop (suc k) script.items)
        (stopped-in-longer script (take (suc k) script.items) (drop (suc k) script.items) start new (beginning start.machine) cause
        (more start now new before code counts went (Err cause) ran script e));
    keeps = keeps-then start now new went.keeps ran.keeps;
  }

-- the next index, as a loop writes it
one-more : (P : ℕ → Type 0) (k : ℕ) → P (suc k) → P (k + 1)
one-more P k h = let e : suc k ≡ k + 1 = omega arith in subst P e h

pub counts-on : (p : ProgramView) (code k : ℕ) → Counts p code (suc k) → Counts p code (k + 1)
counts-on p code k = one-more (Counts p code) k

pub went-on : (p : ProgramView) (start now : Scene) (end : End) (k : ℕ) → Went p start now end (suc k) → Went p start now end (k + 1)
went-on p start now end k = one-more (Went p start now end) k

-- all items have been run
pub went-all : (p : ProgramView) (items : List OutlineItem) → items ≡ p.outline.items → (start now : Scene) (end : End) (k : ℕ) → length items ≤ k → Went p start now end k
    → RunsProgram p start now (Ok end)
went-all p items lent start now end k all went = record {
  comes = λ script e.
      let same : items ≡ map outline_item script.items = lent ∙ ap (λ q. q.outline.items) e in
      let fits : length script.items ≤ k = subst (λ n. n ≤ k) (ap length same ∙ length-map script.items outline_item) all in
      subst (λ xs. Comes start now (run_of script xs well (beginning start.machine)) (Ok end)) (take-more script.items k fits) (went.comes script e);
  keeps = went.keeps;
}
  where
    take-more : {A : Type 0} (xs : List A) (k : ℕ) → length xs ≤ k → take k xs ≡ xs
    take-more [] zero h = refl
    take-more [] (suc k) h = refl
    take-more (x ∷ xs) zero h = absurd (omega (arith, h))
    take-more (x ∷ xs) (suc k) h = ap (λ ys. x ∷ ys) (take-more xs k (omega (arith, h)))

-- the run is given up after so many items, for want of memory
pub went-wanting : (p : ProgramView) (start now : Scene) (end : End) (k : ℕ) → Went p start now end k → RunsProgram p start now (Err stop.NoMemory)
went-wanting p start now end k went = record {
  comes = λ script e.
      let w = (went.comes script e).1.comes in
      let first : Run State = run_of script (take k script.items) well (beginning start.machine) in
      let stops : StopsBefore GainsPrefix start now first.state = record {
        printed = front-all start.out now.out _ w.printed;
        traced = λ h. let t = w.traced h in record {
          gained = t.gained;
          others = [];
          costs = t.costs;
          statements = append-nil (statements_in t.gained) ∙ t.statements;
          lines = front-all start.trace now.trace _ t.lines;
        };
      } in
      subst (λ xs. Comes start now (run_of script xs well (beginning start.machine)) (Err stop.NoMemory)) (take-append-drop k script.items)
      (stopped-in-longer script (take k script.items) (drop k script.items) start now (beginning start.machine) stop.NoMemory stops);
  keeps = went.keeps;
}

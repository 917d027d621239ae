-- An item of a script, and the item of its outline.
use Rattle.std.proofs.Common.{◌≡◌, ℕ, zero, suc, ◌+◌, ◌<◌, List, [], ◌∷◌, ◌++◌, map, length, take, drop, slice_index_or, Result, Ok, refl, sym, ap, ◌∙◌, subst, arith, length-append, append_assoc, append-nil}
use Rattle.std.specs.List.{AllByRecursion}
use Rattle.std.proofs.lemmas.List.{length-map}
use Rattle.apl_model.specs.declared.outlines.OutlineItem.{OutlineItem}
use Rattle.apl_model.specs.declared.outlines.OutlineItem.TheVariants as outline
use Rattle.apl_model.specs.declared.outlines.OutlineBody.{OutlineBody}
use Rattle.apl_model.specs.declared.scripts.Command.{Command}
use Rattle.apl_model.specs.declared.scripts.Header.{Header}
use Rattle.apl_model.specs.Grammar.{IsCommand}
use Rattle.apl_model.specs.Items.{IsLawfulItem}
use Rattle.apl_model.specs.Script.{headings}
use Rattle.apl_model.specs.Tree.{Item, Script, Statement, statement_item, command_item, definition_item}
use Rattle.apl_compile.specs.Laws.{statements_at, statements_of}
use Rattle.apl_compile.specs.Program.{ProgramView, outline_item}
use Rattle.apl_compile.specs.Tables.{codes_at}
use Rattle.machine_state.specs.StandsFor.{IsAtRest, beginning}
use Rattle.standing.specs.Statements.{HasStatementAt, IsStatementAt}
use Rattle.d_machine.specs.declared.answers.Stop.{Stop}
use Rattle.d_machine.specs.Answers.{Scene}
use Rattle.run_laws.specs.ItemRuns.{run_of}
use Rattle.script_run.specs.declared.ends.End.{End}
use Rattle.script_run.specs.ProgramRuns.{Comes, ending_of, HasItemAt, RunsCommand, RunsItem, RunsLine}
use Rattle.script_run.proofs.ItemLemmas.{ends-same}
use Rattle.script_run.proofs.SceneLemmas.{keeps-same}

-- ---- which item it is

-- the outline of a statement is that of a statement, and so on
pub is-statement : (line : ℕ) (item : Item) → outline.Statement line ≡ outline_item item → (l : ℕ) × (s : Statement) × (item ≡ statement_item l s)
is-statement line (statement_item l s) e = (l, s, refl)
is-statement line (command_item l c) e = absurd cc
is-statement line (definition_item d) e = absurd cc

abbrev command_in : Command → OutlineItem → Command
command_in other (outline.Command line c) = c
command_in other (outline.Statement line) = other
command_in other (outline.Definition opened closed header body) = other

pub is-command : (line : ℕ) (c : Command) (item : Item) → outline.Command line c ≡ outline_item item → (l : ℕ) × (item ≡ command_item l c)
is-command line c (statement_item l s) e = absurd cc
is-command line c (command_item l d) e = (l, ap (λ x. command_item l x) (sym (ap (command_in c) e)))
is-command line c (definition_item d) e = absurd cc

-- ---- what is asked of it

module _ (p : ProgramView) (code : ℕ) where
  pub has-statement : (line : ℕ) → HasItemAt p code (outline.Statement line) → HasStatementAt p code
  has-statement line h =
      let w = is-statement line h.item h.there.outlined in record {
        script = h.is_compiled.script;
        lawful = h.is_compiled.lawful;
        compiled = h.is_compiled.compiled;
        line = w.0;
        statement = w.1;
        there = record {
          before = h.there.before;
          after = h.there.after;
          items = h.there.items ∙ ap (λ i. h.there.before ++ i ∷ h.there.after) w.2;
          number = h.there.number;
        };
      }

  -- a command of the script is one of the language
  pub has-command : (o : OutlineItem) (line : ℕ) (c : Command) → o ≡ outline.Command line c → HasItemAt p code o → IsCommand c
  has-command o line c same h =
      let w = is-command line c h.item (sym same ∙ h.there.outlined) in
      let hs = headings h.is_compiled.script.items in
      let each = subst (λ items. AllByRecursion (IsLawfulItem hs) items)
      (h.there.items ∙ ap (λ i. h.there.before ++ i ∷ h.there.after) w.1) h.is_compiled.lawful.each in
      (all-at (IsLawfulItem hs) h.there.before h.there.after (command_item w.0 c) each).0
    where
      all-at : (P : Item → Type 0) (before after : List Item) (x : Item) → AllByRecursion P (before ++ x ∷ after) → P x
      all-at P [] after x h = h.0
      all-at P (y ∷ before) after x h = all-at P before after x h.1

-- ---- what it leaves

module _ (p : ProgramView) (code : ℕ) (before : End) (old new : Scene) (answer : Result End Stop) where
  pub item-of-line : (o : OutlineItem) (line : ℕ) → o ≡ outline.Statement line → RunsLine p code before old new answer → RunsItem p code o before old new answer
  item-of-line o line same h = record {
    comes = λ script item e there.
        let w = is-statement line item (sym same ∙ there.outlined) in
        let at : IsStatementAt script code w.0 w.1 = record {
          before = there.before;
          after = there.after;
          items = there.items ∙ ap (λ i. there.before ++ i ∷ there.after) w.2;
          number = there.number;
        } in
        subst (λ (i : Item). Comes old new (run_of script (i ∷ []) (ending_of before) (beginning old.machine)) answer) (sym w.2) (h.comes script w.0 w.1 e at);
    keeps = h.keeps;
  }

  pub item-of-command : (o : OutlineItem) (line : ℕ) (c : Command) → o ≡ outline.Command line c → RunsCommand p c before old new answer → RunsItem p code o before old new answer
  item-of-command o line c same h = record {
    comes = λ script item e there.
        let w = is-command line c item (sym same ∙ there.outlined) in
        subst (λ (i : Item). Comes old new (run_of script (i ∷ []) (ending_of before) (beginning old.machine)) answer) (sym w.1) (h.comes script w.0 e);
    keeps = h.keeps;
  }

-- a definition does nothing where it stands
pub item-of-definition : (p : ProgramView) (code : ℕ) (before : End) (a : Scene) (item : OutlineItem) (opened closed : ℕ) (header : Header) (body : List OutlineBody)
    → IsAtRest a.machine → item ≡ outline.Definition opened closed header body → RunsItem p code item before a a (Ok before)
item-of-definition p code before a item opened closed header body rest same = record {
  comes = λ script i e there. by script i (sym same ∙ there.outlined);
  keeps = keeps-same a;
}
  where
    by : (script : Script) (i : Item) → outline.Definition opened closed header body ≡ outline_item i
        → Comes a a (run_of script (i ∷ []) (ending_of before) (beginning a.machine)) (Ok before)
    by script (statement_item l s) e = absurd cc
    by script (command_item l c) e = absurd cc
    by script (definition_item d) e = (refl, ends-same a rest)

-- ---- items in order

-- the item of a script at a place, from the item of its outline
pub record IsAt (xs : List Item) (k : ℕ) (o : OutlineItem) : Type 0 where
  pub item : Item
  pub outlined : o ≡ outline_item item
  pub items : xs ≡ take k xs ++ item ∷ drop (suc k) xs
  pub next : take (suc k) xs ≡ take k xs ++ item ∷ []

pub item-at : (xs : List Item) (k : ℕ) (o : OutlineItem) → k < length xs → o ≡ slice_index_or (map outline_item xs) k o → IsAt xs k o
item-at [] k o h e = absurd (omega (arith, h))
item-at (x ∷ xs) zero o h e = record { item = x; outlined = e; items = refl; next = refl }
item-at (x ∷ xs) (suc k) o h e =
    let i = item-at xs k o (omega (arith, h)) e in
    record { item = i.item; outlined = i.outlined; items = ap (λ ys. x ∷ ys) i.items; next = ap (λ ys. x ∷ ys) i.next }

-- the codes of items and of one more
statements-append : (xs ys : List Item) → statements_of (xs ++ ys) ≡ statements_of xs ++ statements_of ys
statements-append [] ys = refl
statements-append (x ∷ xs) ys = ap (λ zs. statements_at x ++ zs) (statements-append xs ys) ∙ sym (append_assoc (statements_at x) (statements_of xs) (statements_of ys))

codes-of : (x : Item) → length (statements_at x) ≡ codes_at (outline_item x)
codes-of (statement_item l s) = refl
codes-of (command_item l c) = refl
codes-of (definition_item d) = length-map d.body _ ∙ sym (length-map d.body _)

pub codes-more : (xs : List Item) (x : Item) → length (statements_of (xs ++ x ∷ [])) ≡ length (statements_of xs) + codes_at (outline_item x)
codes-more xs x =
    ap length (statements-append xs (x ∷ [])) ∙ length-append (statements_of xs) (statements_at x ++ [])
    ∙ ap (λ ys. length (statements_of xs) + length ys) (append-nil (statements_at x)) ∙ ap (λ n. length (statements_of xs) + n) (codes-of x)

-- A program that is compiled from a script of the language is sound.
use Rattle.std.proofs.Common.{ℕ, List, [], ◌∷◌, ◌++◌, map, sym, ap, subst, ◌∙◌}
use Rattle.std.specs.Prelude.{slice_get}
use Rattle.std.specs.List.{AllByRecursion}
use Rattle.apl_model.specs.Items.{IsLawfulItem, IsLawfulLine}
use Rattle.apl_model.specs.Script.{headings}
use Rattle.apl_model.specs.Tree.{BodyLine, Item, statement_item, command_item, definition_item}
use Rattle.apl_model.specs.declared.tokens.Heading.{Heading}
use Rattle.apl_compile.specs.declared.codes.Code.{Code}
use Rattle.apl_compile.specs.Program.{ProgramView, codes_in, codes_of, compiled}
use Rattle.apl_compile.proofs.LawfulLemmas.{statements_are_lawful}
use Rattle.standing.specs.Statements.{HasStatementAt}
use Rattle.calling_steps.proofs.ProgramLemmas.{function_distinct}
use Rattle.entry_steps.specs.Sound.{IsSoundCode}
use Rattle.d_machine.specs.Calling.{IsSoundProgram}
use Rattle.d_machine.proofs.LiteralLemmas.{lawful_literals}

all_both : (P : Code → Type 0) (xs ys : List Code) → AllByRecursion P xs → AllByRecursion P ys → AllByRecursion P (xs ++ ys)
all_both P [] ys h k = k
all_both P (x ∷ xs) ys h k = (h.0, all_both P xs ys h.1 k)

of_body : (hs : List Heading) (body : List BodyLine) → AllByRecursion (IsLawfulLine hs) body → AllByRecursion (λ c. IsSoundCode c.instructions) (map (λ l. compiled l.line l.statement) body)
of_body hs [] h = tt
of_body hs (l ∷ body) h =
    (record { lawful = statements_are_lawful l.line l.statement; literals = lawful_literals hs l.line l.statement h.0.statement }, of_body hs body h.1)

of_item : (hs : List Heading) (i : Item) → IsLawfulItem hs i → AllByRecursion (λ c. IsSoundCode c.instructions) (codes_in i)
of_item hs (statement_item line s) h = (record { lawful = statements_are_lawful line s; literals = lawful_literals hs line s h }, tt)
of_item hs (command_item line c) h = tt
of_item hs (definition_item d) h = of_body hs d.body h.body

of_items : (hs : List Heading) (items : List Item) → AllByRecursion (IsLawfulItem hs) items → AllByRecursion (λ c. IsSoundCode c.instructions) (codes_of items)
of_items hs [] h = tt
of_items hs (i ∷ items) h = all_both (λ c. IsSoundCode c.instructions) (codes_in i) (codes_of items) (of_item hs i h.0) (of_items hs items h.1)

pub sound_program : (p : ProgramView) (at : ℕ) → HasStatementAt p at → IsSoundProgram p
sound_program p at h = record {
  codes = subst (λ (q : ProgramView). AllByRecursion (λ c. IsSoundCode c.instructions) q.codes) (sym h.compiled) (of_items (headings h.script.items) h.script.items h.lawful.each);
  definitions = λ k opened closed header body there.
      function_distinct h.script k opened closed header body h.lawful (sym (ap (λ (q : ProgramView). slice_get q.outline.items k) h.compiled) ∙ there);
}

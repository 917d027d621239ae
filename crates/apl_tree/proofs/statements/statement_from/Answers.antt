use Rattle.std.proofs.Common.{◌≡◌, ◌-◌, ℕ, List, length, take, drop, ap, subst, ◌∙◌, arith, length-drop}
use Rattle.std.proofs.lemmas.List.{take_all}
use Rattle.apl_model.specs.Grammar.{IsStatement}
use Rattle.apl_model.specs.Mirror.{statement_of}
use Rattle.apl_model.specs.Spelling.{statement_spelling, Spell}
use Rattle.apl_model.specs.declared.tokens.Heading.{Heading}
use Rattle.apl_model.specs.declared.tokens.Token.{Token}
use Rattle.apl_tree.proofs.Labels.{as_whole}
use Rattle.apl_tree.proofs.Places.{stops_at}
use Rattle.apl_tree.proofs.Runs.{stops_without}
use Rattle.apl_tree.proofs.Sound.{read_sound}
use Rattle.apl_tree.proofs.Words.{text_words}
use Rattle.apl_tree.specs.Outcome.{IsReading}
use Rattle.apl_tree.specs.declared.statements.Reading.{Reading}
use Rattle.apl_tree.specs.declared.statements.Reading.TheVariants as reading_as
use Rattle.apl_tree.proofs.statements.statement_from.Given.{Over}
use Rattle.apl_tree.proofs.statements.statement_from.Goals as goal
use Rattle.apl_tree.proofs.statements.statement_from.Goals.{In-Ok-Done, In-Ok-Stopped}

all_behind : (from : ℕ) (ts : List Token) → take (length ts - from) (drop from ts) ≡ drop from ts
all_behind from ts = let l = length-drop from ts in take_all (length ts - from) (drop from ts) (omega arith)

-- the reading of the line's own tokens
reading : (hs : List Heading) (n from : ℕ) (ts us : List Token) (r s : Reading) → ts ≡ us → r ≡ s → IsReading hs n (take (length ts - from) (drop from ts)) r →
    IsReading hs n (drop from us) s
reading hs n from ts us r s e f h = subst (λ vs. IsReading hs n vs s) (all_behind from ts ∙ ap (drop from) e) (subst (IsReading hs n (take (length ts - from) (drop from ts))) f h)

done : (g : Over) (c : In-Ok-Done g) → IsStatement (g.C.NameClasses.headings c.args.classes.now) (statement_of c.in-Ok-Done.statement)
    × Spell c.args.line.now.number (statement_spelling (statement_of c.in-Ok-Done.statement)) (drop c.args.from c.args.line.now.tokens)
done g c =
    let line = c.args.line.now in
    let hs = g.C.NameClasses.headings c.args.classes.now in
    let ts = drop c.args.from line.tokens in
    let r = reading hs line.number c.args.from c.as_slice.result.now line.tokens c.in-Ok-Done.field-0 (reading_as.Done c.in-Ok-Done.statement) c.as_slice.ensures c.in-Ok-Done.field-0-is c.in-Ok-Done.ensures in
    let w = text_words c.as_str-text.result.now line.text ts c.as_str-text.utf8 c.as_str-text.ensures c.requires.short c.requires.tokens in
    read_sound hs line.number ts (statement_of c.in-Ok-Done.statement) w r

pub returns-in-Ok-Done-clause-lawful : goal.returns-in-Ok-Done-clause-lawful
returns-in-Ok-Done-clause-lawful g c = (done g c).0

pub returns-in-Ok-Done-clause-spells : goal.returns-in-Ok-Done-clause-spells
returns-in-Ok-Done-clause-spells g c = (done g c).1

stopped : (g : Over) (c : In-Ok-Stopped g) → IsReading (g.C.NameClasses.headings c.args.classes.now) c.args.line.now.number (drop c.args.from c.args.line.now.tokens) (reading_as.Stopped c.in-Ok-Stopped.column)
stopped g c =
    let line = c.args.line.now in
    reading (g.C.NameClasses.headings c.args.classes.now) line.number c.args.from c.as_slice.result.now line.tokens c.in-Ok-Stopped.field-0 (reading_as.Stopped c.in-Ok-Stopped.column)
    c.as_slice.ensures c.in-Ok-Stopped.field-0-is c.in-Ok-Stopped.ensures

pub returns-in-Ok-Stopped-clause-refused : goal.returns-in-Ok-Stopped-clause-refused
returns-in-Ok-Stopped-clause-refused g c =
    let line = c.args.line.now in
    stops_without (g.C.NameClasses.headings c.args.classes.now) line.number (drop c.args.from line.tokens) c.in-Ok-Stopped.column (stopped g c)

pub returns-in-Ok-Stopped-clause-column : goal.returns-in-Ok-Stopped-clause-column
returns-in-Ok-Stopped-clause-column g c =
    let line = c.args.line.now in
    let ts = drop c.args.from line.tokens in
    let w = text_words c.as_str-text.result.now line.text ts c.as_str-text.utf8 c.as_str-text.ensures c.requires.short c.requires.tokens in
    let whole = as_whole line.text ts c.requires.tokens in
    stops_at (g.C.NameClasses.headings c.args.classes.now) line.number whole.line ts c.in-Ok-Stopped.column whole.read w (stopped g c)

use Rattle.std.proofs.Common.{◌≡◌, drop, Some, sym, ap, ◌∙◌, refl}
use Rattle.std.proofs.lemmas.Result.{err_from_is_err_and}
use Rattle.apl_model.specs.Mirror.{statement_of}
use Rattle.apl_model.specs.Refusal as refusal
use Rattle.apl_defn.specs.LineStart.{label_of}
use Rattle.apl_defn.proofs.BodyLines.{label_stops, label_spells, label_tokens, label_is_free}
use Rattle.apl_defn.proofs.Stopped.{stopped_so}
use Rattle.apl_defn.proofs.statement_lines.labelled_line.Goals as goal
use Rattle.apl_tree.proofs.Words.{text_words}
use Rattle.apl_tree.specs.Condition.{all_of}

pub read_statement-requires-clause-tokens : goal.read_statement-requires-clause-tokens
read_statement-requires-clause-tokens c =
    let line = c.args.line.now in
    label_tokens c.args.lookup.now line.text line.tokens c.args.label.now c.requires.read.tokens c.requires.label

pub returns-in_err-statement-clause-stopped : goal.returns-in_err-statement-clause-stopped
returns-in_err-statement-clause-stopped c =
    let line = c.args.line.now in
    let hs = c.args.lookup.now in
    let w = text_words c.as_str-text.result.now line.text line.tokens c.as_str-text.utf8 c.as_str-text.ensures c.requires.read.short (all_of c.requires.read.tokens) in
    let p = err_from_is_err_and c.from_residual-in_err-statement.result c.from_residual-in_err-statement.ensures.1 in
    rw (p.1, p.2) (stopped_so (refusal.StopsAt refusal.by_itself hs line.number (drop 2 line.tokens)) (refusal.StopsAt refusal.in_body hs line.number line.tokens) c.in_err-statement.field-0.0
    (λ column s. label_stops hs line.number line.text line.tokens c.args.label.now column c.requires.read.tokens w c.requires.label s) c.in_err-statement.ensures.stopped)

pub returns-clause-body : goal.returns-clause-body
returns-clause-body c =
    let line = c.args.line.now in
    let w = text_words c.as_str-text.result.now line.text line.tokens c.as_str-text.utf8 c.as_str-text.ensures c.requires.read.short (all_of c.requires.read.tokens) in
    let e : label_of c.args.lookup.now line.tokens ≡ Some c.in_ok-label.label = c.requires.label ∙ ap Some (sym c.in_ok-label.ensures) in
    record {
      number = refl;
      label = label_is_free c.args.lookup.now line.tokens c.in_ok-label.label w e;
      statement = c.in_ok-statement.ensures.lawful;
      spells = label_spells c.args.lookup.now line.number line.tokens c.in_ok-label.label (statement_of c.in_ok-statement.statement) e c.in_ok-statement.ensures.spells;
    }

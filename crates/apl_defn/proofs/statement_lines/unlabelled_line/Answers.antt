use Rattle.std.proofs.lemmas.Result.{err_from_is_err_and}
use Rattle.apl_model.specs.Refusal as refusal
use Rattle.apl_defn.proofs.BodyLines.{unlabelled_stops}
use Rattle.apl_defn.proofs.Stopped.{stopped_so}
use Rattle.apl_defn.proofs.statement_lines.unlabelled_line.Goals as goal
use Rattle.apl_tree.proofs.Words.{text_words}
use Rattle.apl_tree.specs.Condition.{all_of}

pub returns-in_err-statement-clause-stopped : goal.returns-in_err-statement-clause-stopped
returns-in_err-statement-clause-stopped c =
    let line = c.args.line.now in
    let hs = c.args.lookup.now in
    let w = text_words c.as_str-text.result.now line.text line.tokens c.as_str-text.utf8 c.as_str-text.ensures c.requires.read.short (all_of c.requires.read.tokens) in
    let p = err_from_is_err_and c.from_residual.result c.from_residual.ensures.1 in
    rw (p.1, p.2) (stopped_so (refusal.StopsAt refusal.by_itself hs line.number line.tokens) (refusal.StopsAt refusal.in_body hs line.number line.tokens) c.in_err-statement.field-0.0
    (λ column s. unlabelled_stops hs line.number line.text line.tokens column c.requires.read.tokens w c.requires.label s) c.in_err-statement.ensures.stopped)

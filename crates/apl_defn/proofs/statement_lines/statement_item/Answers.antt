use Rattle.std.proofs.lemmas.Result.{err_from_is_err_and}
use Rattle.apl_model.specs.Refusal as refusal
use Rattle.apl_defn.proofs.OutsideLines.{outside_stops}
use Rattle.apl_defn.proofs.Stopped.{stopped_so}
use Rattle.apl_defn.proofs.statement_lines.statement_item.Goals as goal

pub returns-in_err-statement-clause-stopped : goal.returns-in_err-statement-clause-stopped
returns-in_err-statement-clause-stopped c =
    let line = c.args.line.now in
    let hs = c.args.lookup.now in
    let p = err_from_is_err_and c.from_residual.result c.from_residual.ensures.1 in
    rw (p.1, p.2) (stopped_so (refusal.StopsAt refusal.by_itself hs line.number line.tokens) (refusal.StopsAt refusal.outside hs line.number line.tokens) c.in_err-statement.field-0.0
    (λ column s. outside_stops hs line.number line.tokens column c.requires.begins s) c.in_err-statement.ensures.stopped)

use Rattle.std.proofs.Common.{List}
use Rattle.std.proofs.lemmas.Result.{err_from_is_err_and}
use Rattle.apl_model.specs.Refusal as refusal
use Rattle.apl_model.specs.declared.tokens.Heading.{Heading}
use Rattle.apl_defn.proofs.Stopped.{stopped_so}
use Rattle.apl_defn.proofs.statement_lines.command_item.Goals as goal

pub returns-in_err-command-clause-stopped : goal.returns-in_err-command-clause-stopped
returns-in_err-command-clause-stopped c =
    let line = c.args.line.now in
    let hs = c.args.lookup.now in
    let p = err_from_is_err_and c.from_residual.result c.from_residual.ensures.1 in
    rw (p.1, p.2) (stopped_so (λ column. (ks : List Heading) → refusal.StopsAt refusal.outside ks line.number line.tokens column)
    (refusal.StopsAt refusal.outside hs line.number line.tokens) c.in_err-command.field-0.0 (λ column s. s hs) c.in_err-command.ensures.stopped)

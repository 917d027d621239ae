use Rattle.std.proofs.Common.{subst}
use Rattle.apl_outside.specs.Bytes.{GainsPart}
use Rattle.apl_print.proofs.Pieces.{prefix-alone}
use Rattle.apl_print.proofs.sends.send.Goals as goal

pub returns-in-Err-clause-err : goal.returns-in-Err-clause-err
returns-in-Err-clause-err g c =
    prefix-alone _ _ _
    (subst (λ piece. GainsPart (g.O.Sink.written c.args.out.now) (g.O.Sink.written c.push_all.new.sink) piece) c.as_bytes.ensures.value c.in-Err.ensures.err)

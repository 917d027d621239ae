use Rattle.std.proofs.Common.{rules, subst, ◌≡◌, encode_utf8_all}
use Rattle.apl_outside.specs.Bytes.{GainsPart}
use Rattle.command_steps.proofs.Fronts.{prefix-alone}
use Rattle.command_steps.specs.Obeyed.{line_of_names}
use Rattle.command_steps.proofs.lines.write_names.Goals as goal

pub returns-clause-err : goal.returns-clause-err
returns-clause-err g c =
    let is : c.as_bytes.result.now ≡ encode_utf8_all (line_of_names c.args.names.now) = search rules in
    prefix-alone _ _ _
    (subst (λ piece. GainsPart (g.O.Sink.written c.args.out.now) (g.O.Sink.written c.push_all.new.sink) piece) is c.in-Err.ensures.err)

use Rattle.std.proofs.Common.{rules, subst, ap, ◌≡◌, ◌∙◌, OnOk, OnErr, encode_utf8_all}
use Rattle.apl_outside.specs.Bytes.{Gains}
use Rattle.apl_print.specs.Bytes.{GainsPrefix}
use Rattle.apl_model.specs.Immediate.{in_byte_order}
use Rattle.apl_model.specs.Environment.{set_names}
use Rattle.command_steps.specs.Obeyed.{line_of_names}
use Rattle.command_steps.proofs.Names.{variables_line}
use Rattle.command_steps.proofs.commands.print_variables.Goals as goal

pub returns-clause-printed : goal.returns-clause-printed
returns-clause-printed g c =
    let is : c.as_slice.result.now ≡ in_byte_order (set_names c.args.machine.now.names.globals) = search rules in
    subst (λ bytes. OnOk c.write_names.result (Gains (g.O.Sink.written c.args.out.now) (g.O.Sink.written c.write_names.new.out) bytes))
    (ap (λ ns. encode_utf8_all (line_of_names ns)) is ∙ variables_line c.args.machine.now) c.write_names.ensures.ok

pub returns-clause-stopped : goal.returns-clause-stopped
returns-clause-stopped g c =
    let is : c.as_slice.result.now ≡ in_byte_order (set_names c.args.machine.now.names.globals) = search rules in
    subst (λ bytes. OnErr c.write_names.result (GainsPrefix (g.O.Sink.written c.args.out.now) (g.O.Sink.written c.write_names.new.out) bytes))
    (ap (λ ns. encode_utf8_all (line_of_names ns)) is ∙ variables_line c.args.machine.now) c.write_names.ensures.err

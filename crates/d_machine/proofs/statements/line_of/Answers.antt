use Rattle.std.proofs.Common.{◌≡◌, ◌+◌, length, arith, sym}
use Rattle.d_machine.proofs.StatementLemmas.{last_is, none_is}
use Rattle.d_machine.proofs.statements.line_of.Goals as goal

pub returns-in-Some : goal.returns-in-Some
returns-in-Some c =
    let code = c.args.code.now.instructions in
    let k = c.saturating_sub-last.result in
    let i = c.in-Some.instruction.now in
    let within = c.in-Some.ensures.within in
    let many : k + 1 ≡ length code = omega (arith, within, c.saturating_sub-last.ensures, c.len.ensures) in
    sym (last_is code k i many (sym c.in-Some.ensures.value))

pub returns-in-None : goal.returns-in-None
returns-in-None c = sym (none_is c.args.code.now.instructions c.saturating_sub-last.result (omega (arith, c.saturating_sub-last.ensures, c.len.ensures)) (sym c.in-None.ensures.value))

use Rattle.std.proofs.Common.{◌+◌, ◌<◌, ◌≤◌, length, subst, sym, ap, arith}
use Rattle.std.specs.Option.{option_map}
use Rattle.std.proofs.lemmas.Result.{err_from_is_err_and}
use Rattle.std.specs.Result.{IfErr}
use Rattle.apl_read.proofs.StepLemmas.{too_long, near_refused}
use Rattle.apl_model.specs.ReadFaults.{IsRefusedAs}
use Rattle.apl_read.specs.Pieces.{pieces_from}
use Rattle.apl_read.specs.Refusals.{first_fault, line_fault, refusal_of_fault}
use Rattle.apl_read.proofs.columns.read_columns.Goals as goal
use Rattle.apl_read.proofs.columns.read_columns.Goals.{then-loop-at-test+else-at-lt-MOST_CHARACTERS, else-loop-at-test}

pub returns-in_err-at-clause-refused : goal.returns-in_err-at-clause-refused
returns-in_err-at-clause-refused c =
    let line = c.args.text.now in
    let at = c.loop-at.at in
    let near = c.if-at-lt-MOST_CHARACTERS.true in
    let p = err_from_is_err_and c.from_residual.result c.from_residual.ensures.1 in
    rw (p.1, p.2) (near_refused line c.args.number (at + 1) c.in_err-at.field-0.0 (first_fault (pieces_from at line)) c.loop-at.invariant.fault
    c.in_err-at.ensures.refused c.in_err-at.ensures.place (omega arith))

pub returns-then-text-gt-MOST_CHARACTERS-clause-refused : goal.returns-then-text-gt-MOST_CHARACTERS-clause-refused
returns-then-text-gt-MOST_CHARACTERS-clause-refused c =
    let line = c.args.text.now in
    let long : 1000 < length line = c.if-text-gt-MOST_CHARACTERS.true in
    let far : 1000 ≤ c.loop-at.at = (elim c.loop-at-test.branch [ then-loop-at-test+else-at-lt-MOST_CHARACTERS w ↦ omega arith | else-loop-at-test w ↦ omega arith ]) in
    subst (λ v. IfErr v (λ fault. IsRefusedAs fault (option_map (refusal_of_fault c.args.number) (line_fault line)))) (sym c.refuse.ensures)
    (ap (option_map (refusal_of_fault c.args.number)) (too_long line c.loop-at.at c.loop-at.made c.loop-at.invariant long far))

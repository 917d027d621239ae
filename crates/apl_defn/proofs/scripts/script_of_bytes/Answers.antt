use Rattle.std.proofs.Common.{◌≤◌, length, Err, arith, subst}
use Rattle.std.specs.Prelude.{map}
use Rattle.std.proofs.lemmas.Result.{err_from_is_err_and}
use Rattle.apl_base.specs.declared.faults.TheConstants.{MOST_BYTES}
use Rattle.apl_model.specs.Mirror.{item_of}
use Rattle.apl_model.specs.ReadFaults.{IfRefused}
use Rattle.apl_model.specs.Refusal.{IsFirst, IsLineRefusal, IsReadingRefusal, IsRefusal}
use Rattle.apl_model.specs.declared.scripts.Script.{Script}
use Rattle.apl_defn.proofs.ScriptLemmas.{refused_like, refused_first, reading_refused, lines_refused, lines_accepted}
use Rattle.apl_defn.specs.Reading.{AreAccepted}
use Rattle.apl_defn.proofs.scripts.script_of_bytes.Goals as goal

pub returns-in_err-lines-clause-refused : goal.returns-in_err-lines-clause-refused
returns-in_err-lines-clause-refused c =
    let bytes = c.args.bytes.now in
    let short : length bytes ≤ MOST_BYTES = omega arith in
    let p = err_from_is_err_and c.from_residual.result c.from_residual.ensures.1 in
    rw (p.1, p.2) (refused_like {A = Script} (Err c.in_err-lines.field-0.0) (IsFirst (IsReadingRefusal bytes)) (IsFirst (IsRefusal bytes)) (reading_refused bytes short)
    (refused_first Script c.in_err-lines.field-0.0 (IsReadingRefusal bytes) c.in_err-lines.ensures.refused))

pub returns-in_err-items-clause-refused : goal.returns-in_err-items-clause-refused
returns-in_err-items-clause-refused c =
    let bytes = c.args.bytes.now in
    let ls = c.in_ok-lines.field-0.lines in
    let read = c.in_ok-lines.ensures in
    let short : length bytes ≤ MOST_BYTES = omega arith in
    let p = err_from_is_err_and c.from_residual-in_err-items.result c.from_residual-in_err-items.ensures.1 in
    rw (p.1, p.2) (refused_like {A = Script} (Err c.in_err-items.field-0.0) (IsFirst (IsLineRefusal ls)) (IsFirst (IsRefusal bytes)) (lines_refused bytes short ls read.lines read.accepted)
    (subst (λ v. IfRefused {A = Script} (Err c.in_err-items.field-0.0) (IsFirst (IsLineRefusal v))) c.as_slice.ensures
    c.in_err-items.ensures.refused))

pub returns-clause-accepted : goal.returns-clause-accepted
returns-clause-accepted c =
    let bytes = c.args.bytes.now in
    let ls = c.in_ok-lines.field-0.lines in
    let read = c.in_ok-lines.ensures in
    let short : length bytes ≤ MOST_BYTES = omega arith in
    lines_accepted bytes short ls read.lines (record { lines = ls; items = map item_of c.in_ok-items.items }) read.whole read.short read.read
    (subst (λ v. AreAccepted v (record { lines = v; items = map item_of c.in_ok-items.items })) c.as_slice.ensures c.in_ok-items.ensures.accepted)

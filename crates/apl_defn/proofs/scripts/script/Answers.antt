use Rattle.std.proofs.Common.{sym, subst, ◌∙◌}
use Rattle.std.specs.Prelude.{map}
use Rattle.std.proofs.lemmas.Result.{err_from_is_err_and}
use Rattle.apl_model.specs.Mirror.{item_of}
use Rattle.apl_defn.specs.Reading.{AreReadLines, AreAccepted}
use Rattle.apl_defn.proofs.scripts.script.Goals as goal

pub returns-in_err-items-clause-refused : goal.returns-in_err-items-clause-refused
returns-in_err-items-clause-refused c =
    let p = err_from_is_err_and c.from_residual.result c.from_residual.ensures.1 in
    rw (p.1, p.2, ← c.as_slice-given.ensures) c.in_err-items.ensures.refused

pub returns-clause-accepted : goal.returns-clause-accepted
returns-clause-accepted c =
    let ls = c.args.lines.now.lines in
    let given = c.as_slice-given.ensures in
    let lines = c.from_vec-lines.ensures ∙ c.in_ok-copy_lines.ensures ∙ given in
    subst (λ v. AreAccepted ls (record { lines = v; items = map item_of c.in_ok-items.items })) (sym lines)
    (subst (λ v. AreAccepted v (record { lines = v; items = map item_of c.in_ok-items.items })) given c.in_ok-items.ensures.accepted)

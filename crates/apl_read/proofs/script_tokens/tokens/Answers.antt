use Rattle.std.proofs.Common.{subst}
use Rattle.std.proofs.lemmas.Result.{err_from_is_err_and}
use Rattle.apl_model.specs.Refusal.{IsReadingRefusal, IsFirstIfAny}
use Rattle.apl_read.proofs.AnswerLemmas.{refused_first}
use Rattle.apl_read.proofs.FirstRefusal.{first_refusal, all_whole, all_short, all_read}
use Rattle.apl_read.specs.Refusals.{reading_refusal}
use Rattle.apl_read.proofs.script_tokens.tokens.Goals as goal

pub returns-in_err-lines-clause-refused : goal.returns-in_err-lines-clause-refused
returns-in_err-lines-clause-refused c =
    let p = err_from_is_err_and c.from_residual.result c.from_residual.ensures.1 in
    rw (p.1, p.2) (refused_first (IsReadingRefusal c.args.script.now) c.in_err-lines.field-0.0 (reading_refusal c.args.script.now) (first_refusal c.args.script.now) c.in_err-lines.ensures.refused)

pub returns-clause-accepted : goal.returns-clause-accepted
returns-clause-accepted c = subst (λ o. IsFirstIfAny (IsReadingRefusal c.args.script.now) o) c.in_ok-lines.ensures.accepted (first_refusal c.args.script.now)

pub returns-clause-whole : goal.returns-clause-whole
returns-clause-whole c = all_whole c.args.script.now (subst (λ o. IsFirstIfAny (IsReadingRefusal c.args.script.now) o) c.in_ok-lines.ensures.accepted (first_refusal c.args.script.now))

pub returns-clause-short : goal.returns-clause-short
returns-clause-short c = all_short c.args.script.now (subst (λ o. IsFirstIfAny (IsReadingRefusal c.args.script.now) o) c.in_ok-lines.ensures.accepted (first_refusal c.args.script.now))

pub returns-clause-read : goal.returns-clause-read
returns-clause-read c = all_read c.args.script.now (subst (λ o. IsFirstIfAny (IsReadingRefusal c.args.script.now) o) c.in_ok-lines.ensures.accepted (first_refusal c.args.script.now))

use Rattle.std.proofs.Common.{ap, refl, ◌∙◌}
use Rattle.std.proofs.Common.{Some}
use Rattle.std.specs.Option.{option_copied}
use Rattle.apl_base.specs.declared.faults.Cause.TheVariants as cause
use Rattle.apl_model.specs.Refusal.{refusal}
use Rattle.apl_defn.proofs.FormLemmas.{forms_headed, forms_stopped, headed_form, stopped_form, no_head}
use Rattle.apl_defn.specs.Earliest.{earlier}
use Rattle.apl_defn.proofs.forms.Forms.add_definition.Goals as goal

pub returns-in_ok-push-in-Ok : goal.returns-in_ok-push-in-Ok
returns-in_ok-push-in-Ok c = λ ps a.
    let f = c.args.self.now in
    let top = c.args.first.now in
    let body = c.args.body.now in
    let last = option_copied c.args.last in
    let n = c.nested_lines.result in
    let o = c.open_definition.result in
    let r = c.in_ok-repeated-in-Ok.repeated in
    let s = c.in_ok-second-in-Ok.second in
    forms_headed ps top body last c.in-Ok.header f (record { earliest = c.earlier-self.result; headers = c.push.new.self; headed = c.second_heading.new.headed })
    (earlier (earlier n o) (earlier r s)) c.in-Ok.ensures.header
    (c.earlier-self.ensures ∙ ap (λ v. earlier f.earliest v) (c.earlier.ensures ∙ (λ i. earlier (c.earlier-form.ensures i) (c.earlier-names.ensures i))))
    c.in_ok-push-in-Ok.ensures.items c.in_ok-second-in-Ok.ensures.headed
    (headed_form ps top body last c.requires.read c.in-Ok.header n o r s c.in-Ok.ensures.header c.nested_lines.ensures c.open_definition.ensures c.in_ok-repeated-in-Ok.ensures
    (c.in_ok-second-in-Ok.ensures.second ps a.headed)) a

pub returns-in-Err-Stopped : goal.returns-in-Err-Stopped
returns-in-Err-Stopped c = λ ps a.
    let f = c.args.self.now in
    let top = c.args.first.now in
    let body = c.args.body.now in
    let last = option_copied c.args.last in
    let n = c.nested_lines.result in
    let o = c.open_definition.result in
    let k = c.in-Err-Stopped.column in
    let is = c.header_refusal-refusal.ensures ∙ ap (λ j. refusal cause.Header top.number j) c.in-Err-Stopped.column-is in
    let stops = rw c.in-Err-Stopped.field-0-is at c.in-Err-Stopped.ensures.stopped in
    forms_stopped ps top body last f (record { earliest = c.earlier-self-in-Err-Stopped.result; headers = f.headers; headed = f.headed })
    (earlier n o) (refusal cause.Header top.number k) (no_head top c.requires.read k stops)
    (c.earlier-self-in-Err-Stopped.ensures ∙ ap (λ v. earlier f.earliest v) (c.earlier-in-Err-Stopped.ensures ∙ (λ i. earlier (c.earlier-form.ensures i) (Some (is i)))))
    refl (stopped_form ps top body last c.requires.read k n o stops c.nested_lines.ensures c.open_definition.ensures) a

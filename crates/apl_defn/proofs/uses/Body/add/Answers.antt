use Rattle.std.proofs.Common.{Some, ap, ◌∙◌}
use Rattle.apl_base.specs.declared.faults.Cause.TheVariants as cause
use Rattle.apl_model.specs.Mirror.{body_line_of}
use Rattle.apl_model.specs.Refusal.{refusal}
use Rattle.apl_defn.proofs.UseLemmas.{body_more, body_stopped, body_first, body_stops, body_is_lawful}
use Rattle.apl_defn.specs.Earliest.{earlier}
use Rattle.apl_defn.proofs.uses.Body.add.Goals as goal

pub returns-in_ok-push-in-Ok : goal.returns-in_ok-push-in-Ok
returns-in_ok-push-in-Ok c = λ ls h.
    let hs = c.args.lookup.now in
    let l = c.args.line.now in
    let f = c.args.self.now in
    let a = c.assigned_name.result in
    let d = c.deep_token.result in
    body_more hs ls l f (record { earliest = c.earlier-self.result; lines = c.push.new.self }) (earlier a d) c.in-Ok.read
    (c.earlier-self.ensures ∙ ap (λ v. earlier f.earliest v) c.earlier-refusal.ensures) c.in_ok-push-in-Ok.ensures.items c.in-Ok.ensures.body
    (body_first hs l a d c.assigned_name.ensures c.deep_token.ensures c.requires (body_is_lawful hs l (body_line_of c.in-Ok.read) c.in-Ok.ensures.body)) h

pub returns-in-Err-Stopped : goal.returns-in-Err-Stopped
returns-in-Err-Stopped c = λ ls h.
    let hs = c.args.lookup.now in
    let l = c.args.line.now in
    let f = c.args.self.now in
    let a = c.assigned_name.result in
    let d = c.deep_token.result in
    let k = c.in-Err-Stopped.column in
    let is = c.grammar_refusal-stopped.ensures ∙ ap (λ j. refusal cause.Grammar l.number j) c.in-Err-Stopped.column-is in
    let stops = rw c.in-Err-Stopped.field-0-is at c.in-Err-Stopped.ensures.stopped in
    body_stopped hs ls l f (record { earliest = c.earlier-self-in-Err-Stopped.result; lines = f.lines }) (earlier a d) (refusal cause.Grammar l.number k)
    (c.earlier-self-in-Err-Stopped.ensures ∙ ap (λ v. earlier f.earliest v) (c.earlier.ensures ∙ (λ i. earlier (c.earlier-refusal.ensures i) (Some (is i)))))
    (body_stops hs l a d c.assigned_name.ensures c.deep_token.ensures k stops) h

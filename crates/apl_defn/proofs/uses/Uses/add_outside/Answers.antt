use Rattle.std.proofs.Common.{Some, ap, ◌∙◌}
use Rattle.apl_base.specs.declared.faults.Cause.TheVariants as cause
use Rattle.apl_model.proofs.Accepted.{outside_lawful}
use Rattle.apl_model.specs.Mirror.{item_of}
use Rattle.apl_model.specs.Refusal.{refusal}
use Rattle.apl_model.specs.Script.{alone}
use Rattle.apl_defn.proofs.UseLemmas.{uses_more, uses_stopped, outside_first, outside_stops}
use Rattle.apl_defn.specs.Earliest.{earlier}
use Rattle.apl_defn.proofs.uses.Uses.add_outside.Goals as goal

pub returns-in_ok-push-in-Ok : goal.returns-in_ok-push-in-Ok
returns-in_ok-push-in-Ok c = λ ps h.
    let hs = c.args.lookup.now in
    let l = c.args.line.now in
    let f = c.args.self.now in
    let a = c.assigned_name.result in
    let e = c.erased_name.result in
    let d = c.deep_token.result in
    uses_more hs ps (alone l) f (record { earliest = c.earlier-self.result; items = c.push.new.self }) (earlier (earlier a e) d) c.in-Ok.item
    (c.earlier-self.ensures ∙ ap (λ v. earlier f.earliest v) (c.earlier-refusal.ensures ∙ ap (λ v. earlier v d) c.earlier-names.ensures)) c.in_ok-push-in-Ok.ensures.items
    (λ none. c.in-Ok.ensures.item)
    (outside_first hs l a d c.assigned_name.ensures c.deep_token.ensures e c.erased_name.ensures c.requires (outside_lawful hs l (item_of c.in-Ok.item) c.in-Ok.ensures.item)) h

pub returns-in-Err-Stopped : goal.returns-in-Err-Stopped
returns-in-Err-Stopped c = λ ps h.
    let hs = c.args.lookup.now in
    let l = c.args.line.now in
    let f = c.args.self.now in
    let a = c.assigned_name.result in
    let e = c.erased_name.result in
    let d = c.deep_token.result in
    let k = c.in-Err-Stopped.column in
    let is = c.grammar_refusal-stopped.ensures ∙ ap (λ j. refusal cause.Grammar l.number j) c.in-Err-Stopped.column-is in
    let stops = rw c.in-Err-Stopped.field-0-is at c.in-Err-Stopped.ensures.stopped in
    let names = c.earlier-refusal.ensures ∙ ap (λ v. earlier v d) c.earlier-names.ensures in
    uses_stopped hs ps (alone l) f (record { earliest = c.earlier-self-in-Err-Stopped.result; items = f.items }) (earlier (earlier a e) d) (refusal cause.Grammar l.number k)
    (c.earlier-self-in-Err-Stopped.ensures ∙ ap (λ v. earlier f.earliest v) (c.earlier.ensures ∙ (λ i. earlier (names i) (Some (is i)))))
    (outside_stops hs l a d c.assigned_name.ensures c.deep_token.ensures e c.erased_name.ensures k stops) h

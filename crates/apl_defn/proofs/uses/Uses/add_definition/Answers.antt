use Rattle.std.proofs.Common.{Some, ap, sym, refl, subst, ◌∙◌}
use Rattle.std.specs.List.{AllZip}
use Rattle.std.specs.Prelude.{map}
use Rattle.apl_model.specs.Mirror.{body_line_of}
use Rattle.apl_model.specs.Script.{defined, IsBodyLine}
use Rattle.apl_model.specs.declared.scripts.ScriptItem.TheVariants as ScriptItem
use Rattle.apl_defn.proofs.FormLemmas.{neither}
use Rattle.apl_defn.proofs.UseLemmas.{uses_more, definition_first}
use Rattle.apl_defn.specs.Earliest.{earlier}
use Rattle.apl_defn.proofs.uses.Uses.add_definition.Goals as goal

pub returns : goal.returns
returns c = λ ps h.
    let hs = c.args.lookup.now in
    let top = c.args.first.now in
    let body = c.args.body.now in
    let last = c.args.last.now in
    let f = c.args.self.now in
    let d = c.declared_name-declared.result in
    let b = c.in_ok-earliest.field-0.earliest in
    uses_more hs ps (defined top body (Some last)) f (record { earliest = c.earlier-self.result; items = c.push.new.self }) (earlier d b)
    (ScriptItem.Definition (record { opened = top.number; closed = last.number; header = c.args.header; body = c.from_vec.result }))
    (c.earlier-self.ensures ∙ ap (λ v. earlier f.earliest v) c.earlier.ensures) c.in_ok-push.ensures.items
    (λ none. record {
      opened = refl;
      closed = refl;
      head = c.requires.head;
      body = subst (λ v. AllZip (IsBodyLine hs) body (map body_line_of v)) (sym c.from_vec.ensures) (c.in_ok-earliest.ensures.lines (neither d b none).1);
    })
    (definition_first hs top body (Some last) c.args.header d b c.requires.head c.declared_name-declared.ensures c.in_ok-earliest.ensures.earliest) h

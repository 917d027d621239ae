use Rattle.std.proofs.Common.{Some, refl, ap, sym, suc, ◌∙◌, slice_get}
use Rattle.std.specs.Option.{option_copied}
use Rattle.apl_model.specs.Printed.{body_prefix}
use Rattle.apl_compile.specs.Running.{prefix_from}
use Rattle.apl_compile.proofs.Tabled.{no_standing, stands_in, same_header, no_other, nothing_given}
use Rattle.apl_compile.proofs.programs.Program.function_with.Goals as goal

pub returns-in_err-standing : goal.returns-in_err-standing
returns-in_err-standing c =
    nothing_given c.from_residual.result _ _ c.from_residual.ensures
    (ap (λ v. prefix_from c.args.number v.outline.items) (sym c.self.view_is)
    ∙ no_standing c.args.number c.self.inside.outline.items 0 (sym (c.self.invariant.3 c.args.number) ∙ sym c.get.ensures.value ∙ ap option_copied c.in_err-standing.was))

pub returns-in-Some-Definition : goal.returns-in-Some-Definition
returns-in-Some-Definition c =
    let items = c.self.inside.outline.items in
    let s = c.in_ok-standing.standing.now in
    let w = stands_in c.args.number items s items 0 refl (sym (c.self.invariant.3 c.args.number) ∙ sym c.get.ensures.value ∙ ap option_copied c.in_ok-standing.was) in
    let d = c.in-Some-Definition in
    ap (λ v. prefix_from c.args.number v.outline.items) (sym c.self.view_is)
    ∙ w.prefixed
    ∙ ap (λ h. body_prefix h.f (suc s.line))
    (same_header (slice_get items s.item) w.opened w.closed w.header w.body d.field-0-0 d.field-0-1 d.header d.field-0-3 w.item
    (sym c.get-2.ensures.value ∙ ap option_copied d.is ∙ ap Some d.field-0-is))

pub returns-in-Some-Statement : goal.returns-in-Some-Statement
returns-in-Some-Statement c =
    let items = c.self.inside.outline.items in
    let s = c.in_ok-standing.standing.now in
    let w = stands_in c.args.number items s items 0 refl (sym (c.self.invariant.3 c.args.number) ∙ sym c.get.ensures.value ∙ ap option_copied c.in_ok-standing.was) in
    absurd (no_other (slice_get items s.item) _ w.opened w.closed w.header w.body w.item (sym c.get-2.ensures.value ∙ ap option_copied c.in-Some-Statement.is ∙ ap Some c.in-Some-Statement.field-0-is) refl)

pub returns-in-Some-Command : goal.returns-in-Some-Command
returns-in-Some-Command c =
    let items = c.self.inside.outline.items in
    let s = c.in_ok-standing.standing.now in
    let w = stands_in c.args.number items s items 0 refl (sym (c.self.invariant.3 c.args.number) ∙ sym c.get.ensures.value ∙ ap option_copied c.in_ok-standing.was) in
    absurd (no_other (slice_get items s.item) _ w.opened w.closed w.header w.body w.item (sym c.get-2.ensures.value ∙ ap option_copied c.in-Some-Command.is ∙ ap Some c.in-Some-Command.field-0-is) refl)

pub returns-in-None : goal.returns-in-None
returns-in-None c =
    let items = c.self.inside.outline.items in
    let s = c.in_ok-standing.standing.now in
    let w = stands_in c.args.number items s items 0 refl (sym (c.self.invariant.3 c.args.number) ∙ sym c.get.ensures.value ∙ ap option_copied c.in_ok-standing.was) in
    absurd (no_other (slice_get items s.item) _ w.opened w.closed w.header w.body w.item (sym c.get-2.ensures.value ∙ ap option_copied c.in-None.is) refl)

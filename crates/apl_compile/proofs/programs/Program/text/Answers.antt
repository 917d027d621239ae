use Rattle.std.proofs.Common.{ap, sym, ◌∙◌, []}
use Rattle.std.proofs.lemmas.Str.{chars-nil}
use Rattle.std.specs.Option.{option_copied, option_map, unwrap_or}
use Rattle.apl_model.specs.declared.outlines.OutlineLine.{OutlineLine}
use Rattle.apl_compile.specs.Running.{line_text_in}
use Rattle.apl_compile.proofs.Tabled.{no_text, text_at}
use Rattle.apl_compile.proofs.programs.Program.text.Goals as goal

pub returns-in_default : goal.returns-in_default
returns-in_default c =
    chars-nil
    ∙ sym (no_text c.self.inside.outline.lines c.args.number (sym (c.self.invariant.2 c.args.number) ∙ sym c.get.ensures.value ∙ ap option_copied c.in_default.is))
    ∙ ap (λ v. line_text_in v.outline.lines c.args.number) c.self.view_is

pub returns-in-Some-get : goal.returns-in-Some-get
returns-in-Some-get c =
    c.as_str.ensures
    ∙ sym (text_at c.self.inside.outline.lines c.args.number c.in-Some.place.now (sym (c.self.invariant.2 c.args.number) ∙ sym c.get.ensures.value ∙ ap option_copied c.in-Some.is)
    ∙ ap (λ o. unwrap_or (option_map (λ (l : OutlineLine). l.text) o) []) (sym c.get-2.ensures.value ∙ ap option_copied c.in-Some-get.is))
    ∙ ap (λ v. line_text_in v.outline.lines c.args.number) c.self.view_is

pub returns-in-None : goal.returns-in-None
returns-in-None c =
    chars-nil
    ∙ sym (text_at c.self.inside.outline.lines c.args.number c.in-Some.place.now (sym (c.self.invariant.2 c.args.number) ∙ sym c.get.ensures.value ∙ ap option_copied c.in-Some.is)
    ∙ ap (λ o. unwrap_or (option_map (λ (l : OutlineLine). l.text) o) []) (sym c.get-2.ensures.value ∙ ap option_copied c.in-None.is))
    ∙ ap (λ v. line_text_in v.outline.lines c.args.number) c.self.view_is

use Rattle.std.proofs.Common.{◌≡◌, None, ap, subst, ◌∙◌, arith}
use Rattle.std.specs.Option.{MatchOption}
use Rattle.apl_model.specs.Call.{routine_of}
use Rattle.apl_compile.specs.Lookups.{IsFunctionAt}
use Rattle.apl_compile.specs.Program.{ProgramView}
use Rattle.apl_compile.specs.Running.{routines_in}
use Rattle.apl_compile.specs.Tables.{function_from}
use Rattle.apl_compile.proofs.Tabled.{function_found}
use Rattle.apl_compile.proofs.programs.Program.function.Goals as goal

pub returns : goal.returns
returns c =
    let p : ProgramView = record { outline = c.self.inside.outline; codes = c.self.inside.codes } in
    let found =
    c.copied.ensures
    ∙ c.get.ensures.value
    ∙ c.self.invariant.1 c.as_str.result.now c.as_str.utf8
    ∙ ap (function_from 0 0 p.outline.items) c.as_str.ensures.characters in
    subst (λ v. MatchOption c.copied.result (routine_of (routines_in v) c.args.name.now ≡ None) (λ f. IsFunctionAt v c.args.name.now f)) c.self.view_is
    (function_found p c.args.name.now c.copied.result (omega (arith, c.self.invariant.0)) found)

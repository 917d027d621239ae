use Rattle.std.proofs.Common.{rules, ap₂, ◌≡◌, ◌∙◌, codes}
use Rattle.std.proofs.lemmas.Result.{IfOk-weaker}
use Rattle.clap.specs.Walk.{rule_of}
use Rattle.clap.specs.Simple.{app_of, new_app, on_top, with_rule}
use Rattle.apl_words.specs.Options.{flag, plain, valued}
use Rattle.apl_words.proofs.options.command.Goals as goal

pub returns : goal.returns
returns c =
    let turns_is : rule_of c.action-turns.result ≡ valued (codes "turns") = search rules in
    let trace_is : rule_of c.action-trace.result ≡ flag (codes "trace") = search rules in
    let workload_is : rule_of c.action-workload.result ≡ valued (codes "workload") = search rules in
    let plain_is : app_of c.disable_version_flag.result ≡ on_top plain (new_app (codes "aplm")) = search rules in
    let two_is : app_of c.in_ok-arg-2.field-0 ≡ with_rule (with_rule (on_top plain (new_app (codes "aplm"))) (valued (codes "turns"))) (flag (codes "trace")) =
    c.in_ok-arg-2.ensures.shape (search rules) ∙ ap₂ with_rule (c.in_ok-arg.ensures.shape (search rules) ∙ ap₂ with_rule plain_is turns_is) trace_is in
    record {
      app = IfOk-weaker c.arg-3.result _ _ (λ made adds. adds.shape (search rules) ∙ ap₂ with_rule two_is workload_is) c.arg-3.ensures;
    }

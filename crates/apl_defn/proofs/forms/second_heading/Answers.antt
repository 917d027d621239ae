use Rattle.std.proofs.Common.{sym, subst}
use Rattle.std.specs.Bool.{OnFalse}
use Rattle.std.specs.List.{IsAmong}
use Rattle.apl_defn.proofs.FormLemmas.{first_heading, heading_again, no_own_name}
use Rattle.apl_defn.proofs.forms.second_heading.Goals as goal

pub returns-then-branch-clause-second : goal.returns-then-branch-clause-second
returns-then-branch-clause-second c = λ ps same. first_heading ps c.args.first.now c.args.header.now c.requires c.args.headed.now same (c.in_ok-add.ensures.added.0 c.if-branch.true)

pub returns-in-Some-clause-second : goal.returns-in-Some-clause-second
returns-in-Some-clause-second c = λ ps same. heading_again ps c.args.first.now c.args.header.now c.requires c.args.headed.now same c.in-Some.own.now
    (subst (λ b. OnFalse b (IsAmong c.args.headed.now c.args.header.now.f)) c.if-branch.false c.in_ok-add.ensures.met) (sym c.in-Some.ensures)

pub returns-in-None-clause-second : goal.returns-in-None-clause-second
returns-in-None-clause-second c = λ ps same. no_own_name ps c.args.first.now c.args.header.now c.requires c.args.headed.now same (sym c.in-None.ensures)

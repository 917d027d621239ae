use Rattle.std.proofs.Common.{◌≡◌, List, length, ap, subst, arith}
use Rattle.apl_model.specs.Refusal.{IsFirstIfAny}
use Rattle.apl_model.specs.declared.tokens.Token.{Token}
use Rattle.apl_defn.proofs.AssignedLemmas.{IsFirstAssigned, assigned_more, assigned_all, left_from}
use Rattle.apl_defn.specs.Occurrences.{IsAssignedFirst}
use Rattle.apl_defn.proofs.names.assigned_name.Goals as goal

pub loop-from-preserved : goal.loop-from-preserved
loop-from-preserved c =
    let hs = c.args.lookup.now in
    let n = c.args.line.now.number in
    let ts = c.as_slice-tokens.result.now in
    let k = c.loop-from.from in
    rw c.earlier-found.ensures (assigned_more hs n ts k c.loop-from.found c.assigned_first.result c.loop-from.invariant
    (subst (λ (v : List Token). IsFirstIfAny (IsAssignedFirst hs n v) c.assigned_first.result) (left_from ts k) c.assigned_first.ensures))

pub returns : goal.returns
returns c =
    let l = c.args.line.now in
    let same = c.as_slice-tokens.ensures in
    let all : c.loop-from.from ≡ length l.tokens = omega (arith, ap length same) in
    assigned_all c.args.lookup.now l c.loop-from.from c.loop-from.found all
    (subst (λ (v : List Token). IsFirstAssigned c.args.lookup.now l.number v c.loop-from.from c.loop-from.found) same c.loop-from.invariant)

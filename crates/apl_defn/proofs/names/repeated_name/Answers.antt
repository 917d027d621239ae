use Rattle.std.proofs.Common.{◌≡◌, ◌+◌, ◌<◌, ◌≤◌, List, [], ◌∷◌, ◌++◌, length, take, get_or, ap, subst, arith}
use Rattle.apl_model.specs.Refusal.{Occurrence, names_in, label_in, labels_in, declared_in}
use Rattle.apl_model.specs.declared.tokens.Token.{Token}
use Rattle.apl_defn.proofs.PlaceLemmas.{again_more, again_along, names_step, labels_step, names_all, declared_all, repeated_first}
use Rattle.apl_defn.proofs.names.repeated_name.Goals as goal

pub loop-token-preserved : goal.loop-token-preserved
loop-token-preserved c =
    let n = c.args.first.now.number in
    let ts : List Token = c.args.first.now.tokens in
    let i = c.loop-token.token-index in
    let t = c.token-item.result in
    let same = c.as_slice-token-items.ensures in
    let within : i < length ts = omega (arith, ap length same) in
    rw c.earlier-found.ensures (again_more (names_in n (take i ts)) (names_in n (take (i + 1) ts)) (names_in n (t ∷ [])) c.name_at.result c.loop-token.names c.met_again.new.names
    c.loop-token.found c.in_ok-repeated.repeated (names_step n ts i t within (subst (λ (v : List Token). t ≡ get_or v i t) same c.token-item.is)) c.name_at.ensures c.loop-token.invariant
    c.in_ok-repeated.ensures.met c.in_ok-repeated.ensures.names)

pub loop-line-init : goal.loop-line-init
loop-line-init c =
    let n = c.args.first.now.number in
    let ts : List Token = c.args.first.now.tokens in
    let i = c.loop-token.token-index in
    let same = c.as_slice-token-items.ensures in
    let past : length ts ≤ i = omega (arith, ap length same) in
    again_along (names_in n (take i ts)) (names_in n ts ++ labels_in (take 0 c.args.body.now)) c.loop-token.names c.loop-token.found (names_all n ts c.args.body.now i past) c.loop-token.invariant

pub loop-line-preserved : goal.loop-line-preserved
loop-line-preserved c =
    let os : List Occurrence = names_in c.args.first.now.number c.args.first.now.tokens in
    let ls = c.args.body.now in
    let i = c.loop-line.line-index in
    let l = c.line-item.result in
    let within : i < length ls = omega arith in
    rw c.earlier-found-in-loop-line.ensures (again_more (os ++ labels_in (take i ls)) (os ++ labels_in (take (i + 1) ls)) (label_in l.number l.tokens) c.label_of.result c.loop-line.names
    c.met_again-in-loop-line.new.names c.loop-line.found c.in_ok-repeated-2.repeated (labels_step os ls i l within c.line-item.is) c.label_of.ensures c.loop-line.invariant
    c.in_ok-repeated-2.ensures.met c.in_ok-repeated-2.ensures.names)

pub returns : goal.returns
returns c =
    let top = c.args.first.now in
    let ls = c.args.body.now in
    let i = c.loop-line.line-index in
    let past : length ls ≤ i = omega arith in
    repeated_first top ls c.loop-line.names c.loop-line.found
    (again_along (names_in top.number top.tokens ++ labels_in (take i ls)) (declared_in top ls) c.loop-line.names c.loop-line.found (declared_all top ls i past) c.loop-line.invariant)

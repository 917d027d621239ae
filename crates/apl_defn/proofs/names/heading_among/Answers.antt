use Rattle.std.proofs.Common.{◌+◌, ◌<◌, ◌≤◌, [], ◌∷◌, length, take, ap, arith}
use Rattle.std.proofs.lemmas.List.{take_all}
use Rattle.apl_model.specs.Refusal.{names_in}
use Rattle.apl_defn.proofs.PlaceLemmas.{one_more, names_step, wrong_along}
use Rattle.apl_defn.specs.NameRules.{IsHeading}
use Rattle.apl_defn.specs.Occurrences.{at_most_one}
use Rattle.apl_defn.proofs.names.heading_among.Goals as goal

pub loop-token-preserved : goal.loop-token-preserved
loop-token-preserved c =
    let n = c.args.line in
    let ts = c.args.tokens.now in
    let i = c.loop-token.token-index in
    let t = c.token-item.result in
    let within : i < length ts = omega arith in
    rw c.earlier-found.ensures (one_more (IsHeading c.args.lookup.now) (names_in n (take i ts)) (names_in n (t ∷ [])) (names_in n (take (i + 1) ts)) (at_most_one c.name_at.result)
    c.loop-token.found c.heading_at.result (names_step n ts i t within c.token-item.is) c.name_at.ensures c.loop-token.invariant c.heading_at.ensures)

pub returns : goal.returns
returns c =
    let n = c.args.line in
    let ts = c.args.tokens.now in
    let i = c.loop-token.token-index in
    let past : length ts ≤ i = omega arith in
    (wrong_along (IsHeading c.args.lookup.now) (names_in n (take i ts)) (names_in n ts) c.loop-token.found (ap (names_in n) (take_all i ts past)) c.loop-token.invariant).first

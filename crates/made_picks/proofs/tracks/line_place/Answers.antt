use mir.Syntax.{w128}
use Rattle.std.proofs.Common.{◌≡◌, ◌-◌, ◌∙◌, ℤ, pos, ◌+ℤ◌, ◌*ℤ◌, Some, sym, ap}
use Rattle.std.proofs.lemmas.Int.{to_z-of_z}
use Rattle.made_picks.proofs.TrackLemmas.{line-beyond, line-within}
use Rattle.made_picks.proofs.tracks.line_place.Goals as goal

pub returns-then-k-count : goal.returns-then-k-count
returns-then-k-count c = sym (line-beyond c.args.before c.args.count c.args.j c.args.from c.args.step c.if-j-before.false c.if-k-count.true)

pub returns : goal.returns
returns c =
    let from = to_z-of_z w128 c.args.from c.ranges.from in
    let step = to_z-of_z w128 c.args.step c.ranges.step in
    let place = to_z-of_z w128 c.from.result (record { sfits = c.from.type_inv }) in
    let all = to_z-of_z w128 c.number_on.result (record { sfits = c.number_on.type_inv }) in
    let is = rw (from, step, place) at c.number_on.ensures in
    let here : c.number_on.result ≡ c.args.from +ℤ (c.args.step *ℤ pos (c.args.j - c.args.before)) = is ∙ ap (λ (z : ℤ). c.args.from +ℤ (c.args.step *ℤ z)) c.from.ensures in
    ap (λ (z : ℤ). Some z) (all ∙ here) ∙ sym (line-within c.args.before c.args.count c.args.j c.args.from c.args.step c.if-j-before.false c.if-k-count.false)

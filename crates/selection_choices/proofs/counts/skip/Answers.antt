use Rattle.std.proofs.Common.{◌≡◌, ◌<◌, ℤ, pos, List, [], ◌∷◌, length, take, get_or, to_z, of_z, ap, ◌∙◌, arith, rules, length-append}
use Rattle.std.proofs.Math.Seq.{take-length}
use Rattle.std.proofs.lemmas.Int.{to_z-of_z}
use mir.Val.{SFits}
use mir.Syntax.{w64, w128}
use Rattle.pending_laws.specs.Selections.{capped, capped_counts}
use Rattle.selection_choices.proofs.CountLemmas.{capped_more, capped-length}
use Rattle.selection_choices.proofs.counts.skip.Goals as goal

pub loop-axis-preserved : goal.loop-axis-preserved
loop-axis-preserved c =
    let fits : SFits w128 (get_or c.args.counts.now c.loop-axis.axis (pos 0)) = search rules in
    let kept : SFits w64 c.cap.result = record { sfits = c.cap.type_inv } in
    let within : c.loop-axis.axis < length c.args.axes.now = omega (arith, c.loop-axis-test.true, c.rank-axis-end.ensures.value) in
    let value = to_z-of_z w64 c.cap.result kept ∙ c.cap.ensures ∙ ap (capped c.len.result) (to_z-of_z w128 (get_or c.args.counts.now c.loop-axis.axis (pos 0)) fits) ∙ ap (λ n. capped n (get_or c.args.counts.now c.loop-axis.axis (pos 0))) c.len.ensures.value in
    record {
      made = c.push_reserved.ensures.items ∙ capped_more c.args.axes.now c.args.counts.now c.loop-axis.dropped.items c.loop-axis.axis _ c.requires within c.loop-axis.invariant.made value;
      count = omega (arith, ap (λ (zs : List ℤ). length zs) c.push_reserved.ensures.items, length-append c.loop-axis.dropped.items (to_z w64 (of_z w64 c.cap.result) ∷ []), c.loop-axis.invariant.count);
      room = c.push_reserved.ensures.capacity ∙ c.loop-axis.invariant.room;
    }

pub returns : goal.returns
returns c =
    let long : c.loop-axis.axis ≡ length (capped_counts c.args.axes.now c.args.counts.now) = omega (arith, capped-length c.args.axes.now c.args.counts.now c.requires, c.loop-axis-test.false, c.loop-axis.auto.axis-end, c.rank-axis-end.ensures.value) in
    c.loop-axis.invariant.made ∙ ap (λ k. take k (capped_counts c.args.axes.now c.args.counts.now)) long ∙ take-length (capped_counts c.args.axes.now c.args.counts.now)

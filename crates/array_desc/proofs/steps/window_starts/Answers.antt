use Rattle.std.proofs.Common.{pos, ◌+◌, ◌≤◌, get_or, length, arith, rules, ◌∙◌, ap, sym, subst, ℤ}
use Rattle.std.specs.Prelude.{unsigned_abs}
use Rattle.std.proofs.lemmas.Int.{to_z-of_z}
use Rattle.std.proofs.lemmas.List.{length_push}
use mir.Val.{SFits}
use mir.Syntax.{w64}
use Rattle.array_desc.specs.Steps.{window_start}
use Rattle.array_desc.proofs.Maps.{counts_length, count_fits}
use Rattle.array_desc.proofs.Walks.{paired_turn, paired_all}
use Rattle.array_desc.proofs.steps.window_starts.Goals as goal

pub bounds-counts-axis : goal.bounds-counts-axis
bounds-counts-axis c = omega (arith, counts_length c.args.lengths.now c.args.counts.now c.requires.fit)

pub start_of-requires : goal.start_of-requires
start_of-requires c =
    let k = c.loop-axis.axis in
    let s : SFits w64 (get_or c.args.counts.now k (pos 0)) = search rules in
    let P : ℤ → Type 0 = λ z. unsigned_abs z ≤ get_or c.args.lengths.now k 0 in
    subst P (sym (to_z-of_z w64 _ s)) (count_fits c.args.lengths.now c.args.counts.now k c.requires.fit c.loop-axis-test.true)

pub loop-axis-preserved : goal.loop-axis-preserved
loop-axis-preserved c =
    let k = c.loop-axis.axis in
    let s : SFits w64 (get_or c.args.counts.now k (pos 0)) = search rules in
    let n = get_or c.args.lengths.now k 0 in
    let l = counts_length c.args.lengths.now c.args.counts.now c.requires.fit in (
      paired_turn (window_start c.args.taking) c.args.lengths.now c.args.counts.now k 0 (pos 0) _ _ _ (omega arith) (omega arith)
          c.push_reserved.ensures.items
          (c.start_of.ensures ∙ ap (λ v. window_start c.args.taking n v) (to_z-of_z w64 _ s))
          c.loop-axis.invariant.0,
      ap length c.push_reserved.ensures.items ∙ length_push _ _ ∙ ap (λ v. v + 1) c.loop-axis.invariant.1,
      omega arith,
    )

pub returns : goal.returns
returns c =
    let l = counts_length c.args.lengths.now c.args.counts.now c.requires.fit in
    paired_all (window_start c.args.taking) c.args.lengths.now c.args.counts.now c.loop-axis.axis c.loop-axis.starts.items (omega arith) (omega arith) c.loop-axis.invariant.0

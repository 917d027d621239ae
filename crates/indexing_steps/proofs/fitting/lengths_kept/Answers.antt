use Rattle.std.proofs.Common.{refl, sym, arith, ◌∙◌}
use Rattle.std.proofs.lemmas.List.{append-nil}
use Rattle.indexing_steps.proofs.ChoiceLemmas.{none_kept, kept_more, all_kept}
use Rattle.indexing_steps.proofs.fitting.lengths_kept.Goals as goal
use Rattle.indexing_steps.proofs.fitting.lengths_kept.Goals.{in-All, in-At, in-Run}

pub loop-axis-init : goal.loop-axis-init
loop-axis-init c = record { kept = none_kept c.args.items.now c.args.shape.now c.new-lengths.result.items c.new-lengths.ensures.items; room = c.new-lengths.ensures.capacity }

pub push_reserved-requires : goal.push_reserved-requires
push_reserved-requires c = omega (arith, c.loop-axis.invariant.kept.few, c.loop-axis.invariant.room, c.rank-rank.ensures.lawful.rank, c.requires)

pub push_reserved-requires-in-Run : goal.push_reserved-requires-in-Run
push_reserved-requires-in-Run c = omega (arith, c.loop-axis.invariant.kept.few, c.loop-axis.invariant.room, c.rank-rank.ensures.lawful.rank, c.requires)

pub loop-axis-preserved : goal.loop-axis-preserved
loop-axis-preserved c = elim c.match-items-axis.branch [
  | in-All w ↦ rw w.lengths-is (record {
    kept = kept_more c.args.items.now c.args.shape.now c.loop-axis.axis w.len.result _ c.loop-axis.lengths.items w.push_reserved.new.self.items c.loop-axis.invariant.kept c.requires c.loop-axis-test.true w.in-All.is (sym w.len.ensures.value) w.push_reserved.ensures.items;
    room = w.push_reserved.ensures.capacity ∙ c.loop-axis.invariant.room;
  })
  | in-At w ↦ rw w.lengths-is (record {
    kept = kept_more c.args.items.now c.args.shape.now c.loop-axis.axis _ _ c.loop-axis.lengths.items c.loop-axis.lengths.items c.loop-axis.invariant.kept c.requires c.loop-axis-test.true w.in-At.is refl (sym (append-nil c.loop-axis.lengths.items));
    room = c.loop-axis.invariant.room;
  })
  | in-Run w ↦ rw w.lengths-is (record {
    kept = kept_more c.args.items.now c.args.shape.now c.loop-axis.axis _ _ c.loop-axis.lengths.items w.push_reserved-in-Run.new.self.items c.loop-axis.invariant.kept c.requires c.loop-axis-test.true w.in-Run.is refl w.push_reserved-in-Run.ensures.items;
    room = w.push_reserved-in-Run.ensures.capacity ∙ c.loop-axis.invariant.room;
  })
]

pub returns : goal.returns
returns c = all_kept c.args.items.now c.args.shape.now c.loop-axis.axis c.loop-axis.lengths.items c.loop-axis.invariant.kept c.requires (omega arith)

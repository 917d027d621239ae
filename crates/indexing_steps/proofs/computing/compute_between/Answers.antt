use Rattle.std.proofs.Common.{refl, ◌∙◌}
use Rattle.indexing_steps.proofs.FallLemmas.{moves_same, moves_then, moves_hold}
use Rattle.indexing_steps.proofs.OperandLemmas.{computed_none, computed_more}
use Rattle.indexing_steps.proofs.computing.compute_between.Goals as goal

pub loop-at-init : goal.loop-at-init
loop-at-init c = record {
  computed = computed_none c.args.stack.now c.args.first;
  means = refl;
  moves = moves_same c.args.store.now c.args.stack.now c.requires.lawful;
  held = c.requires.held;
  count = refl;
}

pub loop-at-preserved : goal.loop-at-preserved
loop-at-preserved c =
    let i = c.loop-at.invariant in
    let e = c.in_ok-compute_entry.ensures in
    record {
      computed = computed_more c.loop-at.stack c.compute_entry.new.stack c.args.first c.loop-at.at i.computed e.fewer e.length e.computed;
      means = e.means ∙ i.means;
      moves = moves_then c.args.store.now c.loop-at.store c.compute_entry.new.store c.args.stack.now c.loop-at.stack c.compute_entry.new.stack i.moves e.moves;
      held = moves_hold c.loop-at.store c.compute_entry.new.store c.loop-at.stack c.compute_entry.new.stack e.moves i.held;
      count = e.length ∙ i.count;
    }

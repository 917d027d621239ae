use Rattle.std.proofs.Common.{◌≡◌, ◌≤◌, length}
use Rattle.apl_model.specs.Script.{parts}
use Rattle.apl_defn.proofs.parts.Parts.next.Given as goal

abbrev pub invariant-loop-line : goal.invariant-loop-line
invariant-loop-line l = record {
  same : parts l.self.rest.now ≡ parts l.initial.self.rest.now;
  fewer : length l.self.rest.now ≤ length l.initial.self.rest.now;
}

abbrev pub decreases-loop-line : goal.decreases-loop-line
decreases-loop-line l = length l.self.rest.now

use Rattle.std.proofs.Common.{◌≡◌, ◌≤◌, map, take}
use Rattle.apl_base.specs.Selection.{upward}
use Rattle.apl_model.specs.Made.{ones}
use Rattle.made_fns.specs.Lines.{spaced_source}
use Rattle.made_fns.proofs.spaces.sources_of.Given as goal

-- the sources so far, and the ones before
abbrev pub invariant-loop-bit : goal.invariant-loop-bit
invariant-loop-bit l = (l.sources.items ≡ map (spaced_source l.bits) (upward 0 l.bit-index)) × (l.found ≡ ones (take l.bit-index l.bits)) × (l.found ≤ l.bit-index)

use Rattle.std.proofs.Common.{◌<◌, ◌-◌, ◌^◌}
use Rattle.apl_words.proofs.Texts.{Written}
use Rattle.apl_words.proofs.workloads.workload.Given as goal

abbrev pub invariant-loop-line : goal.invariant-loop-line
invariant-loop-line l = Written l.text.bytes.items l.k (5000 - l._line) l.seed × (l.seed < 2 ^ 32)

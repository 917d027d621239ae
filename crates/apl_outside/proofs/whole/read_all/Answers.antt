use Rattle.std.proofs.Common.{◌++◌, take, length, length-take, ◌≡◌, ◌+◌, ◌-◌, min, arith}
use Rattle.apl_outside.proofs.Parts.{loses_then, length_with_front}
use Rattle.apl_outside.proofs.whole.read_all.Goals as goal

pub returns-then-len-count-clause-too_long : goal.returns-then-len-count-clause-too_long
returns-then-len-count-clause-too_long g c =
    let both = length_with_front c.loop-count.bytes.items c.pull.new.buf c.in-Ok-pull.count c.in-Ok-pull.ensures.bound in
    let asked : length c.pull.new.buf ≡ length (take c.min-asked.result c.deref_mut.result.now) = c.pull.auto.buf in
    let short = length-take c.min-asked.result c.deref_mut.result.now in
    let part : c.min-asked.result ≡ min 65536 (c.args.most + 1 - c.len.result) = c.min-asked.ensures in
    λ _. record {
      bytes = c.loop-count.bytes.items ++ take c.in-Ok-pull.count c.pull.new.buf;
      number = omega (arith, both, asked, short, part, c.loop-count.bytes.ok.0, c.in-Ok-pull.ensures.bound);
      lost = loses_then _ _ _ _ _ c.loop-count.invariant.taken c.in-Ok-pull.ensures.taken;
    }

pub returns-in_default-extend_from_slice-clause-no_memory : goal.returns-in_default-extend_from_slice-clause-no_memory
returns-in_default-extend_from_slice-clause-no_memory g c =
    let both = length_with_front c.loop-count.bytes.items c.pull.new.buf c.in-Ok-pull.count c.in-Ok-pull.ensures.bound in
    λ _. record {
      bytes = c.loop-count.bytes.items ++ take c.in-Ok-pull.count c.pull.new.buf;
      number = omega (arith, both, c.loop-count.bytes.ok.0);
      lost = loses_then _ _ _ _ _ c.loop-count.invariant.taken c.in-Ok-pull.ensures.taken;
    }

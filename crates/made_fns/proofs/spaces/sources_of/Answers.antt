use Rattle.made_fns.proofs.SpaceLemmas.{source_more, found_more}
use Rattle.made_fns.proofs.spaces.sources_of.Goals as goal

pub loop-bit-preserved : goal.loop-bit-preserved
loop-bit-preserved c =
    let found = found_more c.args.bits.now c.loop-bit.bit-index _ _ c.loop-bit-test.true c.loop-bit.invariant.1 c.loop-bit.invariant.2 c.found_after-found.ensures in (
      source_more c.args.bits.now c.loop-bit.bit-index _ _ _ _ c.loop-bit.invariant.0 c.loop-bit.invariant.1 c.source_at.ensures c.in_ok-push.ensures.items,
      found.0,
      found.1,
    )

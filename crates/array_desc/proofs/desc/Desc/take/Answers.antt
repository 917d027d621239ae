use Rattle.array_desc.proofs.Maps.{take_lengths, take_reads}
use Rattle.array_desc.proofs.Sums.{makes-selects, selects-read}
use Rattle.array_desc.proofs.desc.Desc.take.Goals as goal

pub returns-clause-selects : goal.returns-clause-selects
returns-clause-selects c =
    let ns = c.args.self.now.shape in
    let counts = c.args.counts.now in
    let s = makes-selects _ _ _ c.args.self.now c.settled.result _ _ c.window.ensures c.settled.ensures.shape c.settled.ensures.numbers in
    selects-read c.args.self.now c.settled.result _ _ _ _ (take_lengths ns counts c.requires) (λ i q. take_reads ns counts i) s

use Rattle.std.proofs.Common.{◌∙◌, pos}
use Rattle.std.proofs.lemmas.List.{take-replicate}
use Rattle.array_desc.proofs.lists.resting.Goals as goal

pub returns : goal.returns
returns c = c.held_inline.ensures.items ∙ take-replicate c.args.rank 8 (pos 0) c.requires

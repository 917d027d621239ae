use Rattle.std.proofs.Common.{sym, ap, ◌∙◌}
use Rattle.std.specs.Option.{option_copied}
use Rattle.indexing_steps.proofs.OperandLemmas.{is_leaf}
use Rattle.indexing_steps.proofs.operands.leaf_at.Goals as goal

pub unreachable-requires : goal.unreachable-requires
unreachable-requires c =
    is_leaf c.entry.result.now c.only_leaf.ensures.segment (c.requires.computed c.entry.result.now c.entry.ensures)
    (sym c.only_leaf.ensures.found ∙ ap option_copied c.in_default.is)

use Rattle.std.proofs.Common.{◌∙◌, sym, subst}
use Rattle.std.proofs.lemmas.Bool.{false≢true}
use Rattle.apl_base.specs.Array.{IsShape}
use Rattle.made_picks.proofs.TakeLemmas.{take_ones, ones_shape}
use Rattle.made_picks.proofs.takes.ones.Goals as goal

pub unreachable-requires : goal.unreachable-requires
unreachable-requires c = false≢true (c.in-Err.ensures.exact.1 (subst IsShape (sym (take_ones c.args.count c.requires)) (ones_shape c.args.count c.requires)))

pub returns : goal.returns
returns c = c.in-Ok.ensures.ok ∙ take_ones c.args.count c.requires

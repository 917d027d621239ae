use Rattle.std.proofs.Common.{◌+◌, ◌-◌, ◌^◌, ℕ, List, length, min, refl, ap, ◌∙◌}
use Rattle.apl_base.specs.Array.{size_of}
use Rattle.made_fns.proofs.TurnLemmas.{behind_size, trimmed}
use Rattle.made_fns.proofs.turns.size_behind.Goals as goal

pub returns : goal.returns
returns c =
    behind_size c.args.lengths.now c.args.axis _ c.requires.axis c.requires.some c.requires.few
    (c.size_within.ensures ∙ ap (λ (ns : List ℕ). min (size_of ns) (2 ^ 40 + 1)) (trimmed (length c.args.lengths.now - (c.args.axis + 1)) (c.args.axis + 1) c.args.lengths.now refl))

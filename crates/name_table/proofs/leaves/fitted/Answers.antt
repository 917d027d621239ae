use Rattle.std.proofs.Common.{◌≡◌, Bool, true, false, IsTrue}
use Rattle.leaf_names.specs.Variables.{FillsOwner}
use Rattle.name_table.proofs.FittingLemmas.{answer_put, answer_stands}
use Rattle.name_table.proofs.leaves.fitted.Goals as goal

not_true : (b : Bool) → IsTrue b → b ≡ false → ⊥
not_true true t e = cc
not_true false t e = cc

in_part : (c : goal.After-release) → FillsOwner c.args.store.now c.args.leaf → ⊥
in_part c = λ fills. not_true c.fills_owner.result (c.fills_owner.ensures.1 fills) c.if-fills_owner.false

pub returns-clause-put : goal.returns-clause-put
returns-clause-put c =
    answer_put c.args.store.now c.own-copy.new.store c.release.new.store c.args.leaf (in_part c) c.requires.held c.release.ensures.follows c.release.ensures.counts c.own-copy.result c.own-copy.ensures.copy c.own-copy.ensures.room

pub returns-clause-stands : goal.returns-clause-stands
returns-clause-stands c =
    answer_stands c.args.store.now c.own-copy.new.store c.release.new.store c.args.leaf (in_part c) c.requires.held c.release.ensures.follows c.release.ensures.counts c.own-copy.result c.own-copy.ensures.copy c.own-copy.ensures.follows

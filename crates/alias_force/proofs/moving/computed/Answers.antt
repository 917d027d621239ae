use Rattle.std.proofs.Common.{◌≡◌, Some, sym}
use Rattle.drag_along.specs.declared.leaves.Leaf.{Leaf}
use Rattle.drag_along.specs.Views.{only_leaf}
use Rattle.alias_force.proofs.ComputedLemmas.{computed_copied}
use Rattle.alias_force.proofs.moving.computed.Goals as goal

pub returns-in_ok-own-in-Some-clause-computed : goal.returns-in_ok-own-in-Some-clause-computed
returns-in_ok-own-in-Some-clause-computed c =
    let leaf : Leaf = c.in-Some.leaf.now in
    let one : only_leaf c.args.s.now.nodes ≡ Some leaf = sym c.in-Some.ensures.found in
    computed_copied c.args.store.now c.own.new.store c.args.s.now leaf c.in_ok-own-in-Some.field-0 c.counts-counts.ensures.store.counts c.only_leaf.ensures.segment one (c.requires.stored leaf one) c.in_ok-own-in-Some.ensures.copy

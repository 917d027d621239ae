use Rattle.std.proofs.Common.{arith, sym, ap, ◌∙◌, subst}
use Rattle.std.specs.Option.{option_copied}
use Rattle.array_store.specs.Follows.{Follows, none}
use Rattle.drag_along.specs.declared.leaves.Leaf.{Leaf}
use Rattle.drag_along.specs.Nodes.{named_by_leaf}
use Rattle.name_table.proofs.CountedLemmas.{named_at_most}
use Rattle.writing_tests.proofs.DeskLemmas.{came_beside, found_lawful, few_named}
use Rattle.writing_tests.proofs.desks.Desk.held.Goals as goal

pub held-requires-clause-lawful : goal.held-requires-clause-lawful
held-requires-clause-lawful c =
    found_lawful c.args.self.now.store c.args.self.now.variables.names c.args.self.now.stack c.args.name.now c.in-Some.leaf.now c.requires (sym c.get.ensures ∙ ap option_copied c.in-Some.is)

pub held-requires-clause-holders : goal.held-requires-clause-holders
held-requires-clause-holders c = λ key named.
    omega (
      arith,
      c.requires.held key,
      few_named c.args.self.now.stack key c.len-count.ensures.segments,
      c.len-count.ensures.value,
      c.len-count.type_inv,
      named_at_most c.args.self.now.variables.names key c.depth-depth.ensures.names,
      c.depth-depth.ensures.names.deep,
    )

pub returns-in-Some-clause-beside : goal.returns-in-Some-clause-beside
returns-in-Some-clause-beside c =
    came_beside c.args.self.now.store c.held.new.store c.args.self.now.variables.names c.args.self.now.stack (named_by_leaf c.held.result) c.requires
    (subst (λ (l : Leaf). Follows c.args.self.now.store c.held.new.store none (named_by_leaf l)) (sym c.held.ensures.same) c.held.ensures.follows)

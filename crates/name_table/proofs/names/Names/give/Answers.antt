use Rattle.std.proofs.Common.{Option, sym, ap, ◌∙◌, arith}
use Rattle.drag_along.specs.declared.leaves.Leaf.{Leaf}
use Rattle.apl_model.specs.Environment.{Environment}
use Rattle.leaf_names.specs.Variables.{named_by_names, named_by_option}
use Rattle.leaf_names.proofs.CountLemmas.{set_name-named}
use Rattle.name_table.proofs.names.Names.give.Goals as goal

pub returns-clause-leaves : goal.returns-clause-leaves
returns-clause-leaves c = λ key.
    let found = sym c.in-Ok-Some.field-0-is ∙ c.in-Ok-Some.ensures.old in
    omega (arith, set_name-named c.args.self.now c.args.name.now c.args.leaf key, ap (λ (e : Environment Leaf). named_by_names e key) c.in-Ok-Some.ensures.put, ap (λ (o : Option Leaf). named_by_option o key) found)

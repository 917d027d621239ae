use Rattle.std.proofs.Common.{◌∙◌, ◌∷◌, ◌++◌, ℤ, List, ap}
use Rattle.apl_base.specs.declared.cells.Kind.{Kind}
use Rattle.e_machine.specs.Forced.{cells_from}
use Rattle.e_machine.proofs.ColumnLemmas.{read_passes}
use Rattle.e_machine.proofs.columns.Columns.read.Goals as goal

pub returns-clause-passes : goal.returns-clause-passes
returns-clause-passes c =
    let cells = c.read_places.ensures.cells ∙ ap (λ (cs : List ℤ). cs ++ cells_from c.args.store.now c.args.leaf.now c.args.first c.args.count) c.reserve.ensures.items in
    let kinds = c.in_ok-push.ensures ∙ ap (λ (k : Kind). k ∷ c.args.self.now.kinds) c.kind.ensures in
    read_passes c.args.store.now c.args.leaf.now c.args.first c.args.count c.args.self.now _ c.requires.columns cells kinds c.read_places.ensures.lawful

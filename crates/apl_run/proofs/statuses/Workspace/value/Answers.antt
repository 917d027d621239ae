use Rattle.std.proofs.Common.{◌≡◌, Some, sym, ap, ◌∙◌, option_copied}
use Rattle.apl_run.proofs.ValueLemmas.{leaf-lawful, still-lawful, value-found, value-of}
use Rattle.apl_run.proofs.statuses.Workspace.value.Goals as goal

pub read_cells-requires : goal.read_cells-requires
read_cells-requires c = record { lawful = leaf-lawful c.args.self.now c.requires c.args.name.now _ (sym (ap option_copied c.in-Some.is) ∙ c.get.ensures) }

pub returns-in-None-clause-value : goal.returns-in-None-clause-value
returns-in-None-clause-value c = value-found c.args.self.now c.requires c.args.name.now _ (sym (ap option_copied c.in-None.is) ∙ c.get.ensures)

pub returns-in-Ok-clause-value : goal.returns-in-Ok-clause-value
returns-in-Ok-clause-value c =
    ap Some (value-of c.args.self.now.store c.in-Some.leaf.now _ _ _ (search) (search) c.in-Ok.ensures.cells)
    ∙ value-found c.args.self.now c.requires c.args.name.now _ (sym (ap option_copied c.in-Some.is) ∙ c.get.ensures)

pub returns-in-Ok-clause-lawful : goal.returns-in-Ok-clause-lawful
returns-in-Ok-clause-lawful c = still-lawful c.args.self.now c.requires _ c.read_cells.ensures.counted.only

pub returns-in-Err-clause-lawful : goal.returns-in-Err-clause-lawful
returns-in-Err-clause-lawful c = still-lawful c.args.self.now c.requires _ c.read_cells.ensures.counted.only

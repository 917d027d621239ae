use Rattle.std.proofs.Common.{ap, ◌∙◌}
use Rattle.apl_base.specs.Array.{size_of}
use Rattle.array_desc.specs.Desc.{DescView}
use Rattle.e_machine.proofs.CopyLemmas.{read_is}
use Rattle.e_machine.proofs.copies.read_all.Goals as goal

pub returns-clause-cells : goal.returns-clause-cells
returns-clause-cells c =
    read_is c.args.store.now c.args.leaf.now _ _ _ c.requires.empty (c.size.ensures.value ∙ ap (λ (d : DescView). size_of d.shape) c.desc.ensures) c.read_places.ensures.cells

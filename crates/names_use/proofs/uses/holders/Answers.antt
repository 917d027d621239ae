use Rattle.std.proofs.Common.{◌≡◌, Some, sym, ap, ◌∙◌}
use Rattle.std.specs.Option.{option_copied}
use Rattle.drag_along.specs.declared.leaves.Leaf.{Leaf}
use Rattle.drag_along.specs.declared.leaves.Leaf.TheVariants.{Stored}
use Rattle.drag_along.specs.Lawful.{LiesIn}
use Rattle.names_use.proofs.SoundLemmas.{found_lawful}
use Rattle.names_use.proofs.uses.holders.Goals as goal

pub holders-requires : goal.holders-requires
holders-requires c =
    let lies : LiesIn c.args.store.now c.in-Some-Stored.owner c.in-Some-Stored.field-0-1 c.in-Some-Stored.field-0-2 =
    found_lawful c.args.store.now c.args.names.now c.args.name.now (Stored c.in-Some-Stored.owner c.in-Some-Stored.field-0-1 c.in-Some-Stored.field-0-2) c.requires.sound
    (sym c.get.ensures ∙ ap option_copied c.in-Some-Stored.is ∙ ap (λ (l : Leaf). Some l) c.in-Some-Stored.field-0-is) in
    lies.live

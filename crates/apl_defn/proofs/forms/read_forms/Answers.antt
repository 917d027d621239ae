use Rattle.apl_defn.proofs.FormLemmas.{read_part, next_part}
use Rattle.apl_defn.specs.Parts.{part_of}
use Rattle.apl_defn.proofs.forms.read_forms.Goals as goal

pub add-requires : goal.add-requires
add-requires c =
    let p = part_of c.in-Some.part in
    read_part c.args.lines.now p c.requires (next_part c.args.lines.now c.loop-part.parts.rest.now c.next.new.self.rest.now p c.loop-part.forms c.in-Some.ensures.parts c.loop-part.invariant)

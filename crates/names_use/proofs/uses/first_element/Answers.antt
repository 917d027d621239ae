use Rattle.std.proofs.Common.{◌≡◌, sym, ap, ◌∙◌}
use Rattle.std.specs.Option.{option_copied}
use Rattle.names_use.proofs.SoundLemmas.{found_lawful, read_sound}
use Rattle.names_use.proofs.uses.first_element.Goals as goal

pub read_at-requires-clause-lawful : goal.read_at-requires-clause-lawful
read_at-requires-clause-lawful c = found_lawful c.args.store.now c.args.names.now c.args.name.now c.in_ok-leaf.leaf.now c.requires.sound (sym c.get.ensures ∙ ap option_copied c.in_ok-leaf.was)

pub returns : goal.returns
returns c = record { sound = read_sound c.args.store.now c.read_at.new.store c.in_ok-leaf.leaf.now c.args.names.now c.requires.sound c.read_at.ensures.counted }

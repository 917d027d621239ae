-- The parts of a script, as the reader holds them.
use Rattle.std.specs.Option.{option_copied}
use Rattle.apl_model.specs.Script as model
use Rattle.apl_defn.specs.declared.parts.Part.{Part}
use Rattle.apl_defn.specs.declared.parts.Part.TheVariants.{Alone, Defined}

-- a part
abbrev pub part_of : Part → model.Part
part_of (Alone line) = model.alone line.now
part_of (Defined first body last) = model.defined first.now body.now (option_copied last)

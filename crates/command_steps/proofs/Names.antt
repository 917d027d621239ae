-- The names that are set, as evaluation sees them.
use Rattle.std.proofs.Common.{◌≡◌, ap, sym, encode_utf8_all, []}
use Rattle.drag_along.specs.declared.leaves.Leaf.{Leaf}
use Rattle.apl_base.specs.Array.{Array}
use Rattle.apl_model.specs.Environment.{set_names}
use Rattle.apl_model.specs.Immediate.{in_byte_order}
use Rattle.apl_model.specs.declared.scripts.Command.TheVariants.{Vars}
use Rattle.apl_model.proofs.Mapped.{set_names_are_mapped}
use Rattle.leaf_names.specs.Variables.{array_of}
use Rattle.machine_state.specs.declared.machines.Machine.{Machine}
use Rattle.command_steps.specs.Obeyed.{bytes_of, line_of_names}

-- their line is that of the variables
pub variables_line : (m : Machine) → encode_utf8_all (line_of_names (in_byte_order (set_names m.names.globals))) ≡ bytes_of [] Vars m
variables_line m = ap (λ ns. encode_utf8_all (line_of_names (in_byte_order ns))) (sym (set_names_are_mapped Leaf Array (array_of m.store) m.names.globals))

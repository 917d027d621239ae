-- A fault of a pending function is a DOMAIN ERROR where the function stands.
use Rattle.apl_base.specs.declared.faults.ErrorKind.TheVariants as error
use Rattle.e_machine.specs.declared.faults.ForceFault.{ForceFault}
use Rattle.e_machine.specs.declared.faults.ForceFault.TheVariants as force
use Rattle.pending_steps.specs.declared.halts.Halt.{Halt}
use Rattle.pending_steps.specs.declared.halts.Halt.TheVariants as halt

abbrev pub halt_of : ForceFault → Halt
halt_of (force.Fault place) = halt.Error error.Domain place
halt_of (force.WsFull live asked) = halt.WsFull live asked
halt_of force.NoMemory = halt.NoMemory

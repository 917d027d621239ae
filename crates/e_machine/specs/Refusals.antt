-- What a store's refusal to make room is for a call that forces.
use Rattle.array_store.specs.declared.ids.BeginFault.{BeginFault}
use Rattle.array_store.specs.declared.ids.BeginFault.TheVariants as begin
use Rattle.e_machine.specs.declared.faults.ForceFault.{ForceFault}
use Rattle.e_machine.specs.declared.faults.ForceFault.TheVariants as force

-- the same cause with the same numbers
abbrev pub fault_of : BeginFault → ForceFault
fault_of (begin.WsFull live asked) = force.WsFull live asked
fault_of begin.NoMemory = force.NoMemory
